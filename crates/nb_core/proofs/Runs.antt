-- A core that takes each line and then settles keeps the serial history of the lines.
use Rattle.std.proofs.Common.{ℕ, ◌≡◌, refl, sym, ◌∙◌, ap, subst, true, List, [], ◌∷◌, ◌++◌, append_assoc, append-nil, Some, None}
use Rattle.nb_value.specs.declared.value.Value.{Value}
use Rattle.nb_value.specs.declared.pairs.Field.{Field}
use Rattle.nb_log.specs.declared.event.Event.{Event}
use Rattle.nb_log.specs.declared.entry.Entry.{Entry}
use Rattle.nb_sheet.specs.Lists.{numbers}
use Rattle.nb_history.specs.Reading.{Reading}
use Rattle.nb_history.specs.Rules.{ready, next}
use Rattle.nb_history.specs.Log.{reading, nothing_yet, read_from, after, admit}
use Rattle.nb_history.specs.Serial.{closing, least_var, Todo, SerialFrom, IsSerial}
use Rattle.nb_history.specs.History.{History, standing}
use Rattle.nb_history.proofs.Closing.{first_some}
use Rattle.nb_history.proofs.Histories.{read_append, serial_append, closes_serial, ready_step, line_first, no_step, nothing_to_load}
use Rattle.nb_core.specs.Core.{Gains, SettlesSoFar, Settles}

pub settling_begins : (h : History) → SettlesSoFar h h
settling_begins h = record { builtins = refl; es = []; longer = sym (append-nil h.log); serial = λ keys todo. refl }

standing_longer : (old new : History) (es : List Entry) → new.builtins ≡ old.builtins → new.log ≡ old.log ++ es → standing new ≡ read_from (standing old) es
standing_longer old new es same longer =
    ap (λ (b : List (Field Value)). reading b new.log) same ∙ ap (reading old.builtins) longer ∙ read_append (nothing_yet old.builtins) old.log es

-- the first ready variable shows what comes next
pub settling_goes_on : (old mid new : History) (v : ℕ) → SettlesSoFar old mid → closing (standing mid) ≡ None → least_var (standing mid) (ready (standing mid)) ≡ Some v
    → Gains mid (next (standing mid) v) new → SettlesSoFar old new
settling_goes_on old mid new v s closed first g =
    let e = next (standing mid) v in
    let here : standing mid ≡ read_from (standing old) s.es = standing_longer old mid s.es s.builtins s.longer in
    record {
      builtins = g.builtins ∙ s.builtins;
      es = s.es ++ e ∷ g.es;
      longer = g.longer ∙ ap (λ (l : List Entry). l ++ e ∷ g.es) s.longer ∙ append_assoc old.log s.es (e ∷ g.es);
      serial = λ keys todo. serial_append keys (standing old) todo todo todo s.es (e ∷ g.es) (s.serial keys todo)
          (subst (λ (q : Reading). SerialFrom keys q todo (e ∷ g.es) todo) here
          (todo, ready_step keys (standing mid) todo v closed first, closes_serial keys (after (standing mid) e) todo g.es g.closes));
    }

pub settling_ends : (old new : History) → SettlesSoFar old new → least_var (standing new) (ready (standing new)) ≡ None → Settles old new
settling_ends old new s done = record { builtins = s.builtins; es = s.es; longer = s.longer; serial = s.serial; done = done }

pub first_ready : (r : Reading) (v : ℕ) → least_var r (ready r) ≡ Some v → ready r v ≡ true
first_ready r v h = (first_some (ready r) (numbers r.sheet.rows) v h).0

-- ---- the lines

abbrev todo_of : List (ℕ × Event) → Todo
todo_of lines = record { lines = lines; answers = [] }

-- of the lines, those that are left are still to come, and the log is settled
pub record IsRun (builtins : List (Field Value)) (lines left : List (ℕ × Event)) (h : History) : Type 0 where
  pub over : h.builtins ≡ builtins
  pub steps : SerialFrom [] (nothing_yet builtins) (todo_of lines) h.log (todo_of left)
  pub closed : closing (standing h) ≡ None
  pub done : least_var (standing h) (ready (standing h)) ≡ None

serial_on : (builtins : List (Field Value)) (todo mid left : Todo) (log fs : List Entry) → SerialFrom [] (nothing_yet builtins) todo log mid → SerialFrom [] (reading builtins log) mid fs left
    → SerialFrom [] (nothing_yet builtins) todo (log ++ fs) left
serial_on builtins todo mid left log fs h k = serial_append [] (nothing_yet builtins) todo mid left log fs h k

-- an empty log that settled
pub run_begins : (builtins : List (Field Value)) (lines : List (ℕ × Event)) (new : History) → Settles (record { builtins = builtins; log = [] }) new → closing (standing new) ≡ None → IsRun builtins lines lines new
run_begins builtins lines new s closed =
    record {
      over = s.builtins;
      steps = subst (λ (l : List Entry). SerialFrom [] (nothing_yet builtins) (todo_of lines) l (todo_of lines)) (sym s.longer) (s.serial [] (todo_of lines));
      closed = closed;
      done = s.done;
    }

-- one more line, and then it settles
pub run_goes_on : (builtins : List (Field Value)) (lines left : List (ℕ × Event)) (editor : ℕ) (event : Event) (old mid new : History) → IsRun builtins lines ((editor, event) ∷ left) old
    → Gains old (admit (standing old) editor event) mid → Settles mid new → closing (standing new) ≡ None → IsRun builtins lines left new
run_goes_on builtins lines left editor event old mid new so_far g s closed =
    let e = admit (standing old) editor event in
    let here : standing old ≡ reading builtins old.log = ap (λ (b : List (Field Value)). reading b old.log) so_far.over in
    let gained : SerialFrom [] (reading builtins old.log) (todo_of ((editor, event) ∷ left)) (e ∷ g.es) (todo_of left) =
    subst (λ (q : Reading). SerialFrom [] q (todo_of ((editor, event) ∷ left)) (e ∷ g.es) (todo_of left)) here
    (todo_of left, line_first (standing old) (editor, event) left [] so_far.closed so_far.done, closes_serial [] (after (standing old) e) (todo_of left) g.es g.closes) in
    let to_mid : SerialFrom [] (nothing_yet builtins) (todo_of lines) mid.log (todo_of left) =
    subst (λ (l : List Entry). SerialFrom [] (nothing_yet builtins) (todo_of lines) l (todo_of left)) (sym g.longer)
    (serial_on builtins (todo_of lines) (todo_of ((editor, event) ∷ left)) (todo_of left) old.log (e ∷ g.es) so_far.steps gained) in
    let there : standing mid ≡ reading builtins mid.log = ap (λ (b : List (Field Value)). reading b mid.log) (g.builtins ∙ so_far.over) in
    record {
      over = s.builtins ∙ g.builtins ∙ so_far.over;
      steps = subst (λ (l : List Entry). SerialFrom [] (nothing_yet builtins) (todo_of lines) l (todo_of left)) (sym s.longer)
          (serial_on builtins (todo_of lines) (todo_of left) (todo_of left) mid.log s.es to_mid
          (subst (λ (q : Reading). SerialFrom [] q (todo_of left) s.es (todo_of left)) there (s.serial [] (todo_of left))));
      closed = closed;
      done = s.done;
    }

-- no line is left
pub run_ends : (builtins : List (Field Value)) (lines : List (ℕ × Event)) (h : History) → IsRun builtins lines [] h → IsSerial builtins [] lines [] h.log
run_ends builtins lines h r =
    let here : reading builtins h.log ≡ standing h = sym (ap (λ (b : List (Field Value)). reading b h.log) r.over) in
    record {
      steps = r.steps;
      ends = no_step (reading builtins h.log) [] (ap closing here ∙ r.closed) (ap (λ (q : Reading). least_var q (ready q)) here ∙ r.done);
      loaded = nothing_to_load (reading builtins h.log);
    }
