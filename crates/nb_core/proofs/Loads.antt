-- A loader's answer where the log rests.
use Rattle.std.proofs.Common.{ℕ, ◌≡◌, refl, sym, ◌∙◌, ap, subst, Bool, true, false, not, is_some, ◌&&◌, List, [], Option, Some, None}
use Rattle.std.specs.Prelude.{nat_le}
use Rattle.std.proofs.lemmas.Bool.{false≢true}
use Rattle.std.proofs.lemmas.Option.{none-some}
use Rattle.nb_value.specs.declared.outcome.Answer.{Answer}
use Rattle.nb_log.specs.declared.entry.Entry.TheVariants.{Loaded}
use Rattle.nb_log.specs.declared.entry.Refusal.{Refusal}
use Rattle.nb_log.specs.declared.entry.Refusal.TheVariants.{Disposed, LogFull}
use Rattle.nb_sheet.specs.Lists.{nth, numbers, or_else}
use Rattle.nb_history.specs.Reading.{Reading, Start, Ticket, is_full}
use Rattle.nb_history.specs.Rules.{ready}
use Rattle.nb_history.specs.Log.{after, when, is_live, NothingReady, Fits}
use Rattle.nb_history.specs.Serial.{least_var}
use Rattle.nb_history.specs.History.{History, standing, plus, IsClosedHistory}
use Rattle.nb_history.proofs.Closing.{first_some, number_has}
use Rattle.nb_history.proofs.Shapes.{sound_reading}
use Rattle.nb_history.proofs.Serials.{none_ready}
use Rattle.nb_history.proofs.Gains.{nothing_closes, stays_closed}
use Rattle.nb_history.proofs.QuietEntries.{stays_quiet}
use Rattle.nb_history.proofs.Plus.{standing_plus}
use Rattle.nb_closing.specs.Ties.{Ties, all_ties}
use Rattle.nb_runs.specs.Tickets.{live_in, live_from_in}
use Rattle.nb_core.specs.Core.{Gains, MayLoad, gate}

-- ---- whether one may come

pub nothing_ready : (h : History) → least_var (standing h) (ready (standing h)) ≡ None → NothingReady (standing h)
nothing_ready h none = none_ready (standing h) (sound_reading h.builtins h.log) none

least_none : (r : Reading) (o : Option ℕ) → least_var r (ready r) ≡ o → NothingReady r → o ≡ None
least_none r None e h = refl
least_none r (Some v) e h = absurd (false≢true (sym (h v) ∙ (first_some (ready r) (numbers r.sheet.rows) v e).0))

gate_open : (r : Reading) → gate r ≡ None → (r.disposed ≡ false) × (is_full r ≡ false)
gate_open r h = go r.disposed (is_full r) h
  where
    go : (a b : Bool) → or_else (when a Disposed) (when b LogFull) ≡ None → (a ≡ false) × (b ≡ false)
    go false false h = (refl, refl)
    go false true h = absurd (none-some LogFull (sym h))
    go true b h = absurd (none-some Disposed (sym h))

gate_shut : (r : Reading) → r.disposed ≡ false → is_full r ≡ false → gate r ≡ None
gate_shut r a b = ap (λ (x : Bool). or_else (when x Disposed) (when (is_full r) LogFull)) a ∙ ap (λ (x : Bool). when x LogFull) b

pub none_from : (now : History) (ready_now : Option ℕ) → ready_now ≡ least_var (standing now) (ready (standing now)) → MayLoad (standing now) → ready_now ≡ None
none_from now ready_now is_first may = is_first ∙ least_none (standing now) (least_var (standing now) (ready (standing now))) refl may.0

module _ (h now : History) (view : h ≡ now) (ready_now : Option ℕ) (is_first : ready_now ≡ least_var (standing now) (ready (standing now))) (gate_now : Option Refusal) (is_gate : gate_now ≡ gate (standing h)) where
  pub may_from : ready_now ≡ None → gate_now ≡ None → MayLoad (standing now)
  may_from none open_now =
      let p : ((standing now).disposed ≡ false) × (is_full (standing now) ≡ false) = gate_open (standing now) (ap (λ (g : History). gate (standing g)) (sym view) ∙ sym is_gate ∙ open_now) in
      (nothing_ready now (sym is_first ∙ none), p.0, p.1)

  pub gate_from : MayLoad (standing now) → gate_now ≡ None
  gate_from may = is_gate ∙ ap (λ (g : History). gate (standing g)) view ∙ gate_shut (standing now) may.1 may.2

-- what a test for none says
pub none_of : {A : Type 0} (o : Option A) (b : Bool) → is_some o ≡ not b → b ≡ true → o ≡ None
none_of None b h e = refl
none_of (Some x) b h e = absurd (false≢true (sym (h ∙ ap (λ (b : Bool). not b) e)))

pub none_is : {A : Type 0} (o : Option A) (b : Bool) → is_some o ≡ not b → o ≡ None → b ≡ true
none_is o true h e = refl
none_is o false h e = absurd (false≢true (sym (ap (λ x. is_some x) e) ∙ h))

-- ---- it comes

module _ (h now new : History) (t : ℕ) (a : Answer) (closed : IsClosedHistory h) (view : h ≡ now) (may : MayLoad (standing now)) (live : is_live (standing now) t ≡ true) (is : new ≡ plus h (Loaded t a)) where
  may_here : MayLoad (standing h)
  may_here = subst (λ (g : History). MayLoad (standing g)) (sym view) may

  fits : Fits (standing h) (Loaded t a)
  fits = ((closed.quiet, may_here.0), ap (λ (g : History). is_live (standing g) t) view ∙ live, may_here.1, may_here.2)

  gains_here : Gains h (Loaded t a) new
  gains_here = record {
    builtins = ap (λ (g : History). g.builtins) is;
    es = [];
    longer = ap (λ (g : History). g.log) is;
    closes = nothing_closes (after (standing h) (Loaded t a)) (stays_quiet (standing h) (Loaded t a) refl closed.quiet);
  }

  pub gains_answer : Gains now (Loaded t a) new
  gains_answer = subst (λ (g : History). Gains g (Loaded t a) new) view gains_here

  pub core_answered : (own now : List Ties) → own ≡ all_ties (standing h).sheet → now ≡ own → IsClosedHistory new × (now ≡ all_ties (standing new).sheet)
  core_answered own now tied stays =
      let same_sheet : (standing new).sheet ≡ (standing h).sheet = ap (λ (g : History). (standing g).sheet) is ∙ ap (λ (r : Reading). r.sheet) (standing_plus h (Loaded t a)) in
      (stays_closed h new (Loaded t a) closed fits refl is, stays ∙ tied ∙ ap all_ties (sym same_sheet))

-- ---- live tickets

-- one is there
pub live_there : (xs : List (Option Start)) (ts : List Ticket) (n t : ℕ) → live_from_in xs ts n ≡ Some t → nth ts t ≡ None → ⊥
live_there xs ts n t found none =
    let p : (k : Ticket) × (nth ts t ≡ Some k) = number_has ts t (first_some (λ t. nat_le n t && live_in xs ts t) (numbers ts) t found).1 in
    none-some p.0 (sym none ∙ p.1)
