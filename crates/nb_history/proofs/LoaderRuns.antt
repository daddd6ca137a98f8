-- The runs of loaders in a serial history: the answers that it uses are those in its entries, each of one run.
use Rattle.std.proofs.Common.{ℕ, ◌≡◌, refl, sym, ◌∙◌, ap, subst, Bool, true, false, cond, ◌&&◌, ◌||◌, List, [], ◌∷◌, ◌++◌, append_assoc, append-nil, Option, Some, None, Ok, Err}
use Rattle.std.specs.List.{list_any}
use Rattle.std.specs.Prelude.{⊤, MatchBool, codes}
use Rattle.std.specs.Fmt.{signed_decimal}
use Rattle.std.specs.Str.{bytes_eq}
use Rattle.std.proofs.lemmas.Bool.{and_parts, false≢true}
use Rattle.std.proofs.lemmas.Option.{none-some, same_Some, some_pair_parts}
use Rattle.nb_value.specs.declared.value.Value.{Value}
use Rattle.nb_value.specs.declared.outcome.Answer.{Answer}
use Rattle.nb_value.specs.declared.outcome.Answer.TheVariants.{Value as Given, Failure}
use Rattle.nb_value.specs.Json.{IsJsonOf}
use Rattle.nb_io.specs.declared.spawner.ChildRun.{ChildRun}
use Rattle.nb_io.specs.declared.spawner.SpawnFail.TheVariants.{Failed, TooLong, Memory}
use Rattle.nb_sheet.specs.Lists.{Name, nth, numbers, from_option, option_then, or_else}
use Rattle.nb_history.specs.Reading.{Reading, Ticket}
use Rattle.nb_history.specs.Rules.{ready, next}
use Rattle.nb_history.specs.Log.{nothing_yet, after, admit, is_live}
use Rattle.nb_history.specs.Serial.{least_var, closing, next_of_ready, Todo, line_step, loader_ticket, loaded_step, outer_step, may_load, to_load, first_step, SerialFrom}
use Rattle.nb_eval.specs.Operate.{is_zero}
use Rattle.nb_history.specs.Loaders.{Loader, keys_of, argv_of, argv_for, GivesOutput, IsAnswerOf, answer_in, answers_in, AreRuns}
use Rattle.nb_history.specs.Starts.{is_of_variable}
use Rattle.nb_history.specs.Ends.{Programs, AreTold, runs_of, AnswerIsOne, AnswersAreIn}
use Rattle.nb_log.specs.declared.event.Event.{Event}
use Rattle.nb_log.specs.declared.entry.Entry.{Entry}
use Rattle.nb_log.specs.declared.entry.Entry.TheVariants.{Loaded}
use Rattle.nb_history.proofs.Closing.{first_some}
use Rattle.nb_history.proofs.RunsEnd.{closing_well}
use Rattle.nb_history.proofs.NextEntry.{next_outcome}
use Rattle.nb_history.proofs.EntryKinds.{closing_is, outcome_is}
use Rattle.nb_history.proofs.Serials.{is_line, admit_line}

-- ---- a run has one answer

value_one : (output : List ℕ) (v w : Value) → IsJsonOf output v → IsJsonOf output w → v ≡ w
value_one output v w h k = same_Some v w (sym h.1 ∙ k.1)

output_one : (output : List ℕ) (a b : Answer) → GivesOutput output a → GivesOutput output b → a ≡ b
output_one output (Given v) (Given w) h k = ap Given (value_one output v w h.0 k.0)
output_one output (Given v) (Failure y) h k = absurd (k.1 v h.0 h.1)
output_one output (Failure x) (Given w) h k = absurd (h.1 w k.0 k.1)
output_one output (Failure x) (Failure y) h k = ap Failure (h.0 ∙ sym k.0)

pub answer_is_one : AnswerIsOne
answer_is_one (Err Failed) a b h k = h ∙ sym k
answer_is_one (Err TooLong) a b h k = h ∙ sym k
answer_is_one (Err Memory) a b h k = absurd h
answer_is_one (Ok end) a b h k = go (is_zero end.status) h k
  where
    go : (zero : Bool) → MatchBool zero (GivesOutput end.output a) (a ≡ Failure (codes "status " ++ signed_decimal end.status))
        → MatchBool zero (GivesOutput end.output b) (b ≡ Failure (codes "status " ++ signed_decimal end.status)) → a ≡ b
    go true h k = output_one end.output a b h k
    go false h k = h ∙ sym k

-- ---- which entries take an answer

variable_takes_none : (e : Entry) → is_of_variable e ≡ true → answer_in e ≡ []
variable_takes_none (Loaded t a) h = absurd (false≢true h)
variable_takes_none e h = refl

line_takes_none : (e : Entry) → is_line e ≡ true → answer_in e ≡ []
line_takes_none (Loaded t a) h = absurd (false≢true h)
line_takes_none e h = refl

-- a loader's answer is for the ticket that is to be loaded
abbrev pub LoadsTicket : List Name → Reading → Entry → Type 0
LoadsTicket keys r (Loaded t a) = to_load keys r ≡ Some t
LoadsTicket keys r e = ⊤

variable_loads_none : (keys : List Name) (r : Reading) (e : Entry) → is_of_variable e ≡ true → LoadsTicket keys r e
variable_loads_none keys r (Loaded t a) h = absurd (false≢true h)
variable_loads_none keys r e h = tt

line_loads_none : (keys : List Name) (r : Reading) (e : Entry) → is_line e ≡ true → LoadsTicket keys r e
line_loads_none keys r (Loaded t a) h = absurd (false≢true h)
line_loads_none keys r e h = tt

-- ---- one step

-- with more answers behind those that are still to come
abbrev pub behind : Todo → List Answer → Todo
behind t more = record t { answers = t.answers ++ more }

-- it takes the first of the answers, or none; with more answers behind them it is the same
pub record StepTakes (keys : List Name) (r : Reading) (todo : Todo) (e : Entry) (mid : Todo) : Type 0 where
  pub answers : todo.answers ≡ answer_in e ++ mid.answers
  pub ticket : LoadsTicket keys r e
  pub longer : (more : List Answer)
      → first_step keys r (behind todo more) ≡ Some (e, behind mid more)

module _ (keys : List Name) (r : Reading) (todo : Todo) (e : Entry) (mid : Todo) where
  abbrev from_parts : Todo → Option Entry → Option Entry → Option ℕ → Option (Entry × Todo)
  from_parts t a b o = or_else (option_then (or_else a b) (λ x. Some (x, t))) (outer_step r t o)

  same_step : (x : Entry) (y : Todo) → StepTakes keys r todo x y → ◌≡◌ {A = Option (Entry × Todo)} (Some (x, y)) (Some (e, mid)) → StepTakes keys r todo e mid
  same_step x y takes h =
      let both : (x ≡ e) × (y ≡ mid) = some_pair_parts x e y mid h in
      subst (λ (z : Todo). StepTakes keys r todo e z) both.1 (subst (λ (z : Entry). StepTakes keys r todo z y) both.0 takes)

  -- the step of these parts, and the same with more answers
  parts_are : (a b : Option Entry) (o : Option ℕ) → closing r ≡ a → next_of_ready r ≡ b → to_load keys r ≡ o → (t : Todo) → first_step keys r t ≡ from_parts t a b o
  parts_are a b o p q l t =
      ap (λ (x : Option Entry). from_parts t x (next_of_ready r) (to_load keys r)) p
      ∙ ap (λ (x : Option Entry). from_parts t a x (to_load keys r)) q
      ∙ ap (from_parts t a b) l

  first_is : (o : Option ℕ) → least_var r (ready r) ≡ o → next_of_ready r ≡ option_then o (λ v. Some (next r v))
  first_is o q = ap (λ (o : Option ℕ). option_then o (λ v. Some (next r v))) q

  of_variable : (x : Entry) → is_of_variable x ≡ true → ((t : Todo) → first_step keys r t ≡ Some (x, t)) → first_step keys r todo ≡ Some (e, mid) → StepTakes keys r todo e mid
  of_variable x is step h =
      same_step x todo
      (record {
        answers = ap (λ (l : List Answer). l ++ todo.answers) (sym (variable_takes_none x is));
        ticket = variable_loads_none keys r x is;
        longer = λ more. step (behind todo more);
      })
      (sym (step todo) ∙ h)

  of_line : ((t : Todo) → first_step keys r t ≡ line_step r t t.lines) → (lines : List (ℕ × Event)) → todo.lines ≡ lines → first_step keys r todo ≡ Some (e, mid) → StepTakes keys r todo e mid
  of_line step [] p h = absurd (none-some (e, mid) (sym (step todo ∙ ap (line_step r todo) p) ∙ h))
  of_line step (l ∷ lines) p h =
      let x : Entry = admit r l.0 l.1 in
      same_step x (record todo { lines = lines })
      (record {
        answers = ap (λ (given : List Answer). given ++ todo.answers) (sym (line_takes_none x (admit_line r l.0 l.1)));
        ticket = line_loads_none keys r x (admit_line r l.0 l.1);
        longer = λ more. step (behind todo more) ∙ ap (line_step r (behind todo more)) p;
      })
      (sym (step todo ∙ ap (line_step r todo) p) ∙ h)

  of_loader : (t : ℕ) → to_load keys r ≡ Some t → ((d : Todo) → first_step keys r d ≡ loaded_step d t d.answers) → (answers : List Answer) → todo.answers ≡ answers → first_step keys r todo ≡ Some (e, mid)
      → StepTakes keys r todo e mid
  of_loader t load step [] p h = absurd (none-some (e, mid) (sym (step todo ∙ ap (loaded_step todo t) p) ∙ h))
  of_loader t load step (a ∷ answers) p h =
      same_step (Loaded t a) (record todo { answers = answers })
      (record {
        answers = p;
        ticket = load;
        longer = λ more. step (behind todo more) ∙ ap (λ (given : List Answer). loaded_step (behind todo more) t (given ++ more)) p;
      })
      (sym (step todo ∙ ap (loaded_step todo t) p) ∙ h)

  pub step_takes : first_step keys r todo ≡ Some (e, mid) → StepTakes keys r todo e mid
  step_takes h = go (closing r) refl (least_var r (ready r)) refl (to_load keys r) refl
    where
      go : (a : Option Entry) → closing r ≡ a → (b : Option ℕ) → least_var r (ready r) ≡ b → (o : Option ℕ) → to_load keys r ≡ o → StepTakes keys r todo e mid
      go (Some x) p b q o l = of_variable x (closing_is x (closing_well r x p).kind) (parts_are (Some x) (next_of_ready r) (to_load keys r) p refl refl) h
      go None p (Some v) q o l = of_variable (next r v) (outcome_is v (next r v) (next_outcome r v)) (parts_are None (Some (next r v)) (to_load keys r) p (first_is (Some v) q) refl) h
      go None p None q None l = of_line (parts_are None None None p (first_is None q) l) todo.lines refl h
      go None p None q (Some t) l = of_loader t l (parts_are None None (Some t) p (first_is None q) l) todo.answers refl h

-- ---- a whole history

pub serial_answers : (keys : List Name) (r : Reading) (todo left : Todo) (es : List Entry) → SerialFrom keys r todo es left → todo.answers ≡ answers_in es ++ left.answers
serial_answers keys r todo left [] h = ap (λ (t : Todo). t.answers) h
serial_answers keys r todo left (e ∷ es) h =
    (step_takes keys r todo e h.0 h.1).answers
    ∙ ap (λ (given : List Answer). answer_in e ++ given) (serial_answers keys (after r e) h.0 left es h.2)
    ∙ sym (append_assoc (answer_in e) (answers_in es) left.answers)

pub serial_longer : (keys : List Name) (r : Reading) (todo left : Todo) (es : List Entry) (more : List Answer) → SerialFrom keys r todo es left
    → SerialFrom keys r (behind todo more) es (behind left more)
serial_longer keys r todo left [] more h = ap (λ (t : Todo). behind t more) h
serial_longer keys r todo left (e ∷ es) more h =
    (behind h.0 more, (step_takes keys r todo e h.0 h.1).longer more, serial_longer keys (after r e) h.0 left es more h.2)

pub answers_are_in : AnswersAreIn
answers_are_in builtins keys lines answers log h =
    serial_answers keys (nothing_yet builtins) (record { lines = lines; answers = answers }) (record { lines = []; answers = [] }) log h.steps ∙ append-nil (answers_in log)

-- ---- the runs of programs in it

has_argv : (loaders : List Loader) (key : Name) → list_any (λ (k : Name). bytes_eq k key) (keys_of loaders) ≡ true → (argv : List Name) × (argv_of loaders key ≡ Some argv)
has_argv [] key h = absurd (false≢true h)
has_argv (l ∷ loaders) key h = go (bytes_eq l.key key) refl (λ k. has_argv loaders key k)
  where
    go : (b : Bool) → bytes_eq l.key key ≡ b → (list_any (λ (k : Name). bytes_eq k key) (keys_of loaders) ≡ true → (argv : List Name) × (argv_of loaders key ≡ Some argv))
        → (argv : List Name) × (argv_of (l ∷ loaders) key ≡ Some argv)
    go true p later = (l.argv, ap (λ (b : Bool). cond b (Some l.argv) (argv_of loaders key)) p)
    go false p later =
        let rest = later (ap (λ (b : Bool). b || list_any (λ (k : Name). bytes_eq k key) (keys_of loaders)) (sym p) ∙ h) in
        (rest.0, ap (λ (b : Bool). cond b (Some l.argv) (argv_of loaders key)) p ∙ rest.1)

module _ (loaders : List Loader) where
  -- the loader of a ticket that is to be loaded is there
  loader_there : (r : Reading) (t : ℕ) → to_load (keys_of loaders) r ≡ Some t → (argv : List Name) × (argv_for loaders r t ≡ Some argv)
  loader_there r t load = may (may_load r) refl
    where
      of_ticket : (o : Option Ticket) → from_option false (λ (k : Ticket). list_any (λ (key : Name). bytes_eq key k.key) (keys_of loaders)) o ≡ true
          → (argv : List Name) × (option_then o (λ (k : Ticket). argv_of loaders k.key) ≡ Some argv)
      of_ticket None h = absurd (false≢true h)
      of_ticket (Some k) h = has_argv loaders k.key h

      may : (b : Bool) → may_load r ≡ b → (argv : List Name) × (argv_for loaders r t ≡ Some argv)
      may false p = absurd (none-some t (ap (λ (b : Bool). cond b (loader_ticket r (keys_of loaders)) None) (sym p) ∙ load))
      may true p =
          let found : loader_ticket r (keys_of loaders) ≡ Some t = sym (ap (λ (b : Bool). cond b (loader_ticket r (keys_of loaders)) None) p) ∙ load in
          of_ticket (nth r.tickets t)
          (and_parts (is_live r t) (from_option false (λ (k : Ticket). list_any (λ (key : Name). bytes_eq key k.key) (keys_of loaders)) (nth r.tickets t))
          (first_some (λ t. is_live r t && from_option false (λ (k : Ticket). list_any (λ (key : Name). bytes_eq key k.key) (keys_of loaders)) (nth r.tickets t)) (numbers r.tickets) t found).0).1

  pub runs_are : (programs : Programs) (r : Reading) (todo left : Todo) (es : List Entry) → SerialFrom (keys_of loaders) r todo es left → AreTold programs.answer r es
      → AreRuns loaders r es (runs_of loaders programs r es)
  runs_are programs r todo left [] h told = tt
  runs_are programs r todo left (Loaded t a ∷ es) h told =
      let there = loader_there r t (step_takes (keys_of loaders) r todo (Loaded t a) h.0 h.1).ticket in (
        record {
          argv = there.1 ∙ ap (λ (o : Option (List Name)). Some (from_option [] (λ (x : List Name). x) o)) (sym there.1);
          limit = refl;
          answer = subst (IsAnswerOf (programs.ends r t)) (sym told.0) (programs.each r t);
        },
        runs_are programs (after r (Loaded t a)) h.0 left es h.2 told.1,
      )
  runs_are programs r todo left (e ∷ es) h told = runs_are programs (after r e) h.0 left es h.2 told.1

  -- with no answer in it no program is run
  pub no_runs : (r : Reading) (es : List Entry) → answers_in es ≡ [] → AreRuns loaders r es []
  no_runs r [] h = tt
  no_runs r (Loaded t a ∷ es) h = absurd (cc)
  no_runs r (e ∷ es) h = no_runs (after r e) es h

-- ---- each run has its answer

abbrev pub AllAnswer : List ChildRun → List Answer → Type 0
AllAnswer [] [] = ⊤
AllAnswer [] (a ∷ given) = ⊥
AllAnswer (run ∷ runs) [] = ⊥
AllAnswer (run ∷ runs) (a ∷ given) = IsAnswerOf run.answer a × AllAnswer runs given

pub runs_answer : (loaders : List Loader) (r : Reading) (es : List Entry) (runs : List ChildRun) → AreRuns loaders r es runs → AllAnswer runs (answers_in es)
runs_answer loaders r [] [] h = tt
runs_answer loaders r [] (run ∷ runs) h = absurd h
runs_answer loaders r (Loaded t a ∷ es) [] h = absurd h
runs_answer loaders r (Loaded t a ∷ es) (run ∷ runs) h = (h.0.answer, runs_answer loaders (after r (Loaded t a)) es runs h.1)
runs_answer loaders r (e ∷ es) runs h = runs_answer loaders (after r e) es runs h

-- so runs that come first have the answers that come first
pub first_answers : (runs more : List ChildRun) (given bs : List Answer) → AllAnswer runs given → AllAnswer (runs ++ more) bs → (cs : List Answer) × (bs ≡ given ++ cs)
first_answers [] more [] bs h k = (bs, refl)
first_answers [] more (a ∷ given) bs h k = absurd h
first_answers (run ∷ runs) more [] bs h k = absurd h
first_answers (run ∷ runs) more (a ∷ given) [] h k = absurd k
first_answers (run ∷ runs) more (a ∷ given) (b ∷ bs) h k =
    let rest = first_answers runs more given bs h.1 k.1 in
    (rest.0, ap (λ (x : Answer). x ∷ bs) (answer_is_one run.answer b a k.0 h.0) ∙ ap (λ (xs : List Answer). a ∷ xs) rest.1)

pub answers_one : (runs : List ChildRun) (given bs : List Answer) → AllAnswer runs given → AllAnswer runs bs → given ≡ bs
answers_one [] [] [] h k = refl
answers_one [] (a ∷ given) bs h k = absurd h
answers_one [] [] (b ∷ bs) h k = absurd k
answers_one (run ∷ runs) [] bs h k = absurd h
answers_one (run ∷ runs) (a ∷ given) [] h k = absurd k
answers_one (run ∷ runs) (a ∷ given) (b ∷ bs) h k = ap (λ (x : Answer). x ∷ given) (answer_is_one run.answer a b h.0 k.0) ∙ ap (λ (xs : List Answer). b ∷ xs) (answers_one runs given bs h.1 k.1)
