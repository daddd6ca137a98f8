-- Lines that are taken, work that is done and programs that are run keep the history of the lines.
use Rattle.std.proofs.Common.{ℕ, zero, suc, ◌≡◌, ◌<◌, ◌≤◌, ◌+◌, refl, sym, ◌∙◌, ap, subst, List, [], ◌∷◌, ◌++◌, append_assoc, append-nil, length, drop, get_or, drop-cons, add-one, arith, All, Option, None, Result, Ok, Err, OnOk, IfOk, IfErr}
use Rattle.std.proofs.lemmas.List.Elements.{All-head, All-tail}
use Rattle.std.specs.declared.alloc.AllocError.{AllocError}
use Rattle.nb_value.specs.declared.value.Value.{Value}
use Rattle.nb_value.specs.declared.pairs.Field.{Field}
use Rattle.nb_value.specs.declared.outcome.Answer.{Answer}
use Rattle.nb_io.specs.declared.spawner.ChildRun.{ChildRun}
use Rattle.nb_log.specs.declared.event.Event.{Event}
use Rattle.nb_log.specs.declared.entry.Entry.{Entry}
use Rattle.nb_log.specs.declared.entry.Entry.TheVariants.{Loaded}
use Rattle.nb_sheet.specs.Lists.{Name}
use Rattle.nb_history.specs.Reading.{Reading}
use Rattle.nb_history.specs.Log.{reading, nothing_yet, read_from, after, admit, NothingReady}
use Rattle.nb_history.specs.Work.{to_do}
use Rattle.nb_history.specs.Serial.{SerialFrom, AreEditors, least_var}
use Rattle.nb_history.specs.Rules.{ready}
use Rattle.nb_history.specs.Loaders.{Loader, keys_of, answers_in, AreRuns}
use Rattle.nb_history.specs.History.{History, standing, IsClosedHistory}
use Rattle.nb_history.proofs.Histories.{read_append, serial_append, closes_serial}
use Rattle.nb_history.proofs.Gains.{none_closed}
use Rattle.nb_history.proofs.Shapes.{sound_reading}
use Rattle.nb_history.proofs.Serials.{none_ready}
use Rattle.nb_history.proofs.Loading.{to_come, load_step, line_step_first}
use Rattle.nb_history.proofs.LoaderRuns.{serial_longer, no_runs}
use Rattle.nb_core.specs.Core.{Gains, Settles}
use Rattle.nb_lines.specs.declared.script.ScriptLine.{ScriptLine}
use Rattle.nb_lines.specs.Lines.{script_lines}
use Rattle.nb_loader.specs.Loads.{Loads, NothingToLoad, Steps}
use Rattle.nb_loader.specs.declared.step.LoadStep.{LoadStep}
use Rattle.nb_loader.specs.declared.step.LoadStep.TheVariants.{Placed, Nothing}
use Rattle.nb_loader.proofs.Follows.{Reaches, reaches_end, none_to_load, grows_on, answers_append, runs_append, no_answers, loads_closed, loads_less, settles_less}
use Rattle.nb_main.specs.Outcome.{opening_lines}
use Rattle.nb_main.specs.Run.{Goes, AwaitsLine, HasHistory, to_take}
use Rattle.nb_main.proofs.CallLemmas.{grows_by_nothing}

-- ---- how a log goes on

-- what stands after a log that grew
after_growth : (old new : History) (es : List Entry) → new.builtins ≡ old.builtins → new.log ≡ old.log ++ es → standing new ≡ read_from (standing old) es
after_growth old new es same longer =
    ap (λ (b : List (Field Value)). reading b new.log) same ∙ ap (reading old.builtins) longer ∙ read_append (nothing_yet old.builtins) old.log es

module _ (loaders : List Loader) where
  abbrev keys : List Name
  keys = keys_of loaders

  -- nothing was done
  pub goes_nothing : (h : History) (told : Option (List ChildRun)) → Goes loaders [] h h told told
  goes_nothing h told = record { builtins = refl; es = []; longer = sym (append-nil h.log); steps = λ left. refl; runs = []; adds = grows_by_nothing told; told = tt }

  -- one thing was done, and then another
  pub goes_then : (one two : List (ℕ × Event)) (a b c : History) (x y z : Option (List ChildRun)) → Goes loaders one a b x y → Goes loaders two b c y z → Goes loaders (one ++ two) a c x z
  goes_then one two a b c x y z g k =
      let here : standing b ≡ read_from (standing a) g.es = after_growth a b g.es g.builtins g.longer in record {
        builtins = k.builtins ∙ g.builtins;
        es = g.es ++ k.es;
        longer = k.longer ∙ ap (λ (l : List Entry). l ++ k.es) g.longer ∙ append_assoc a.log g.es k.es;
        steps = λ left.
            let first : SerialFrom keys (standing a) (to_come (one ++ (two ++ left)) (answers_in g.es ++ answers_in k.es)) g.es (to_come (two ++ left) (answers_in k.es))
            = serial_longer keys (standing a) (to_take (one ++ (two ++ left)) g.es) (to_take (two ++ left) []) g.es (answers_in k.es) (g.steps (two ++ left)) in
            let whole : SerialFrom keys (standing a) (to_come (one ++ (two ++ left)) (answers_in g.es ++ answers_in k.es)) (g.es ++ k.es) (to_come left [])
            = serial_append keys (standing a) (to_come (one ++ (two ++ left)) (answers_in g.es ++ answers_in k.es)) (to_come (two ++ left) (answers_in k.es)) (to_come left []) g.es k.es first
            (subst (λ (q : Reading). SerialFrom keys q (to_come (two ++ left) (answers_in k.es)) k.es (to_come left [])) here (k.steps left)) in
            subst (λ (lines : List (ℕ × Event)). SerialFrom keys (standing a) (to_come lines (answers_in (g.es ++ k.es))) (g.es ++ k.es) (to_come left [])) (sym (append_assoc one two left))
            (subst (λ (given : List Answer). SerialFrom keys (standing a) (to_come (one ++ (two ++ left)) given) (g.es ++ k.es) (to_come left [])) (sym (answers_append g.es k.es)) whole);
        runs = g.runs ++ k.runs;
        adds = grows_on x y z g.runs k.runs g.adds k.adds;
        told = runs_append loaders (standing a) g.es k.es g.runs k.runs g.told (subst (λ (q : Reading). AreRuns loaders q k.es k.runs) here k.told);
      }

  -- entries that use no answer
  alone : (lines : List (ℕ × Event)) (old new : History) (told : Option (List ChildRun)) (es : List Entry) → new.builtins ≡ old.builtins → new.log ≡ old.log ++ es
      → ((left : List (ℕ × Event)) → SerialFrom keys (standing old) (to_come (lines ++ left) []) es (to_come left [])) → Goes loaders lines old new told told
  alone lines old new told es same longer steps =
      let none : answers_in es ≡ [] = no_answers keys (standing old) (lines ++ []) [] es (steps []) in record {
        builtins = same;
        es = es;
        longer = longer;
        steps = λ left. subst (λ (given : List Answer). SerialFrom keys (standing old) (to_come (lines ++ left) given) es (to_come left [])) (sym none) (steps left);
        runs = [];
        adds = grows_by_nothing told;
        told = no_runs loaders (standing old) es none;
      }

  -- what was ready was done
  pub goes_settled : (old new : History) (told : Option (List ChildRun)) → Settles old new → Goes loaders [] old new told told
  goes_settled old new told s = alone [] old new told s.es s.builtins s.longer (λ left. s.serial keys (to_come left []))

  -- a line was taken
  pub goes_line : (editor : ℕ) (event : Event) (old new : History) (told : Option (List ChildRun)) → AwaitsLine loaders old → Gains old (admit (standing old) editor event) new
      → Goes loaders ((editor, event) ∷ []) old new told told
  goes_line editor event old new told awaits g =
      let r : Reading = standing old in
      let e : Entry = admit r editor event in
      alone ((editor, event) ∷ []) old new told (e ∷ g.es) g.builtins g.longer
      (λ left. (to_come left [], line_step_first keys r (editor, event) left [] awaits.closed.closed awaits.done awaits.loaded, closes_serial keys (after r e) (to_come left []) g.es g.closes))

  -- a program was run
  pub goes_loaded : (old new : History) (before now : Option (List ChildRun)) (place : ℕ) → IsClosedHistory old → least_var (standing old) (ready (standing old)) ≡ None
      → Loads loaders old new before now place → Goes loaders [] old new before now
  goes_loaded old new before now place closed done l =
      let r : Reading = standing old in
      let e : Entry = Loaded l.ticket l.answer in
      let none : answers_in l.gains.es ≡ []
      = no_answers keys (after r e) [] [] l.gains.es (closes_serial keys (after r e) (to_come [] []) l.gains.es l.gains.closes) in record {
        builtins = l.gains.builtins;
        es = e ∷ l.gains.es;
        longer = l.gains.longer;
        steps = λ left. subst (λ (given : List Answer). SerialFrom keys r (to_come left (l.answer ∷ given)) (e ∷ l.gains.es) (to_come left [])) (sym none)
            (to_come left [], load_step keys r left l.ticket l.answer [] closed.closed done l.next.first, closes_serial keys (after r e) (to_come left []) l.gains.es l.gains.closes);
        runs = l.run ∷ [];
        adds = l.adds;
        told = (l.told, no_runs loaders (after r e) l.gains.es none);
      }

  -- ---- the next line

  -- it settled, and no program was left to run
  pub awaits_line : (h : History) → IsClosedHistory h → least_var (standing h) (ready (standing h)) ≡ None → NothingToLoad loaders (standing h) → AwaitsLine loaders h
  awaits_line h closed done none = record { closed = closed; done = done; loaded = none_to_load loaders h done none }

  pub nothing_ready : (h : History) → AwaitsLine loaders h → NothingReady (standing h)
  nothing_ready h awaits = none_ready (standing h) (sound_reading h.builtins h.log) awaits.done

  -- ---- a list of lines

  -- what is left of them is still to be taken
  abbrev pub IsTaking : List (ℕ × Event) → List (ℕ × Event) → History → History → Option (List ChildRun) → Option (List ChildRun) → Type 0
  IsTaking lines left old now before runs = (end : History) (after : Option (List ChildRun)) → Goes loaders left now end runs after → Goes loaders lines old end before after

  -- one more of them is taken
  pub takes_on : (lines left : List (ℕ × Event)) (line : ℕ × Event) (old mid new : History) (before y z : Option (List ChildRun))
      → IsTaking lines (line ∷ left) old mid before y → Goes loaders (line ∷ []) mid new y z → IsTaking lines left old new before z
  takes_on lines left line old mid new before y z so_far takes = λ end after rest. so_far end after (goes_then (line ∷ []) left mid new end y z after takes rest)

-- what is left is still to be taken, and the next line may come
pub record IsBetween (loaders : List Loader) (lines left : List (ℕ × Event)) (old now : History) (before runs : Option (List ChildRun)) : Type 0 where
  pub taking : IsTaking loaders lines left old now before runs
  pub awaits : AwaitsLine loaders now

-- work was done, and nothing is ready
pub record IsWorking (loaders : List Loader) (old now : History) (before runs : Option (List ChildRun)) : Type 0 where
  pub goes : Goes loaders [] old now before runs
  pub closed : IsClosedHistory now
  pub done : least_var (standing now) (ready (standing now)) ≡ None

-- what a call that ran a program says
pub loads_of : (loaders : List Loader) (old new : History) (before now : Option (List ChildRun)) (step : LoadStep) (place : ℕ) → Steps {E = AllocError} loaders old new before now (Ok step) → step ≡ Placed place
    → Loads loaders old new before now place
loads_of loaders old new before now step place steps is = subst (λ (s : LoadStep). Steps {E = AllocError} loaders old new before now (Ok s)) is steps

-- a program was run, and then all that was ready was done
pub working_on : (loaders : List Loader) (old mid next new : History) (x y z : Option (List ChildRun)) (place : ℕ) → IsWorking loaders old mid x y → Loads loaders mid next y z place
    → Settles next new → IsClosedHistory new → IsWorking loaders old new x z
working_on loaders old mid next new x y z place w l s closed =
    record {
      goes = goes_then loaders [] [] old next new x z z (goes_then loaders [] [] old mid next x y z w.goes (goes_loaded loaders mid next y z place w.closed w.done l)) (goes_settled loaders next new z s);
      closed = closed;
      done = s.done;
    }

pub working_less : (loaders : List Loader) (mid next new : History) (y z : Option (List ChildRun)) (place : ℕ) → IsClosedHistory mid → Loads loaders mid next y z place → Settles next new → IsClosedHistory new
    → to_do (standing new) < to_do (standing mid)
working_less loaders mid next new y z place before l s closed =
    omega (arith, loads_less loaders mid next y z place before l, settles_less next new (loads_closed loaders mid next y z place before l) closed s)

-- what a call that ran none says
pub none_ran : (loaders : List Loader) (old new : History) (before now : Option (List ChildRun)) (step : LoadStep) → Steps {E = AllocError} loaders old new before now (Ok step) → step ≡ Nothing
    → IsClosedHistory old → least_var (standing old) (ready (standing old)) ≡ None → AwaitsLine loaders new
none_ran loaders old new before now step steps is closed done =
    let none : NothingToLoad loaders (standing old) × (new ≡ old) = subst (λ (s : LoadStep). Steps {E = AllocError} loaders old new before now (Ok s)) is steps in
    subst (AwaitsLine loaders) (sym none.1) (awaits_line loaders old closed done none.0)

-- of a list, what is left from a place on
pub next_of : {X : Type 0} (all : List X) (i : ℕ) (d x : X) → i < length all → x ≡ get_or all i d → drop i all ≡ x ∷ drop (i + 1) all
next_of all i d x below is = drop-cons all i d below ∙ ap (λ (j : ℕ). get_or all i d ∷ drop j all) (sym (add-one i)) ∙ ap (λ y. y ∷ drop (i + 1) all) (sym is)

pub none_left : {X : Type 0} (all : List X) (i : ℕ) → length all ≤ i → drop i all ≡ []
none_left [] zero h = refl
none_left [] (suc i) h = refl
none_left (x ∷ xs) zero h = absurd (omega (arith, h))
none_left (x ∷ xs) (suc i) h = none_left xs i (omega (arith, h))

module _ (loaders : List Loader) {X : Type 0} (as_lines : List X → List (ℕ × Event)) (lines : List (ℕ × Event)) (all : List X) (i : ℕ) where
  -- the next of what is left was taken
  pub takes_next : (x : X) (line : ℕ × Event) (old mid new : History) (before y z : Option (List ChildRun)) → i < length all → x ≡ get_or all i x
      → as_lines (x ∷ drop (i + 1) all) ≡ line ∷ as_lines (drop (i + 1) all) → IsBetween loaders lines (as_lines (drop i all)) old mid before y → Goes loaders (line ∷ []) mid new y z
      → AwaitsLine loaders new → IsBetween loaders lines (as_lines (drop (i + 1) all)) old new before z
  takes_next x line old mid new before y z below is shape so_far takes awaits =
      let left : as_lines (drop i all) ≡ line ∷ as_lines (drop (i + 1) all) = ap as_lines (next_of all i x x below is) ∙ shape in
      record {
        taking = takes_on loaders lines (as_lines (drop (i + 1) all)) line old mid new before y z
            (subst (λ (l : List (ℕ × Event)). IsTaking loaders lines l old mid before y) left so_far.taking) takes;
        awaits = awaits;
      }

  -- nothing is left
  pub took_all : (old new : History) (before z : Option (List ChildRun)) → length all ≤ i → as_lines [] ≡ [] → IsBetween loaders lines (as_lines (drop i all)) old new before z → Goes loaders lines old new before z
  took_all old new before z over none so_far =
      so_far.taking new z (subst (λ (l : List (ℕ × Event)). Goes loaders l new new z z) (sym (ap as_lines (none_left all i over) ∙ none)) (goes_nothing loaders new z))

-- ---- the whole

abbrev pub empty : List (Field Value) → History
empty builtins = record { builtins = builtins; log = [] }

-- no loader is left to run of an empty log
pub awaits_first : (builtins : List (Field Value)) (loaders : List Loader) (h : History) → h ≡ empty builtins → AwaitsLine loaders h
awaits_first builtins loaders h is = subst (AwaitsLine loaders) (sym is) (record { closed = none_closed builtins; done = refl; loaded = refl })

scripts_of_editors : (lines : List ScriptLine) → All (λ s. s.editor < 8) lines → AreEditors (script_lines lines)
scripts_of_editors [] low = tt
scripts_of_editors (line ∷ lines) low = (All-head (λ (s : ScriptLine). s.editor < 8) line lines low, scripts_of_editors lines (All-tail (λ (s : ScriptLine). s.editor < 8) line lines low))

all_of_editors : (events : List Event) (lines : List (ℕ × Event)) → AreEditors lines → AreEditors (opening_lines events ++ lines)
all_of_editors [] lines editors = editors
all_of_editors (event ∷ events) lines editors = (omega arith, all_of_editors events lines editors)

-- the document's lines were taken, and then the input's
pub whole_history : (builtins : List (Field Value)) (loaders : List Loader) (events : List Event) (lines : List ScriptLine) (h mid new : History) (x y z : Option (List ChildRun))
    → h ≡ empty builtins → All (λ s. s.editor < 8) lines → Goes loaders (opening_lines events) h mid x y → Goes loaders (script_lines lines) mid new y z → AwaitsLine loaders new
    → (new.builtins ≡ builtins) × HasHistory builtins loaders (opening_lines events ++ script_lines lines) x z new.log
whole_history builtins loaders events lines h mid new x y z is low one two awaits =
    let all : List (ℕ × Event) = opening_lines events ++ script_lines lines in
    let g : Goes loaders all (empty builtins) new x z = subst (λ (e : History). Goes loaders all e new x z) is (goes_then loaders (opening_lines events) (script_lines lines) h mid new x y z one two) in
    let steps : SerialFrom (keys_of loaders) (nothing_yet builtins) (to_come all (answers_in g.es)) g.es (to_come [] [])
    = subst (λ (l : List (ℕ × Event)). SerialFrom (keys_of loaders) (nothing_yet builtins) (to_come l (answers_in g.es)) g.es (to_come [] [])) (append-nil all) (g.steps []) in
    let reaches : Reaches builtins loaders all [] g.runs new = record {
      over = g.builtins;
      steps = subst (λ (l : List Entry). SerialFrom (keys_of loaders) (nothing_yet builtins) (to_come all (answers_in l)) l (to_come [] [])) (sym g.longer) steps;
      told = subst (λ (l : List Entry). AreRuns loaders (nothing_yet builtins) l g.runs) (sym g.longer) g.told;
    } in (
      g.builtins,
      record {
        runs = g.runs;
        adds = g.adds;
        history = reaches_end builtins loaders all g.runs new (all_of_editors events (script_lines lines) (scripts_of_editors lines low)) reaches awaits.closed.closed awaits.done awaits.loaded;
      },
    )

-- ---- as the calls have it

-- a line was taken, and then work was done, if it was
pub line_goes : {X Y : Type 0} (loaders : List Loader) (r : Result X Y) (editor : ℕ) (event : Event) (old mid new : History) (x y : Option (List ChildRun)) → AwaitsLine loaders old → Gains old (admit (standing old) editor event) mid
    → OnOk r (Goes loaders [] mid new x y) → OnOk r (Goes loaders ((editor, event) ∷ []) old new x y)
line_goes loaders (Ok z) editor event old mid new x y awaits g goes = goes_then loaders ((editor, event) ∷ []) [] old mid new x x y (goes_line loaders editor event old mid x awaits g) goes
line_goes loaders (Err e) editor event old mid new x y awaits g goes = tt

-- what holds where an answer came, if it came
pub gains_of : {X Y Z W : Type 0} (r : Result X Y) (answer : Result Z W) (P : Z → Type 0) (G : Type 0) → OnOk r (IfErr answer (λ _. ⊥)) → IfOk answer (λ z. P z × G) → OnOk r G
gains_of (Ok x) (Ok z) P G came told = told.1
gains_of (Ok x) (Err w) P G came told = absurd came
gains_of (Err y) answer P G came told = tt
