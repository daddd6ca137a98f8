-- In a serial history with no loader the editors take turns as their lines stand.
use Rattle.std.proofs.Common.{ℕ, ◌≡◌, refl, sym, ap, subst, Bool, true, false, cond, List, [], ◌∷◌, ◌++◌, Option, Some, None}
use Rattle.std.specs.Prelude.{MatchOption}
use Rattle.std.proofs.lemmas.Bool.{false≢true, eq-eqb}
use Rattle.nb_sheet.specs.Lists.{from_option}
use Rattle.nb_history.specs.Reading.{Reading}
use Rattle.nb_history.specs.Log.{after, read_from, admit, admitted, first_refusal, is_live}
use Rattle.nb_history.specs.Edited.{Source, Editor, source_of, put_back, first_line, Comes, TakesTurns}
use Rattle.nb_history.specs.Starts.{is_of_variable, AllOfVariables}
use Rattle.nb_log.specs.declared.event.Target.TheVariants.{Ticket as ByTicket, Key as ByKey}
use Rattle.nb_log.specs.declared.event.Event.{Event}
use Rattle.nb_log.specs.declared.event.Event.TheVariants.{Edit as EditEvent, Frame as FrameEvent, Settle, Rest as RestEvent, Dispose as DisposeEvent}
use Rattle.nb_log.specs.declared.entry.Refusal.{Refusal}
use Rattle.nb_log.specs.declared.entry.Entry.{Entry}
use Rattle.nb_log.specs.declared.entry.Entry.TheVariants.{Settled, Late, Refused, Pending, Fulfilled, Rejected, Asked, Ended, Left}

-- ---- entries of variables take no line

abbrev Rest : Type 1
Rest = List (ℕ × Event) → List (ℕ × Event) → Type 0

of_variable : (r : Reading) (document lines : List (ℕ × Event)) (e : Entry) (rest : Rest) → is_of_variable e ≡ true → rest document lines → Comes r document lines (source_of e) e rest
of_variable r document lines (Left v d) rest is h = h
of_variable r document lines (Pending v d) rest is h = h
of_variable r document lines (Fulfilled v x) rest is h = h
of_variable r document lines (Rejected v e) rest is h = h
of_variable r document lines (Asked v t key) rest is h = h
of_variable r document lines (Ended v) rest is h = h
of_variable r document lines e rest is h = absurd (false≢true is)

pub variables_turn : (r : Reading) (es fs : List Entry) (document lines : List (ℕ × Event)) → AllOfVariables es → TakesTurns (read_from r es) document lines fs → TakesTurns r document lines (es ++ fs)
variables_turn r [] fs document lines are h = h
variables_turn r (e ∷ es) fs document lines are h =
    of_variable r document lines e (λ document lines. TakesTurns (after r e) document lines (es ++ fs)) are.0 (variables_turn (after r e) es fs document lines are.1 h)

-- ---- a line's entry takes its line

admitted_source : (r : Reading) (editor : ℕ) (event : Event) → source_of (admitted r editor event) ≡ Editor editor
admitted_source r editor (EditEvent edit) = refl
admitted_source r editor FrameEvent = refl
admitted_source r editor (Settle (ByTicket t) a) = go (is_live r t)
  where
    go : (b : Bool) → source_of (cond b (Settled editor t a) (Late editor t)) ≡ Editor editor
    go true = refl
    go false = refl
admitted_source r editor (Settle (ByKey key) a) = refl
admitted_source r editor RestEvent = refl
admitted_source r editor DisposeEvent = refl

admit_source : (r : Reading) (editor : ℕ) (event : Event) → source_of (admit r editor event) ≡ Editor editor
admit_source r editor event = go (first_refusal r event)
  where
    go : (o : Option Refusal) → source_of (from_option (admitted r editor event) (λ reason. Refused editor reason event) o) ≡ Editor editor
    go None = admitted_source r editor event
    go (Some reason) = refl

first_is : (l : ℕ × Event) (lines : List (ℕ × Event)) → first_line l.0 (l ∷ lines) ≡ Some (l.1, lines)
first_is l lines = ap (λ (b : Bool). cond b (Some (l.1, lines)) (put_back l (first_line l.0 lines))) (eq-eqb l.0 l.0 refl)

-- a line of an editor, where the document's lines are done
line_comes : (r : Reading) (l : ℕ × Event) (lines : List (ℕ × Event)) (rest : Rest) → rest [] lines → Comes r [] (l ∷ lines) (source_of (admit r l.0 l.1)) (admit r l.0 l.1) rest
line_comes r l lines rest h =
    subst (λ (s : Source). Comes r [] (l ∷ lines) s (admit r l.0 l.1) rest) (sym (admit_source r l.0 l.1))
    (subst (λ (o : Option (Event × List (ℕ × Event))). MatchOption o ⊥ (λ p. (admit r l.0 l.1 ≡ admit r l.0 p.0) × rest [] p.1)) (sym (first_is l lines)) (refl, h))

-- one of the document's lines
document_comes : (r : Reading) (l : ℕ × Event) (document lines : List (ℕ × Event)) (rest : Rest) → rest document lines → Comes r (l ∷ document) lines (source_of (admit r l.0 l.1)) (admit r l.0 l.1) rest
document_comes r l document lines rest h =
    subst (λ (s : Source). Comes r (l ∷ document) lines s (admit r l.0 l.1) rest) (sym (admit_source r l.0 l.1)) (refl, refl, h)

-- the turns of lines, of which a front may be the document's
abbrev pub AllTurn : Reading → List (ℕ × Event) → List Entry → Type 0
AllTurn r all log = (document lines : List (ℕ × Event)) → all ≡ document ++ lines → TakesTurns r document lines log

pub none_turn : (r : Reading) → AllTurn r [] []
none_turn r [] lines h = (refl, sym h)
none_turn r (l ∷ document) lines h = absurd (cc)

pub line_turn : (r : Reading) (l : ℕ × Event) (all : List (ℕ × Event)) (es fs : List Entry) → AllOfVariables es → AllTurn (read_from (after r (admit r l.0 l.1)) es) all fs
    → AllTurn r (l ∷ all) (admit r l.0 l.1 ∷ (es ++ fs))
line_turn r l all es fs are h [] lines is =
    subst (λ (x : List (ℕ × Event)). TakesTurns r [] x (admit r l.0 l.1 ∷ (es ++ fs))) is
    (line_comes r l all (λ document lines. TakesTurns (after r (admit r l.0 l.1)) document lines (es ++ fs))
    (variables_turn (after r (admit r l.0 l.1)) es fs [] all are (h [] all refl)))
line_turn r l all es fs are h (x ∷ document) lines is =
    let first : l ≡ x = cc in
    let later : all ≡ document ++ lines = cc in
    let turns : TakesTurns (after r (admit r l.0 l.1)) document lines (es ++ fs) = variables_turn (after r (admit r l.0 l.1)) es fs document lines are (h document lines later) in
    subst (λ (y : ℕ × Event). TakesTurns r (y ∷ document) lines (admit r l.0 l.1 ∷ (es ++ fs))) first
    (document_comes r l document lines (λ document lines. TakesTurns (after r (admit r l.0 l.1)) document lines (es ++ fs)) turns)
