-- Laws of evaluation.
use Rattle.std.specs.Prelude.{◌≡◌, ◌≢◌, ◌≤◌, ◌⊎◌, ℕ, true, List, [], ◌++◌, codes}
use Rattle.nb_value.specs.declared.value.Value.{Value}
use Rattle.nb_value.specs.declared.outcome.Answer.{Answer}
use Rattle.nb_value.specs.declared.outcome.CellError.{CellError}
use Rattle.nb_syntax.specs.declared.tree.Expr.{Expr}
use Rattle.nb_syntax.specs.declared.tree.Block.{Block}
use Rattle.nb_syntax.specs.Plain.{is_plain}
use Rattle.nb_eval.specs.declared.given.Ending.{Ending}
use Rattle.nb_eval.specs.declared.given.Ending.TheVariants as ending
use Rattle.nb_eval.specs.declared.given.Segment.{Segment}
use Rattle.nb_eval.specs.declared.state.State.{State}
use Rattle.nb_eval.specs.Run.{◌>>=◌, ◌>>◌, pure, as_truth}
use Rattle.nb_eval.specs.Evaluation.{Did, Acts, Evaluated, evaluation, charges, eval, act_block, loop, either}

-- the first list is a front of the second
abbrev pub IsFront : List Value → List Value → Type 0
IsFront vs ws = (more : List Value) × (ws ≡ vs ++ more)

abbrev pub of_segment : Segment → Evaluated
of_segment s = evaluation s.cell s.inputs s.answers s.pulls

-- the second makes as many charges, yields and cleanups, or more after them
pub record Extends (s t : Segment) : Type 0 where
  pub yields : IsFront (of_segment s).yields (of_segment t).yields
  pub cleanups : IsFront (of_segment s).cleanups (of_segment t).cleanups
  pub charges : charges s ≤ charges t

-- answers added at the end only extend an evaluation, and change one alone that needs an answer
abbrev pub AnswersExtend : Type 0
AnswersExtend = (s : Segment) (more : List Answer) →
    let t : Segment = record s { answers = s.answers ++ more } in
    Extends s t × (((key : List ℕ) → (of_segment s).ending ≢ ending.Needs key) → of_segment t ≡ of_segment s)

-- a greater pull count only extends an evaluation, and changes one alone that paused
abbrev pub PullsExtend : Type 0
PullsExtend = (s : Segment) (pulls : ℕ) → s.pulls ≤ pulls →
    let t : Segment = record s { pulls = pulls } in
    Extends s t × ((of_segment s).ending ≢ ending.Paused → of_segment t ≡ of_segment s)

-- a test, and where it is true the body and then the rest
abbrev pub turn : Did → Acts → Acts → Acts
turn test body more = test >>= as_truth (codes "while") >>= either (body >> more) (pure tt)

-- a loop is one turn and then the loop again
abbrev pub LoopsTurn : Type 0
LoopsTurn = (given : Segment) (test : Expr) (body : Block) (s : State) →
    let again : Acts = loop given (eval given test) (act_block given body) in
    again s ≡ turn (eval given test) (act_block given body) again s

-- with a value, or with an error
abbrev pub EndsWell : Ending → Type 0
EndsWell e = ((v : Value) × (e ≡ ending.Done v)) ⊎ ((f : CellError) × (e ≡ ending.Failed f))

-- what a plain cell gives: a value or an error, no yields and no cleanups
pub record EndsPlainly (e : Evaluated) : Type 0 where
  pub ending : EndsWell e.ending
  pub yields : e.yields ≡ []
  pub cleanups : e.cleanups ≡ []

abbrev pub PlainCellsEnd : Type 0
PlainCellsEnd = (s : Segment) → is_plain s.cell ≡ true → EndsPlainly (of_segment s)
