-- The laws of evaluation, from those of its steps.
use Rattle.std.proofs.Common.{◌≡◌, inl, inr, ℕ, List, ◌++◌, Err, refl, sym, ap, subst, arith}
use Rattle.nb_value.specs.declared.value.Value.{Value}
use Rattle.nb_syntax.specs.Generator.{is_generator}
use Rattle.nb_eval.specs.declared.given.Ending.TheVariants as ending
use Rattle.nb_eval.specs.declared.given.Segment.{Segment}
use Rattle.nb_eval.specs.declared.state.State.{State}
use Rattle.nb_eval.specs.declared.stop.Stop.TheVariants as stops
use Rattle.nb_eval.specs.Run.{Out, start_state}
use Rattle.nb_eval.specs.Evaluation.{evaluation, charges, run, evaluated, ending_of, eval, act_block}
use Rattle.nb_eval.specs.Laws.{Extends, of_segment, AnswersExtend, PullsExtend, LoopsTurn, PlainCellsEnd}
use Rattle.nb_eval.proofs.Endings.{ends, no_yields, no_cleanups}
use Rattle.nb_eval.proofs.MoreAnswers as answers
use Rattle.nb_eval.proofs.MorePulls as pulls
use Rattle.nb_eval.proofs.Spending as paying

module _ (s t : Segment) where
  grown : answers.Grown (run s).1 (run t).1 → Extends s t
  unfolding evaluation charges
  grown h = record { yields = h.yields; cleanups = h.cleanups; charges = h.charges }

  same_run : run s ≡ run t → Extends s t
  same_run e = grown (subst (λ (o : Out Value). answers.Grown (run s).1 o.1) e (answers.grown_refl (run s).1))

  same_evaluation : t.cell ≡ s.cell → run s ≡ run t → of_segment t ≡ of_segment s
  unfolding evaluation
  same_evaluation c e = λ i. evaluated (c i) (sym e i)

  needs : (key : List ℕ) → (run s).0 ≡ Err (stops.Needs key) → (of_segment s).ending ≡ ending.Needs key
  unfolding evaluation
  needs key e = ap (ending_of (is_generator s.cell)) e

  paused : (run s).0 ≡ Err stops.Paused → (of_segment s).ending ≡ ending.Paused
  unfolding evaluation
  paused e = ap (ending_of (is_generator s.cell)) e

pub answers_extend : AnswersExtend
answers_extend s more =
    let t : Segment = record s { answers = s.answers ++ more } in
    elim (answers.more_answers s more s.cell.body start_state).same_or_on [
      | inl e ↦ (same_run s t e, λ h. same_evaluation s t refl e)
      | inr w ↦ (grown s t w.2, λ h. absurd (h w.0 (needs s t w.0 w.1)))
    ]

pub pulls_extend : PullsExtend
pulls_extend s most le =
    let t : Segment = record s { pulls = most } in
    elim (pulls.more_pulls s most le s.cell.body start_state).same_or_on [
      | inl e ↦ (same_run s t e, λ h. same_evaluation s t refl e)
      | inr w ↦ (grown s t w.1, λ h. absurd (h (paused s t w.0)))
    ]

pub loops_turn : LoopsTurn
loops_turn g test body =
    let pays : (s t : State) → act_block g body s ≡ (paying.the_out (Unit {0}) tt t) → paying.Pays g s t = λ s t e. paying.went g (Unit {0}) (paying.Pays g s) (act_block g body s) tt t e (paying.block_pays g body s) in
    paying.loop_is g (eval g test) (act_block g body) (paying.eval_less g test) (λ s t e. let p = pays s t e in omega (arith, p.0, p.1))

pub plain_cells_end : PlainCellsEnd
plain_cells_end s p = record {
  ending = ends s.cell s.inputs s.answers s.pulls p;
  yields = no_yields s.cell s.inputs s.answers s.pulls p;
  cleanups = no_cleanups s.cell s.inputs s.answers s.pulls p;
}
