use Rattle.std.proofs.Common.{◌≡◌, ◌≤◌, ◌+◌, ◌-◌, ◌∙◌, sym, ap, rules, subst, length}
use Rattle.nb_value.specs.declared.value.Value.{Value}
use Rattle.nb_syntax.specs.Generator.{is_generator}
use Rattle.nb_eval.specs.declared.state.State.{State}
use Rattle.nb_eval.specs.Run.{Out}
use Rattle.nb_eval.specs.Evaluation.{evaluation, run, eval_body, ending_of, last_of}
use Rattle.nb_eval.proofs.Yields.{few_yields}
use Rattle.nb_eval.proofs.replay.run.Goals as goal

pub made_of-requires : goal.made_of-requires
made_of-requires c =
    let s = c.args.segment.now in
    let is : (run s).1 ≡ c.eval_body-outcome.new.state = search rules in
    subst (λ (x : State). length x.yields ≤ 1 + (s.pulls - 1)) is (few_yields s)

pub returns : goal.returns
unfolding evaluation
returns c =
    let s = c.args.segment.now in
    let came = sym (c.eval_body-outcome.ensures c.in_ok-ending.ensures.memory) ∙ ap (eval_body s s.cell.body) c.new-state.ensures in
    let is : c.eval_body-outcome.new.state ≡ (run s).1 = ap (λ (o : Out Value). o.1) came in
    let outcome : c.eval_body-outcome.result ≡ (run s).0 = ap (λ (o : Out Value). o.0) came in
    λ i. record {
      made = (c.made_of.ensures ∙ ap (λ (t : State). length t.yields) is) i;
      last = (c.in_ok-last_of.ensures ∙ ap (λ (t : State). last_of t.yields) is) i;
      cleanups = ap (λ (t : State). t.cleanups) is i;
      ending = (c.in_ok-ending.ensures.ending ∙ ap (λ b. ending_of b c.eval_body-outcome.result) c.is_generator.ensures ∙ ap (ending_of (is_generator s.cell)) outcome) i;
    }
