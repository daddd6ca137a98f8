-- What is left to do, from here, is the whole from the start.
use Rattle.std.proofs.Common.{◌≡◌, [], map, drop}
use Rattle.nb_eval.specs.Run.{SpendsAtMost}
use Rattle.nb_eval.specs.Operate.{sum_step, product_step}
use Rattle.nb_eval.specs.Evaluation.{eval, member, path_part, operand, parts, members, path_from, chain_from, all_true, some_true}
use Rattle.nb_eval.proofs.expr.+eval.Given as goal

abbrev pub invariant-eval_parts-loop-e : goal.invariant-eval_parts-loop-e
invariant-eval_parts-loop-e l = record {
  same : parts l.values (map (eval l.given) (drop l.e-index l.e-items)) l.state ≡ parts [] (map (eval l.given) l.exprs) l.fn.state;
  spends : SpendsAtMost l.given l.fn.state l.state;
}

abbrev pub invariant-eval_members-loop-part : goal.invariant-eval_members-loop-part
invariant-eval_members-loop-part l = record {
  same : members l.fields (map (member l.given) (drop l.part-index l.part-items)) l.state ≡ members [] (map (member l.given) l.list) l.fn.state;
  spends : SpendsAtMost l.given l.fn.state l.state;
}

abbrev pub invariant-eval_path-loop-step : goal.invariant-eval_path-loop-step
invariant-eval_path-loop-step l = record {
  same : path_from l.value (map (path_part l.given) (drop l.step-index l.step-items)) l.state ≡ path_from l.fn.root (map (path_part l.given) l.steps) l.fn.state;
  spends : SpendsAtMost l.given l.fn.state l.state;
}

abbrev pub invariant-eval_sum-loop-operand : goal.invariant-eval_sum-loop-operand
invariant-eval_sum-loop-operand l = record {
  same : chain_from sum_step l.value (map (operand l.given) (drop l.operand-index l.operand-items)) l.state ≡ chain_from sum_step l.fn.first (map (operand l.given) l.operands) l.fn.state;
  spends : SpendsAtMost l.given l.fn.state l.state;
}

abbrev pub invariant-eval_product-loop-operand : goal.invariant-eval_product-loop-operand
invariant-eval_product-loop-operand l = record {
  same : chain_from product_step l.value (map (operand l.given) (drop l.operand-index l.operand-items)) l.state ≡ chain_from product_step l.fn.first (map (operand l.given) l.operands) l.fn.state;
  spends : SpendsAtMost l.given l.fn.state l.state;
}

abbrev pub invariant-eval_and-loop-e : goal.invariant-eval_and-loop-e
invariant-eval_and-loop-e l = record {
  same : all_true (map (eval l.given) (drop l.e-index l.e-items)) l.state ≡ all_true (map (eval l.given) l.exprs) l.fn.state;
  spends : SpendsAtMost l.given l.fn.state l.state;
}

abbrev pub invariant-eval_or-loop-e : goal.invariant-eval_or-loop-e
invariant-eval_or-loop-e l = record {
  same : some_true (map (eval l.given) (drop l.e-index l.e-items)) l.state ≡ some_true (map (eval l.given) l.exprs) l.fn.state;
  spends : SpendsAtMost l.given l.fn.state l.state;
}
