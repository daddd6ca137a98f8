-- What is left to do, from here, is the whole from the start.
use Rattle.std.proofs.Common.{◌≡◌, ◌≤◌, ℕ, suc, map, drop}
use Rattle.nb_eval.specs.Locals.{HasNext}
use Rattle.nb_eval.specs.Run.{SpendsAtMost, budget}
use Rattle.nb_eval.specs.Evaluation.{eval, ran, loop, turns, each, in_order, act, arm, act_block}
use Rattle.nb_eval.proofs.Turns.{cut}
use Rattle.nb_eval.proofs.stmt.+exec.Given as goal

abbrev pub invariant-exec_arms-loop-arm : goal.invariant-exec_arms-loop-arm
invariant-exec_arms-loop-arm l = record {
  same : ran (map (arm l.given) (drop l.arm-index l.arm-items)) l.state ≡ ran (map (arm l.given) l.arms) l.fn.state;
  spends : SpendsAtMost l.given l.fn.state l.state;
}

abbrev pub invariant-exec_for-loop-item : goal.invariant-exec_for-loop-item
invariant-exec_for-loop-item l = record {
  same : each l.name (act_block l.given l.body) (drop l.item-index l.item-items) (cut l.len l.state) ≡ each l.name (act_block l.given l.body) l.items l.fn.state;
  next : HasNext l.name l.len l.state.locals;
  spends : SpendsAtMost l.given l.fn.state l.state;
}

abbrev pub invariant-exec_stmts-loop-stmt : goal.invariant-exec_stmts-loop-stmt
invariant-exec_stmts-loop-stmt l = record {
  same : in_order (map (act l.given) (drop l.stmt-index l.stmt-items)) l.state ≡ in_order (map (act l.given) l.stmts) l.fn.state;
  spends : SpendsAtMost l.given l.fn.state l.state;
}

abbrev pub invariant-exec_while-turns : goal.invariant-exec_while-turns
invariant-exec_while-turns l = record {
  same : (n : ℕ) × (budget l.given l.state ≤ n) × (turns (suc n) (eval l.given l.test) (act_block l.given l.body) l.state ≡ loop l.given (eval l.given l.test) (act_block l.given l.body) l.fn.state);
  spends : SpendsAtMost l.given l.fn.state l.state;
}

-- each turn takes some of the budget
abbrev pub decreases-exec_while-turns : goal.decreases-exec_while-turns
decreases-exec_while-turns l = budget l.given l.state
