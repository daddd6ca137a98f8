-- What is found, with what is left, is the whole; the names that were in scope before still begin the scope.
use Rattle.std.proofs.Common.{◌≡◌, map, drop, take, length}
use Rattle.nb_syntax.specs.FreeNames.{first_occurrences, without, joined, in_order, stmt_uses, arm_uses}
use Rattle.nb_syntax.proofs.free_stmt.+find_statements.Given as goal

abbrev pub invariant-find_block-loop-stmt : goal.invariant-find_block-loop-stmt
invariant-find_block-loop-stmt l = record {
  names : first_occurrences l.names (without l.scope (in_order (map stmt_uses (drop l.stmt-index l.stmt-items))))
      ≡ first_occurrences l.fn.names (without l.fn.scope (in_order (map stmt_uses l.stmt-items)));
  scope : take (length l.fn.scope) l.scope ≡ l.fn.scope;
}

abbrev pub invariant-find_arms-loop-arm : goal.invariant-find_arms-loop-arm
invariant-find_arms-loop-arm l = record {
  names : first_occurrences l.names (without l.fn.scope (joined (map arm_uses (drop l.arm-index l.arm-items))))
      ≡ first_occurrences l.fn.names (without l.fn.scope (joined (map arm_uses l.arm-items)));
  scope : l.scope ≡ l.fn.scope;
}
