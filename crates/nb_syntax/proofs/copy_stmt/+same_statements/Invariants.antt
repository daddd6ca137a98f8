-- What stands before this place is the same.
use Rattle.std.proofs.Common.{◌≡◌, take}
use Rattle.nb_syntax.proofs.copy_stmt.+same_statements.Given as goal

abbrev pub invariant-same_stmts-loop-i : goal.invariant-same_stmts-loop-i
invariant-same_stmts-loop-i l = take l.i l.xs ≡ take l.i l.ys

abbrev pub invariant-same_arms-loop-i : goal.invariant-same_arms-loop-i
invariant-same_arms-loop-i l = take l.i l.xs ≡ take l.i l.ys
