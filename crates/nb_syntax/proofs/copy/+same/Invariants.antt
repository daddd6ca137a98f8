-- What stands before this place is the same.
use Rattle.std.proofs.Common.{◌≡◌, take}
use Rattle.nb_syntax.proofs.copy.+same.Given as goal

abbrev pub invariant-same_exprs-loop-i : goal.invariant-same_exprs-loop-i
invariant-same_exprs-loop-i l = take l.i l.xs ≡ take l.i l.ys

abbrev pub invariant-same_members-loop-i : goal.invariant-same_members-loop-i
invariant-same_members-loop-i l = take l.i l.xs ≡ take l.i l.ys

abbrev pub invariant-same_operands-loop-i : goal.invariant-same_operands-loop-i
invariant-same_operands-loop-i l = take l.i l.xs ≡ take l.i l.ys

abbrev pub invariant-same_steps-loop-i : goal.invariant-same_steps-loop-i
invariant-same_steps-loop-i l = take l.i l.xs ≡ take l.i l.ys
