use Rattle.std.proofs.Common.{◌≡◌, ◌∙◌, ap, sym, arith, ◌++◌, ◌+ℤ◌, pos, true, false, w64, to_z, append-nil}
use mir.Val.{SFits}
use lib.Signed.{lt_z}
use Rattle.std.proofs.lemmas.Int.{ints, to_z-of_z}
use Rattle.nb_builtins.proofs.RangeLemmas.{ints_none, ints_step}
use Rattle.nb_builtins.proofs.ranges.ints_between.Goals as goal

pub loop-n-preserved : goal.loop-n-preserved
loop-n-preserved c =
    let first : SFits w64 c.args.first = c.ranges.first in
    let end : SFits w64 c.args.end = c.ranges.end in
    let next : SFits w64 (to_z w64 c.loop-n.n-bits +ℤ pos 1) = grind (arith, ints) in
    let more : lt_z (to_z w64 c.loop-n.n-bits) c.args.end ≡ true = simp to_z-of_z at c.loop-n-test.true in
    let kept = simp to_z-of_z at c.loop-n.invariant in
    simp to_z-of_z (rw c.in_ok-push.ensures.ok (ints_step _ _ (to_z w64 c.loop-n.n-bits) c.args.end more kept))

pub returns : goal.returns
returns c =
    let first : SFits w64 c.args.first = c.ranges.first in
    let end : SFits w64 c.args.end = c.ranges.end in
    let none : lt_z (to_z w64 c.loop-n.n-bits) c.args.end ≡ false = simp to_z-of_z at c.loop-n-test.false in
    let kept = simp to_z-of_z at c.loop-n.invariant in
    sym (append-nil c.loop-n.items) ∙ ap (λ xs. c.loop-n.items ++ xs) (sym (ints_none _ _ none)) ∙ kept
