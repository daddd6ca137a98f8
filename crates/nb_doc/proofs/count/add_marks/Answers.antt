-- A further mark is that of a further copy.
use Rattle.std.proofs.Common.{ℕ, ◌++◌, map, true, arith, refl}
use Rattle.nb_doc.proofs.CountingLemmas.{pushes}
use Rattle.nb_doc.proofs.count.add_marks.Goals as goal

pub loop-k-preserved : goal.loop-k-preserved
loop-k-preserved c =
    pushes (λ (k : ℕ). true) c.loop-k.marks.items c.push.new.self.items (c.args.marks.now.items ++ map (λ (k : ℕ). true) c.args.copied.now) c.args.copied.now c.loop-k._k-index 0 true (omega arith)
    c.in_ok-push.ensures.items refl c.loop-k.invariant
