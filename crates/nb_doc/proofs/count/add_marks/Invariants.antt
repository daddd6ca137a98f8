use Rattle.std.proofs.Common.{◌≡◌, ◌++◌, ℕ, true, map, drop}
use Rattle.nb_doc.proofs.count.add_marks.Given as goal

abbrev pub invariant-loop-k : goal.invariant-loop-k
invariant-loop-k l = l.marks.items ++ map (λ (k : ℕ). true) (drop l._k-index l.copied) ≡ l.fn.marks.items ++ map (λ (k : ℕ). true) l.copied
