use Rattle.nb_wave.specs.Marks.{IsWidening}
use Rattle.nb_wave.proofs.due.widen.Given as goal

abbrev pub invariant-loop-v : goal.invariant-loop-v
invariant-loop-v l = IsWidening l.rows l.fn.marks l.v l.grew l.marks
