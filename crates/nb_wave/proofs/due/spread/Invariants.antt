use Rattle.nb_graph.specs.Marking.{unmarked}
use Rattle.nb_wave.proofs.Spreads.{IsSpreading}
use Rattle.nb_wave.proofs.due.spread.Given as goal

abbrev pub invariant-loop : goal.invariant-loop
invariant-loop l = IsSpreading l.rows l.fn.marks l.marks

abbrev pub decreases-loop : goal.decreases-loop
decreases-loop l = unmarked l.marks
