use Rattle.nb_wave.specs.Changes.{IsSince}
use Rattle.nb_wave.proofs.Changing.{AreResting}
use Rattle.nb_wave.proofs.steps.rest_all.Given as goal

abbrev pub invariant-loop-u : goal.invariant-loop-u
invariant-loop-u l =
    record {
      rows : AreResting l.v l.n l.users l.fn.rows.items l.u-index l.rows.items;
      since : IsSince l.fn.changes.items l.fn.rows.items l.changes.items l.rows.items;
    }
