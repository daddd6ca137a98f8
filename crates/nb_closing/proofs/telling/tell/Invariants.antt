use Rattle.std.proofs.Common.{◌≡◌}
use Rattle.nb_closing.specs.Told.{AreTold}
use Rattle.nb_closing.proofs.telling.tell.Given as goal

abbrev pub invariant-loop-k : goal.invariant-loop-k
invariant-loop-k l =
    record {
      told : AreTold l.fn.sheet.sheet l.fn.starts.items l.fn.moment l.fn.touched l.k l.wave.rows;
      same : l.wave.marked ≡ l.fn.wave.marked;
    }
