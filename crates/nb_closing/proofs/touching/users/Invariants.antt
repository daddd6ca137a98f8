use Rattle.std.proofs.Common.{ℕ, ◌≡◌, ◌<◌, length}
use Rattle.nb_graph.specs.Graph.{needs_of}
use Rattle.nb_closing.proofs.touching.users.Given as goal

abbrev pub invariant-loop-u : goal.invariant-loop-u
invariant-loop-u l =
    record {
      size : length l.graph ≡ length l.lists.items;
      same : (x : ℕ) → x < l.u → needs_of l.graph x ≡ needs_of l.lists.items x;
    }
