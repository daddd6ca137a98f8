use Rattle.std.proofs.Common.{arith}
use Rattle.nb_io.proofs.EndLemmas.{place_within}
use Rattle.nb_io.proofs.mem_spawner.MemSpawnerSpawner.run.Goals as goal

pub overflow_add-self : goal.overflow_add-self
overflow_add-self c =
    let s = c.args.self.now in
    omega (arith, c.in_ok-given.ensures.small, c.uses_up.ensures, place_within _ c.args.limit s.answers s.given c.in_ok-given.given c.in_ok-given.ensures.within c.in_ok-given.ensures.answers)
