use Rattle.std.proofs.Common.{refl, length, arith}
use Rattle.nb_wave.proofs.Reversed.{reversed_from, length_listed}
use Rattle.nb_wave.proofs.users.Users.new.Goals as goal

pub returns : goal.returns
returns c =
    let rows = c.args.rows.now in
    let lists = c.in_ok-lists.lists.items in
    record {
      lists = reversed_from rows c.requires.needs lists lists (length rows) c.in_ok-lists.ensures (omega arith) (length_listed rows lists c.in_ok-lists.ensures) (λ u _. refl);
      graph = c.in_ok-graph.ensures;
    }
