use Rattle.std.proofs.Common.{ℕ, List, ◌≡◌, ◌-◌, ◌+◌, ◌<◌, refl, get_or, length, inr, arith}
use Rattle.std.proofs.lemmas.List.{get_or_read}
use Rattle.nb_graph.proofs.Turns.{last_low, all_reach, joined, joined_led}
use Rattle.nb_graph.proofs.ranks.Walk.lead.Goals as goal

pub enter-requires-clause-reached : goal.enter-requires-clause-reached
enter-requires-clause-reached c =
    let s = c.args.self.now in
    all_reach c.args.graph.now s.path.items s.bounds.items s.work.items s.places.items s.explored.items s.ranks.items c.requires.walks c.args.j c.requires.some c.requires.last c.args.w c.requires.edge

pub returns-in_ok-enter : goal.returns-in_ok-enter
returns-in_ok-enter c =
    let s = c.args.self.now in
    let low : c.args.j < length s.path.items =
    last_low c.args.graph.now s.path.items s.bounds.items s.work.items s.places.items s.explored.items s.ranks.items c.requires.walks c.args.j c.requires.some c.requires.last in
    record {
      walks = c.in_ok-enter.ensures.walks;
      led = inr (length s.path.items, omega (arith, c.in_ok-enter.ensures.path), c.in_ok-enter.ensures.last, λ b h le. omega (arith, le, low));
      node = c.in_ok-enter.ensures.node c.args.j low;
      path = omega (arith, c.in_ok-enter.ensures.path);
      same = c.in_ok-enter.ensures.explored;
      work = omega (arith, c.in_ok-enter.ensures.work);
      stays = c.in_ok-enter.ensures.stays;
    }

pub returns-then-place-ge-FIRST : goal.returns-then-place-ge-FIRST
returns-then-place-ge-FIRST c =
    let s = c.args.self.now in
    let i = c.index-place.result.now - 2 in
    let place : get_or s.places.items c.args.w 0 ≡ (c.index-place.result.now - 2) + 2 =
    omega (arith, get_or_read s.places.items c.args.w c.index-place.result.now (omega (arith, c.requires.node, c.requires.walks.place_each)) c.index-place.ensures 0) in
    record {
      walks = joined c.args.graph.now s.path.items s.bounds.items s.work.items s.places.items s.explored.items s.ranks.items c.requires.walks c.args.j c.requires.some c.requires.last c.args.w c.requires.edge i c.narrow.new.bounds.items place c.narrow.ensures;
      led = joined_led c.args.graph.now s.path.items s.bounds.items s.work.items s.places.items s.explored.items s.ranks.items c.requires.walks c.args.j c.requires.some c.requires.last c.args.w c.requires.edge i c.narrow.new.bounds.items place c.narrow.ensures;
      node = refl {A = ℕ};
      path = omega arith;
      same = refl {A = List ℕ};
      work = omega arith;
      stays = λ x h. h;
    }
