use Rattle.std.proofs.Common.{◌<◌, ◌∙◌, refl, length, get_or, arith, length-set}
use Rattle.nb_graph.proofs.Lists.{index_has}
use Rattle.nb_wave.specs.Users.{added}
use Rattle.nb_wave.proofs.Reversed.{added_more}
use Rattle.nb_closing.proofs.touching.add_user.Goals as goal

pub index_mut-requires : goal.index_mut-requires
index_mut-requires c =
    let inside : c.loop-u.u-index < length c.args.needs.now = omega arith in
    omega (arith, c.requires (get_or c.args.needs.now c.loop-u.u-index 0) (index_has c.args.needs.now c.loop-u.u-index inside), c.loop-u.invariant.size)

pub loop-u-preserved : goal.loop-u-preserved
loop-u-preserved c =
    let us = c.args.needs.now in
    let i = c.loop-u.u-index in
    let lists = c.loop-u.lists.items in
    let new = c.push.new.self in
    let inside : i < length us = omega arith in
    let low : get_or us i 0 < length lists = omega (arith, c.requires (get_or us i 0) (index_has us i inside), c.loop-u.invariant.size) in
    record {
      size = length-set lists (get_or us i 0) new ∙ c.loop-u.invariant.size;
      lists = added_more c.args.v us lists (added c.args.v us c.args.lists.now.items) i (get_or us i 0) c.index_mut.result.now new inside refl low c.index_mut.ensures.value c.in_ok-push.ensures.ok c.loop-u.invariant.lists;
    }
