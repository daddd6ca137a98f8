use Rattle.std.proofs.Common.{ℕ, ◌<◌, ◌∙◌, ap, List, [], length, arith}
use Rattle.std.specs.Prelude.{replicate}
use Rattle.nb_wave.specs.Users.{added_all}
use Rattle.nb_wave.proofs.Reversed.{added_all_more, read_inside, length_added}
use Rattle.nb_wave.proofs.users.user_lists.Goals as goal

pub add_user-requires : goal.add_user-requires
add_user-requires c =
    λ u h. let low : u < length c.args.rows.now = read_inside c.args.rows.now c.requires.needs c.loop-v.v c.index-rows-v.result c.as_slice.result.now (omega arith) c.index-rows-v.is c.as_slice.ensures u h in
    omega (arith, low, c.loop-v.invariant.size)

pub loop-v-preserved : goal.loop-v-preserved
loop-v-preserved c =
    let rows = c.args.rows.now in
    let lists = c.loop-v.lists.items in
    let us = c.as_slice.result.now in
    record {
      size = ap (λ (l : List (List ℕ)). length l) c.in_ok-add_user.ensures ∙ length_added c.loop-v.v us lists ∙ c.loop-v.invariant.size;
      lists =
          added_all_more rows lists c.add_user.new.lists.items (added_all 0 rows (replicate (length rows) [])) c.loop-v.v c.index-rows-v.result us (omega arith) c.index-rows-v.is c.as_slice.ensures
          c.in_ok-add_user.ensures c.loop-v.invariant.lists;
    }
