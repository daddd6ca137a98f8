use Rattle.std.proofs.Common.{ℕ, ◌≡◌, ◌<◌, ◌+◌, ◌∙◌, ap, List, [], length, get_or, arith}
use Rattle.std.specs.Prelude.{replicate}
use Rattle.nb_wave.specs.declared.row.Row.{Row}
use Rattle.nb_wave.specs.Users.{added_all}
use Rattle.nb_wave.proofs.Reversed.{added_all_more, read_inside, length_added}
use Rattle.nb_closing.specs.Touched.{naming, needing}
use Rattle.nb_closing.proofs.Touches.{length_needing, needing_at}
use Rattle.nb_closing.proofs.touching.user_lists.Goals as goal

pub add_user-requires : goal.add_user-requires
add_user-requires c =
    let ties = c.args.ties.now.items in
    let k = c.loop-k.k in
    let own = c.index.result.now in
    let inside : k < length ties = omega (arith, c.len-k-end.ensures, c.args.ties.now.ok) in
    let at : naming own ≡ get_or (needing ties) (k + 1) (naming own) = needing_at ties k own inside c.index.ensures in
    let us : c.deref.result.now ≡ Row.needs (get_or (needing ties) (k + 1) (naming own)) = c.deref.ensures.value ∙ c.direct.ensures ∙ ap (λ (r : Row). r.needs) at in
    λ u h.
    let low : u < length (needing ties) = read_inside (needing ties) c.requires.needs (k + 1) (naming own) c.deref.result.now (omega (arith, inside, length_needing ties)) at us u h in
    omega (arith, low, c.loop-k.invariant.size)

pub loop-k-preserved : goal.loop-k-preserved
loop-k-preserved c =
    let ties = c.args.ties.now.items in
    let k = c.loop-k.k in
    let own = c.index.result.now in
    let lists = c.loop-k.lists.items in
    let inside : k < length ties = omega (arith, c.len-k-end.ensures, c.args.ties.now.ok) in
    let at : naming own ≡ get_or (needing ties) (k + 1) (naming own) = needing_at ties k own inside c.index.ensures in
    let us : c.deref.result.now ≡ Row.needs (get_or (needing ties) (k + 1) (naming own)) = c.deref.ensures.value ∙ c.direct.ensures ∙ ap (λ (r : Row). r.needs) at in
    record {
      size = ap (λ (l : List (List ℕ)). length l) c.in_ok-add_user.ensures ∙ length_added (k + 1) c.deref.result.now lists ∙ c.loop-k.invariant.size;
      lists =
          added_all_more (needing ties) lists c.add_user.new.lists.items (added_all 0 (needing ties) (replicate (length (needing ties)) [])) (k + 1) (naming own) c.deref.result.now
          (omega (arith, inside, length_needing ties)) at us c.in_ok-add_user.ensures c.loop-k.invariant.lists;
    }
