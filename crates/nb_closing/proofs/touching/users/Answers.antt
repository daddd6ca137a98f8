use Rattle.std.proofs.Common.{ℕ, ◌<◌, ◌≤◌, ◌≡◌, ◌∙◌, ap, sym, List, length, arith}
use Rattle.nb_graph.specs.Needs.{has}
use Rattle.nb_graph.specs.Graph.{needs_of as list_of}
use Rattle.nb_wave.proofs.Reversed.{reversed_from, listed_inside, list_read, filled_more, length_with, length_listed}
use Rattle.nb_closing.specs.Touched.{needing}
use Rattle.nb_closing.proofs.Touches.{length_needing}
use Rattle.nb_closing.proofs.touching.users.Goals as goal

pub overflow_cast-n : goal.overflow_cast-n
overflow_cast-n c =
    let rows = needing c.args.ties.now.items in
    let lists = c.in_ok-lists.lists in
    let few : length rows ≤ 1025 = omega (arith, c.requires.few, length_needing c.args.ties.now.items) in
    omega (arith, few, length_listed rows lists.items c.in_ok-lists.ensures, c.len-n.ensures, lists.ok)

pub set-requires-clause-nodes : goal.set-requires-clause-nodes
set-requires-clause-nodes c =
    let rows = needing c.args.ties.now.items in
    let lists = c.in_ok-lists.lists.items in
    let u = c.loop-u.u in
    let inside : u < length lists = omega (arith, c.len-n.ensures, c.in_ok-lists.lists.ok) in
    let e : list_of lists u ≡ c.as_slice.result.now = list_read lists u c.index.result.now inside c.index.ensures ∙ sym c.as_slice.ensures in
    λ w h.
    let low : w < length rows = listed_inside rows lists u w c.in_ok-lists.ensures (ap (λ (l : List ℕ). has l w) e ∙ h) in
    omega (arith, low, c.loop-u.invariant.size, length_listed rows lists c.in_ok-lists.ensures)

pub loop-u-preserved : goal.loop-u-preserved
loop-u-preserved c =
    let lists = c.in_ok-lists.lists.items in
    let graph = c.loop-u.graph in
    let u = c.loop-u.u in
    let xs = c.as_slice.result.now in
    let inside : u < length lists = omega (arith, c.len-n.ensures, c.in_ok-lists.lists.ok) in
    let e : xs ≡ list_of lists u = c.as_slice.ensures ∙ sym (list_read lists u c.index.result.now inside c.index.ensures) in
    record {
      size = ap (λ (l : List (List ℕ)). length l) c.in_ok-set.ensures.ok ∙ length_with graph u xs ∙ c.loop-u.invariant.size;
      same = filled_more graph c.set.new.self lists u xs (omega (arith, inside, c.loop-u.invariant.size)) c.in_ok-set.ensures.ok e c.loop-u.invariant.same;
    }

pub returns : goal.returns
returns c =
    let rows = needing c.args.ties.now.items in
    let lists = c.in_ok-lists.lists.items in
    let size : length lists ≡ length rows = length_listed rows lists c.in_ok-lists.ensures in
    reversed_from rows c.requires.needs lists c.loop-u.graph c.loop-u.u c.in_ok-lists.ensures (omega (arith, size, c.len-n.ensures, c.in_ok-lists.lists.ok)) (c.loop-u.invariant.size ∙ size) c.loop-u.invariant.same
