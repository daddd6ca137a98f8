use Rattle.std.proofs.Common.{ℕ, ◌<◌, ◌≡◌, ◌∙◌, ap, sym, List, length, arith}
use Rattle.nb_graph.specs.Needs.{has}
use Rattle.nb_graph.specs.Graph.{needs_of as list_of}
use Rattle.nb_wave.proofs.Reversed.{reversed_from, listed_inside, list_read, filled_more, length_with, length_listed}
use Rattle.nb_wave.proofs.users.graph_of.Goals as goal

pub index-requires : goal.index-requires
index-requires c = omega (arith, length_listed c.args.rows.now c.args.lists.now.items c.requires.lists)

pub set-requires-clause-nodes : goal.set-requires-clause-nodes
set-requires-clause-nodes c =
    let rows = c.args.rows.now in
    let lists = c.args.lists.now.items in
    let u = c.loop-u.u in
    let inside : u < length lists = omega (arith, length_listed rows lists c.requires.lists) in
    let e : list_of lists u ≡ c.as_slice.result.now = list_read lists u c.index.result.now inside c.index.ensures ∙ sym c.as_slice.ensures in
    λ w h. let low : w < length rows = listed_inside rows lists u w c.requires.lists (ap (λ (l : List ℕ). has l w) e ∙ h) in omega (arith, low, c.loop-u.invariant.size)

pub loop-u-preserved : goal.loop-u-preserved
loop-u-preserved c =
    let rows = c.args.rows.now in
    let lists = c.args.lists.now.items in
    let graph = c.loop-u.graph in
    let u = c.loop-u.u in
    let xs = c.as_slice.result.now in
    let inside : u < length lists = omega (arith, length_listed rows lists c.requires.lists) in
    let e : xs ≡ list_of lists u = c.as_slice.ensures ∙ sym (list_read lists u c.index.result.now inside c.index.ensures) in
    record {
      size = ap (λ (l : List (List ℕ)). length l) c.in_ok-set.ensures.ok ∙ length_with graph u xs ∙ c.loop-u.invariant.size;
      same = filled_more graph c.set.new.self lists u xs (omega (arith, c.loop-u.invariant.size)) c.in_ok-set.ensures.ok e c.loop-u.invariant.same;
    }

pub returns : goal.returns
returns c =
    reversed_from c.args.rows.now c.requires.needs c.args.lists.now.items c.loop-u.graph c.loop-u.u c.requires.lists (omega arith) c.loop-u.invariant.size c.loop-u.invariant.same
