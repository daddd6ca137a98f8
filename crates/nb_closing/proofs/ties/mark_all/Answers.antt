use Rattle.std.proofs.Common.{ℕ, ◌≡◌, ◌<◌, ◌≤◌, ◌+◌, ◌∙◌, ◌&&◌, ap, map, length, get_or, set, arith, List, Bool, false}
use Rattle.std.specs.List.{range_with_len}
use Rattle.std.proofs.lemmas.List.FromFn.{length-map-range_with_len, get_or-map-range_with_len}
use Rattle.nb_sheet.specs.declared.row.VarRow.{VarRow}
use Rattle.nb_history.specs.Needs.{circular, is_used}
use Rattle.nb_closing.specs.Ties.{Ties, ties_of}
use Rattle.nb_closing.specs.Tables.{marked, unmarked_ties, all_unmarked}
use Rattle.nb_closing.proofs.Used.{length_graph, used_at, circular_at, defined_at}
use Rattle.nb_closing.proofs.Tables.{length_unmarked, partly_at, partly_more, partly_ends}
use Rattle.nb_closing.proofs.ties.mark_all.Goals as goal

pub loop-i-init : goal.loop-i-init
loop-i-init c = c.requires.ties

pub loop-i-preserved : goal.loop-i-preserved
loop-i-preserved c =
    let s = c.args.sheet.now.sheet in
    let i = c.loop-i.i in
    let row = c.index-rows-i.result in
    let own : Ties = get_or c.loop-i.ties i c.index-ties-i.result in
    let used = c.is_used-used.result in
    let first : List Ties = all_unmarked s in
    let many : length c.rows-rows.result.now ≡ length s.rows = ap (λ (l : List VarRow). length l) c.rows-rows.ensures.value in
    let inside : i < length s.rows = omega (arith, many) in
    let within : i < length first = omega (arith, inside, length-map-range_with_len (unmarked_ties s) 1 (length s.rows)) in
    let up_to : i + 1 ≤ length s.rows = omega (arith, inside) in
    let at : row ≡ get_or s.rows i row = c.index-rows-i.is ∙ ap (λ (l : List VarRow). get_or l i row) c.rows-rows.ensures.value in
    let was : own ≡ unmarked_ties s (i + 1) =
    ap (λ (l : List Ties). get_or l i c.index-ties-i.result) c.loop-i.invariant
    ∙ partly_at (ties_of s) i first c.index-ties-i.result within
    ∙ get_or-map-range_with_len (unmarked_ties s) 1 (length s.rows) i (i + 1) c.index-ties-i.result inside (omega arith) in
    let tells_used : used ≡ is_used s (i + 1) =
    c.is_used-used.ensures ∙ ap (λ (b : Bool). b && get_or c.args.reached.now (i + 1) false) (defined_at s i row inside at)
    ∙ used_at s c.args.reached.now (i + 1) c.requires.reached up_to in
    let now : c.mark.new.self ≡ ties_of s (i + 1) =
    c.mark.ensures
    ∙ ap (λ (b : Bool). marked b used own) (circular_at s c.args.circular.now (i + 1) c.requires.circular up_to)
    ∙ ap (λ (b : Bool). marked (circular s (i + 1)) b own) tells_used
    ∙ ap (λ (t : Ties). marked (circular s (i + 1)) (is_used s (i + 1)) t) was in
    ap (λ (l : List Ties). set l i c.mark.new.self) c.loop-i.invariant ∙ partly_more (ties_of s) i first c.mark.new.self within now

pub bounds-reached-i : goal.bounds-reached-i
bounds-reached-i c =
    let s = c.args.sheet.now.sheet in
    let many : length c.rows-rows.result.now ≡ length s.rows = ap (λ (l : List VarRow). length l) c.rows-rows.ensures.value in
    omega (arith, many, c.requires.reached.all, length_graph s)

pub bounds-circular-i : goal.bounds-circular-i
bounds-circular-i c =
    let s = c.args.sheet.now.sheet in
    let many : length c.rows-rows.result.now ≡ length s.rows = ap (λ (l : List VarRow). length l) c.rows-rows.ensures.value in
    omega (arith, many, c.requires.circular.all, length_graph s)

pub bounds-ties-i : goal.bounds-ties-i
bounds-ties-i c =
    let s = c.args.sheet.now.sheet in
    let many : length c.rows-rows.result.now ≡ length s.rows = ap (λ (l : List VarRow). length l) c.rows-rows.ensures.value in
    omega (arith, many, length_unmarked s c.args.ties.now c.requires.ties)

pub returns : goal.returns
returns c =
    let s = c.args.sheet.now.sheet in
    let first : List Ties = all_unmarked s in
    let many : length c.rows-rows.result.now ≡ length s.rows = ap (λ (l : List VarRow). length l) c.rows-rows.ensures.value in
    let all : length first ≡ length s.rows = length-map-range_with_len (unmarked_ties s) 1 (length s.rows) in
    c.loop-i.invariant ∙ partly_ends (ties_of s) c.loop-i.i first (omega (arith, many, all)) ∙ ap (λ (n : ℕ). map (ties_of s) (range_with_len 1 n)) all
