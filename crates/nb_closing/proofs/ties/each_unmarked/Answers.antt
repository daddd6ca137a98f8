use Rattle.std.proofs.Common.{◌≡◌, ◌<◌, ◌+◌, ◌∙◌, ap, arith, length, get_or, List, map, ℕ}
use Rattle.std.specs.List.{range_with_len}
use Rattle.nb_sheet.specs.Sheet.{Sheet}
use Rattle.nb_sheet.specs.declared.row.VarRow.{VarRow}
use Rattle.nb_closing.specs.Ties.{Ties}
use Rattle.nb_closing.specs.Tables.{row_ties, unmarked_ties}
use Rattle.nb_closing.proofs.Tables.{row_at, table_push}
use Rattle.nb_closing.proofs.ties.each_unmarked.Goals as goal

pub loop-i-preserved : goal.loop-i-preserved
loop-i-preserved c =
    let s = c.args.sheet.now.sheet in
    let i = c.loop-i.i in
    let row = c.index-rows-i.result in
    let many : length c.rows-rows.result.now ≡ length s.rows = ap (λ (l : List VarRow). length l) c.rows-rows.ensures.value in
    let inside : i < length s.rows = omega (arith, many) in
    let at : row ≡ get_or s.rows i row = c.index-rows-i.is ∙ ap (λ (l : List VarRow). get_or l i row) c.rows-rows.ensures.value in
    let own : c.in_ok-own.own ≡ unmarked_ties s (i + 1) = c.in_ok-own.ensures ∙ ap (λ (t : Sheet). row_ties t row) c.in_ok-names.ensures ∙ row_at s i row inside at in
    ◌∙◌ {A = List Ties} c.in_ok-push.ensures.items (table_push (unmarked_ties s) i c.loop-i.ties.items c.in_ok-own.own c.loop-i.invariant own)

pub returns : goal.returns
returns c =
    let s = c.args.sheet.now.sheet in
    let many : length c.rows-rows.result.now ≡ length s.rows = ap (λ (l : List VarRow). length l) c.rows-rows.ensures.value in
    let at_end : c.loop-i.i ≡ length s.rows = omega (arith, many) in
    c.loop-i.invariant ∙ ap (λ (n : ℕ). map (unmarked_ties s) (range_with_len 1 n)) at_end
