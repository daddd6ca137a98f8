use Rattle.std.proofs.Common.{◌≡◌, ◌++◌, map, drop}
use Rattle.std.specs.List.{flat_map}
use Rattle.nb_sheet.specs.declared.row.VarRow.{VarRow}
use Rattle.nb_sheet.specs.Derive.{copied_of, copied_var, new_row}
use Rattle.nb_doc.proofs.count.add_rest.Given as goal

abbrev pub invariant-loop-row : goal.invariant-loop-row
invariant-loop-row l =
    l.rows.items ++ map (new_row l.number 0) (flat_map (λ (row : VarRow). copied_var l.plan.next l.plan.copied.now row.name row.body) (copied_of l.plan.within l.plan.specifiers.now (drop l.row-index l.plan.rows.now) l.k))
    ≡ l.fn.rows.items ++ map (new_row l.number 0) (flat_map (λ (row : VarRow). copied_var l.plan.next l.plan.copied.now row.name row.body) (copied_of l.plan.within l.plan.specifiers.now l.plan.rows.now l.k))
