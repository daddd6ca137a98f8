use Rattle.std.proofs.Common.{◌≡◌, ◌++◌, drop}
use Rattle.std.specs.List.{flat_map}
use Rattle.nb_sheet.specs.declared.row.VarRow.{VarRow}
use Rattle.nb_sheet.specs.Derive.{copied_of, copied_var}
use Rattle.nb_derive.proofs.copying.add_variables.Given as goal

abbrev pub invariant-loop-row : goal.invariant-loop-row
invariant-loop-row l =
    l.vars.items ++ flat_map (λ (row : VarRow). copied_var l.plan.next l.plan.copied.now row.name row.body) (copied_of l.plan.within l.plan.specifiers.now (drop l.row-index l.plan.rows.now) l.k)
    ≡ l.fn.vars.items ++ flat_map (λ (row : VarRow). copied_var l.plan.next l.plan.copied.now row.name row.body) (copied_of l.plan.within l.plan.specifiers.now l.plan.rows.now l.k)
