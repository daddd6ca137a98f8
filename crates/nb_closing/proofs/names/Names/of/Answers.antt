use Rattle.std.proofs.Common.{subst, List}
use Rattle.nb_sheet.specs.declared.row.VarRow.{VarRow}
use Rattle.nb_closing.specs.Names.{IsTable}
use Rattle.nb_closing.proofs.names.Names.of.Goals as goal

pub invariant_of-result : goal.invariant_of-result
invariant_of-result c = subst (λ (rows : List VarRow). IsTable rows c.in_ok-table.table) c.rows.ensures.value c.in_ok-table.ensures
