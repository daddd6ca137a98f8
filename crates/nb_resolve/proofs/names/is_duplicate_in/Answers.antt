use Rattle.std.proofs.Common.{◌∙◌, ap, List}
use Rattle.nb_sheet.specs.declared.row.VarRow.{VarRow}
use Rattle.nb_resolve.specs.Scan.{is_twin}
use Rattle.nb_resolve.proofs.names.is_duplicate_in.Goals as goal

pub returns : goal.returns
returns c = c.is_twin.ensures ∙ ap (λ (rows : List VarRow). is_twin rows c.args.row.now) c.rows.ensures.value
