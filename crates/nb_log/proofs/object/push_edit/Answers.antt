-- The object, at the edit.
use Rattle.std.proofs.Common.{◌≡◌, ◌++◌, OnOk, sym, subst}
use Rattle.nb_value.specs.Json.{json_text}
use Rattle.nb_log.specs.Printing.{edit_object}
use Rattle.nb_log.proofs.object.push_edit.Goals as goal

pub returns-in-Redefine : goal.returns-in-Redefine
returns-in-Redefine c =
    subst (λ e. OnOk c.push_cell_at-in-Redefine.result (c.push_cell_at-in-Redefine.new.out ≡ c.args.out.now ++ json_text (edit_object e))) (sym c.in-Redefine.is) c.push_cell_at-in-Redefine.ensures
