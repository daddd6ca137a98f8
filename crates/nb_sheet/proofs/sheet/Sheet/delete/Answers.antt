use Rattle.nb_sheet.specs.Sheet.{Sheet}
use Rattle.nb_sheet.proofs.Keeps.{either, unchanged, undefined_keeps}
use Rattle.nb_sheet.proofs.Marks.{kept_rows}
use Rattle.nb_sheet.proofs.sheet.Sheet.delete.Goals as goal

pub invariant_of-self : goal.invariant_of-self
invariant_of-self c =
    let old : Sheet = record { builtins = c.self.inside.builtins; modules = c.self.inside.modules.items; rows = c.self.inside.rows.items } in
    let rows = c.undefine.new.rows.items in
    kept_rows c.self.inside.builtins c.self.inside.modules.items c.self.inside.rows.items c.self.inside.changes.items c.self.inside.marked_modules c.self.inside.marked_rows rows c.undefine.new.changes.items c.undefine.ensures.back
    (either c.undefine.result c.undefine.ensures.ok c.undefine.ensures.err (undefined_keeps old c.args.variable rows c.self.invariant.sheet) (λ e. unchanged old rows e c.self.invariant.sheet)) c.self.invariant
