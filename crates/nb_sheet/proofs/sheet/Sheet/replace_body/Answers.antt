use Rattle.nb_sheet.specs.Sheet.{Sheet}
use Rattle.nb_sheet.proofs.Keeps.{either, unchanged, redefined_keeps}
use Rattle.nb_sheet.proofs.Marks.{kept_rows}
use Rattle.nb_sheet.proofs.sheet.Sheet.replace_body.Goals as goal

pub invariant_of-self : goal.invariant_of-self
invariant_of-self c =
    let old : Sheet = record { builtins = c.self.inside.builtins; modules = c.self.inside.modules.items; rows = c.self.inside.rows.items } in
    let rows = c.redefine.new.rows.items in
    kept_rows c.self.inside.builtins c.self.inside.modules.items c.self.inside.rows.items c.self.inside.changes.items c.self.inside.marked_modules c.self.inside.marked_rows rows c.redefine.new.changes.items c.redefine.ensures.back
    (either c.redefine.result c.redefine.ensures.ok c.redefine.ensures.err (redefined_keeps old c.args.variable c.args.cell c.args.place rows c.self.invariant.sheet) (λ e. unchanged old rows e c.self.invariant.sheet)) c.self.invariant
