use Rattle.std.proofs.Common.{◌∙◌, ap, length, Some}
use Rattle.nb_sheet.specs.Sheet.{Sheet, is_body}
use Rattle.nb_sheet.specs.Kept.{Kept}
use Rattle.nb_sheet.proofs.Keeps.{either, unchanged, defined_keeps}
use Rattle.nb_sheet.proofs.Marks.{kept_rows}
use Rattle.nb_sheet.proofs.sheet.Sheet.give.Goals as goal

pub invariant_of-self : goal.invariant_of-self
invariant_of-self c =
    let old : Sheet = record { builtins = c.self.inside.builtins; modules = c.self.inside.modules.items; rows = c.self.inside.rows.items } in
    let rows = c.define.new.rows.items in
    kept_rows c.self.inside.builtins c.self.inside.modules.items c.self.inside.rows.items c.self.inside.changes.items c.self.inside.marked_modules c.self.inside.marked_rows rows c.define.new.changes.items c.define.ensures.back
    (either c.define.result c.define.ensures.ok c.define.ensures.err (defined_keeps old c.args.variable c.args.name c.args.body c.args.place rows (ap (λ (k : Kept). is_body (length k.sheet.modules) (Some c.args.body)) c.self.view_is ∙ c.requires.kept) c.self.invariant.sheet) (λ e. unchanged old rows e c.self.invariant.sheet)) c.self.invariant
