use Rattle.std.proofs.Common.{◌∙◌, ap}
use Rattle.nb_sheet.specs.Kept.{Kept}
use Rattle.nb_sheet.specs.Changes.{put_back}
use Rattle.nb_sheet.proofs.Marks.{undone}
use Rattle.nb_sheet.proofs.sheet.Sheet.undo.Goals as goal

pub invariant_of-self : goal.invariant_of-self
invariant_of-self c =
    let changes = c.self.inside.changes.items in
    (undone c.self.inside.builtins c.self.inside.modules.items c.self.inside.rows.items changes c.self.inside.marked_modules c.self.inside.marked_rows
    c.truncate.new.self.items c.roll_back.new.rows.items c.roll_back.new.changes.items c.truncate.ensures.items
    (c.roll_back.ensures.rows ∙ ap (put_back changes) c.truncate-2.ensures.items) c.roll_back.ensures.changes c.self.invariant).1

pub returns-clause-marked : goal.returns-clause-marked
returns-clause-marked c =
    let changes = c.self.inside.changes.items in
    (undone c.self.inside.builtins c.self.inside.modules.items c.self.inside.rows.items changes c.self.inside.marked_modules c.self.inside.marked_rows
    c.truncate.new.self.items c.roll_back.new.rows.items c.roll_back.new.changes.items c.truncate.ensures.items
    (c.roll_back.ensures.rows ∙ ap (put_back changes) c.truncate-2.ensures.items) c.roll_back.ensures.changes c.self.invariant).0
    ∙ ap (λ (k : Kept). k.marked) c.self.view_is
