use Rattle.std.proofs.Common.{◌∙◌, ◌∷◌, [], sym, ap, List}
use Rattle.nb_sheet.specs.declared.rows.Change.{Change}
use Rattle.nb_sheet.specs.Changes.{put_back}
use Rattle.nb_sheet.proofs.Back.{back_append}
use Rattle.nb_sheet.proofs.rows.roll_back.Goals as goal

pub loop-change-preserved : goal.loop-change-preserved
loop-change-preserved c =
    let rows = c.loop-change.rows.items in
    ap (put_back c.pop.new.self.items) c.put_back_one.ensures
    ∙ sym (back_append c.pop.new.self.items (c.in-Some.change ∷ []) rows)
    ∙ ap (λ (l : List Change). put_back l rows) (sym c.in-Some.ensures.items)
    ∙ c.loop-change.invariant
