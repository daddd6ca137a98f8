use Rattle.std.proofs.Common.{◌≡◌, ◌∙◌, sym, ap, subst, List, [], ◌∷◌, ◌++◌}
use Rattle.nb_sheet.specs.declared.row.VarRow.{VarRow}
use Rattle.nb_sheet.specs.declared.rows.Change.{Change}
use Rattle.nb_sheet.specs.Changes.{GiveTheSame}
use Rattle.nb_sheet.proofs.Back.{one_more}
use Rattle.nb_sheet.proofs.rows.replace.Goals as goal

pub returns-clause-back : goal.returns-clause-back
returns-clause-back c =
    let old = c.args.changes.now.items in
    let change = c.swap_in.new.change in
    let e : c.push_reserved.new.self.items ≡ old ++ change ∷ [] =
    c.push_reserved.ensures.items ∙ ap (λ (l : List Change). l ++ change ∷ []) c.in_ok-reserve.ensures.items in
    subst (λ (l : List Change). GiveTheSame old c.args.rows.now.items l c.swap_in.new.rows.items) (sym e)
    (subst (λ (l : List VarRow). GiveTheSame old c.args.rows.now.items (old ++ change ∷ []) l) (sym c.swap_in.ensures.rows)
    (one_more old c.args.rows.now.items change c.args.row c.args.at c.swap_in.ensures.at c.swap_in.ensures.row))
