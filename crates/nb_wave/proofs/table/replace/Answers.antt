use Rattle.std.proofs.Common.{◌≡◌, ◌∙◌, sym, ap, subst, List, [], ◌∷◌, ◌++◌}
use Rattle.nb_wave.specs.declared.row.Row.{Row}
use Rattle.nb_wave.specs.declared.table.Change.{Change}
use Rattle.nb_wave.specs.Changes.{IsSince}
use Rattle.nb_wave.proofs.Back.{since_one}
use Rattle.nb_wave.proofs.table.replace.Goals as goal

pub returns-clause-since : goal.returns-clause-since
returns-clause-since c =
    let old = c.args.changes.now.items in
    let change = c.swap_in.new.change in
    let e : c.push_reserved.new.self.items ≡ old ++ change ∷ [] =
    c.push_reserved.ensures.items ∙ ap (λ (l : List Change). l ++ change ∷ []) c.in_ok-reserve.ensures.items in
    subst (λ (l : List Change). IsSince old c.args.rows.now.items l c.swap_in.new.rows.items) (sym e)
    (subst (λ (l : List Row). IsSince old c.args.rows.now.items (old ++ change ∷ []) l) (sym c.swap_in.ensures.rows)
    (since_one old c.args.rows.now.items change c.args.row c.args.v c.swap_in.ensures.var c.swap_in.ensures.row))
