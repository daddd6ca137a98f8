use Rattle.std.proofs.Common.{rules, ◌≡◌, ◌∷◌, ◌++◌, ◌∙◌, ap, sym, subst, nat_cmp, Less, Equal, Greater}
use Rattle.std.specs.Cmp.Lexicographic.{slice_cmp}
use Rattle.nb_value.specs.Fields.{IsInOrder, value_at}
use Rattle.nb_eval.proofs.InputLemmas.{in_front, in_back, value-after, value-here, value-before}
use Rattle.nb_eval.proofs.inputs.+value_in.Goals as goal

pub value_in-requires : goal.value_in-requires
value_in-requires t c =
    let front = c.split_at.result.0.now in
    let whole = c.split_at.ensures.by_index.0 ∙ ap (λ l. front ++ l) c.in_ok-field.ensures.cases.0 in
    (search rules, in_back front c.in_ok-field.after.now c.in_ok-field.field.now (subst IsInOrder whole c.requires.1.1))

pub value_in-requires-in-Greater : goal.value_in-requires-in-Greater
value_in-requires-in-Greater t c =
    let front = c.split_at.result.0.now in
    let whole = c.split_at.ensures.by_index.0 ∙ ap (λ l. front ++ l) c.in_ok-field.ensures.cases.0 in
    (search rules, in_front front (c.in_ok-field.field.now ∷ c.in_ok-field.after.now) (subst IsInOrder whole c.requires.1.1))

pub returns-in-Less : goal.returns-in-Less
returns-in-Less t c =
    let name = c.args.name.now in
    let front = c.split_at.result.0.now in
    let field = c.in_ok-field.field.now in
    let whole = c.split_at.ensures.by_index.0 ∙ ap (λ l. front ++ l) c.in_ok-field.ensures.cases.0 in
    let is : slice_cmp nat_cmp field.name name ≡ Less = cc in
    c.value_in.ensures ∙ sym (ap (value_at name) whole ∙ value-after name front c.in_ok-field.after.now field (subst IsInOrder whole c.requires.1.1) is)

pub returns-in-Equal : goal.returns-in-Equal
returns-in-Equal t c =
    let name = c.args.name.now in
    let front = c.split_at.result.0.now in
    let field = c.in_ok-field.field.now in
    let whole = c.split_at.ensures.by_index.0 ∙ ap (λ l. front ++ l) c.in_ok-field.ensures.cases.0 in
    let is : slice_cmp nat_cmp field.name name ≡ Equal = cc in
    sym (ap (value_at name) whole ∙ value-here name front c.in_ok-field.after.now field (subst IsInOrder whole c.requires.1.1) is)

pub returns-in-Greater : goal.returns-in-Greater
returns-in-Greater t c =
    let name = c.args.name.now in
    let front = c.split_at.result.0.now in
    let field = c.in_ok-field.field.now in
    let whole = c.split_at.ensures.by_index.0 ∙ ap (λ l. front ++ l) c.in_ok-field.ensures.cases.0 in
    let is : slice_cmp nat_cmp field.name name ≡ Greater = cc in
    c.value_in-in-Greater.ensures ∙ sym (ap (value_at name) whole ∙ value-before name front c.in_ok-field.after.now field (subst IsInOrder whole c.requires.1.1) is)
