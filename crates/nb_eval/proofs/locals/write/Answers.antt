use Rattle.std.proofs.Common.{◌∙◌, ap, map, slice_set}
use Rattle.std.proofs.lemmas.List.{map-set}
use Rattle.std.proofs.Math.Seq.{map-set_same}
use Rattle.nb_eval.specs.Locals.{name_value}
use Rattle.nb_eval.specs.declared.locals.Local.{Local}
use Rattle.nb_eval.proofs.IndexLemmas.{name_there}
use Rattle.nb_eval.proofs.locals.write.Goals as goal

pub returns-clause-numbers : goal.returns-clause-numbers
returns-clause-numbers c = map-set_same (λ (l : Local). l.number) c.args.list.now.items c.args.at _ c.index_mut.result.now (ap (λ (l : Local). l.number) c.index_mut.ensures.value)

pub returns-clause-outers : goal.returns-clause-outers
returns-clause-outers c = map-set_same (λ (l : Local). l.outer) c.args.list.now.items c.args.at _ c.index_mut.result.now (ap (λ (l : Local). l.outer) c.index_mut.ensures.value)

pub returns-clause-fields : goal.returns-clause-fields
returns-clause-fields c = λ name there.
    let list = c.args.list.now.items in
    let is = ap (λ (l : Local). l.field.name) c.index_mut.ensures.value ∙ name_there (λ (l : Local). l.field) list c.args.at name c.index_mut.result.now there in
    map-set (λ (l : Local). l.field) list c.args.at _ ∙ ap (λ n. slice_set (map (λ (l : Local). l.field) list) c.args.at (name_value n c.args.value)) is
