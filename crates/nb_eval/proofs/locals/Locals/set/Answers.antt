use Rattle.std.proofs.Common.{◌∙◌, sym, ap, subst, subst₂, map, slice_set, arith}
use Rattle.std.proofs.lemmas.List.{length-map}
use Rattle.std.specs.BTreeMap.{get_by_text}
use Rattle.nb_value.specs.Fields.{names}
use Rattle.nb_eval.specs.declared.locals.Local.{Local}
use Rattle.nb_eval.specs.Locals.{name_value, place}
use Rattle.nb_eval.specs.LocalsIndex.{IsIndexed}
use Rattle.nb_eval.proofs.IndexLemmas.{place-last, named, names-set, within}
use Rattle.nb_eval.proofs.locals.Locals.set.Goals as goal

pub write-requires : goal.write-requires
write-requires c =
    let name = c.args.name.now in
    let list = map (λ (l : Local). l.field) c.self.inside.list.items in
    let there = named name (names list) c.args.at (sym (place-last name list) ∙ ap (place name) c.self.view_is ∙ c.requires) in
    let below = within list c.args.at name there in
    omega (arith, below, length-map c.self.inside.list.items (λ (l : Local). l.field))

pub invariant_of-self : goal.invariant_of-self
invariant_of-self c =
    let name = c.args.name.now in
    let list = map (λ (l : Local). l.field) c.self.inside.list.items in
    let there = named name (names list) c.args.at (sym (place-last name list) ∙ ap (place name) c.self.view_is ∙ c.requires) in
    let same = ap names (c.write.ensures.fields name there) ∙ names-set list c.args.at name c.args.value there in
    let old = c.self.inside.list.items in
    let new = c.write.new.list.items in
    let number = get_by_text c.self.inside.numbers in
    let tops = c.self.inside.tops.items in
    let numbered = subst (λ ks. IsIndexed (names list) ks (map (λ (l : Local). l.outer) old) number tops) (sym c.write.ensures.numbers) c.self.invariant in
    subst₂ (λ ns os. IsIndexed ns (map (λ (l : Local). l.number) new) os number tops) (sym same) (sym c.write.ensures.outers) numbered

pub returns : goal.returns
returns c =
    let name = c.args.name.now in
    let list = map (λ (l : Local). l.field) c.self.inside.list.items in
    let there = named name (names list) c.args.at (sym (place-last name list) ∙ ap (place name) c.self.view_is ∙ c.requires) in
    c.write.ensures.fields name there ∙ ap (λ ls. slice_set ls c.args.at (name_value name c.args.value)) c.self.view_is
