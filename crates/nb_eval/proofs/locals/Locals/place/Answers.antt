use Rattle.std.proofs.Common.{◌∙◌, sym, ap, map}
use Rattle.nb_eval.specs.declared.locals.Local.{Local}
use Rattle.nb_eval.specs.Locals.{place}
use Rattle.nb_eval.specs.LocalsIndex.{under}
use Rattle.nb_eval.proofs.IndexLemmas.{place-last}
use Rattle.nb_eval.proofs.locals.Locals.place.Goals as goal

pub returns : goal.returns
returns c =
    let name = c.args.name.now in
    let tops = c.self.inside.tops.items in
    let found = c.under.ensures ∙ ap (λ ts. under ts c.copied.result) c.as_slice.ensures.value ∙ ap (under tops) (c.copied.ensures ∙ c.get.ensures.value) in
    found ∙ c.self.invariant.places name ∙ sym (place-last name (map (λ (l : Local). l.field) c.self.inside.list.items)) ∙ ap (place name) c.self.view_is
