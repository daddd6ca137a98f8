use Rattle.std.proofs.Common.{◌≡◌, ◌∙◌, map}
use Rattle.nb_sheet.specs.Derive.{module_copy, copied_modules, derived}
use Rattle.nb_derive.proofs.There.{there}
use Rattle.nb_derive.proofs.copying.derived.Goals as goal

pub returns-clause-there : goal.returns-clause-there
returns-clause-there c =
    let s = c.args.sheet.now.sheet in
    let list : c.as_slice.result.now ≡ copied_modules s.modules s.rows c.args.within c.args.specifiers.now = c.as_slice.ensures.value ∙ c.copied_modules-copied.ensures.value in
    let same : c.from_vec.result ≡ derived s.modules s.rows c.args.within c.args.specifiers.now c.args.source =
    c.from_vec.ensures ∙ c.in_ok-modules.ensures
    ∙ (λ j. map (module_copy (c.modules.ensures.value j) (c.rows.ensures.value j) c.args.within c.args.specifiers.now c.args.source (list j)) (list j)) in
    there s.modules s.rows c.args.within c.args.specifiers.now c.args.source c.from_vec.result c.requires.source c.rows.ensures.kept.rows same
