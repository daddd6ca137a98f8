use Rattle.std.proofs.Common.{◌≡◌, ◌∙◌, refl, ap, false, [], ◌∷◌, ◌++◌, length, take, arith}
use Rattle.std.proofs.lemmas.List.{length_push, take-append-le}
use Rattle.nb_sheet.specs.Sheet.{Sheet, refusal}
use Rattle.nb_sheet.specs.Kept.{Kept}
use Rattle.nb_sheet.specs.declared.edit.Edit.TheVariants.{AddModule}
use Rattle.nb_sheet.proofs.Keeps.{wider, is_sheet}
use Rattle.nb_sheet.proofs.Marks.{kept_on}
use Rattle.nb_sheet.proofs.sheet.Sheet.add_module.Goals as goal

pub invariant_of-self-2 : goal.invariant_of-self-2
invariant_of-self-2 c =
    let old : Sheet = record { builtins = c.self.inside.builtins; modules = c.self.inside.modules.items; rows = c.self.inside.rows.items } in
    let new = c.push.new.self.items in
    let m = c.self.inside.marked_modules in
    let e : new ≡ old.modules ++ false ∷ [] = c.in_ok-push.ensures.items in
    kept_on c.self.inside.builtins old.modules old.rows c.self.inside.changes.items m c.self.inside.marked_rows new old.rows c.self.inside.changes.items
    (ap (take m) e ∙ take-append-le m old.modules (false ∷ []) c.self.invariant.modules) refl (omega (arith, ap length e, length_push old.modules false)) (omega arith)
    (is_sheet c.self.inside.builtins old.rows (old.modules ++ false ∷ []) new e (wider old (ap (λ (k : Kept). refusal k.sheet AddModule) c.self.view_is ∙ c.requires) c.self.invariant.sheet)) c.self.invariant
