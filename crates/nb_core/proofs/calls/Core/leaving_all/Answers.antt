use Rattle.std.proofs.Common.{◌∙◌, ap, sym, refl, ℕ, ◌+◌, List, map, Option, subst}
use Rattle.nb_log.specs.declared.entry.Entry.TheVariants.{Dispose}
use Rattle.nb_history.specs.Reading.{Start}
use Rattle.nb_history.specs.Log.{after}
use Rattle.nb_history.specs.History.{History, standing}
use Rattle.nb_closing.specs.Plan.{Plans}
use Rattle.nb_closing.specs.Sites.{site_of}
use Rattle.nb_core.proofs.Disposing.{scene_disposed}
use Rattle.nb_core.proofs.calls.Core.leaving_all.Goals as goal

pub returns-clause-plans : goal.returns-clause-plans
returns-clause-plans c editor =
    let h : History = c.self.inside.machine.history in
    subst (λ (g : History). Plans (after (standing g) (Dispose editor)) c.in_ok-steps.steps.items) c.self.view_is
    (c.in_ok-steps.ensures.plans (after (standing h) (Dispose editor))
    (scene_disposed h editor c.sheet.result.now.sheet c.starts-2.result.now.items _ c.sheet.ensures.value c.starts-2.ensures
    (c.in_ok-sites.ensures ∙ ap (λ (xs : List (Option Start)). map site_of xs) (c.starts.ensures ∙ sym c.starts-2.ensures)) refl (ap (λ (n : ℕ). n + 2) c.len.ensures.value)))
