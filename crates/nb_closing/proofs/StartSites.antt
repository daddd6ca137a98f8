-- What a variable rests on, by the sites of the starts.
use Rattle.std.proofs.Common.{ℕ, zero, suc, ◌≡◌, refl, sym, ◌∙◌, ap, List, map, option_map, Option, Some, None}
use Rattle.std.proofs.lemmas.Option.{slice_get-map}
use mathlib.Core.Path.{fun_ext}
use Rattle.nb_sheet.specs.Lists.{nth, from_option, option_then}
use Rattle.nb_sheet.specs.Sheet.{Sheet}
use Rattle.nb_history.specs.Reading.{Reading, Start, Footing}
use Rattle.nb_history.specs.Rules.{footing}
use Rattle.nb_runs.specs.Starts.{start_in}
use Rattle.nb_closing.specs.declared.site.Site.{Site}
use Rattle.nb_closing.specs.Sites.{idle_site, site_of, site_in}
use Rattle.nb_closing.specs.Told.{footing_at}
use Rattle.nb_closing.proofs.SitesOf.{sites_of, footing_told}

pub nth_map : {A B : Type 0} (f : A → B) (xs : List A) (v : ℕ) → nth (map f xs) v ≡ option_map f (nth xs v)
nth_map f xs zero = refl
nth_map f xs (suc i) = slice_get-map f xs i

-- each variable's site is its start's
pub site_map : (xs : List (Option Start)) (v : ℕ) → site_in (map site_of xs) v ≡ site_of (start_in xs v)
site_map xs v = ap (from_option idle_site (λ (x : Site). x)) (nth_map site_of xs v) ∙ go (nth xs v)
  where
    go : (o : Option (Option Start)) → from_option idle_site (λ (x : Site). x) (option_map site_of o) ≡ site_of (option_then o (λ s. s))
    go None = refl
    go (Some x) = refl

pub rests_on : (r : Reading) (s : Sheet) (xs : List (Option Start)) (sites : List Site) (v : ℕ) (f : Footing) → sites ≡ map site_of xs → f ≡ footing_at s (site_in sites) v
    → r.sheet ≡ s → r.starts ≡ xs → f ≡ footing r v
rests_on r s xs sites v f are is sheet starts =
    let here : (λ (u : ℕ). site_in sites u) ≡ sites_of r =
    fun_ext (λ u. ap (λ (l : List Site). site_in l u) are ∙ site_map xs u ∙ ap (λ (l : List (Option Start)). site_of (start_in l u)) (sym starts)) in
    is ∙ ap (λ (g : ℕ → Site). footing_at s g v) here ∙ ap (λ (t : Sheet). footing_at t (sites_of r) v) (sym sheet) ∙ footing_told r v
