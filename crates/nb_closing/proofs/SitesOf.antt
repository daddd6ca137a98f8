-- What a reading's footings have of its variables' sites.
use Rattle.std.proofs.Common.{ℕ, ◌≡◌, refl, ◌∙◌, ap, Bool, true, false, cond, not, ◌&&◌, [], map, Option, Some, None}
use Rattle.std.specs.Prelude.{nat_le}
use mathlib.Core.Path.{fun_ext}
use Rattle.nb_sheet.specs.Lists.{from_option}
use Rattle.nb_resolve.specs.Names.{inputs, direct, duplicate}
use Rattle.nb_history.specs.Needs.{circular}
use Rattle.nb_history.specs.Reading.{Reading, Start, start_of, number, renewal}
use Rattle.nb_history.specs.Rules.{place_of, input_code, footing}
use Rattle.nb_closing.specs.declared.site.Site.{Site}
use Rattle.nb_closing.specs.Sites.{site_of}
use Rattle.nb_closing.specs.Told.{footing_at}

-- each variable's site
abbrev pub sites_of : Reading → ℕ → Site
sites_of r u = site_of (start_of r u)

number_site : (o : Option Start) → Site.number (site_of o) ≡ from_option 0 (λ (s : Start). s.number) o
number_site None = refl
number_site (Some s) = refl

renewal_site : (o : Option Start) → Site.renewal (site_of o) ≡ from_option 0 (λ (s : Start). s.renewal) o
renewal_site None = refl
renewal_site (Some s) = refl

pub footing_told : (r : Reading) (v : ℕ) → footing_at r.sheet (sites_of r) v ≡ footing r v
footing_told r v =
    let s = r.sheet in
    let numbers_are : (λ (u : ℕ). Site.number (sites_of r u)) ≡ number r = fun_ext (λ u. number_site (start_of r u)) in
    let renewals_are : (λ (u : ℕ). Site.renewal (sites_of r u)) ≡ renewal r = fun_ext (λ u. renewal_site (start_of r u)) in
    ap (λ (f : ℕ → ℕ). record {
      place = place_of s v;
      is_duplicate = duplicate s v;
      is_circular = circular s v;
      inputs = map input_code (inputs s v);
      starts = cond (circular s v) [] (map f (direct s v));
      renewals = cond (circular s v) [] (map (λ (u : ℕ). Site.renewal (sites_of r u)) (direct s v));
    }) numbers_are
    ∙ ap (λ (f : ℕ → ℕ). record {
      place = place_of s v;
      is_duplicate = duplicate s v;
      is_circular = circular s v;
      inputs = map input_code (inputs s v);
      starts = cond (circular s v) [] (map (number r) (direct s v));
      renewals = cond (circular s v) [] (map f (direct s v));
    }) renewals_are

-- what is pulling runs at a later pull
pub pulling_same : (o : Option Start) (later behind : Bool) → later ≡ Site.later (site_of o)
    → (later && not behind) ≡ (from_option false (λ (s : Start). s.running) o && not behind && nat_le 2 (from_option 0 (λ (s : Start). s.pulls) o))
pulling_same None later behind h = ap (λ (b : Bool). b && not behind) h
pulling_same (Some s) later behind h = ap (λ (b : Bool). b && not behind) h ∙ turn s.running (nat_le 2 s.pulls) (not behind)
  where
    turn : (a b c : Bool) → ((a && b) && c) ≡ ((a && c) && b)
    turn true true c = go c
      where
        go : (c : Bool) → c ≡ (c && true)
        go true = refl
        go false = refl
    turn true false true = refl
    turn true false false = refl
    turn false b c = refl
