-- A quiet variable neither leaves nor is due, overtaken or pulling, as long as its site and those of what it needs stay.
use Rattle.std.proofs.Common.{ℕ, zero, suc, ◌≡◌, ◌<◌, ◌+◌, ◌≤◌, ◌⊎◌, refl, sym, ◌∙◌, ap, subst, Bool, true, false, cond, not, ◌&&◌, ◌||◌, List, [], ◌∷◌, ◌++◌, map, length, arith, Option, Some, None, inl, inr}
use Rattle.std.specs.List.{list_any, filter, range_with_len}
use Rattle.std.proofs.lemmas.Bool.{cases_Bool, cases_lt, false_from_ne_true, and_parts, not-true}
use Rattle.std.proofs.lemmas.List.FromFn.{filter_of_map_range_with_len_more}
use Rattle.std.proofs.lemmas.Option.{slice_get_past, slice_get_cases}
use mathlib.Core.Path.{fun_ext}
use Rattle.nb_graph.specs.Needs.{has}
use Rattle.nb_graph.proofs.Reaches.{filter_has}
use Rattle.nb_sheet.specs.Lists.{nth, numbers, from_option, option_then}
use Rattle.nb_sheet.specs.Sheet.{Sheet}
use Rattle.nb_resolve.specs.Names.{direct}
use Rattle.nb_history.specs.Needs.{circular, needed, is_used}
use Rattle.nb_history.specs.Reading.{Reading, Start, Footing, start_of, is_idle}
use Rattle.nb_history.specs.Lists.{same_numbers}
use Rattle.nb_history.specs.Rules.{same_base, same_footing, place_of, footing, wanted, leaving, is_behind, is_overtaken, is_pulling, is_held, due, may_start}
use Rattle.nb_history.proofs.Closing.{Shaped, wanted_has, range_has, has_number, footing_agree}
use Rattle.nb_runs.specs.Starts.{start_in}
use Rattle.nb_closing.specs.declared.site.Site.{Site}
use Rattle.nb_closing.specs.declared.site.Moment.{Moment}
use Rattle.nb_closing.specs.Sites.{site_of, site_in, kept_of, IsScene}
use Rattle.nb_closing.specs.Ties.{Ties, ties_of}
use Rattle.nb_closing.specs.Told.{footing_at}
use Rattle.nb_closing.specs.Quiet.{footing_by, stands, is_quiet, quiet_at, loud_vars}
use Rattle.nb_closing.proofs.SitesOf.{sites_of, footing_told, pulling_same}

-- whether v is quiet in the reading
abbrev pub quiet_of : Reading → ℕ → Bool
quiet_of r v = is_quiet r.sheet r.disposed (sites_of r) (kept_of (start_of r v)) v

-- ---- what stands

leaving_stands : (w : Bool) (f : Footing) (o : Option Start) → stands w f (kept_of o) ≡ true → (not w && not (is_idle o)) ≡ false
leaving_stands w f None h = let e : w ≡ false = not-true w h in ap (λ (b : Bool). not b && false) e
leaving_stands w f (Some s) h = let e : w ≡ true = (and_parts w (same_footing f s.kept) h).0 in ap (λ (b : Bool). not b && true) e

wanting_stands : (w : Bool) (f : Footing) (o : Option Start) → stands w f (kept_of o) ≡ true → (w && from_option true (λ (s : Start). not (same_footing f s.kept)) o) ≡ false
wanting_stands w f None h = let e : w ≡ false = not-true w h in ap (λ (b : Bool). b && true) e
wanting_stands w f (Some s) h =
    let t : (w ≡ true) × (same_footing f s.kept ≡ true) = and_parts w (same_footing f s.kept) h in
    ap (λ (b : Bool). b && not (same_footing f s.kept)) t.0 ∙ ap not t.1

overtaken_stands : (w : Bool) (f : Footing) (o : Option Start) → stands w f (kept_of o) ≡ true
    → from_option false (λ (s : Start). same_base f s.kept && not (same_footing f s.kept)) o ≡ false
overtaken_stands w f None h = refl
overtaken_stands w f (Some s) h =
    let same : same_footing f s.kept ≡ true = (and_parts w (same_footing f s.kept) h).1 in
    let base : same_base f s.kept ≡ true = (and_parts (same_base f s.kept) (same_numbers f.renewals (Footing.renewals s.kept)) same).0 in
    ap (λ (b : Bool). b && not (same_footing f s.kept)) base ∙ ap not same

-- ---- what is quiet

module _ (r : Reading) (v : ℕ) (quiet : quiet_of r v ≡ true) where
  not_later : Site.later (sites_of r v) ≡ false
  not_later =
      not-true (Site.later (sites_of r v))
      (and_parts (not (Site.later (sites_of r v))) (stands (wanted r v) (footing_at r.sheet (sites_of r) v) (kept_of (start_of r v))) quiet).0

  stands_now : stands (wanted r v) (footing r v) (kept_of (start_of r v)) ≡ true
  stands_now =
      ap (λ (f : Footing). stands (wanted r v) f (kept_of (start_of r v))) (sym (footing_told r v))
      ∙ (and_parts (not (Site.later (sites_of r v))) (stands (wanted r v) (footing_at r.sheet (sites_of r) v) (kept_of (start_of r v))) quiet).1

  pub leaving_quiet : leaving r v ≡ false
  leaving_quiet = leaving_stands (wanted r v) (footing r v) (start_of r v) stands_now

  pub wanting_quiet : (wanted r v && is_behind r v) ≡ false
  wanting_quiet = wanting_stands (wanted r v) (footing r v) (start_of r v) stands_now

  pub overtaken_quiet : is_overtaken r v ≡ false
  overtaken_quiet = overtaken_stands (wanted r v) (footing r v) (start_of r v) stands_now

  pub pulling_quiet : is_pulling r v ≡ false
  pulling_quiet =
      sym (pulling_same (start_of r v) (Site.later (sites_of r v)) (is_behind r v) refl) ∙ ap (λ (b : Bool). b && not (is_behind r v)) not_later

  pub due_quiet : due r v ≡ false
  due_quiet = ap (λ (b : Bool). b && not (is_held r v)) wanting_quiet

  pub starting_quiet : may_start r v ≡ false
  starting_quiet = ap (λ (b : Bool). b && (circular r.sheet v || not (list_any (due r) (needed r.sheet v)))) due_quiet

-- it stays so while its site and those of what it needs stay
pub quiet_same : (s : Sheet) (disposed : Bool) (old new : ℕ → Site) (a b : Option Footing) (v : ℕ) → old v ≡ new v → ((u : ℕ) → has (direct s v) u ≡ true → old u ≡ new u) → a ≡ b
    → is_quiet s disposed old a v ≡ is_quiet s disposed new b v
quiet_same s disposed old new a b v own same kept =
    let w = not disposed && is_used s v in
    let footings : footing_at s old v ≡ footing_at s new v =
    footing_agree s (λ u. Site.number (old u)) (λ u. Site.number (new u)) (λ u. Site.renewal (old u)) (λ u. Site.renewal (new u)) v
    (λ _ x h. ap (λ (y : Site). y.number) (same x h))
    (λ _ x h. ap (λ (y : Site). y.renewal) (same x h)) in
    ap (λ (x : Site). not x.later && stands w (footing_at s old v) a) own
    ∙ ap (λ (f : Footing). not (Site.later (new v)) && stands w f a) footings
    ∙ ap (λ (o : Option Footing). not (Site.later (new v)) && stands w (footing_at s new v) o) kept

-- ---- past the variables

-- a number has a row, or none
pub number_cases : (v n : ℕ) → ((1 ≤ v) × (v ≤ n)) ⊎ ((v ≡ 0) ⊎ (n < v))
number_cases zero n = inr (inl refl)
number_cases (suc i) n = elim (cases_lt n (suc i)) [ inl past ↦ inr (inr past) | inr inside ↦ inl (omega arith, inside) ]

-- past the variables there is none
pub nth_past : {A : Type 0} (xs : List A) (v : ℕ) → (v ≡ 0) ⊎ (length xs < v) → nth xs v ≡ None
nth_past xs zero h = refl
nth_past xs (suc i) (inl e) = absurd (omega (arith, e))
nth_past xs (suc i) (inr past) = slice_get_past xs i (omega (arith, past))

number_there : {A : Type 0} (xs : List A) (v : ℕ) → 1 ≤ v → v ≤ length xs → has (numbers xs) v ≡ true
number_there xs zero low high = absurd (omega (arith, low))
number_there xs (suc i) low high =
    elim (slice_get_cases xs i).1 [ inl t ↦ has_number xs (suc i) t.0 t.2 | inr t ↦ absurd (omega (arith, t.0, high)) ]

module _ (r : Reading) (shaped : Shaped r) (v : ℕ) (past : (v ≡ 0) ⊎ (length r.sheet.rows < v)) where
  start_none : start_of r v ≡ None
  start_none = ap (λ (o : Option (Option Start)). option_then o (λ s. s)) (nth_past r.starts v (subst (λ (n : ℕ). (v ≡ 0) ⊎ (n < v)) (sym shaped) past))

  unwanted : wanted r v ≡ false
  unwanted =
      false_from_ne_true (wanted r v) (λ h.
      let t : (1 ≤ v) × (v < 1 + length r.sheet.rows) = range_has 1 (length r.sheet.rows) v (wanted_has r v h) in
      elim past [ inl e ↦ omega (arith, e, t.0) | inr more ↦ omega (arith, more, t.1) ])

  -- what has no row is quiet
  pub quiet_past : quiet_of r v ≡ true
  quiet_past =
      ap (λ (o : Option Start). not (Site.later (site_of o)) && stands (wanted r v) (footing_at r.sheet (sites_of r) v) (kept_of o)) start_none
      ∙ ap not unwanted

-- ---- a reading of the scene

module _ (r : Reading) (s : Sheet) (xs : List (Option Start)) (m : Moment) (scene : IsScene r s xs m) where
  pub quiet_scene : (v : ℕ) → quiet_at s xs m v ≡ quiet_of r v
  quiet_scene v =
      ap (λ (x : Sheet). is_quiet x m.disposed (site_in m.sites.items) (kept_of (start_in xs v)) v) (sym scene.sheet)
      ∙ ap (λ (b : Bool). is_quiet r.sheet b (site_in m.sites.items) (kept_of (start_in xs v)) v) (sym scene.disposed)
      ∙ ap (λ (f : ℕ → Site). is_quiet r.sheet r.disposed f (kept_of (start_in xs v)) v) (sym (fun_ext scene.sites))
      ∙ ap (λ (o : Option Footing). is_quiet r.sheet r.disposed (sites_of r) o v) (sym (scene.kept v))

  -- what isn't loud is quiet
  pub quiet_there : (v : ℕ) → (has (loud_vars s xs m) v ≡ true → ⊥) → quiet_of r v ≡ true
  quiet_there v still =
      elim (number_cases v (length r.sheet.rows)) [
        | inr past ↦ quiet_past r scene.shaped v past
        | inl is ↦ elim (cases_Bool (quiet_at s xs m v)) [
          | inl quiet ↦ sym (quiet_scene v) ∙ quiet
          | inr loud ↦
              let there : has (numbers s.rows) v ≡ true = ap (λ (x : Sheet). has (numbers x.rows) v) (sym scene.sheet) ∙ number_there r.sheet.rows v is.0 is.1 in
              absurd (still (filter_has (λ v. not (quiet_at s xs m v)) (numbers s.rows) v there (ap not loud)))
        ]
      ]

-- ---- as they are found

-- where v has a start, whether it is quiet is read off its ties and what its start rests on
pub quiet_started : (s : Sheet) (xs : List (Option Start)) (m : Moment) (v : ℕ) (t : Ties) (start : Start) (k : Footing) (place : ℕ) (rests : Bool) → t ≡ ties_of s v → Site.later (site_in m.sites.items v) ≡ false
    → start_in xs v ≡ Some start → (not m.disposed && t.is_used) ≡ true → k ≡ start.kept → place ≡ place_of s v → rests ≡ same_footing (footing_by t (site_in m.sites.items) place) k
    → rests ≡ quiet_at s xs m v
quiet_started s xs m v t start k place rests tied later at wants kept placed e =
    let site = site_in m.sites.items in
    let w = not m.disposed && is_used s v in
    let now = footing_at s site v in
    let wanted_now : w ≡ true = ap (λ (x : Ties). not m.disposed && x.is_used) (sym tied) ∙ wants in
    let whole : rests ≡ same_footing now start.kept =
    e
    ∙ ap (λ (x : Ties). same_footing (footing_by x site place) k) tied
    ∙ ap (λ (p : ℕ). same_footing (footing_by (ties_of s v) site p) k) placed
    ∙ ap (same_footing now) kept in
    whole
    ∙ sym (ap (λ (b : Bool). not b && stands w now (kept_of (start_in xs v))) later
    ∙ ap (λ (o : Option Start). stands w now (kept_of o)) at
    ∙ ap (λ (b : Bool). b && same_footing now start.kept) wanted_now)

same_all : (xs : List ℕ) → map (λ x. x) xs ≡ xs
same_all [] = refl
same_all (x ∷ xs) = ap (λ l. x ∷ l) (same_all xs)

-- one more number
pub found_more : (p : ℕ → Bool) (k : ℕ) → filter p (range_with_len 1 (k + 1)) ≡ filter p (range_with_len 1 k) ++ cond (p (k + 1)) ((k + 1) ∷ []) []
found_more p k =
    ap (filter p) (sym (same_all (range_with_len 1 (k + 1))))
    ∙ filter_of_map_range_with_len_more p (λ x. x) 1 k (k + 1) (omega arith)
    ∙ ap (λ (l : List ℕ). filter p l ++ cond (p (k + 1)) ((k + 1) ∷ []) []) (same_all (range_with_len 1 k))
