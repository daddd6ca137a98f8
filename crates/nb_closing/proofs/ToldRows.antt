-- A wave that is told of the touched variables of a reading has its next step.
use Rattle.std.proofs.Common.{ℕ, ◌+◌, ◌-◌, ◌≡◌, ◌≤◌, ◌<◌, refl, sym, ◌∙◌, ap, Bool, true, false, not, ◌&&◌, ◌||◌, List, [], length, get_or, arith, Option, Some, None, inl, inr}
use Rattle.std.specs.Prelude.{slice_get, option_map}
use Rattle.std.specs.List.{list_any}
use Rattle.std.proofs.lemmas.Bool.{cases_Bool, false≢true, false_from_ne_true}
use Rattle.std.proofs.lemmas.Option.{none-some, slice_get-get_or}
use Rattle.nb_graph.specs.Needs.{has, Needs, at_once, through}
use Rattle.nb_graph.proofs.Reaches.{Within, needed_sound, needed_complete}
use Rattle.nb_sheet.specs.Lists.{numbers}
use Rattle.nb_resolve.specs.Names.{direct}
use Rattle.nb_wave.specs.declared.footing.Footing.{Footing as Numbered}
use Rattle.nb_wave.specs.declared.row.Row.{Row}
use Rattle.nb_wave.specs.Rules.{from_option as option_by, passes, needs_of, numbers as numbers_by, needed as needed_by, least}
use Rattle.nb_wave.specs.Rules as by
use Rattle.nb_wave.specs.Wave.{unput}
use Rattle.nb_wave.proofs.Spreads.{has_numbers}
use Rattle.nb_history.specs.Needs.{circular, needed}
use Rattle.nb_history.specs.Reading.{Reading, Start, Footing, start_of, is_idle}
use Rattle.nb_history.specs.Rules.{footing, wanted, leaving, is_behind, is_overtaken, is_pulling, pulls_on, is_held, due, may_start}
use Rattle.nb_history.specs.Serial.{least_var}
use Rattle.nb_history.proofs.Direct.{direct_within}
use Rattle.nb_history.proofs.Closing.{Shaped, range_has}
use Rattle.nb_runs.specs.Footings.{footing_of}
use Rattle.nb_closing.specs.Sites.{kept_of}
use Rattle.nb_closing.specs.Told.{IsTold}
use Rattle.nb_closing.proofs.SameFootings.{behind_same, overtaken_same}
use Rattle.nb_closing.proofs.Agreeing.{both_ways, any_same, first_same}
use Rattle.nb_closing.proofs.SitesOf.{sites_of, footing_told, pulling_same}
use Rattle.nb_closing.proofs.Quiets.{quiet_of, leaving_quiet, wanting_quiet, overtaken_quiet, pulling_quiet, due_quiet, starting_quiet}

-- v's row says what is so of it in the reading
abbrev pub IsToldOf : Reading → ℕ → Row → Type 0
IsToldOf r v row = IsTold r.sheet r.disposed (sites_of r) (kept_of (start_of r v)) v row

-- the rows of the touched variables do, and no other row says anything. The others are quiet, and need none of these
pub record Told (touched : ℕ → Bool) (r : Reading) (rows : List Row) : Type 0 where
  pub size : length rows ≡ 1025
  pub few : length r.sheet.rows ≤ 1024
  pub shaped : Shaped r
  pub inside : (v : ℕ) → touched v ≡ true → has (numbers r.sheet.rows) v ≡ true
  pub each : (v : ℕ) (row : Row) → touched v ≡ true → slice_get rows v ≡ Some row → IsToldOf r v row
  pub rest : (v : ℕ) (row : Row) → touched v ≡ false → slice_get rows v ≡ Some row → row ≡ unput
  pub quiet : (v : ℕ) → touched v ≡ false → quiet_of r v ≡ true
  pub users : (v u : ℕ) → has (direct r.sheet v) u ≡ true → touched u ≡ true → touched v ≡ true

-- ---- of one row

idle_same : (o : Option Start) (k : Option Numbered) → option_map footing_of k ≡ kept_of o → by.is_idle (record { wanted = true; later = true; present = record { place = 0; mark = 0; inputs = []; starts = []; renewals = [] }; needs = []; kept = k }) ≡ is_idle o
idle_same None None h = refl
idle_same None (Some k) h = cc
idle_same (Some s) None h = cc
idle_same (Some s) (Some k) h = refl

module _ (r : Reading) (v : ℕ) (row : Row) (told : IsToldOf r v row) where
  pub present_told : footing_of row.present ≡ footing r v
  present_told = told.present ∙ footing_told r v

  pub behind_told : by.is_behind row ≡ is_behind r v
  behind_told = behind_same row.present (footing r v) present_told told.marked (start_of r v) row.kept told.kept told.kept_marked

  pub overtaken_told : by.is_overtaken row ≡ is_overtaken r v
  overtaken_told = overtaken_same row.present (footing r v) present_told told.marked (start_of r v) row.kept told.kept told.kept_marked

  pub pulling_told : by.is_pulling row ≡ is_pulling r v
  pulling_told =
      ap (λ (b : Bool). row.later && not b) behind_told
      ∙ pulling_same (start_of r v) row.later (is_behind r v) told.later

  pub leaving_told : by.is_leaving row ≡ leaving r v
  leaving_told =
      ap (λ (b : Bool). not b && not (by.is_idle row)) told.wanted
      ∙ ap (λ (b : Bool). not (wanted r v) && not b) (idle_same (start_of r v) row.kept told.kept)

  pub wanting_told : by.wants_start row ≡ (wanted r v && is_behind r v)
  wanting_told =
      ap (λ (b : Bool). b && by.is_behind row) told.wanted
      ∙ ap (λ (b : Bool). wanted r v && b) behind_told

  pub circular_told : by.is_circular row ≡ circular r.sheet v
  circular_told = ap (λ (f : Footing). f.is_circular) told.present

-- ---- of the variables

pub none_there : (rows : List Row) (i : ℕ) → i < length rows → slice_get rows i ≡ None → ⊥
none_there rows i h k = none-some (get_or rows i unput) (sym k ∙ slice_get-get_or rows i unput h)

module _ (touched : ℕ → Bool) (r : Reading) (rows : List Row) (told : Told touched r rows) where
  -- a touched variable has a row
  row_there : (v : ℕ) → touched v ≡ true → slice_get rows v ≡ None → ⊥
  row_there v t e =
      let is : (1 ≤ v) × (v < 1 + length r.sheet.rows) = range_has 1 (length r.sheet.rows) v (told.inside v t) in
      none_there rows v (omega (arith, is.1, told.few, told.size)) e

  -- what isn't so of a quiet variable is so of touched ones alone
  pub only_touched : (f : ℕ → Bool) → ((v : ℕ) → quiet_of r v ≡ true → f v ≡ false) → (v : ℕ) → f v ≡ true → touched v ≡ true
  only_touched f still v h =
      elim (cases_Bool (touched v)) [ inl t ↦ t | inr other ↦ absurd (false≢true (sym (still v (told.quiet v other)) ∙ h)) ]

  -- a test of rows is one of variables
  agree : (test : Row → Bool) (f : ℕ → Bool) → test unput ≡ false → ((v : ℕ) (row : Row) → IsToldOf r v row → test row ≡ f v) → ((v : ℕ) → quiet_of r v ≡ true → f v ≡ false)
      → (v : ℕ) → passes test rows v ≡ f v
  agree test f none same still v =
      elim (cases_Bool (touched v)) [ inl t ↦ here t (slice_get rows v) refl | inr other ↦ nothing other (slice_get rows v) refl ∙ sym (still v (told.quiet v other)) ]
    where
      here : touched v ≡ true → (o : Option Row) → slice_get rows v ≡ o → passes test rows v ≡ f v
      here t (Some row) e = ap (option_by false test) e ∙ same v row (told.each v row t e)
      here t None e = absurd (row_there v t e)

      nothing : touched v ≡ false → (o : Option Row) → slice_get rows v ≡ o → passes test rows v ≡ false
      nothing other (Some row) e = ap (option_by false test) e ∙ ap test (told.rest v row other e) ∙ none
      nothing other None e = ap (option_by false test) e

  overtaken_all : (v : ℕ) → passes by.is_overtaken rows v ≡ is_overtaken r v
  overtaken_all = agree by.is_overtaken (is_overtaken r) refl (overtaken_told r) (overtaken_quiet r)

  pulling_all : (v : ℕ) → passes by.is_pulling rows v ≡ is_pulling r v
  pulling_all = agree by.is_pulling (is_pulling r) refl (pulling_told r) (pulling_quiet r)

  pub leaving_all : (v : ℕ) → by.leaving rows v ≡ leaving r v
  leaving_all = agree by.is_leaving (leaving r) refl (leaving_told r) (leaving_quiet r)

  wanting_all : (v : ℕ) → passes by.wants_start rows v ≡ (wanted r v && is_behind r v)
  wanting_all = agree by.wants_start (λ v. wanted r v && is_behind r v) refl (wanting_told r) (wanting_quiet r)

  circular_touched : (v : ℕ) → touched v ≡ true → passes by.is_circular rows v ≡ circular r.sheet v
  circular_touched v t = go (slice_get rows v) refl
    where
      go : (o : Option Row) → slice_get rows v ≡ o → passes by.is_circular rows v ≡ circular r.sheet v
      go (Some row) e = ap (option_by false by.is_circular) e ∙ circular_told r v row (told.each v row t e)
      go None e = absurd (row_there v t e)

  -- ---- what is needed

  needs_touched : (v : ℕ) → touched v ≡ true → needs_of rows v ≡ direct r.sheet v
  needs_touched v t = go (slice_get rows v) refl
    where
      go : (o : Option Row) → slice_get rows v ≡ o → needs_of rows v ≡ direct r.sheet v
      go (Some row) e = ap (option_by [] (λ (x : Row). x.needs)) e ∙ (told.each v row t e).needs
      go None e = absurd (row_there v t e)

  -- the rows say no more of needs than the sheet
  needs_there : (v u : ℕ) → has (needs_of rows v) u ≡ true → has (direct r.sheet v) u ≡ true
  needs_there v u h =
      elim (cases_Bool (touched v)) [
        | inl t ↦ ap (λ (l : List ℕ). has l u) (sym (needs_touched v t)) ∙ h
        | inr other ↦ absurd (false≢true (ap (λ (l : List ℕ). has l u) (sym (nothing other (slice_get rows v) refl)) ∙ h))
      ]
    where
      nothing : touched v ≡ false → (o : Option Row) → slice_get rows v ≡ o → needs_of rows v ≡ []
      nothing other (Some row) e = ap (option_by [] (λ (x : Row). x.needs)) e ∙ ap (λ (x : Row). x.needs) (told.rest v row other e)
      nothing other None e = ap (option_by [] (λ (x : Row). x.needs)) e

  to_sheet : {v u : ℕ} → Needs (needs_of rows) v u → Needs (direct r.sheet) v u
  to_sheet {v} {u} (at_once h) = at_once (needs_there v u h)
  to_sheet {v} {u} (through {w = w} n h) = through (to_sheet n) (needs_there w u h)

  -- and of what is touched no less
  to_rows : {v u : ℕ} → touched u ≡ true → Needs (direct r.sheet) v u → Needs (needs_of rows) v u
  to_rows {v} {u} t (at_once h) =
      let here : touched v ≡ true = told.users v u h t in at_once (ap (λ (l : List ℕ). has l u) (needs_touched v here) ∙ h)
  to_rows {v} {u} t (through {w = w} n h) =
      let here : touched w ≡ true = told.users w u h t in
      through (to_rows here n) (ap (λ (l : List ℕ). has l u) (needs_touched w here) ∙ h)

  -- all variables of the sheet are among those of the wave
  among : (v : ℕ) → has (numbers r.sheet.rows) v ≡ true → has (numbers_by rows) v ≡ true
  among v h =
      let t : (1 ≤ v) × (v < 1 + length r.sheet.rows) = range_has 1 (length r.sheet.rows) v h in
      has_numbers rows v t.0 (omega (arith, t.1, told.few, told.size))

  needs_among : Within (needs_of rows) (numbers_by rows)
  needs_among v u h = among u (direct_within r.sheet v u (needs_there v u h))

  needed_touched : (v u : ℕ) → touched u ≡ true → has (needed_by rows v) u ≡ has (needed r.sheet v) u
  needed_touched v u t =
      both_ways (has (needed_by rows v) u) (has (needed r.sheet v) u)
      (λ h. needed_complete (direct r.sheet) (numbers r.sheet.rows) (direct_within r.sheet) (to_sheet (needed_sound (needs_of rows) (numbers_by rows) v u h)))
      (λ h. needed_complete (needs_of rows) (numbers_by rows) needs_among (to_rows t (needed_sound (direct r.sheet) (numbers r.sheet.rows) v u h)))

  -- ---- what is held and due

  pulls_all : by.pulls_on rows ≡ pulls_on r
  pulls_all =
      any_same (passes by.is_pulling rows) (is_pulling r) (numbers_by rows) (numbers r.sheet.rows) pulling_all
      (λ u h. let t : has (numbers r.sheet.rows) u ≡ true = told.inside u (only_touched (is_pulling r) (pulling_quiet r) u h) in among u t ∙ sym t)

  held_all : (v : ℕ) → by.held rows v ≡ is_held r v
  held_all v =
      ap (λ (b : Bool). b && (passes by.is_overtaken rows v || list_any (passes by.is_overtaken rows) (needed_by rows v))) pulls_all
      ∙ ap (λ (b : Bool). pulls_on r && (b || list_any (passes by.is_overtaken rows) (needed_by rows v))) (overtaken_all v)
      ∙ ap (λ (b : Bool). pulls_on r && (is_overtaken r v || b))
      (any_same (passes by.is_overtaken rows) (is_overtaken r) (needed_by rows v) (needed r.sheet v) overtaken_all
      (λ u h. needed_touched v u (only_touched (is_overtaken r) (overtaken_quiet r) u h)))

  pub due_all : (v : ℕ) → by.due rows v ≡ due r v
  due_all v =
      ap (λ (b : Bool). b && not (by.held rows v)) (wanting_all v)
      ∙ ap (λ (b : Bool). wanted r v && is_behind r v && not b) (held_all v)

  -- what a touched variable may do, and what needs nothing that is due
  starts_same : (v : ℕ) → by.may_start rows v ≡ (due r v && (passes by.is_circular rows v || not (list_any (due r) (needed r.sheet v))))
  starts_same v =
      ap (λ (b : Bool). b && (passes by.is_circular rows v || not (list_any (by.due rows) (needed_by rows v)))) (due_all v)
      ∙ ap (λ (b : Bool). due r v && (passes by.is_circular rows v || not b))
      (any_same (by.due rows) (due r) (needed_by rows v) (needed r.sheet v) due_all (λ u h. needed_touched v u (only_touched (due r) (due_quiet r) u h)))

  pub may_start_all : (v : ℕ) → by.may_start rows v ≡ may_start r v
  may_start_all v =
      starts_same v
      ∙ elim (cases_Bool (touched v)) [
        | inl t ↦ ap (λ (b : Bool). due r v && (b || not (list_any (due r) (needed r.sheet v)))) (circular_touched v t)
        | inr other ↦
            let none : due r v ≡ false = due_quiet r v (told.quiet v other) in
            ap (λ (b : Bool). b && (passes by.is_circular rows v || not (list_any (due r) (needed r.sheet v)))) none
            ∙ sym (starting_quiet r v (told.quiet v other))
      ]

  -- ---- the least

  least_all : (test : List Row → ℕ → Bool) (f : ℕ → Bool) → ((v : ℕ) → test rows v ≡ f v) → ((v : ℕ) → quiet_of r v ≡ true → f v ≡ false) → least test rows ≡ least_var r f
  least_all test f same still =
      first_same (test rows) f 1 (length r.sheet.rows) (length rows - 1) (omega (arith, told.few, told.size)) same
      (λ u h. false_from_ne_true (f u) (λ k.
      let t : (1 ≤ u) × (u < 1 + length r.sheet.rows) = range_has 1 (length r.sheet.rows) u (told.inside u (only_touched f still u k)) in
      omega (arith, h, t.1)))

  pub least_leaving : least by.leaving rows ≡ least_var r (leaving r)
  least_leaving = least_all by.leaving (leaving r) leaving_all (leaving_quiet r)

  pub least_starting : least by.may_start rows ≡ least_var r (may_start r)
  least_starting = least_all by.may_start (may_start r) may_start_all (starting_quiet r)

  -- what leaves or starts is touched
  pub leaving_touched : (v : ℕ) → leaving r v ≡ true → touched v ≡ true
  leaving_touched = only_touched (leaving r) (leaving_quiet r)

  pub starting_touched : (v : ℕ) → may_start r v ≡ true → touched v ≡ true
  starting_touched = only_touched (may_start r) (starting_quiet r)
