-- Rows that are told of the touched variables of a sheet are sound, and told of them in each reading of the scene.
use Rattle.std.proofs.Common.{ℕ, ◌+◌, ◌≡◌, ◌≢◌, ◌≤◌, ◌<◌, ◌⊎◌, refl, sym, ◌∙◌, ap, subst, Bool, true, false, cond, not, eqb, List, [], length, map, arith, Option, Some, None, inl, inr}
use Rattle.std.specs.Prelude.{slice_get}
use Rattle.std.proofs.lemmas.Bool.{cases_Bool, false≢true, eqb-true, eq-eqb}
use mathlib.Core.Path.{fun_ext}
use Rattle.nb_graph.specs.Needs.{has, Needs, at_once, through}
use Rattle.nb_graph.proofs.Reaches.{needed_complete, has_filter, Needs_trans}
use Rattle.nb_sheet.specs.Lists.{nth, numbers}
use Rattle.nb_sheet.specs.Sheet.{Sheet}
use Rattle.nb_sheet.specs.declared.row.VarRow.{VarRow}
use Rattle.nb_resolve.specs.Names.{direct, duplicate}
use Rattle.nb_wave.specs.declared.footing.Footing.{Footing as Numbered}
use Rattle.nb_wave.specs.declared.row.Row.{Row}
use Rattle.nb_wave.specs.Marks.{marked}
use Rattle.nb_wave.specs.Rules.{from_option as option_by, needs_of, IsSound}
use Rattle.nb_wave.specs.Wave.{unput}
use Rattle.nb_history.specs.Needs.{circular}
use Rattle.nb_history.specs.Reading.{Reading, Start, Footing, start_of}
use Rattle.nb_history.proofs.Direct.{direct_within}
use Rattle.nb_history.proofs.Closing.{range_has, has_number}
use Rattle.nb_runs.specs.Starts.{start_in}
use Rattle.nb_closing.specs.declared.site.Site.{Site}
use Rattle.nb_closing.specs.declared.site.Moment.{Moment}
use Rattle.nb_closing.specs.Quiet.{quiet_at, loud_vars}
use Rattle.nb_closing.specs.Sites.{site_in, kept_of, IsScene}
use Rattle.nb_closing.specs.Told.{IsTold, AreTold}
use Rattle.nb_closing.specs.Touched.{AreTouched}
use Rattle.nb_closing.proofs.Duplicates.{duplicate_direct, nothing_direct}
use Rattle.nb_closing.proofs.SitesOf.{sites_of}
use Rattle.nb_closing.proofs.Quiets.{number_cases, quiet_there}
use Rattle.nb_closing.proofs.ToldRows.{IsToldOf, Told}

-- ---- a mark has neither starts nor renewals

module _ (s : Sheet) (disposed : Bool) (site : ℕ → Site) (start : Option Footing) (v : ℕ) (row : Row) (told : IsTold s disposed site start v row) where
  is_circular : eqb (Numbered.mark row.present) 2 ≡ circular s v
  is_circular = ap (λ (f : Footing). f.is_circular) told.present

  is_duplicate : eqb (Numbered.mark row.present) 1 ≡ duplicate s v
  is_duplicate = ap (λ (f : Footing). f.is_duplicate) told.present

  marked_none : (f : ℕ → ℕ) → Numbered.mark row.present ≢ 0 → cond (circular s v) [] (map f (direct s v)) ≡ []
  marked_none f mark =
      elim (cases_Bool (circular s v)) [
        | inl c ↦ ap (λ (b : Bool). cond b [] (map f (direct s v))) c
        | inr c ↦
            let other : Numbered.mark row.present ≢ 2 = λ e. false≢true (sym c ∙ (sym is_circular ∙ eq-eqb (Numbered.mark row.present) 2 e)) in
            let one : Numbered.mark row.present ≡ 1 = omega (arith, told.marked, mark, other) in
            let twice : duplicate s v ≡ true = sym is_duplicate ∙ eq-eqb (Numbered.mark row.present) 1 one in
            ap (λ (b : Bool). cond b [] (map f (direct s v))) c ∙ ap (map f) (duplicate_direct s v twice)
      ]

  pub none_start : Numbered.mark row.present ≢ 0 → Numbered.starts row.present ≡ []
  none_start mark = ap (λ (f : Footing). f.starts) told.present ∙ marked_none (λ u. Site.number (site u)) mark

  pub none_renewed : Numbered.mark row.present ≢ 0 → Numbered.renewals row.present ≡ []
  none_renewed mark = ap (λ (f : Footing). f.renewals) told.present ∙ marked_none (λ u. Site.renewal (site u)) mark

-- ---- the marked variables of a sheet are told

module _ (s : Sheet) (xs : List (Option Start)) (m : Moment) (marks : List Bool) (rows : List Row) (told : AreTold s xs m marks (length s.rows) rows) where
  -- v's row is told, or was never put
  row_cases : (v : ℕ) (row : Row) → slice_get rows v ≡ Some row → IsTold s m.disposed (site_in m.sites.items) (kept_of (start_in xs v)) v row ⊎ (row ≡ unput)
  row_cases v row at =
      elim (number_cases v (length s.rows)) [
        | inl is ↦ elim (cases_Bool (marked marks v)) [
          | inl here ↦ inl (told.told v row is.0 is.1 here at)
          | inr other ↦ inr (told.rest v row (inr (inr other)) at)
        ]
        | inr past ↦ elim past [ inl e ↦ inr (told.rest v row (inl e) at) | inr more ↦ inr (told.rest v row (inr (inl more)) at) ]
      ]

  needs_there : (v u : ℕ) → has (needs_of rows v) u ≡ true → has (direct s v) u ≡ true
  needs_there v u h = go (slice_get rows v) refl
    where
      go : (o : Option Row) → slice_get rows v ≡ o → has (direct s v) u ≡ true
      go None e = absurd (false≢true (ap (λ (o : Option Row). has (option_by [] (λ (x : Row). x.needs) o) u) (sym e) ∙ h))
      go (Some row) e =
          let there : has row.needs u ≡ true = ap (λ (o : Option Row). has (option_by [] (λ (x : Row). x.needs) o) u) (sym e) ∙ h in
          elim (row_cases v row e) [
            | inl is ↦ ap (λ (l : List ℕ). has l u) (sym is.needs) ∙ there
            | inr none ↦ absurd (false≢true (ap (λ (x : Row). has x.needs u) (sym none) ∙ there))
          ]

  to_sheet : {v u : ℕ} → Needs (needs_of rows) v u → Needs (direct s) v u
  to_sheet {v} {u} (at_once h) = at_once (needs_there v u h)
  to_sheet {v} {u} (through {w = w} n h) = through (to_sheet n) (needs_there w u h)

  itself : (v : ℕ) → Needs (needs_of rows) v v → circular s v ≡ true
  itself v n = needed_complete (direct s) (numbers s.rows) (direct_within s) (to_sheet n)

  pub sound_told : IsSound rows
  sound_told =
      record {
        acyclic = λ v row at wants mark n.
            elim (row_cases v row at) [
              | inl is ↦ mark (eqb-true (Numbered.mark row.present) 2 (is_circular s m.disposed (site_in m.sites.items) (kept_of (start_in xs v)) v row is ∙ itself v n))
              | inr none ↦ false≢true (sym (ap (λ (x : Row). x.wanted) none) ∙ wants)
            ];
        starts = λ v row at mark.
            elim (row_cases v row at) [
              | inl is ↦ none_start s m.disposed (site_in m.sites.items) (kept_of (start_in xs v)) v row is mark
              | inr none ↦ ap (λ (x : Row). Numbered.starts x.present) none
            ];
        renewals = λ v row at mark.
            elim (row_cases v row at) [
              | inl is ↦ none_renewed s m.disposed (site_in m.sites.items) (kept_of (start_in xs v)) v row is mark
              | inr none ↦ ap (λ (x : Row). Numbered.renewals x.present) none
            ];
      }

-- ---- what is touched

module _ (s : Sheet) (loud : List ℕ) (within : (v : ℕ) → has loud v ≡ true → has (numbers s.rows) v ≡ true) (marks : List Bool) (are : AreTouched s loud marks) where
  -- who needs anything is a variable
  needs_number : {v u : ℕ} → Needs (direct s) v u → has (numbers s.rows) v ≡ true
  needs_number {v} {u} (at_once h) = go (nth s.rows v) refl
    where
      go : (o : Option VarRow) → nth s.rows v ≡ o → has (numbers s.rows) v ≡ true
      go (Some row) e = has_number s.rows v row e
      go None e = absurd (false≢true (ap (λ (l : List ℕ). has l u) (sym (nothing_direct s v e)) ∙ h))
  needs_number {v} {u} (through n h) = needs_number n

  touched_inside : (v : ℕ) → marked marks v ≡ true → has (numbers s.rows) v ≡ true
  touched_inside v h = elim (are.only v h) [ inl own ↦ within v own | inr t ↦ needs_number t.2 ]

  -- what needs a touched variable is touched
  touched_users : (v u : ℕ) → has (direct s v) u ≡ true → marked marks u ≡ true → marked marks v ≡ true
  touched_users v u h t =
      let is : (1 ≤ v) × (v < 1 + length s.rows) = range_has 1 (length s.rows) v (needs_number (at_once h)) in
      are.each v (omega (arith, is.1))
      (elim (are.only u t) [
        | inl own ↦ inr (u, own, at_once h)
        | inr far ↦ inr (far.0, far.1, Needs_trans (direct s) [] (at_once h) far.2)
      ])

-- ---- a reading of the scene

module _ (r : Reading) (s : Sheet) (xs : List (Option Start)) (m : Moment) (scene : IsScene r s xs m) (marks : List Bool) (are : AreTouched s (loud_vars s xs m) marks) (rows : List Row) (few : length s.rows ≤ 1024)
    (told : AreTold s xs m marks (length s.rows) rows) where
  told_one : (v : ℕ) (row : Row) → IsTold s m.disposed (site_in m.sites.items) (kept_of (start_in xs v)) v row → IsToldOf r v row
  told_one v row t =
      subst (λ (x : Sheet). IsTold x r.disposed (sites_of r) (kept_of (start_of r v)) v row) (sym scene.sheet)
      (subst (λ (b : Bool). IsTold s b (sites_of r) (kept_of (start_of r v)) v row) (sym scene.disposed)
      (subst (λ (f : ℕ → Site). IsTold s m.disposed f (kept_of (start_of r v)) v row) (sym (fun_ext scene.sites))
      (subst (λ (o : Option Footing). IsTold s m.disposed (site_in m.sites.items) o v row) (sym (scene.kept v)) t)))

  size_is : length r.sheet.rows ≡ length s.rows
  size_is = ap (λ (x : Sheet). length x.rows) scene.sheet

  -- the loud ones are variables
  loud_within : (v : ℕ) → has (loud_vars s xs m) v ≡ true → has (numbers s.rows) v ≡ true
  loud_within v h = (has_filter (λ v. not (quiet_at s xs m v)) (numbers s.rows) v h).0

  inside : (v : ℕ) → marked marks v ≡ true → has (numbers s.rows) v ≡ true
  inside = touched_inside s (loud_vars s xs m) loud_within marks are

  in_range : (v : ℕ) → has (numbers s.rows) v ≡ true → (1 ≤ v) × (v ≤ length s.rows)
  in_range v h = let t : (1 ≤ v) × (v < 1 + length s.rows) = range_has 1 (length s.rows) v h in (t.0, omega (arith, t.1))

  still : (v : ℕ) → marked marks v ≡ false → has (loud_vars s xs m) v ≡ true → ⊥
  still v other h = false≢true (sym other ∙ are.each v (in_range v (loud_within v h)).1 (inl h))

  pub told_scene : Told (marked marks) r rows
  told_scene =
      record {
        size = told.size;
        few = omega (arith, few, size_is);
        shaped = scene.shaped;
        inside = λ v t. ap (λ (x : Sheet). has (numbers x.rows) v) scene.sheet ∙ inside v t;
        each = λ v row t at. let is : (1 ≤ v) × (v ≤ length s.rows) = in_range v (inside v t) in told_one v row (told.told v row is.0 is.1 t at);
        rest = λ v row other at. told.rest v row (inr (inr other)) at;
        quiet = λ v other. quiet_there r s xs m scene v (still v other);
        users = λ v u h t. touched_users s (loud_vars s xs m) loud_within marks are v u (ap (λ (x : Sheet). has (direct x v) u) (sym scene.sheet) ∙ h) t;
      }
