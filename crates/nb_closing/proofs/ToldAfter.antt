-- A wave that is told of the touched variables of a reading is told of them after a step, once it has made the step.
use Rattle.std.proofs.Common.{ℕ, ◌+◌, ◌≡◌, ◌≢◌, ◌<◌, refl, sym, ◌∙◌, ap, subst, Bool, true, false, cond, eqb, List, [], ◌∷◌, length, map, get_or, arith, Option, Some, None, inl, inr}
use Rattle.std.specs.Prelude.{slice_get, option_map, IfSome}
use Rattle.std.proofs.lemmas.Bool.{cases_eq, ne_eqb, eq-eqb, false≢true, false_from_ne_true}
use Rattle.std.proofs.lemmas.Option.{slice_get_within, slice_get-get_or}
use Rattle.nb_sheet.specs.Lists.{nth}
use Rattle.nb_sheet.specs.Sheet.{Sheet}
use Rattle.nb_sheet.specs.declared.row.VarRow.{VarRow}
use Rattle.nb_resolve.specs.Names.{inputs, direct, duplicate}
use Rattle.nb_wave.specs.declared.row.Row.{Row}
use Rattle.nb_wave.specs.Steps.{renumbered, resting, rested, ended, begun, stepped}
use Rattle.nb_wave.specs.Wave.{unput}
use Rattle.nb_wave.proofs.Stepped.{renumbered_none, Mild, mild_ended, mild_begun, length_stepped, get_stepped_same, get_stepped_other}
use Rattle.nb_value.specs.declared.value.Value.{Value}
use Rattle.nb_log.specs.declared.entry.Entry.TheVariants.{Pending, Left}
use Rattle.nb_log.specs.Printing.{entry_size}
use Rattle.nb_history.specs.Needs.{circular}
use Rattle.nb_history.specs.Reading.{Reading, Start, Footing, start_of}
use Rattle.nb_history.specs.Rules.{place_of, input_code, footing}
use Rattle.nb_history.specs.Log.{with_start, new_start, counted, after}
use Rattle.nb_history.proofs.Closing.{length_put, nth_as_long, number_has}
use Rattle.nb_history.proofs.StartsAfter.{start_put_other, start_put}
use Rattle.nb_runs.specs.Footings.{footing_of, IsMarked}
use Rattle.nb_closing.specs.declared.site.Site.{Site}
use Rattle.nb_closing.specs.Sites.{site_of, kept_of}
use Rattle.nb_closing.specs.Told.{footing_at}
use Rattle.nb_closing.proofs.SitesOf.{sites_of}
use Rattle.nb_closing.proofs.Quiets.{quiet_of, quiet_same}
use Rattle.nb_closing.proofs.ToldRows.{IsToldOf, Told, present_told}

-- ---- numbers of sites that change

-- where one part becomes n, the parts do
renumbered_map : (v n : ℕ) (f g : ℕ → ℕ) → ((u : ℕ) → g u ≡ cond (eqb u v) n (f u)) → (us : List ℕ) → renumbered v n us (map f us) ≡ map g us
renumbered_map v n f g h [] = refl
renumbered_map v n f g h (u ∷ us) =
    ap (λ (x : ℕ). x ∷ renumbered v n us (map f us)) (sym (h u)) ∙ ap (λ (l : List ℕ). g u ∷ l) (renumbered_map v n f g h us)

renumbered_cond : (v n : ℕ) (f g : ℕ → ℕ) → ((u : ℕ) → g u ≡ cond (eqb u v) n (f u)) → (us : List ℕ) (marked : Bool)
    → renumbered v n us (cond marked [] (map f us)) ≡ cond marked [] (map g us)
renumbered_cond v n f g h us true = renumbered_none v n us
renumbered_cond v n f g h us false = renumbered_map v n f g h us

-- what a footing becomes where v's start number and renewal become n, over these needs
abbrev moved : ℕ → ℕ → List ℕ → Footing → Footing
moved v n us g =
    record {
      place = g.place;
      is_duplicate = g.is_duplicate;
      is_circular = g.is_circular;
      inputs = g.inputs;
      starts = renumbered v n us g.starts;
      renewals = renumbered v n us g.renewals;
    }

module _ (s : Sheet) (v n : ℕ) (old new : ℕ → Site)
    (numbers_then : (u : ℕ) → Site.number (new u) ≡ cond (eqb u v) n (Site.number (old u)))
    (renewals_then : (u : ℕ) → Site.renewal (new u) ≡ cond (eqb u v) n (Site.renewal (old u))) where
  moved_at : (w : ℕ) → moved v n (direct s w) (footing_at s old w) ≡ footing_at s new w
  moved_at w =
      ap (λ (l : List ℕ). record {
        place = place_of s w;
        is_duplicate = duplicate s w;
        is_circular = circular s w;
        inputs = map input_code (inputs s w);
        starts = l;
        renewals = renumbered v n (direct s w) (cond (circular s w) [] (map (λ (u : ℕ). Site.renewal (old u)) (direct s w)));
      }) (renumbered_cond v n (λ u. Site.number (old u)) (λ u. Site.number (new u)) numbers_then (direct s w) (circular s w))
      ∙ ap (λ (l : List ℕ). record {
        place = place_of s w;
        is_duplicate = duplicate s w;
        is_circular = circular s w;
        inputs = map input_code (inputs s w);
        starts = cond (circular s w) [] (map (λ (u : ℕ). Site.number (new u)) (direct s w));
        renewals = l;
      }) (renumbered_cond v n (λ u. Site.renewal (old u)) (λ u. Site.renewal (new u)) renewals_then (direct s w) (circular s w))

  pub resting_told : (w : ℕ) (row : Row) → row.needs ≡ direct s w → footing_of row.present ≡ footing_at s old w → footing_of (resting v n row) ≡ footing_at s new w
  resting_told w row needs e =
      ap (λ (us : List ℕ). moved v n us (footing_of row.present)) needs
      ∙ ap (moved v n (direct s w)) e
      ∙ moved_at w

-- ---- one start is changed

-- what the change of a row says of the start that v has then
pub record IsChange (r : Reading) (v n : ℕ) (f : Row → Row) (x : Option Start) : Type 0 where
  pub mild : Mild f
  pub number : Site.number (site_of x) ≡ n
  pub renewal : Site.renewal (site_of x) ≡ n
  pub later : (row : Row) → Row.later (f row) ≡ Site.later (site_of x)
  pub kept : (row : Row) → IsToldOf r v row → option_map footing_of (Row.kept (f row)) ≡ kept_of x
  pub marked : (row : Row) → IsToldOf r v row → IfSome (Row.kept (f row)) IsMarked

-- the reading where v's start is x, counted on
abbrev pub with_one : Reading → ℕ → Option Start → ℕ → Reading
with_one r v x size = counted (with_start r v x) size

module _ (touched : ℕ → Bool) (r : Reading) (rows : List Row) (told : Told touched r rows) (v n size : ℕ) (here : touched v ≡ true) (f : Row → Row) (x : Option Start) (change : IsChange r v n f x) where
  start_itself : start_of (with_one r v x size) v ≡ x
  start_itself =
      let row : (y : VarRow) × (nth r.sheet.rows v ≡ Some y) = number_has r.sheet.rows v (told.inside v here) in
      let o : (y : Option Start) × (nth r.starts v ≡ Some y) = nth_as_long r.sheet.rows r.starts v row.0 told.shaped row.1 in
      start_put r.starts v x o.0 o.1

  start_else : (u : ℕ) → v ≢ u → start_of (with_one r v x size) u ≡ start_of r u
  start_else u other = start_put_other r.starts v u x other

  part_then : (part : Site → ℕ) → part (site_of x) ≡ n → (u : ℕ) → part (sites_of (with_one r v x size) u) ≡ cond (eqb u v) n (part (sites_of r u))
  part_then part e u =
      elim (cases_eq v u) [
        | inl same ↦
            let test : eqb u v ≡ true = eq-eqb u v (sym same) in
            ap (λ (y : ℕ). part (sites_of (with_one r v x size) y)) (sym same)
            ∙ ap (λ (o : Option Start). part (site_of o)) start_itself
            ∙ e
            ∙ sym (ap (λ (b : Bool). cond b n (part (sites_of r u))) test)
        | inr other ↦
            let test : eqb u v ≡ false = ne_eqb u v (λ k. other (sym k)) in
            ap (λ (o : Option Start). part (site_of o)) (start_else u other)
            ∙ sym (ap (λ (b : Bool). cond b n (part (sites_of r u))) test)
      ]

  resting_then : (w : ℕ) (row : Row) → row.needs ≡ direct r.sheet w → footing_of row.present ≡ footing_at r.sheet (sites_of r) w
      → footing_of (resting v n row) ≡ footing_at r.sheet (sites_of (with_one r v x size)) w
  resting_then =
      resting_told r.sheet v n (sites_of r) (sites_of (with_one r v x size)) (part_then (λ s. s.number) change.number) (part_then (λ s. s.renewal) change.renewal)

  told_itself : (row : Row) → IsToldOf r v row → IsToldOf (with_one r v x size) v (rested v n (f row))
  told_itself row is =
      record {
        wanted = change.mild.wanted row ∙ is.wanted;
        later = change.later row ∙ sym (ap (λ (o : Option Start). Site.later (site_of o)) start_itself);
        present = resting_then v (f row) (change.mild.needs row ∙ is.needs) (ap footing_of (change.mild.present row) ∙ is.present);
        marked = subst IsMarked (sym (change.mild.present row)) is.marked;
        needs = change.mild.needs row ∙ is.needs;
        kept = change.kept row is ∙ sym (ap kept_of start_itself);
        kept_marked = change.marked row is;
      }

  told_other : (w : ℕ) → v ≢ w → (row : Row) → IsToldOf r w row → IsToldOf (with_one r v x size) w (rested v n row)
  told_other w other row is =
      record {
        wanted = is.wanted;
        later = is.later ∙ sym (ap (λ (o : Option Start). Site.later (site_of o)) (start_else w other));
        present = resting_then w row is.needs is.present;
        marked = is.marked;
        needs = is.needs;
        kept = is.kept ∙ sym (ap kept_of (start_else w other));
        kept_marked = is.kept_marked;
      }

  -- a variable that isn't touched is another one
  still_other : (w : ℕ) → touched w ≡ false → v ≢ w
  still_other w other e = false≢true (sym other ∙ (ap touched (sym e) ∙ here))

  quiet_then : (w : ℕ) → touched w ≡ false → quiet_of (with_one r v x size) w ≡ true
  quiet_then w other =
      let same : (u : ℕ) → touched u ≡ false → sites_of r u ≡ sites_of (with_one r v x size) u = λ u k. ap site_of (sym (start_else u (still_other u k))) in
      sym (quiet_same r.sheet r.disposed (sites_of r) (sites_of (with_one r v x size)) (kept_of (start_of r w)) (kept_of (start_of (with_one r v x size) w)) w (same w other)
      (λ u h. same u (false_from_ne_true (touched u) (λ t. false≢true (sym other ∙ told.users w u h t))))
      (ap kept_of (sym (start_else w (still_other w other)))))
      ∙ told.quiet w other

  pub told_changed : Told touched (with_one r v x size) (stepped f v n rows)
  told_changed =
      record {
        size = length_stepped f change.mild v n rows ∙ told.size;
        few = told.few;
        shaped = length_put r.starts v x ∙ told.shaped;
        inside = told.inside;
        each = λ w new t at. row_then w new t at (old_at w new at);
        rest = λ w new other at. rest_then w new other at (old_at w new at);
        quiet = quiet_then;
        users = told.users;
      }
    where
      old_at : (w : ℕ) (new : Row) → slice_get (stepped f v n rows) w ≡ Some new → (row : Row) × (slice_get rows w ≡ Some row)
      old_at w new at =
          let inside : w < length rows = omega (arith, slice_get_within (stepped f v n rows) w new at, length_stepped f change.mild v n rows) in
          (get_or rows w new, slice_get-get_or rows w new inside)

      row_then : (w : ℕ) (new : Row) → touched w ≡ true → slice_get (stepped f v n rows) w ≡ Some new → (row : Row) × (slice_get rows w ≡ Some row) → IsToldOf (with_one r v x size) w new
      row_then w new t at old =
          elim (cases_eq v w) [
            | inl same ↦
                let old_row : slice_get rows v ≡ Some old.0 = ap (slice_get rows) same ∙ old.1 in
                let there : slice_get (stepped f v n rows) v ≡ Some (rested v n (f old.0)) = get_stepped_same f change.mild v n rows old.0 old_row in
                let new_at : slice_get (stepped f v n rows) v ≡ Some new = ap (slice_get (stepped f v n rows)) same ∙ at in
                let e : rested v n (f old.0) ≡ new = cc in
                let is : IsToldOf (with_one r v x size) v new = subst (IsToldOf (with_one r v x size) v) e (told_itself old.0 (told.each v old.0 here old_row)) in
                subst (λ (y : ℕ). IsToldOf (with_one r v x size) y new) same is
            | inr other ↦
                let there : slice_get (stepped f v n rows) w ≡ Some (rested v n old.0) = get_stepped_other f change.mild v n rows w old.0 other old.1 in
                let e : rested v n old.0 ≡ new = cc in
                subst (IsToldOf (with_one r v x size) w) e (told_other w other old.0 (told.each w old.0 t old.1))
          ]

      rest_then : (w : ℕ) (new : Row) → touched w ≡ false → slice_get (stepped f v n rows) w ≡ Some new → (row : Row) × (slice_get rows w ≡ Some row) → new ≡ unput
      rest_then w new other at old =
          let there : slice_get (stepped f v n rows) w ≡ Some (rested v n old.0) = get_stepped_other f change.mild v n rows w old.0 (still_other w other) old.1 in
          let e : new ≡ rested v n old.0 = cc in
          e ∙ ap (rested v n) (told.rest w old.0 other old.1)

-- ---- the steps

module _ (touched : ℕ → Bool) (r : Reading) (rows : List Row) (told : Told touched r rows) (v : ℕ) (d : List Value) (here : touched v ≡ true) where
  pub told_pending : (place : ℕ) → place ≡ r.entries + 1 → Told touched (after r (Pending v d)) (stepped begun v place rows)
  told_pending place at =
      subst (λ (p : ℕ). Told touched (after r (Pending v d)) (stepped begun v p rows)) (sym at)
      (told_changed touched r rows told v (r.entries + 1) (entry_size (Pending v d)) here begun (Some (new_start (r.entries + 1) (footing r v)))
      (record {
        mild = mild_begun;
        number = refl;
        renewal = refl;
        later = λ row. refl;
        kept = λ row is. ap (λ (f : Footing). Some f) (present_told r v row is);
        marked = λ row is. is.marked;
      }))

  pub told_left : Told touched (after r (Left v d)) (stepped ended v 0 rows)
  told_left =
      told_changed touched r rows told v 0 (entry_size (Left v d)) here ended None
      (record { mild = mild_ended; number = refl; renewal = refl; later = λ row. refl; kept = λ row is. refl; marked = λ row is. tt })
