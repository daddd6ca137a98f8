-- The rows after a step: what it leaves as it was.
use Rattle.std.proofs.Common.{ℕ, zero, suc, ◌-◌, ◌≡◌, ◌≢◌, ◌<◌, ◌≤◌, refl, sym, ◌∙◌, ap, subst, Bool, true, false, inl, inr, eqb, List, [], ◌∷◌, length, map, arith, Option, Some, None}
use Rattle.std.specs.Prelude.{slice_get, option_map}
use Rattle.std.specs.List.{range_with_len}
use Rattle.std.proofs.lemmas.Bool.{false≢true, cases_eq, or_parts}
use Rattle.std.proofs.lemmas.List.{length-map}
use Rattle.std.proofs.lemmas.Option.{slice_get-map}
use mathlib.Core.Path.{fun_ext}
use Rattle.nb_graph.specs.Needs.{has, Needs, all_needed}
use Rattle.nb_wave.specs.declared.footing.Footing.{Footing}
use Rattle.nb_wave.specs.declared.row.Row.{Row}
use Rattle.nb_wave.specs.Rules.{from_option, is_wanted, passes, needs_of, numbers, needed, IsSound}
use Rattle.nb_wave.specs.Steps.{renumbered, resting, rested, ended, begun, changed, stepped}
use Rattle.nb_wave.specs.Wave.{IsRows}

-- ---- rows that were changed

pub get_changed_same : (f : Row → Row) (rows : List Row) (v : ℕ) (r : Row) → slice_get rows v ≡ Some r → slice_get (changed f v rows) v ≡ Some (f r)
get_changed_same f [] v r h = cc
get_changed_same f (x ∷ rows) zero r h = let e : x ≡ r = cc in ap (λ (y : Row). Some (f y)) e
get_changed_same f (x ∷ rows) (suc v) r h = get_changed_same f rows v r h

pub get_changed_other : (f : Row → Row) (rows : List Row) (v w : ℕ) → v ≢ w → slice_get (changed f v rows) w ≡ slice_get rows w
get_changed_other f [] v w h = refl
get_changed_other f (x ∷ rows) zero zero h = absurd (h refl)
get_changed_other f (x ∷ rows) zero (suc w) h = refl
get_changed_other f (x ∷ rows) (suc v) zero h = refl
get_changed_other f (x ∷ rows) (suc v) (suc w) h = get_changed_other f rows v w (λ e. h (ap suc e))

pub length_changed : (f : Row → Row) (v : ℕ) (rows : List Row) → length (changed f v rows) ≡ length rows
length_changed f v [] = refl
length_changed f zero (x ∷ rows) = refl
length_changed f (suc v) (x ∷ rows) = ap suc (length_changed f v rows)

-- what f leaves of each row it leaves of the rows
pub kept_changed : {A : Type 0} (d : A) (g : Row → A) (f : Row → Row) → ((r : Row) → g (f r) ≡ g r) → (v : ℕ) (rows : List Row) (w : ℕ) → from_option d g (slice_get (changed f v rows) w) ≡ from_option d g (slice_get rows w)
kept_changed d g f h v [] w = refl
kept_changed d g f h zero (x ∷ rows) zero = h x
kept_changed d g f h zero (x ∷ rows) (suc w) = refl
kept_changed d g f h (suc v) (x ∷ rows) zero = refl
kept_changed d g f h (suc v) (x ∷ rows) (suc w) = kept_changed d g f h v rows w

kept_map : {A : Type 0} (d : A) (g : Row → A) (f : Row → Row) → ((r : Row) → g (f r) ≡ g r) → (rows : List Row) (w : ℕ) → from_option d g (slice_get (map f rows) w) ≡ from_option d g (slice_get rows w)
kept_map d g f h [] w = refl
kept_map d g f h (x ∷ rows) zero = h x
kept_map d g f h (x ∷ rows) (suc w) = kept_map d g f h rows w

-- ---- numbers that stay

pub renumbered_none : (v n : ℕ) (us : List ℕ) → renumbered v n us [] ≡ []
renumbered_none v n [] = refl
renumbered_none v n (u ∷ us) = refl

pub renumbered_other : (v n : ℕ) (us xs : List ℕ) → has us v ≡ false → renumbered v n us xs ≡ xs
renumbered_other v n [] xs h = refl
renumbered_other v n (u ∷ us) [] h = refl
renumbered_other v n (u ∷ us) (x ∷ xs) h =
    let t : (eqb u v ≡ false) × (has us v ≡ false) = or_parts (eqb u v) (has us v) h in
    let e : renumbered v n us xs ≡ xs = renumbered_other v n us xs t.1 in
    let d : eqb u v ≡ false = t.0 in
    rw d (ap (λ (l : List ℕ). x ∷ l) e)

resting_along : (v n : ℕ) (r : Row) → renumbered v n r.needs (Footing.starts r.present) ≡ Footing.starts r.present → renumbered v n r.needs (Footing.renewals r.present) ≡ Footing.renewals r.present
    → resting v n r ≡ r.present
resting_along v n r e f =
    let p = r.present in
    ap (λ (x : List ℕ). record { place = p.place; mark = p.mark; inputs = p.inputs; starts = x; renewals = renumbered v n r.needs p.renewals }) e
    ∙ ap (λ (x : List ℕ). record { place = p.place; mark = p.mark; inputs = p.inputs; starts = p.starts; renewals = x }) f

pub resting_other : (v n : ℕ) (r : Row) → has r.needs v ≡ false → resting v n r ≡ r.present
resting_other v n r h = resting_along v n r (renumbered_other v n r.needs (Footing.starts r.present) h) (renumbered_other v n r.needs (Footing.renewals r.present) h)

pub resting_none : (v n : ℕ) (r : Row) → Footing.starts r.present ≡ [] → Footing.renewals r.present ≡ [] → resting v n r ≡ r.present
resting_none v n r e f =
    let p = r.present in
    resting_along v n r
    (ap (renumbered v n r.needs) e ∙ renumbered_none v n r.needs ∙ sym e)
    (ap (renumbered v n r.needs) f ∙ renumbered_none v n r.needs ∙ sym f)

-- ---- a step

-- it changes starts alone
pub record Mild (f : Row → Row) : Type 0 where
  pub wanted : (r : Row) → Row.wanted (f r) ≡ r.wanted
  pub needs : (r : Row) → Row.needs (f r) ≡ r.needs
  pub present : (r : Row) → Row.present (f r) ≡ r.present

pub mild_ended : Mild ended
mild_ended = record { wanted = λ r. refl; needs = λ r. refl; present = λ r. refl }

pub mild_begun : Mild begun
mild_begun = record { wanted = λ r. refl; needs = λ r. refl; present = λ r. refl }

-- it has no mark
abbrev pub is_plain : Row → Bool
is_plain r = eqb (Footing.mark r.present) 0

module _ (f : Row → Row) (mild : Mild f) (u n : ℕ) (rows : List Row) where
  pub length_stepped : length (stepped f u n rows) ≡ length rows
  length_stepped = length-map (changed f u rows) (rested u n) ∙ length_changed f u rows

  pub get_stepped_same : (r : Row) → slice_get rows u ≡ Some r → slice_get (stepped f u n rows) u ≡ Some (rested u n (f r))
  get_stepped_same r h = slice_get-map (rested u n) (changed f u rows) u ∙ ap (option_map (rested u n)) (get_changed_same f rows u r h)

  pub get_stepped_other : (w : ℕ) (r : Row) → u ≢ w → slice_get rows w ≡ Some r → slice_get (stepped f u n rows) w ≡ Some (rested u n r)
  get_stepped_other w r other h = slice_get-map (rested u n) (changed f u rows) w ∙ ap (option_map (rested u n)) (get_changed_other f rows u w other ∙ h)

  -- what both leave of each row
  kept_stepped : {A : Type 0} (d : A) (g : Row → A) → ((r : Row) → g (f r) ≡ g r) → ((r : Row) → g (rested u n r) ≡ g r) → (w : ℕ)
      → from_option d g (slice_get (stepped f u n rows) w) ≡ from_option d g (slice_get rows w)
  kept_stepped d g h k w = kept_map d g (rested u n) k (changed f u rows) w ∙ kept_changed d g f h u rows w

  pub wanted_stepped : (w : ℕ) → passes is_wanted (stepped f u n rows) w ≡ passes is_wanted rows w
  wanted_stepped w = kept_stepped false is_wanted mild.wanted (λ r. refl) w

  pub plain_stepped : (w : ℕ) → passes is_plain (stepped f u n rows) w ≡ passes is_plain rows w
  plain_stepped w = kept_stepped false is_plain (λ r. ap (λ (p : Footing). eqb p.mark 0) (mild.present r)) (λ r. refl) w

  pub needs_stepped : (w : ℕ) → needs_of (stepped f u n rows) w ≡ needs_of rows w
  needs_stepped w = kept_stepped [] (λ (r : Row). r.needs) mild.needs (λ r. refl) w

  needs_all : needs_of (stepped f u n rows) ≡ needs_of rows
  needs_all = fun_ext needs_stepped

  pub numbers_stepped : numbers (stepped f u n rows) ≡ numbers rows
  numbers_stepped = ap (λ (m : ℕ). range_with_len 1 (m - 1)) length_stepped

  pub needed_stepped : (w : ℕ) → needed (stepped f u n rows) w ≡ needed rows w
  needed_stepped w =
      ap (λ (d : ℕ → List ℕ). all_needed d (numbers (stepped f u n rows)) w) needs_all
      ∙ ap (λ (all : List ℕ). all_needed (needs_of rows) all w) numbers_stepped

  -- a row after the step comes of one before it
  pub record Comes (w : ℕ) (new : Row) : Type 0 where
    pub old : Row
    pub at : slice_get rows w ≡ Some old
    pub wanted : new.wanted ≡ old.wanted
    pub present : new.present ≡ resting u n old

  come : (w : ℕ) (new old : Row) → slice_get rows w ≡ Some old → slice_get (stepped f u n rows) w ≡ Some new → Comes w new
  come w new old at h =
      elim (cases_eq u w) [
        | inl same ↦
            let at_u : slice_get rows u ≡ Some old = ap (slice_get rows) same ∙ at in
            let there : slice_get (stepped f u n rows) w ≡ Some (rested u n (f old)) = ap (slice_get (stepped f u n rows)) (sym same) ∙ get_stepped_same old at_u in
            let e : new ≡ rested u n (f old) = cc in
            record {
              old = old;
              at = at;
              wanted = ap (λ (r : Row). r.wanted) e ∙ mild.wanted old;
              present = ap (λ (r : Row). r.present) e ∙ same_resting old;
            }
        | inr other ↦
            let there : slice_get (stepped f u n rows) w ≡ Some (rested u n old) = get_stepped_other w old other at in
            let e : new ≡ rested u n old = cc in
            record { old = old; at = at; wanted = ap (λ (r : Row). r.wanted) e; present = ap (λ (r : Row). r.present) e }
      ]
    where
      same_resting : (r : Row) → resting u n (f r) ≡ resting u n r
      same_resting r =
          ap (λ (us : List ℕ). resting u n (record (f r) { needs = us })) (mild.needs r)
          ∙ ap (λ (p : Footing). resting u n (record r { present = p })) (mild.present r)

  pub comes : (w : ℕ) (new : Row) → slice_get (stepped f u n rows) w ≡ Some new → Comes w new
  comes w new h = go (slice_get rows w) refl
    where
      go : (o : Option Row) → slice_get rows w ≡ o → Comes w new
      go (Some old) e = come w new old e h
      go None e = absurd (none_is (slice_get-none e))
        where
          slice_get-none : slice_get rows w ≡ None → slice_get (stepped f u n rows) w ≡ None
          slice_get-none e = slice_get-map (rested u n) (changed f u rows) w ∙ ap (option_map (rested u n)) (none_changed e)
            where
              none_changed : slice_get rows w ≡ None → slice_get (changed f u rows) w ≡ None
              none_changed e = none_from (kept_changed false (λ r. true) f (λ r. refl) u rows w ∙ ap (from_option false (λ (r : Row). true)) e)
                where
                  none_from : from_option false (λ (r : Row). true) (slice_get (changed f u rows) w) ≡ false → slice_get (changed f u rows) w ≡ None
                  none_from k = none_of (slice_get (changed f u rows) w) k
                    where
                      none_of : (o : Option Row) → from_option false (λ (r : Row). true) o ≡ false → o ≡ None
                      none_of None k = refl
                      none_of (Some r) k = absurd (false≢true (sym k))

          none_is : slice_get (stepped f u n rows) w ≡ None → ⊥
          none_is k = cc

  pub rows_stepped : IsRows rows → IsRows (stepped f u n rows)
  rows_stepped is =
      record {
        all = length_stepped ∙ is.all;
        needs = λ v x h.
            let t : (1 ≤ x) × (x < length rows) = is.needs v x (ap (λ (l : List ℕ). has l x) (sym (needs_stepped v)) ∙ h) in
            (t.0, omega (arith, t.1, length_stepped));
      }

  pub sound_stepped : IsSound rows → IsSound (stepped f u n rows)
  sound_stepped sound =
      record {
        acyclic = λ v r at want mark n.
            let t : Comes v r = comes v r at in
            sound.acyclic v t.old t.at (sym t.wanted ∙ want) (λ e. mark (ap (λ (p : Footing). p.mark) t.present ∙ e)) (subst (λ (d : ℕ → List ℕ). Needs d v v) needs_all n);
        starts = λ v r at mark.
            let t : Comes v r = comes v r at in
            ap (λ (p : Footing). p.starts) t.present
            ∙ ap (renumbered u n (Row.needs t.old)) (sound.starts v t.old t.at (λ e. mark (ap (λ (p : Footing). p.mark) t.present ∙ e)))
            ∙ renumbered_none u n (Row.needs t.old);
        renewals = λ v r at mark.
            let t : Comes v r = comes v r at in
            ap (λ (p : Footing). p.renewals) t.present
            ∙ ap (renumbered u n (Row.needs t.old)) (sound.renewals v t.old t.at (λ e. mark (ap (λ (p : Footing). p.mark) t.present ∙ e)))
            ∙ renumbered_none u n (Row.needs t.old);
      }
