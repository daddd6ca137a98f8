-- Rows that are set, and what they need then.
use Rattle.std.proofs.Common.{ℕ, zero, suc, ◌≡◌, ◌≢◌, ◌<◌, ◌≤◌, refl, sym, ◌∙◌, ap, subst, true, List, [], ◌∷◌, length, get_or, set, arith, length-set, Some, inl, inr}
use Rattle.std.specs.Prelude.{slice_get, replicate}
use Rattle.std.proofs.lemmas.Bool.{false≢true, cases_eq}
use Rattle.std.proofs.lemmas.List.{length-replicate}
use Rattle.nb_graph.specs.Needs.{has}
use Rattle.nb_wave.specs.declared.row.Row.{Row}
use Rattle.nb_wave.specs.declared.table.Change.{Change}
use Rattle.nb_wave.specs.Rules.{from_option, needs_of}
use Rattle.nb_wave.specs.Steps.{changed}
use Rattle.nb_wave.specs.Changes.{IsSince}
use Rattle.nb_wave.specs.Wave.{no_rows, unput, IsRows, IsWave}
use Rattle.nb_wave.proofs.Back.{since_back}

pub get_set_same : (rows : List Row) (v : ℕ) (r : Row) → v < length rows → slice_get (set rows v r) v ≡ Some r
get_set_same [] v r h = absurd (omega (arith, h))
get_set_same (x ∷ rows) zero r h = refl
get_set_same (x ∷ rows) (suc v) r h = get_set_same rows v r (omega (arith, h))

pub get_set_other : (rows : List Row) (v w : ℕ) (r : Row) → v ≢ w → slice_get (set rows v r) w ≡ slice_get rows w
get_set_other [] v w r h = refl
get_set_other (x ∷ rows) zero zero r h = absurd (h refl)
get_set_other (x ∷ rows) zero (suc w) r h = refl
get_set_other (x ∷ rows) (suc v) zero r h = refl
get_set_other (x ∷ rows) (suc v) (suc w) r h = get_set_other rows v w r (λ e. h (ap suc e))

-- a row that is set to a change of the one before
pub set_changed : (f : Row → Row) (rows : List Row) (v : ℕ) (x r : Row) → v < length rows → x ≡ get_or rows v x → r ≡ f x → set rows v r ≡ changed f v rows
set_changed f [] v x r h read e = refl
set_changed f (y ∷ rows) zero x r h read e = ap (λ (z : Row). z ∷ rows) (e ∙ ap f read)
set_changed f (y ∷ rows) (suc v) x r h read e = ap (λ (l : List Row). y ∷ l) (set_changed f rows v x r (omega (arith, h)) read e)

pub set_rows : (rows : List Row) (v : ℕ) (r : Row) → IsRows rows → v < length rows → ((u : ℕ) → has r.needs u ≡ true → (1 ≤ u) × (u < 1025)) → IsRows (set rows v r)
set_rows rows v r is inside needs =
    let size : length (set rows v r) ≡ length rows = length-set rows v r in
    record {
      all = size ∙ is.all;
      needs = λ w u h. elim (cases_eq v w) [
        | inl same ↦
            let own : needs_of (set rows v r) w ≡ r.needs =
            ap (λ (x : ℕ). needs_of (set rows v r) x) (sym same) ∙ ap (from_option [] (λ (x : Row). x.needs)) (get_set_same rows v r inside) in
            let t : (1 ≤ u) × (u < 1025) = needs u (ap (λ (l : List ℕ). has l u) (sym own) ∙ h) in
            (t.0, omega (arith, t.1, size, is.all))
        | inr other ↦
            let same : needs_of (set rows v r) w ≡ needs_of rows w = ap (from_option [] (λ (x : Row). x.needs)) (get_set_other rows v w r other) in
            let t : (1 ≤ u) × (u < length rows) = is.needs w u (ap (λ (l : List ℕ). has l u) (sym same) ∙ h) in
            (t.0, omega (arith, t.1, size))
      ];
    }

-- a wave after changes
pub wave_since : (a b : List Change) (x y : List Row) → IsWave x a → IsSince a x b y → IsRows y → IsWave y b
wave_since a b x y is since rows = record { present = rows; marked = subst IsRows (sym (since_back a b x y since)) is.marked }

needs_unput : (n v : ℕ) → needs_of (replicate n unput) v ≡ []
needs_unput zero v = refl
needs_unput (suc n) zero = refl
needs_unput (suc n) (suc v) = needs_unput n v

unput_rows : (n : ℕ) → n ≡ 1025 → IsRows (replicate n unput)
unput_rows n e = record {
  all = length-replicate n unput ∙ e;
  needs = λ v u h. absurd (false≢true (sym (ap (λ (l : List ℕ). has l u) (needs_unput n v)) ∙ h));
}

pub no_rows_is : (n : ℕ) → n ≡ 1025 → replicate n unput ≡ no_rows
unfolding no_rows
no_rows_is n e = ap (λ (m : ℕ). replicate m unput) e

pub wave_begins : (n : ℕ) → n ≡ 1025 → (rows : List Row) (changes : List Change) → rows ≡ replicate n unput → changes ≡ [] → IsWave rows changes
wave_begins n e rows changes f g =
    subst (λ (l : List Change). IsWave rows l) (sym g)
    (subst (λ (l : List Row). IsWave l []) (sym f) (record { present = unput_rows n e; marked = unput_rows n e }))
