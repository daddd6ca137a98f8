-- The ties of a variable among all, and of a number that names none.
use Rattle.std.proofs.Common.{inl, inr, ℕ, zero, suc, ◌≡◌, ◌+◌, ◌<◌, ◌≤◌, refl, sym, ◌∙◌, ap, false, ◌&&◌, ◌||◌, List, [], ◌∷◌, map, length, arith, Option, Some, None, is_some}
use Rattle.std.specs.Prelude.{slice_get}
use Rattle.std.specs.List.{filter, filter_map, list_any, range_with_len}
use Rattle.std.proofs.lemmas.Bool.{cases_lt}
use Rattle.std.proofs.lemmas.Option.{none-some}
use Rattle.nb_graph.specs.Needs.{has, grown, rounds}
use Rattle.nb_sheet.specs.Lists.{nth, numbers, from_option}
use Rattle.nb_sheet.specs.Sheet.{Sheet}
use Rattle.nb_sheet.specs.declared.row.VarRow.{VarRow}
use Rattle.nb_resolve.specs.Names.{inputs_of_row, is_duplicate_row, direct, variable_of}
use Rattle.nb_history.specs.Needs.{circular, is_observed, is_root, needs}
use Rattle.nb_history.specs.Rules.{input_code}
use Rattle.nb_closing.specs.Ties.{Ties, ties_of, all_ties}
use Rattle.nb_work.specs.Tied.{no_ties, ties_in}

-- ---- what needs nothing directly needs nothing

none_passes : (all : List ℕ) → filter (λ u. false) all ≡ []
none_passes [] = refl
none_passes (u ∷ all) = none_passes all

nothing_needed : (f : ℕ → List ℕ) (all : List ℕ) (k : ℕ) → rounds f all k [] ≡ []
nothing_needed f all zero = refl
nothing_needed f all (suc k) = ap (grown f all) (nothing_needed f all k) ∙ none_passes all

not_circular : (s : Sheet) (v : ℕ) → direct s v ≡ [] → circular s v ≡ false
not_circular s v e =
    ap (λ (l : List ℕ). has (rounds (direct s) (numbers s.rows) (length (numbers s.rows)) l) v) e
    ∙ ap (λ (l : List ℕ). has l v) (nothing_needed (direct s) (numbers s.rows) (length (numbers s.rows)))

-- ---- a number that names no variable

pub no_row : (s : Sheet) (v : ℕ) → nth s.rows v ≡ None → no_ties ≡ ties_of s v
no_row s v e =
    let none : circular s v ≡ false = not_circular s v (ap (λ (o : Option VarRow). filter_map variable_of (from_option [] (inputs_of_row s) o)) e) in
    sym (λ j. record {
      is_duplicate = from_option false (is_duplicate_row s) (e j);
      is_circular = none j;
      is_used = from_option false (λ (row : VarRow). is_some row.body) (e j) && (is_observed s v || list_any (λ w. is_root s w && needs s w v) (numbers s.rows));
      inputs = from_option [] (inputs_of_row s) (e j);
      codes = map input_code (from_option [] (inputs_of_row s) (e j));
      direct = filter_map variable_of (from_option [] (inputs_of_row s) (e j));
    })

-- ---- among all

slice_map : {A : Type 0} (f : ℕ → A) (k n i : ℕ) → i < n → slice_get (map f (range_with_len k n)) i ≡ Some (f (k + i))
slice_map f k zero i h = absurd (omega (arith, h))
slice_map f k (suc n) zero h = let e : k ≡ k + 0 = omega arith in ap (λ (m : ℕ). Some (f m)) e
slice_map f k (suc n) (suc i) h =
    let e : k + 1 + i ≡ k + suc i = omega arith in
    slice_map f (k + 1) n i (omega (arith, h)) ∙ ap (λ (m : ℕ). Some (f m)) e

map_outside : {A : Type 0} (f : ℕ → A) (k n i : ℕ) → n ≤ i → slice_get (map f (range_with_len k n)) i ≡ None
map_outside f k zero i h = refl
map_outside f k (suc n) zero h = absurd (omega (arith, h))
map_outside f k (suc n) (suc i) h = map_outside f (k + 1) n i (omega (arith, h))

outside : {A : Type 0} (xs : List A) (i : ℕ) → length xs ≤ i → slice_get xs i ≡ None
outside [] i h = refl
outside (x ∷ xs) zero h = absurd (omega (arith, h))
outside (x ∷ xs) (suc i) h = outside xs i (omega (arith, h))

abbrev or_none : Option Ties → Ties
or_none o = from_option no_ties (λ t. t) o

pub ties_in_all : (s : Sheet) (v : ℕ) → ties_in (all_ties s) v ≡ ties_of s v
ties_in_all s zero = no_row s zero refl
ties_in_all s (suc i) =
    elim (cases_lt i (length s.rows)) [
      | inl inside ↦
          let e : 1 + i ≡ suc i = omega arith in
          ap or_none (slice_map (ties_of s) 1 (length s.rows) i inside) ∙ ap (ties_of s) e
      | inr past ↦ ap or_none (map_outside (ties_of s) 1 (length s.rows) i past) ∙ no_row s (suc i) (outside s.rows i past)
    ]

-- the ties that were read, or none
pub ties_read : (s : Sheet) (ties : List Ties) (v : ℕ) → ties ≡ all_ties s → ties_in ties v ≡ ties_of s v
ties_read s ties v e = ap (λ (l : List Ties). ties_in l v) e ∙ ties_in_all s v

pub tied_read : (s : Sheet) (ties : List Ties) (v : ℕ) (t : Ties) → ties ≡ all_ties s → Some t ≡ nth ties v → t ≡ ties_of s v
tied_read s ties v t e there = ap or_none there ∙ ties_read s ties v e

-- where there are none, there is no row
row_there : (s : Sheet) (v : ℕ) → nth (all_ties s) v ≡ None → nth s.rows v ≡ None
row_there s zero e = refl
row_there s (suc i) e =
    elim (cases_lt i (length s.rows)) [
      | inl inside ↦ absurd (none-some (ties_of s (1 + i)) (sym e ∙ slice_map (ties_of s) 1 (length s.rows) i inside))
      | inr past ↦ outside s.rows i past
    ]

pub untied_row : (s : Sheet) (ties : List Ties) (v : ℕ) → ties ≡ all_ties s → nth ties v ≡ None → nth s.rows v ≡ None
untied_row s ties v e none = row_there s v (ap (λ (l : List Ties). nth l v) (sym e) ∙ none)
