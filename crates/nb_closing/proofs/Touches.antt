-- What a graph of who is needed by whom reaches from the loud variables are the touched ones.
use Rattle.std.proofs.Common.{ℕ, zero, suc, ◌+◌, ◌≡◌, ◌<◌, ◌≤◌, refl, sym, ◌∙◌, ap, Bool, true, false, List, [], ◌∷◌, length, map, get_or, arith, Option, Some, inl, inr}
use Rattle.std.specs.Prelude.{slice_get, option_map}
use Rattle.std.proofs.lemmas.Bool.{cases_lt, false≢true}
use Rattle.std.proofs.lemmas.List.{length-map, get_or_past}
use Rattle.std.proofs.lemmas.Option.{slice_get_past, slice_get-get_or, slice_get-map, get_or_from_slice_get}
use Rattle.nb_graph.specs.Needs.{has, Needs, at_once, through}
use Rattle.nb_graph.specs.Graph.{needs_of as list_of, IsReached, IsMarks}
use Rattle.nb_graph.proofs.Reaches.{Needs_trans}
use Rattle.nb_sheet.specs.Lists.{numbers}
use Rattle.nb_sheet.specs.Sheet.{Sheet}
use Rattle.nb_resolve.specs.Names.{direct}
use Rattle.nb_wave.specs.declared.row.Row.{Row}
use Rattle.nb_wave.specs.Marks.{marked}
use Rattle.nb_wave.specs.Rules.{from_option, needs_of, NeedsVariables}
use Rattle.nb_wave.specs.Users.{IsReversed}
use Rattle.nb_history.proofs.Direct.{direct_within}
use Rattle.nb_history.proofs.Closing.{range_has}
use Rattle.nb_closing.specs.Ties.{Ties, ties_of, all_ties}
use Rattle.nb_closing.specs.Touched.{AreTouched, naming, needing}
use Rattle.nb_closing.proofs.Duplicates.{nothing_direct}
use Rattle.nb_closing.proofs.Putting.{ties_length}
use Rattle.nb_closing.proofs.Tables.{slice_map, slice_outside}

-- ---- rows that need what ties name

pub length_needing : (ties : List Ties) → length (needing ties) ≡ length ties + 1
length_needing ties = let e : length (map naming ties) ≡ length ties = length-map ties naming in omega (arith, e)

naming_at : (ties : List Ties) (k : ℕ) (t : Ties) → k < length ties → t ≡ get_or ties k t → naming t ≡ get_or (map naming ties) k (naming t)
naming_at [] k t h e = absurd (omega (arith, h))
naming_at (x ∷ ties) zero t h e = ap naming e
naming_at (x ∷ ties) (suc k) t h e = naming_at ties k t (omega (arith, h)) e

-- the row of the next variable
pub needing_at : (ties : List Ties) (k : ℕ) (t : Ties) → k < length ties → t ≡ get_or ties k t → naming t ≡ get_or (needing ties) (k + 1) (naming t)
needing_at ties k t h e =
    let one : suc k ≡ k + 1 = omega arith in naming_at ties k t h e ∙ ap (λ (n : ℕ). get_or (needing ties) n (naming t)) one

module _ (s : Sheet) (ties : List Ties) (are : ties ≡ all_ties s) where
  needing_needs : (v : ℕ) → needs_of (needing ties) v ≡ direct s v
  needing_needs zero = refl
  needing_needs (suc i) =
      ap (from_option [] (λ (r : Row). r.needs)) (slice_get-map naming ties i)
      ∙ ap (λ (l : List Ties). from_option [] (λ (r : Row). r.needs) (option_map naming (slice_get l i))) are
      ∙ elim (cases_lt i (length s.rows)) [
        | inl inside ↦
            let e : 1 + i ≡ suc i = omega arith in
            ap (λ (o : Option Ties). from_option [] (λ (r : Row). r.needs) (option_map naming o)) (slice_map (ties_of s) 1 (length s.rows) i inside) ∙ ap (direct s) e
        | inr past ↦
            ap (λ (o : Option Ties). from_option [] (λ (r : Row). r.needs) (option_map naming o))
            (slice_outside (all_ties s) i (omega (arith, past, ap (λ (l : List Ties). length l) are, ties_length s ties are)))
            ∙ sym (nothing_direct s (suc i) (slice_get_past s.rows i past))
      ]

  rows_needing : length (needing ties) ≡ length s.rows + 1
  rows_needing = omega (arith, length_needing ties, ties_length s ties are)

  pub needs_variables : NeedsVariables (needing ties)
  needs_variables v u h =
      let r : (1 ≤ u) × (u < 1 + length s.rows) = range_has 1 (length s.rows) u (direct_within s v u (ap (λ (l : List ℕ). has l u) (sym (needing_needs v)) ∙ h)) in
      (r.0, omega (arith, r.1, rows_needing))

  -- ---- reach

  module _ (graph : List (List ℕ)) (r : IsReversed (needing ties) graph) where
    to_needs : {u v : ℕ} → Needs (list_of graph) u v → Needs (direct s) v u
    to_needs {u} {v} (at_once h) = at_once (ap (λ (l : List ℕ). has l u) (sym (needing_needs v)) ∙ r.only u v h)
    to_needs {u} {v} (through {w = w} n h) =
        Needs_trans (direct s) [] (at_once (ap (λ (l : List ℕ). has l w) (sym (needing_needs v)) ∙ r.only w v h)) (to_needs n)

    to_users : {v u : ℕ} → Needs (direct s) v u → Needs (list_of graph) u v
    to_users {v} {u} (at_once h) = at_once (r.each u v (ap (λ (l : List ℕ). has l u) (needing_needs v) ∙ h))
    to_users {v} {u} (through {w = w} n h) =
        Needs_trans (list_of graph) [] (at_once (r.each u w (ap (λ (l : List ℕ). has l u) (needing_needs w) ∙ h))) (to_users n)

    size_is : length graph ≡ length s.rows + 1
    size_is = r.size ∙ rows_needing

    pub touched_marks : (loud : List ℕ) (marks : List Bool) → IsMarks graph (IsReached graph loud) marks → AreTouched s loud marks
    touched_marks loud marks is =
        record {
          size = is.all ∙ size_is;
          only = λ v h. elim (is.only v (there v h)) [ inl own ↦ inl own | inr t ↦ inr (t.0, t.1, to_needs t.2) ];
          each = λ v inside t. get_or_from_slice_get marks v true false (is.each v (omega (arith, inside, size_is)) (elim t [ inl own ↦ inl own | inr far ↦ inr (far.0, far.1, to_users far.2) ]));
        }
      where
        there : (v : ℕ) → marked marks v ≡ true → slice_get marks v ≡ Some true
        there v h =
            elim (cases_lt v (length marks)) [
              | inl inside ↦ slice_get-get_or marks v false inside ∙ ap (λ (b : Bool). Some b) h
              | inr past ↦ absurd (false≢true (sym (get_or_past marks v false past) ∙ h))
            ]

    -- the loud ones are nodes
    pub loud_nodes : (loud : List ℕ) → ((v : ℕ) → has loud v ≡ true → has (numbers s.rows) v ≡ true) → (v : ℕ) → has loud v ≡ true → v < length graph
    loud_nodes loud within v h = let t : (1 ≤ v) × (v < 1 + length s.rows) = range_has 1 (length s.rows) v (within v h) in omega (arith, t.1, size_is)
