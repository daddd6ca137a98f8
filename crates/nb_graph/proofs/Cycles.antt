-- The nodes that need themselves, by their ranks.
use Rattle.std.proofs.Common.{ℕ, zero, suc, ◌+◌, ◌≡◌, ◌<◌, ◌≤◌, refl, sym, ◌∙◌, ap, Bool, true, false, ◌⊎◌, inl, inr, List, [], ◌∷◌, length, get_or, map, arith}
use Rattle.std.specs.Prelude.{◌==◌, Some}
use Rattle.std.specs.List.{range_with_len}
use Rattle.std.proofs.lemmas.Bool.{false≢true, cases_Bool, eqb-true, eq-eqb, cases_eq}
use Rattle.std.proofs.lemmas.List.{length-map}
use Rattle.std.proofs.lemmas.Option.{slice_get-get_or, get_or_from_slice_get, slice_get_within}
use Rattle.nb_graph.specs.Needs.{has, all_needed}
use Rattle.nb_graph.specs.Graph.{needs_of, needs_itself, rank_in, IsGraph, IsRanks, IsMarks}
use Rattle.nb_graph.proofs.Reaches.{has_head, has_tail, needed_sound, needed_complete}
use Rattle.nb_graph.proofs.Lists.{rank_at}

has_range : (k n u : ℕ) → k ≤ u → u < k + n → has (range_with_len k n) u ≡ true
has_range k zero u low high = absurd (omega (arith, low, high))
has_range k (suc n) u low high =
    elim (cases_eq k u) [
      | inl e ↦ has_head k (range_with_len (k + 1) n) u e
      | inr ne ↦ has_tail k (range_with_len (k + 1) n) u (has_range (k + 1) n u (omega arith) (omega arith))
    ]

-- a node needs itself, or doesn't
pub itself_cases : (graph : List (List ℕ)) → IsGraph graph → (v : ℕ) → needs_itself graph v ⊎ (needs_itself graph v → ⊥)
itself_cases graph g v =
    let all = range_with_len 0 (length graph) in
    let within : (w u : ℕ) → has (needs_of graph w) u ≡ true → has all u ≡ true = λ w u h. has_range 0 (length graph) u (omega arith) (omega (arith, g.nodes w u h)) in
    elim (cases_Bool (has (all_needed (needs_of graph) all v) v)) [
      | inl yes_it_does ↦ inl (needed_sound (needs_of graph) all v v yes_it_does)
      | inr not_so ↦ inr (λ n. false≢true (sym not_so ∙ needed_complete (needs_of graph) all within n))
    ]

mark_at : (ranks : List ℕ) (v : ℕ) → v < length ranks → get_or (map (λ r. r == 0) ranks) v false ≡ (get_or ranks v 0 == 0)
mark_at [] v h = absurd (omega (arith, h))
mark_at (r ∷ ranks) zero h = refl
mark_at (r ∷ ranks) (suc v) h = mark_at ranks v (omega (arith, h))

pub circular_marks : (graph : List (List ℕ)) (ranks : List ℕ) (marks : List Bool) → IsGraph graph → IsRanks graph ranks → marks ≡ map (λ r. r == 0) ranks → IsMarks graph (needs_itself graph) marks
circular_marks graph ranks marks g r e =
    let n : length marks ≡ length ranks = ap (λ (l : List Bool). length l) e ∙ length-map ranks (λ r. r == 0) in
    let at : (v : ℕ) → v < length graph → get_or marks v false ≡ (rank_in ranks v == 0) =
    λ v h. ap (λ (l : List Bool). get_or l v false) e ∙ mark_at ranks v (omega (arith, h, r.all)) ∙ sym (ap (λ (m : ℕ). m == 0) (rank_at ranks v)) in
    record {
      all = n ∙ r.all;
      only = λ v h.
          let inside : v < length graph = omega (arith, slice_get_within marks v true h, n, r.all) in
          elim (itself_cases graph g v) [
            | inl itself ↦ itself
            | inr not_so ↦
                let zero_rank : rank_in ranks v ≡ 0 = eqb-true (rank_in ranks v) 0 (sym (at v inside) ∙ get_or_from_slice_get marks v true false h) in
                absurd (omega (arith, zero_rank, r.others v inside not_so))
          ];
      each = λ v h itself.
          let inside : v < length marks = omega (arith, h, n, r.all) in
          slice_get-get_or marks v false inside ∙ ap (λ (b : Bool). Some b) (at v h ∙ eq-eqb (rank_in ranks v) 0 (r.circular v h itself));
    }
