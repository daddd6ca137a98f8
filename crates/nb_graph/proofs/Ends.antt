-- The step that closes a group, as the code makes it, and the end of the walk.
use Rattle.std.proofs.Common.{ℕ, zero, suc, ◌+◌, ◌-◌, ◌≡◌, ◌<◌, ◌≤◌, refl, sym, ◌∙◌, ap, inl, inr, List, [], length, get_or, take, drop, arith, subst}
use Rattle.std.specs.Prelude.{◌==◌, replicate}
use Rattle.std.proofs.lemmas.Bool.{cases_lt, false≢true}
use Rattle.std.proofs.lemmas.List.{take_rest, get_or_default, length-replicate}
use Rattle.nb_graph.specs.Graph.{needs_of, rank_in, IsRanks}
use Rattle.nb_graph.specs.Walks.{IsWalk, IsFinished, StaysReached, with_rank}
use Rattle.nb_graph.proofs.Lists.{rank_at}
use Rattle.nb_graph.proofs.Rising.{IsPopped, popped_to}
use Rattle.nb_graph.proofs.Closing.{walk_closed, closed_stays}

finished_seen : (j : ℕ) (path path' places places' new : List ℕ) → path' ≡ path → places' ≡ places → IsFinished (take (length path' - j) (drop j path')) places' new → IsFinished (drop j path) places new
finished_seen j path path' places places' new e f h =
    subst (λ (l : List ℕ). IsFinished l places new) (take_rest path j)
    (subst (λ (l : List ℕ). IsFinished (take (length l - j) (drop j l)) places new) e
    (subst (λ (l : List ℕ). IsFinished (take (length path' - j) (drop j path')) l new) f h))

-- the last element at any default
last_of : (xs : List ℕ) (x : ℕ) → 0 < length xs → x ≡ get_or xs (length xs - 1) 0 → x ≡ get_or xs (length xs - 1) x
last_of xs x some e = e ∙ get_or_default xs (length xs - 1) 0 x (omega (arith, some))

module _ (graph : List (List ℕ)) (path bounds work places explored ranks : List ℕ) (w : IsWalk graph path bounds work places explored ranks)
    (j v n : ℕ) (some : 0 < length work) (last : j ≡ get_or work (length work - 1) 0) (some_bounds : 0 < length bounds) (bound : j ≡ get_or bounds (length bounds - 1) 0)
    (full : length (needs_of graph (get_or path j 0)) ≤ get_or explored (get_or path j 0) 0)
    (path' places' ranks' ns new_places new_ranks new_path new_bounds new_work : List ℕ)
    (path_is : path' ≡ path) (places_is : places' ≡ places) (ranks_is : ranks' ≡ ranks) (ns_is : ns ≡ needs_of graph v) (v_is : v ≡ get_or path j 0) (n_is : n ≡ length path)
    (finished : IsFinished (take (length path' - j) (drop j path')) places' new_places) (ranks_set : new_ranks ≡ with_rank ranks' ns v (j + 1 == n))
    (path_cut : new_path ≡ take j path) (bounds_popped : new_bounds ≡ take (length bounds - 1) bounds) (work_popped : new_work ≡ take (length work - 1) work) where
  work_split : IsPopped work new_work j
  work_split = popped_to work new_work (length work) j refl some (last_of work j some last) work_popped w.in_work.rises

  bounds_split : IsPopped bounds new_bounds j
  bounds_split = popped_to bounds new_bounds (length bounds) j refl some_bounds (last_of bounds j some_bounds bound) bounds_popped w.in_work.bounds_rise

  finished_group : IsFinished (drop j path) places new_places
  finished_group = finished_seen j path path' places places' new_places path_is places_is finished

  pub close_walks : IsWalk graph new_path new_bounds new_work new_places explored new_ranks
  close_walks =
      walk_closed graph path bounds work places explored ranks w j new_work new_bounds new_places work_split bounds_split full finished_group
      v (j + 1 == n) new_ranks new_path v_is (ap (λ (m : ℕ). j + 1 == m) n_is)
      (ranks_set ∙ ap (λ (l : List ℕ). with_rank l ns v (j + 1 == n)) ranks_is ∙ ap (λ (l : List ℕ). with_rank ranks l v (j + 1 == n)) ns_is) path_cut

  pub close_stays : StaysReached places new_places
  close_stays = closed_stays graph path bounds work places explored ranks w j new_work new_bounds new_places work_split bounds_split full finished_group

-- ---- the begin of the walk

nothing_at : (n x : ℕ) → ◌≡◌ {A = ℕ} (get_or (replicate n 0) x 0) 0
nothing_at zero x = refl
nothing_at (suc n) zero = refl
nothing_at (suc n) (suc x) = nothing_at n x

nothing_in : (xs : List ℕ) (n x : ℕ) → xs ≡ replicate n 0 → get_or xs x 0 ≡ 0
nothing_in xs n x e = ap (λ (l : List ℕ). get_or l x 0) e ∙ nothing_at n x

length_of_nothing : (xs : List ℕ) (n : ℕ) → xs ≡ replicate n 0 → length xs ≡ n
length_of_nothing xs n e = ap (λ (l : List ℕ). length l) e ∙ length-replicate n 0

begun_empty : (graph : List (List ℕ)) (n : ℕ) (places explored ranks : List ℕ) → n ≡ length graph → places ≡ replicate n 0 → explored ≡ replicate n 0 → ranks ≡ replicate n 0
    → IsWalk graph [] [] [] places explored ranks
begun_empty graph n places explored ranks len p x r =
    let none : (v : ℕ) → get_or places v 0 ≡ 0 = λ v. nothing_in places n v p in
    let rank : (v : ℕ) → rank_in ranks v ≡ 0 = λ v. rank_at ranks v ∙ nothing_in ranks n v r in
    record {
      place_each = length_of_nothing places n p ∙ len;
      explored_each = length_of_nothing explored n x ∙ len;
      rank_each = length_of_nothing ranks n r ∙ len;
      on_path = record {
        at = λ q h. absurd (omega (arith, h));
        back = λ v i h. absurd (omega (arith, h, none v));
        ahead = λ q s le h. absurd (omega (arith, h));
        around = λ q b h hb le most. absurd (omega (arith, h));
      };
      in_work = record {
        rises = tt;
        bounds_rise = tt;
        inside = λ j h. absurd (false≢true h);
        kept = λ b h. absurd (false≢true h);
        first = λ h. absurd (omega (arith, h));
      };
      followed = record {
        led = λ q w h k. absurd (omega (arith, h));
        through = λ q h out. absurd (omega (arith, h));
        fresh = λ v h. nothing_in explored n v x;
      };
      ranked = record {
        closed = λ v w h k. absurd (omega (arith, h, none v));
        circular = λ v h k. rank v;
        others = λ v h k. absurd (omega (arith, h, none v));
        none = λ v h. rank v;
        small = λ v. omega (arith, rank v);
      };
    }

pub walk_begun : (graph : List (List ℕ)) (n : ℕ) (path bounds work places explored ranks : List ℕ) → n ≡ length graph → path ≡ [] → bounds ≡ [] → work ≡ []
    → places ≡ replicate n 0 → explored ≡ replicate n 0 → ranks ≡ replicate n 0 → IsWalk graph path bounds work places explored ranks
walk_begun graph n path bounds work places explored ranks len e f g p x r =
    subst (λ (l : List ℕ). IsWalk graph l bounds work places explored ranks) (sym e)
    (subst (λ (l : List ℕ). IsWalk graph [] l work places explored ranks) (sym f)
    (subst (λ (l : List ℕ). IsWalk graph [] [] l places explored ranks) (sym g) (begun_empty graph n places explored ranks len p x r)))

-- ---- its end

pub walk_ended : (graph : List (List ℕ)) (path bounds work places explored ranks : List ℕ) → IsWalk graph path bounds work places explored ranks → path ≡ []
    → ((x : ℕ) → x < length graph → 0 < get_or places x 0) → IsRanks graph ranks
walk_ended graph path bounds work places explored ranks w e reached =
    let none : length path ≡ 0 = ap (λ (l : List ℕ). length l) e in
    let done : (v : ℕ) → v < length graph → get_or places v 0 ≡ 1 =
    λ v h. elim (cases_lt 1 (get_or places v 0)) [
      | inl more ↦
          let t : (get_or places v 0 - 2 < length path) × (get_or path (get_or places v 0 - 2) 0 ≡ v) = w.on_path.back v (get_or places v 0 - 2) (omega (arith, more)) in
          absurd (omega (arith, t.0, none))
      | inr less ↦ omega (arith, less, reached v h)
    ] in
    record { all = w.rank_each; circular = λ v h n. w.ranked.circular v (done v h) n; others = λ v h n. w.ranked.others v (done v h) n }
