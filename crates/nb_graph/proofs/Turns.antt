-- What each step of the code needs of the walk that it begins with.
use Rattle.std.proofs.Common.{ℕ, zero, suc, ◌+◌, ◌-◌, ◌*◌, ◌^◌, ◌≡◌, ◌≢◌, ◌<◌, ◌≤◌, sym, ◌∙◌, ap, true, inr, List, [], ◌∷◌, length, get_or, set, take, drop, map, arith, subst, get_or-drop, length-drop}
use Rattle.std.proofs.lemmas.List.{get_or_read}
use Rattle.nb_graph.specs.Needs.{has}
use Rattle.nb_graph.specs.Graph.{needs_of, rank_in, greatest, IsGraph}
use Rattle.nb_graph.specs.Walks.{Reaches, IsWalk, Walks, IsFollowed, IsLed, IsNarrowed, count_done, left, effort}
use Rattle.nb_graph.specs.declared.ranks.Walk.{Walk}
use Rattle.nb_graph.proofs.Lists.{has_index, greatest_le}
use Rattle.nb_graph.proofs.Rising.{IsPopped, popped, popped_at, read_last, not_above, has_some}
use Rattle.nb_graph.proofs.Finishing.{count_below}
use Rattle.nb_graph.proofs.Paths.{to_last, reaches_need}
use Rattle.nb_graph.proofs.Steps.{place_of, walk_narrowed, walk_advanced, walk_left}

module _ (graph : List (List ℕ)) (path bounds work places explored ranks : List ℕ) (w : IsWalk graph path bounds work places explored ranks)
    (j : ℕ) (some : 0 < length work) (last : j ≡ get_or work (length work - 1) 0) where
  pub last_of_work : IsPopped work (take (length work - 1) work) j
  last_of_work = subst (λ (x : ℕ). IsPopped work (take (length work - 1) work) x) (sym last) (popped work some w.in_work.rises)

  pub last_low : j < length path
  last_low = w.in_work.inside j last_of_work.last_in

  pub last_most : (x : ℕ) → has work x ≡ true → x ≤ j
  last_most x h = not_above work (take (length work - 1) work) j x last_of_work h

  pub last_node : get_or path j 0 < length graph
  last_node = place_of graph path bounds work places explored ranks w j last_low

  pub some_bounds : 0 < length bounds
  some_bounds = has_some bounds 0 (w.in_work.first (omega (arith, last_low)))

  -- ---- a need u of the node at j is followed
  module _ (u : ℕ) (edge : has (needs_of graph (get_or path j 0)) u ≡ true) where
    pub all_reach : (p : ℕ) → p < length path → Reaches (needs_of graph) (get_or path p 0) u
    all_reach p h =
        inr (reaches_need (needs_of graph) (get_or path p 0) (get_or path j 0) u
        (to_last (needs_of graph) path bounds work places w.on_path w.in_work j last_of_work.last_in last_most p h) edge)

    module _ (i : ℕ) (bounds' : List ℕ) (place : get_or places u 0 ≡ i + 2) (n : IsNarrowed bounds i bounds') where
      pub joined : IsWalk graph path bounds' work places explored ranks
      joined =
          let t : (i < length path) × (get_or path i 0 ≡ u) = w.on_path.back u i place in
          walk_narrowed graph path bounds work places explored ranks w j i bounds' last_of_work.last_in last_most t.0
          (ap (λ (x : ℕ). has (needs_of graph (get_or path j 0)) x) t.1 ∙ edge) n

      pub joined_led : IsLed path bounds' places j u
      joined_led =
          let t : (i < length path) × (get_or path i 0 ≡ u) = w.on_path.back u i place in
          inr (i, t.0, t.1, λ c h le. (n.only c h).1)

  -- ---- the last bound is j, or not
  module _ (rest : List ℕ) (b : ℕ) (p : IsPopped bounds rest b) where
    pub not_a_bound : b ≢ j → has bounds j ≡ true → ⊥
    not_a_bound differs h =
        differs (omega (arith, not_above bounds rest b j p h, last_most b (w.in_work.kept b p.last_in)))

-- ---- a rank fits

pub rank_fits : (graph : List (List ℕ)) (path bounds work places explored ranks : List ℕ) → IsWalk graph path bounds work places explored ranks → IsGraph graph
    → (j : ℕ) → j < length path → (ns : List ℕ) → greatest (map (rank_in ranks) ns) + 1 < 2 ^ 32
rank_fits graph path bounds work places explored ranks w g j low ns =
    let below : count_done places < length places =
    count_below places (get_or path j 0) (omega (arith, place_of graph path bounds work places explored ranks w j low, w.place_each)) (λ e. omega (arith, e, w.on_path.at j low)) in
    omega (arith, below, w.place_each, g.few, greatest_le (rank_in ranks) ns (count_done places) w.ranked.small)

-- the nodes of a group are nodes of the graph
pub group_inside : (graph : List (List ℕ)) (path bounds work places explored ranks : List ℕ) → IsWalk graph path bounds work places explored ranks
    → (j u : ℕ) → has (drop j path) u ≡ true → u < length places
group_inside graph path bounds work places explored ranks w j u h =
    let t : (i : ℕ) × (i < length (drop j path)) × (get_or (drop j path) i 0 ≡ u) = has_index (drop j path) u h in
    let e : get_or path (j + t.0) 0 ≡ u = sym (get_or-drop j path t.0 0) ∙ t.2 in
    omega (arith, sym e, place_of graph path bounds work places explored ranks w (j + t.0) (omega (arith, t.1, length-drop j path)), w.place_each)

-- ---- needs that are still to be followed

pub left_falls : (graph : List (List ℕ)) (explored : List ℕ) (v k : ℕ) → length explored ≡ length graph → k ≡ get_or explored v 0 → k < length (needs_of graph v)
    → left graph (set explored v (k + 1)) + 1 ≡ left graph explored
left_falls [] explored v k e c h = absurd (omega (arith, h))
left_falls (ns ∷ graph) [] v k e c h = absurd (omega (arith, e))
left_falls (ns ∷ graph) (x ∷ explored) zero k e c h = omega (arith, c, h)
left_falls (ns ∷ graph) (x ∷ explored) (suc v) k e c h = omega (arith, left_falls graph explored v k (omega (arith, e)) c h)

-- ---- a step that follows a need

module _ (graph : List (List ℕ)) (old mid : Walk) (j v k u : ℕ) (w : Walks graph old) (low : j < length old.path.items) (here : v ≡ get_or old.path.items j 0)
    (count : k ≡ get_or old.explored.items v 0) (more : k < length (needs_of graph v)) (need : u ≡ get_or (needs_of graph v) k 0) (f : IsFollowed graph j u old mid) where
  pub node_inside : v < length mid.explored.items
  node_inside =
      omega (arith, here, place_of graph old.path.items old.bounds.items old.work.items old.places.items old.explored.items old.ranks.items w j low, w.explored_each, ap (λ (l : List ℕ). length l) f.same)

  count_mid : k ≡ get_or mid.explored.items v 0
  count_mid = count ∙ sym (ap (λ (l : List ℕ). get_or l v 0) f.same)

  pub followed_walks : IsWalk graph mid.path.items mid.bounds.items mid.work.items mid.places.items (set mid.explored.items v (k + 1)) mid.ranks.items
  followed_walks =
      walk_advanced graph mid.path.items mid.bounds.items mid.work.items mid.places.items mid.explored.items mid.ranks.items f.walks
      j v k (omega (arith, low, f.path)) (here ∙ sym f.node) count_mid more (subst (λ (x : ℕ). IsLed mid.path.items mid.bounds.items mid.places.items j x) need f.led)

  pub followed_falls : 2 * left graph (set mid.explored.items v (k + 1)) + length mid.work.items < effort graph old
  followed_falls =
      omega (arith, left_falls graph mid.explored.items v k f.walks.explored_each count_mid more, ap (λ (l : List ℕ). left graph l) f.same, f.work)

-- ---- the step, by what it reads

-- the last index j with needs to follow, and its node v
pub record IsTurn (graph : List (List ℕ)) (s : Walk) (j v : ℕ) : Type 0 where
  pub last : j ≡ get_or s.work.items (length s.work.items - 1) 0
  pub low : j < length s.path.items
  pub here : v ≡ get_or s.path.items j 0
  pub node : v < length graph
  pub inside : v < length s.explored.items
  pub some_bounds : 0 < length s.bounds.items

module _ (graph : List (List ℕ)) (s : Walk) (w : Walks graph s) (some : 0 < length s.work.items) (n j : ℕ) (len : n ≡ length s.work.items) (last : j ≡ get_or s.work.items (n - 1) j) where
  turn_last : j ≡ get_or s.work.items (length s.work.items - 1) 0
  turn_last = read_last s.work.items n j len (omega (arith, some, len)) last

  pub turn_low : j < length s.path.items
  turn_low = last_low graph s.path.items s.bounds.items s.work.items s.places.items s.explored.items s.ranks.items w j some turn_last

  pub turn : (v : ℕ) → v ≡ get_or s.path.items j v → IsTurn graph s j v
  turn v at =
      let here : v ≡ get_or s.path.items j 0 = get_or_read s.path.items j v turn_low at 0 in
      let node : get_or s.path.items j 0 < length graph = last_node graph s.path.items s.bounds.items s.work.items s.places.items s.explored.items s.ranks.items w j some turn_last in
      record {
        last = turn_last;
        low = turn_low;
        here = here;
        node = omega (arith, here, node);
        inside = omega (arith, here, node, w.explored_each);
        some_bounds = some_bounds graph s.path.items s.bounds.items s.work.items s.places.items s.explored.items s.ranks.items w j some turn_last;
      }

-- a node with no needs left, whose group has more to follow
pub left_walks : (graph : List (List ℕ)) (s : Walk) (w : Walks graph s) (j v k m b : ℕ) (rest : List ℕ) → IsTurn graph s j v → 0 < length s.work.items → k ≡ get_or s.explored.items v 0 → length (needs_of graph v) ≤ k
    → m ≡ length s.bounds.items → b ≡ get_or s.bounds.items (m - 1) b → b ≢ j → rest ≡ take (length s.work.items - 1) s.work.items
    → IsWalk graph s.path.items s.bounds.items rest s.places.items s.explored.items s.ranks.items
left_walks graph s w j v k m b rest t some count full len at differs e =
    let p : IsPopped s.work.items (take (length s.work.items - 1) s.work.items) j =
    last_of_work graph s.path.items s.bounds.items s.work.items s.places.items s.explored.items s.ranks.items w j some t.last in
    let q : IsPopped s.bounds.items (take (m - 1) s.bounds.items) b = popped_at s.bounds.items m b len (omega (arith, len, t.some_bounds)) at w.in_work.bounds_rise in
    walk_left graph s.path.items s.bounds.items s.work.items s.places.items s.explored.items s.ranks.items w
    j rest (subst (λ (l : List ℕ). IsPopped s.work.items l j) (sym e) p)
    (not_a_bound graph s.path.items s.bounds.items s.work.items s.places.items s.explored.items s.ranks.items w j some t.last (take (m - 1) s.bounds.items) b q differs)
    (subst (λ (x : ℕ). length (needs_of graph x) ≤ get_or s.explored.items x 0) t.here (omega (arith, full, count)))
