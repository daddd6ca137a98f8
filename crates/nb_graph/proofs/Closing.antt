-- The last group is closed: its nodes are done, with their ranks.
use Rattle.std.proofs.Common.{ℕ, ◌+◌, ◌-◌, ◌≡◌, ◌≢◌, ◌<◌, ◌≤◌, refl, sym, ◌∙◌, ap, Bool, true, false, ◌⊎◌, inl, inr, List, length, get_or, set, take, drop, map, arith, subst, get_or-set_same, get_or-set_other, length-set, length-drop, get_or-drop, get_or-take, length-take-le}
use Rattle.std.specs.Prelude.{◌==◌, ◌&&◌, not, cond}
use Rattle.std.proofs.lemmas.Bool.{cases_lt, cases_eq, cases_Bool, false≢true, eqb-true, eq-eqb}
use Rattle.std.proofs.lemmas.List.{take_all}
use Rattle.nb_graph.specs.Needs.{has, Needs, at_once, through}
use Rattle.nb_graph.specs.Graph.{needs_of, rank_in, greatest}
use Rattle.nb_graph.specs.Walks.{Reaches, IsPath, IsWork, IsExplored, IsRanked, IsWalk, IsFinished, StaysReached, count_done, with_rank}
use Rattle.nb_graph.proofs.Lists.{has_index, index_has, rank_at, map_agree, greatest_le}
use Rattle.nb_graph.proofs.Rising.{IsPopped, not_above}
use Rattle.nb_graph.proofs.Finishing.{count_le, count_lt}
use Rattle.nb_graph.proofs.Paths.{reaches_along, reaches_needs, needs_reaches}
use Rattle.nb_graph.proofs.Steps.{place_of, same_place}

module _ (graph : List (List ℕ)) (path bounds work places explored ranks : List ℕ) (w : IsWalk graph path bounds work places explored ranks)
    (j : ℕ) (rest restb places' : List ℕ) (pw : IsPopped work rest j) (pb : IsPopped bounds restb j)
    (full : length (needs_of graph (get_or path j 0)) ≤ get_or explored (get_or path j 0) 0) (f : IsFinished (drop j path) places places') where
  low : j < length path
  low = w.in_work.inside j pw.last_in

  -- ---- the nodes of the group

  in_group : (p : ℕ) → j ≤ p → p < length path → has (drop j path) (get_or path p 0) ≡ true
  in_group p up h =
      let e : j + (p - j) ≡ p = omega (arith, up) in
      let inside : p - j < length (drop j path) = omega (arith, up, h, length-drop j path) in
      let at : get_or (drop j path) (p - j) 0 ≡ get_or path p 0 = get_or-drop j path (p - j) 0 ∙ ap (λ (i : ℕ). get_or path i 0) e in
      ap (λ (x : ℕ). has (drop j path) x) (sym at) ∙ index_has (drop j path) (p - j) inside

  group_index : (x : ℕ) → has (drop j path) x ≡ true → (p : ℕ) × (j ≤ p) × (p < length path) × (get_or path p 0 ≡ x)
  group_index x h =
      let t : (i : ℕ) × (i < length (drop j path)) × (get_or (drop j path) i 0 ≡ x) = has_index (drop j path) x h in
      (j + t.0, omega arith, omega (arith, t.1, length-drop j path), sym (get_or-drop j path t.0 0) ∙ t.2)

  before : (p : ℕ) → p < j → has (drop j path) (get_or path p 0) ≡ true → ⊥
  before p h k =
      let t : (q : ℕ) × (j ≤ q) × (q < length path) × (get_or path q 0 ≡ get_or path p 0) = group_index (get_or path p 0) k in
      omega (arith, h, t.1, same_place graph path bounds work places explored ranks w t.0 p t.2 (omega (arith, h, low)) t.3)

  done_group : (p : ℕ) → j ≤ p → p < length path → get_or places' (get_or path p 0) 0 ≡ 1
  done_group p up h = f.each (get_or path p 0) (in_group p up h)

  stays_same : (x : ℕ) → has (drop j path) x ≡ false → get_or places' x 0 ≡ get_or places x 0
  stays_same x h = f.others x (λ k. false≢true (sym h ∙ k))

  done_stays : (x : ℕ) → get_or places x 0 ≡ 1 → get_or places' x 0 ≡ 1
  done_stays x h = elim (cases_Bool (has (drop j path) x)) [ inl here ↦ f.each x here | inr not_here ↦ stays_same x not_here ∙ h ]

  done_cases : (x : ℕ) → get_or places' x 0 ≡ 1 → (get_or places x 0 ≡ 1) ⊎ ((p : ℕ) × (j ≤ p) × (p < length path) × (get_or path p 0 ≡ x))
  done_cases x h =
      elim (cases_Bool (has (drop j path) x)) [ inl here ↦ inr (group_index x here) | inr not_here ↦ inl (sym (stays_same x not_here) ∙ h) ]

  open_same : (x : ℕ) → get_or places' x 0 ≢ 1 → get_or places x 0 ≡ get_or places' x 0
  open_same x h =
      elim (cases_Bool (has (drop j path) x)) [ inl here ↦ absurd (h (f.each x here)) | inr not_here ↦ sym (stays_same x not_here) ]

  pub closed_stays : StaysReached places places'
  closed_stays x h =
      elim (cases_Bool (has (drop j path) x)) [ inl here ↦ omega (arith, f.each x here) | inr not_here ↦ omega (arith, h, stays_same x not_here) ]

  not_done : (p : ℕ) → p < length path → get_or places (get_or path p 0) 0 ≡ 1 → ⊥
  not_done p h e = omega (arith, e, w.on_path.at p h)

  -- ---- the path before it

  len : length (take j path) ≡ j
  len = length-take-le j path (omega (arith, low))

  node : (p : ℕ) → p < length (take j path) → (p < j) × (p < length path) × (get_or (take j path) p 0 ≡ get_or path p 0)
  node p h = (omega (arith, h, len), omega (arith, h, len, low), get_or-take j path p 0 (omega (arith, h, len)))

  path_closed : IsPath (needs_of graph) (take j path) restb places'
  path_closed =
      record {
        at = λ p h.
            let n : (p < j) × (p < length path) × (get_or (take j path) p 0 ≡ get_or path p 0) = node p h in
            ap (λ (x : ℕ). get_or places' x 0) n.2 ∙ f.others (get_or path p 0) (before p n.0) ∙ w.on_path.at p n.1;
        back = λ v i h.
            let open_v : get_or places' v 0 ≢ 1 = λ e. omega (arith, e, h) in
            let t : (i < length path) × (get_or path i 0 ≡ v) = w.on_path.back v i (open_same v open_v ∙ h) in
            elim (cases_lt i j) [
              | inl less ↦ (omega (arith, less, len), get_or-take j path i 0 less ∙ t.1)
              | inr more ↦ absurd (open_v (sym (ap (λ (x : ℕ). get_or places' x 0) t.1) ∙ done_group i more t.0))
            ];
        ahead = λ p q le h.
            let n : (q < j) × (q < length path) × (get_or (take j path) q 0 ≡ get_or path q 0) = node q h in
            let m : (p < j) × (p < length path) × (get_or (take j path) p 0 ≡ get_or path p 0) = node p (omega (arith, le, h)) in
            reaches_along (needs_of graph) (get_or path p 0) (get_or (take j path) p 0) (get_or path q 0) (get_or (take j path) q 0) m.2 n.2 (w.on_path.ahead p q le n.1);
        around = λ p b h hb le most.
            let n : (p < j) × (p < length path) × (get_or (take j path) p 0 ≡ get_or path p 0) = node p h in
            let m : (b < j) × (b < length path) × (get_or (take j path) b 0 ≡ get_or path b 0) = node b (omega (arith, le, h)) in
            reaches_along (needs_of graph) (get_or path p 0) (get_or (take j path) p 0) (get_or path b 0) (get_or (take j path) b 0) n.2 m.2
            (w.on_path.around p b n.1 (pb.keeps b hb) le (λ c k l. elim (pb.only c k) [ inl front ↦ most c front l | inr e ↦ absurd (omega (arith, e, l, n.0)) ]));
      }

  work_closed : IsWork (take j path) restb rest
  work_closed =
      record {
        rises = pw.rises;
        bounds_rise = pb.rises;
        inside = λ x h. omega (arith, pw.below x h, len);
        kept = λ b h. elim (pw.only b (w.in_work.kept b (pb.keeps b h))) [ inl front ↦ front | inr e ↦ absurd (omega (arith, e, pb.below b h)) ];
        first = λ h. elim (pb.only 0 (w.in_work.first (omega (arith, low)))) [ inl front ↦ front | inr e ↦ absurd (omega (arith, e, h, len)) ];
      }

  explored_closed : IsExplored (needs_of graph) (take j path) restb rest places' explored
  explored_closed =
      record {
        led = λ p x h k.
            let n : (p < j) × (p < length path) × (get_or (take j path) p 0 ≡ get_or path p 0) = node p h in
            let k' : has (take (get_or explored (get_or path p 0) 0) (needs_of graph (get_or path p 0))) x ≡ true =
            sym (ap (λ (y : ℕ). has (take (get_or explored y 0) (needs_of graph y)) x) n.2) ∙ k in
            elim (w.followed.led p x n.1 k') [
              | inl done ↦ inl (done_stays x done)
              | inr t ↦ elim (cases_lt t.0 j) [
                | inl less ↦ inr (t.0, omega (arith, less, len), get_or-take j path t.0 0 less ∙ t.2, λ c hc le. t.3 c (pb.keeps c hc) le)
                | inr more ↦ inl (sym (ap (λ (y : ℕ). get_or places' y 0) t.2) ∙ done_group t.0 more t.1)
              ]
            ];
        through = λ p h out.
            let n : (p < j) × (p < length path) × (get_or (take j path) p 0 ≡ get_or path p 0) = node p h in
            subst (λ (y : ℕ). length (needs_of graph y) ≤ get_or explored y 0) (sym n.2)
            (w.followed.through p n.1 (λ k. elim (pw.only p k) [ inl front ↦ out front | inr e ↦ absurd (omega (arith, e, n.0)) ]));
        fresh = λ v h.
            let open_v : get_or places' v 0 ≢ 1 = λ e. omega (arith, e, h) in
            w.followed.fresh v (open_same v open_v ∙ h);
      }

  -- ---- whom the group needs

  group_leads : (p x : ℕ) → j ≤ p → p < length path → has (needs_of graph (get_or path p 0)) x ≡ true → (get_or places x 0 ≡ 1) ⊎ ((q : ℕ) × (j ≤ q) × (q < length path) × (get_or path q 0 ≡ x))
  group_leads p x up h k =
      let all : length (needs_of graph (get_or path p 0)) ≤ get_or explored (get_or path p 0) 0 =
      elim (cases_eq p j) [
        | inl same ↦ subst (λ (i : ℕ). length (needs_of graph (get_or path i 0)) ≤ get_or explored (get_or path i 0) 0) (sym same) full
        | inr differs ↦ w.followed.through p h (λ m. differs (omega (arith, up, not_above work rest j p pw m)))
      ] in
      let k' : has (take (get_or explored (get_or path p 0) 0) (needs_of graph (get_or path p 0))) x ≡ true =
      ap (λ (l : List ℕ). has l x) (take_all (get_or explored (get_or path p 0) 0) (needs_of graph (get_or path p 0)) all) ∙ k in
      elim (w.followed.led p x h k') [ inl done ↦ inl done | inr t ↦ inr (t.0, t.3 j pb.last_in up, t.1, t.2) ]

  closed_again : (v x : ℕ) → get_or places' v 0 ≡ 1 → has (needs_of graph v) x ≡ true → get_or places' x 0 ≡ 1
  closed_again v x h k =
      elim (done_cases v h) [
        | inl done ↦ done_stays x (w.ranked.closed v x done k)
        | inr t ↦ elim (group_leads t.0 x t.1 t.2 (ap (λ (y : ℕ). has (needs_of graph y) x) t.3 ∙ k)) [
          | inl done ↦ done_stays x done
          | inr s ↦ sym (ap (λ (y : ℕ). get_or places' y 0) s.3) ∙ done_group s.0 s.1 s.2
        ]
      ]

  -- ---- a group whose first node needs itself

  first_around : (p : ℕ) → j ≤ p → p < length path → Reaches (needs_of graph) (get_or path p 0) (get_or path j 0)
  first_around p up h = w.on_path.around p j h pb.last_in up (λ c k l. not_above bounds restb j c pb k)

  each_itself : Needs (needs_of graph) (get_or path j 0) (get_or path j 0) → (p : ℕ) → j ≤ p → p < length path → Needs (needs_of graph) (get_or path p 0) (get_or path p 0)
  each_itself n p up h =
      reaches_needs (needs_of graph) (get_or path p 0) (get_or path j 0) (get_or path p 0) (first_around p up h)
      (needs_reaches (needs_of graph) (get_or path j 0) (get_or path j 0) (get_or path p 0) n (w.on_path.ahead j p up h))

  -- as it does where there is a second one
  two_need : j + 1 < length path → Needs (needs_of graph) (get_or path j 0) (get_or path j 0)
  two_need h =
      elim (w.on_path.ahead j (j + 1) (omega arith) h) [
        | inl e ↦ absurd (omega (arith, same_place graph path bounds work places explored ranks w j (j + 1) low h e))
        | inr n ↦ needs_reaches (needs_of graph) (get_or path j 0) (get_or path (j + 1) 0) (get_or path j 0) n (first_around (j + 1) (omega arith) h)
      ]

  ranked_round : Needs (needs_of graph) (get_or path j 0) (get_or path j 0) → IsRanked (needs_of graph) places' ranks
  ranked_round n =
      let itself : (v : ℕ) → get_or places' v 0 ≡ 1 → (get_or places v 0 ≡ 1) ⊎ (Needs (needs_of graph) v v × (get_or places v 0 ≢ 1)) =
      λ v h. elim (done_cases v h) [
        | inl done ↦ inl done
        | inr t ↦ inr (subst (λ (x : ℕ). Needs (needs_of graph) x x) t.3 (each_itself n t.0 t.1 t.2), λ e. not_done t.0 t.2 (ap (λ (x : ℕ). get_or places x 0) t.3 ∙ e))
      ] in
      record {
        closed = closed_again;
        circular = λ v h k. elim (itself v h) [ inl done ↦ w.ranked.circular v done k | inr t ↦ w.ranked.none v t.1 ];
        others = λ v h k. elim (itself v h) [ inl done ↦ w.ranked.others v done k | inr t ↦ absurd (k t.0) ];
        none = λ v h. w.ranked.none v (λ e. h (done_stays v e));
        small = λ v. omega (arith, w.ranked.small v, count_le places places' (sym f.all) done_stays);
      }

  -- ---- a node that is alone and doesn't need itself

  module _ (alone : length path ≡ j + 1) (apart : has (needs_of graph (get_or path j 0)) (get_or path j 0) ≡ false) where
    needs_done : (x : ℕ) → has (needs_of graph (get_or path j 0)) x ≡ true → get_or places x 0 ≡ 1
    needs_done x h =
        elim (group_leads j x (omega arith) low h) [
          | inl done ↦ done
          | inr t ↦
              let e : get_or path j 0 ≡ x = ap (λ (i : ℕ). get_or path i 0) (omega (arith, t.1, t.2, alone)) ∙ t.3 in
              absurd (false≢true (sym apart ∙ ap (λ (y : ℕ). has (needs_of graph (get_or path j 0)) y) e ∙ h))
        ]

    all_done : {v x : ℕ} → Needs (needs_of graph) v x → v ≡ get_or path j 0 → get_or places x 0 ≡ 1
    all_done {v} {x} (at_once h) e = needs_done x (ap (λ (y : ℕ). has (needs_of graph y) x) (sym e) ∙ h)
    all_done {v} {x} (through {w = y} n h) e = w.ranked.closed y x (all_done n e) h

    not_itself : Needs (needs_of graph) (get_or path j 0) (get_or path j 0) → ⊥
    not_itself n = not_done j low (all_done n refl)

    module _ (x r : ℕ) (here : x ≡ get_or path j 0) (value : r ≡ 1 + greatest (map (rank_in ranks) (needs_of graph x))) where
      x_open : get_or places x 0 ≢ 1
      x_open e = not_done j low (ap (λ (y : ℕ). get_or places y 0) (sym here) ∙ e)

      x_done : get_or places' x 0 ≡ 1
      x_done = ap (λ (y : ℕ). get_or places' y 0) here ∙ done_group j (omega arith) low

      x_needs : (u : ℕ) → has (needs_of graph x) u ≡ true → get_or places u 0 ≡ 1
      x_needs u h = needs_done u (ap (λ (y : ℕ). has (needs_of graph y) u) (sym here) ∙ h)

      rank_new : rank_in (set ranks x r) x ≡ r
      rank_new =
          rank_at (set ranks x r) x ∙ get_or-set_same ranks x r 0 (omega (arith, here, place_of graph path bounds work places explored ranks w j low, w.rank_each))

      rank_other : (y : ℕ) → y ≢ x → rank_in (set ranks x r) y ≡ rank_in ranks y
      rank_other y other = rank_at (set ranks x r) y ∙ get_or-set_other ranks x y r 0 other ∙ sym (rank_at ranks y)

      ranks_agree : (ns : List ℕ) → ((u : ℕ) → has ns u ≡ true → get_or places u 0 ≡ 1) → greatest (map (rank_in (set ranks x r)) ns) ≡ greatest (map (rank_in ranks) ns)
      ranks_agree ns h =
          ap (λ (l : List ℕ). greatest l) (map_agree (rank_in (set ranks x r)) (rank_in ranks) ns
          (λ u k. rank_other u (λ e. x_open (ap (λ (y : ℕ). get_or places y 0) (sym e) ∙ h u k))))

      -- another node that is done was so before
      was_done : (v : ℕ) → v ≢ x → get_or places' v 0 ≡ 1 → get_or places v 0 ≡ 1
      was_done v other h =
          elim (done_cases v h) [
            | inl done ↦ done
            | inr t ↦ absurd (other (sym t.3 ∙ ap (λ (i : ℕ). get_or path i 0) (omega (arith, t.1, t.2, alone)) ∙ sym here))
          ]

      more_done : count_done places < count_done places'
      more_done = count_lt places places' x (sym f.all) done_stays x_open x_done

      pub ranked_alone : IsRanked (needs_of graph) places' (set ranks x r)
      ranked_alone =
          record {
            closed = closed_again;
            circular = λ v h n. elim (cases_eq v x) [
              | inl same ↦ absurd (not_itself (subst (λ (y : ℕ). Needs (needs_of graph) y y) (same ∙ here) n))
              | inr other ↦ rank_other v other ∙ w.ranked.circular v (was_done v other h) n
            ];
            others = λ v h n. elim (cases_eq v x) [
              | inl same ↦
                  ap (λ (y : ℕ). rank_in (set ranks x r) y) same ∙ rank_new ∙ value ∙ ap (λ (m : ℕ). 1 + m) (sym (ranks_agree (needs_of graph x) x_needs))
                  ∙ ap (λ (y : ℕ). 1 + greatest (map (rank_in (set ranks x r)) (needs_of graph y))) (sym same)
              | inr other ↦
                  let done : get_or places v 0 ≡ 1 = was_done v other h in
                  rank_other v other ∙ w.ranked.others v done n ∙ ap (λ (m : ℕ). 1 + m) (sym (ranks_agree (needs_of graph v) (λ u k. w.ranked.closed v u done k)))
            ];
            none = λ v h.
                let other : v ≢ x = λ e. h (ap (λ (y : ℕ). get_or places' y 0) e ∙ x_done) in
                rank_other v other ∙ w.ranked.none v (λ e. h (done_stays v e));
            small = λ v. elim (cases_eq v x) [
              | inl same ↦
                  omega (arith, ap (λ (y : ℕ). rank_in (set ranks x r) y) same, rank_new, value, more_done, greatest_le (rank_in ranks) (needs_of graph x) (count_done places) w.ranked.small)
              | inr other ↦ omega (arith, rank_other v other, w.ranked.small v, more_done)
            ];
          }

  -- ---- both

  -- the ranks that are set, by cases
  ranks_set : (x : ℕ) (is_alone : Bool) (ranks' : List ℕ) → x ≡ get_or path j 0 → is_alone ≡ (j + 1 == length path) → ranks' ≡ with_rank ranks (needs_of graph x) x is_alone
      → IsRanked (needs_of graph) places' ranks' × (length ranks' ≡ length ranks)
  ranks_set x is_alone ranks' here a e =
      let by : (b : Bool) → (is_alone && not (has (needs_of graph x) x)) ≡ b → ranks' ≡ cond b (set ranks x (1 + greatest (map (rank_in ranks) (needs_of graph x)))) ranks =
      λ b k. e ∙ ap (λ (c : Bool). cond c (set ranks x (1 + greatest (map (rank_in ranks) (needs_of graph x)))) ranks) k in
      let round : ranks' ≡ ranks → Needs (needs_of graph) (get_or path j 0) (get_or path j 0) → IsRanked (needs_of graph) places' ranks' × (length ranks' ≡ length ranks) =
      λ s n. (subst (λ (l : List ℕ). IsRanked (needs_of graph) places' l) (sym s) (ranked_round n), ap (λ (l : List ℕ). length l) s) in
      elim (cases_Bool is_alone) [
        | inl alone ↦
            let n : length path ≡ j + 1 = sym (eqb-true (j + 1) (length path) (sym a ∙ alone)) in
            elim (cases_Bool (has (needs_of graph x) x)) [
              | inl itself ↦
                  round (by false (ap (λ (b : Bool). b && not (has (needs_of graph x) x)) alone ∙ ap (λ (b : Bool). not b) itself))
                  (at_once (subst (λ (y : ℕ). has (needs_of graph y) y ≡ true) here itself))
              | inr apart ↦
                  let s : ranks' ≡ set ranks x (1 + greatest (map (rank_in ranks) (needs_of graph x))) =
                  by true (ap (λ (b : Bool). b && not (has (needs_of graph x) x)) alone ∙ ap (λ (b : Bool). not b) apart) in (
                    subst (λ (l : List ℕ). IsRanked (needs_of graph) places' l) (sym s) (ranked_alone n (subst (λ (y : ℕ). has (needs_of graph y) y ≡ false) here apart)
                        x (1 + greatest (map (rank_in ranks) (needs_of graph x))) here refl),
                    ap (λ (l : List ℕ). length l) s ∙ length-set ranks x (1 + greatest (map (rank_in ranks) (needs_of graph x))),
                  )
            ]
        | inr many ↦
            let differs : j + 1 ≢ length path = λ k. false≢true (sym many ∙ a ∙ eq-eqb (j + 1) (length path) k) in
            round (by false (ap (λ (b : Bool). b && not (has (needs_of graph x) x)) many)) (two_need (omega (arith, differs, low)))
      ]

  -- the group is closed
  pub walk_closed : (x : ℕ) (is_alone : Bool) (ranks' path' : List ℕ) → x ≡ get_or path j 0 → is_alone ≡ (j + 1 == length path) → ranks' ≡ with_rank ranks (needs_of graph x) x is_alone
      → path' ≡ take j path → IsWalk graph path' restb rest places' explored ranks'
  walk_closed x is_alone ranks' path' here a e p =
      let s : IsRanked (needs_of graph) places' ranks' × (length ranks' ≡ length ranks) = ranks_set x is_alone ranks' here a e in
      subst (λ (l : List ℕ). IsWalk graph l restb rest places' explored ranks') (sym p) (record {
        place_each = f.all ∙ w.place_each;
        explored_each = w.explored_each;
        rank_each = s.1 ∙ w.rank_each;
        on_path = path_closed;
        in_work = work_closed;
        followed = explored_closed;
        ranked = s.0;
      })
