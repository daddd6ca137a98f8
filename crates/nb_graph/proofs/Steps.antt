-- The steps of a walk that rank no node: one is entered, groups join, a need is followed, a node has no needs left.
use Rattle.std.proofs.Common.{ℕ, ◌+◌, ◌≡◌, ◌≢◌, ◌<◌, ◌≤◌, sym, ◌∙◌, ap, true, inl, inr, List, [], ◌∷◌, ◌++◌, length, get_or, set, take, arith, subst, get_or-set_same, get_or-set_other, length-set}
use Rattle.std.proofs.lemmas.Bool.{cases_lt, cases_eq, false≢true}
use Rattle.std.proofs.lemmas.List.{take_more, length_push, get_or_past}
use Rattle.nb_graph.specs.Needs.{has}
use Rattle.nb_graph.specs.Graph.{needs_of}
use Rattle.nb_graph.specs.Walks.{Reaches, IsExplored, IsRanked, IsWalk, IsLed, IsNarrowed}
use Rattle.nb_graph.proofs.Lists.{has_front, has_end, has_push}
use Rattle.nb_graph.proofs.Rising.{IsPopped}
use Rattle.nb_graph.proofs.Finishing.{count_le}
use Rattle.nb_graph.proofs.Paths.{path_narrowed, work_narrowed, path_entered, work_entered, place_other, place_new, node_old, node_new, ends_at}

-- where the same nodes are done
ranked_along : (direct : ℕ → List ℕ) (places places' ranks : List ℕ) → IsRanked direct places ranks → length places ≡ length places'
    → ((x : ℕ) → get_or places x 0 ≡ 1 → get_or places' x 0 ≡ 1) → ((x : ℕ) → get_or places' x 0 ≡ 1 → get_or places x 0 ≡ 1) → IsRanked direct places' ranks
ranked_along direct places places' ranks r e on back =
    record {
      closed = λ v w h k. on w (r.closed v w (back v h) k);
      circular = λ v h. r.circular v (back v h);
      others = λ v h. r.others v (back v h);
      none = λ v h. r.none v (λ k. h (on v k));
      small = λ v. omega (arith, r.small v, count_le places places' e on);
    }

module _ (graph : List (List ℕ)) (path bounds work places explored ranks : List ℕ) (w : IsWalk graph path bounds work places explored ranks) where
  -- v is entered
  module _ (v : ℕ) (node : v < length graph) (unseen : get_or places v 0 ≡ 0) where
    explored_entered : IsExplored (needs_of graph) (path ++ v ∷ []) (bounds ++ length path ∷ []) (work ++ length path ∷ []) (set places v (length path + 2)) explored
    explored_entered =
        let inside : v < length places = omega (arith, node, w.place_each) in
        let other = place_other (needs_of graph) path bounds work places w.on_path w.in_work v inside unseen in
        let new = place_new (needs_of graph) path bounds work places w.on_path w.in_work v inside unseen in
        let old_node = node_old (needs_of graph) path bounds work places w.on_path w.in_work v inside unseen in
        let new_node = node_new (needs_of graph) path bounds work places w.on_path w.in_work v inside unseen in
        let ends = ends_at (needs_of graph) path bounds work places w.on_path w.in_work v inside unseen in
        let direct = needs_of graph in
        record {
          led = λ p x h k. elim (ends p h) [
            | inl less ↦
                let k' : has (take (get_or explored (get_or path p 0) 0) (needs_of graph (get_or path p 0))) x ≡ true =
                sym (ap (λ (y : ℕ). has (take (get_or explored y 0) (needs_of graph y)) x) (old_node p less)) ∙ k in
                elim (w.followed.led p x less k') [
                  | inl done ↦ inl (other x (λ e. omega (arith, done, ap (λ (y : ℕ). get_or places y 0) e, unseen)) ∙ done)
                  | inr t ↦ inr (
                    t.0,
                    omega (arith, t.1, length_push path v),
                    old_node t.0 t.1 ∙ t.2,
                    λ c hc le. elim (has_push bounds (length path) c hc) [
                      | inl front ↦ t.3 c front le
                      | inr e ↦ absurd (omega (arith, e, le, less))
                    ],
                  )
                ]
            | inr e ↦
                let none : get_or explored (get_or (path ++ v ∷ []) p 0) 0 ≡ 0 = ap (λ (y : ℕ). get_or explored y 0) (new_node p e) ∙ w.followed.fresh v unseen in
                absurd (false≢true (sym (ap (λ (n : ℕ). has (take n (needs_of graph (get_or (path ++ v ∷ []) p 0))) x) none) ∙ k))
          ];
          through = λ p h out. elim (ends p h) [
            | inl less ↦
                subst (λ (y : ℕ). length (needs_of graph y) ≤ get_or explored y 0) (sym (old_node p less)) (w.followed.through p less (λ k. out (has_front work (length path) p k)))
            | inr e ↦ absurd (out (ap (λ (y : ℕ). has (work ++ length path ∷ []) y) e ∙ has_end work (length path)))
          ];
          fresh = λ x h. elim (cases_eq x v) [
            | inl same ↦ absurd (omega (arith, h, ap (λ (y : ℕ). get_or (set places v (length path + 2)) y 0) same, new))
            | inr differs ↦ w.followed.fresh x (sym (other x differs) ∙ h)
          ];
        }

    pub walk_entered : ((p : ℕ) → p < length path → Reaches (needs_of graph) (get_or path p 0) v)
        → IsWalk graph (path ++ v ∷ []) (bounds ++ length path ∷ []) (work ++ length path ∷ []) (set places v (length path + 2)) explored ranks
    walk_entered reached =
        let inside : v < length places = omega (arith, node, w.place_each) in
        let other = place_other (needs_of graph) path bounds work places w.on_path w.in_work v inside unseen in
        let new = place_new (needs_of graph) path bounds work places w.on_path w.in_work v inside unseen in
        record {
          place_each = length-set places v (length path + 2) ∙ w.place_each;
          explored_each = w.explored_each;
          rank_each = w.rank_each;
          on_path = path_entered (needs_of graph) path bounds work places w.on_path w.in_work v inside unseen reached;
          in_work = work_entered (needs_of graph) path bounds work places w.on_path w.in_work v inside unseen;
          followed = explored_entered;
          ranked = ranked_along (needs_of graph) places (set places v (length path + 2)) ranks w.ranked (sym (length-set places v (length path + 2)))
              (λ x h. other x (λ e. omega (arith, h, ap (λ (y : ℕ). get_or places y 0) e, unseen)) ∙ h)
              (λ x h. elim (cases_eq x v) [
                | inl same ↦ absurd (omega (arith, h, ap (λ (y : ℕ). get_or (set places v (length path + 2)) y 0) same, new))
                | inr differs ↦ sym (other x differs) ∙ h
              ]);
        }

  -- groups join
  pub walk_narrowed : (j i : ℕ) (bounds' : List ℕ) → has work j ≡ true → ((x : ℕ) → has work x ≡ true → x ≤ j) → i < length path
      → has (needs_of graph (get_or path j 0)) (get_or path i 0) ≡ true → IsNarrowed bounds i bounds' → IsWalk graph path bounds' work places explored ranks
  walk_narrowed j i bounds' in_it greatest low edge n =
      record {
        place_each = w.place_each;
        explored_each = w.explored_each;
        rank_each = w.rank_each;
        on_path = path_narrowed (needs_of graph) path bounds work places w.on_path w.in_work j i bounds' in_it greatest low edge n;
        in_work = work_narrowed (needs_of graph) path bounds work places w.on_path w.in_work i bounds' n;
        followed = record {
          led = λ p x h k. elim (w.followed.led p x h k) [ inl done ↦ inl done | inr t ↦ inr (t.0, t.1, t.2, λ c hc le. t.3 c (n.only c hc).0 le) ];
          through = w.followed.through;
          fresh = w.followed.fresh;
        };
        ranked = w.ranked;
      }

  pub place_of : (j : ℕ) → j < length path → get_or path j 0 < length graph
  place_of j low =
      elim (cases_lt (get_or path j 0) (length places)) [
        | inl less ↦ omega (arith, less, w.place_each)
        | inr past ↦ absurd (omega (arith, w.on_path.at j low, get_or_past places (get_or path j 0) 0 past))
      ]

  pub same_place : (p j : ℕ) → p < length path → j < length path → get_or path p 0 ≡ get_or path j 0 → p ≡ j
  same_place p j h low e = omega (arith, w.on_path.at p h, w.on_path.at j low, ap (λ (x : ℕ). get_or places x 0) e)

  -- the next need of the node v at j has been followed
  module _ (j v k : ℕ) (low : j < length path) (here : v ≡ get_or path j 0) (count : k ≡ get_or explored v 0) (more : k < length (needs_of graph v))
      (there : IsLed path bounds places j (get_or (needs_of graph v) k 0)) where
    advanced_same : get_or (set explored v (k + 1)) v 0 ≡ k + 1
    advanced_same =
        let node : v < length explored = omega (arith, place_of j low, here, w.explored_each) in
        get_or-set_same explored v (k + 1) 0 node

    advanced_more : (x : ℕ) → get_or explored x 0 ≤ get_or (set explored v (k + 1)) x 0
    advanced_more x =
        elim (cases_eq x v) [
          | inl same ↦ omega (arith, advanced_same, ap (λ (y : ℕ). get_or (set explored v (k + 1)) y 0) same, ap (λ (y : ℕ). get_or explored y 0) same, count)
          | inr other ↦ omega (arith, get_or-set_other explored v x (k + 1) 0 other)
        ]

    advanced_led : (x : ℕ) → has (take (get_or (set explored v (k + 1)) v 0) (needs_of graph v)) x ≡ true → IsLed path bounds places j x
    advanced_led x h =
        let h' : has (take k (needs_of graph v) ++ get_or (needs_of graph v) k 0 ∷ []) x ≡ true =
        sym (ap (λ (n : ℕ). has (take n (needs_of graph v)) x) advanced_same ∙ ap (λ (l : List ℕ). has l x) (take_more (needs_of graph v) k 0 more)) ∙ h in
        elim (has_push (take k (needs_of graph v)) (get_or (needs_of graph v) k 0) x h') [
          | inl front ↦ w.followed.led j x low (
              subst (λ (y : ℕ). has (take (get_or explored y 0) (needs_of graph y)) x ≡ true) here
              (ap (λ (n : ℕ). has (take n (needs_of graph v)) x) (sym count) ∙ front)
              )
          | inr e ↦ subst (λ (y : ℕ). IsLed path bounds places j y) e there
        ]

    pub walk_advanced : IsWalk graph path bounds work places (set explored v (k + 1)) ranks
    walk_advanced =
        record {
          place_each = w.place_each;
          explored_each = length-set explored v (k + 1) ∙ w.explored_each;
          rank_each = w.rank_each;
          on_path = w.on_path;
          in_work = w.in_work;
          followed = record {
            led = λ p x h f. elim (cases_eq p j) [
              | inl same ↦
                  let node : get_or path p 0 ≡ v = ap (λ (i : ℕ). get_or path i 0) same ∙ sym here in
                  subst (λ (i : ℕ). IsLed path bounds places i x) (sym same)
                  (advanced_led x (subst (λ (y : ℕ). has (take (get_or (set explored v (k + 1)) y 0) (needs_of graph y)) x ≡ true) node f))
              | inr differs ↦
                  let other : get_or path p 0 ≢ v = λ e. differs (same_place p j h low (e ∙ here)) in
                  w.followed.led p x h (ap (λ (n : ℕ). has (take n (needs_of graph (get_or path p 0))) x) (sym (get_or-set_other explored v (get_or path p 0) (k + 1) 0 other)) ∙ f)
            ];
            through = λ p h out. omega (arith, w.followed.through p h out, advanced_more (get_or path p 0));
            fresh = λ x h.
                let other : x ≢ v = λ e. omega (arith, h, ap (λ (y : ℕ). get_or places y 0) (e ∙ here), w.on_path.at j low) in
                get_or-set_other explored v x (k + 1) 0 other ∙ w.followed.fresh x h;
          };
          ranked = w.ranked;
        }

  -- the node at j has no needs left, and its group has more to follow
  pub walk_left : (j : ℕ) (rest : List ℕ) → IsPopped work rest j → (has bounds j ≡ true → ⊥) → length (needs_of graph (get_or path j 0)) ≤ get_or explored (get_or path j 0) 0
      → IsWalk graph path bounds rest places explored ranks
  walk_left j rest p apart full =
      record {
        place_each = w.place_each;
        explored_each = w.explored_each;
        rank_each = w.rank_each;
        on_path = w.on_path;
        in_work = record {
          rises = p.rises;
          bounds_rise = w.in_work.bounds_rise;
          inside = λ x h. w.in_work.inside x (p.keeps x h);
          kept = λ b h. elim (p.only b (w.in_work.kept b h)) [ inl front ↦ front | inr e ↦ absurd (apart (ap (λ (x : ℕ). has bounds x) e ∙ h)) ];
          first = w.in_work.first;
        };
        followed = record {
          led = w.followed.led;
          through = λ x h out. elim (cases_eq x j) [
            | inl same ↦ subst (λ (i : ℕ). length (needs_of graph (get_or path i 0)) ≤ get_or explored (get_or path i 0) 0) (sym same) full
            | inr differs ↦ w.followed.through x h (λ k. elim (p.only x k) [ inl front ↦ out front | inr e ↦ differs (sym e) ])
          ];
          fresh = w.followed.fresh;
        };
        ranked = w.ranked;
      }

-- the same as the code makes it
pub walk_entered_at : (graph : List (List ℕ)) (path bounds work places explored ranks : List ℕ) (v at : ℕ) (path' bounds' work' : List ℕ)
    → IsWalk graph path bounds work places explored ranks → v < length graph → get_or places v 0 ≡ 0 → ((p : ℕ) → p < length path → Reaches (needs_of graph) (get_or path p 0) v)
    → at ≡ length path → path' ≡ path ++ v ∷ [] → bounds' ≡ bounds ++ at ∷ [] → work' ≡ work ++ at ∷ []
    → IsWalk graph path' bounds' work' (set places v (at + 2)) explored ranks
walk_entered_at graph path bounds work places explored ranks v at path' bounds' work' w node unseen reached e p b k =
    subst (λ (l : List ℕ). IsWalk graph l bounds' work' (set places v (at + 2)) explored ranks) (sym p)
    (subst (λ (l : List ℕ). IsWalk graph (path ++ v ∷ []) l work' (set places v (at + 2)) explored ranks) (sym b)
    (subst (λ (l : List ℕ). IsWalk graph (path ++ v ∷ []) (bounds ++ at ∷ []) l (set places v (at + 2)) explored ranks) (sym k)
    (subst (λ (n : ℕ). IsWalk graph (path ++ v ∷ []) (bounds ++ n ∷ []) (work ++ n ∷ []) (set places v (n + 2)) explored ranks) (sym e)
    (walk_entered graph path bounds work places explored ranks w v node unseen reached))))
