-- The path of a walk: whom its nodes reach as it grows and as its groups join.
use Rattle.std.proofs.Common.{ℕ, ◌+◌, ◌≡◌, ◌≢◌, ◌<◌, ◌≤◌, sym, ◌∙◌, ap, true, ◌⊎◌, inl, inr, List, [], ◌∷◌, ◌++◌, length, get_or, set, arith, subst, get_or-set_same, get_or-set_other}
use Rattle.std.proofs.lemmas.Bool.{cases_lt, cases_eq}
use Rattle.std.proofs.lemmas.List.{get_or_append_left, get_or_push, length_push}
use Rattle.nb_graph.specs.Needs.{has, Needs, at_once, through}
use Rattle.nb_graph.specs.Walks.{Reaches, IsPath, IsWork, IsNarrowed}
use Rattle.nb_graph.proofs.Reaches.{Needs_trans}
use Rattle.nb_graph.proofs.Lists.{has_front, has_end, has_push, top}
use Rattle.nb_graph.proofs.Rising.{rises_push}

module _ (direct : ℕ → List ℕ) where
  pub reaches_trans : (x y z : ℕ) → Reaches direct x y → Reaches direct y z → Reaches direct x z
  reaches_trans x y z r s =
      elim r [
        | inl e ↦ subst (λ (a : ℕ). Reaches direct a z) (sym e) s
        | inr n ↦ elim s [ inl e ↦ inr (subst (λ (b : ℕ). Needs direct x b) e n) | inr m ↦ inr (Needs_trans direct [] n m) ]
      ]

  pub reaches_need : (x y z : ℕ) → Reaches direct x y → has (direct y) z ≡ true → Needs direct x z
  reaches_need x y z r h =
      elim r [ inl e ↦ at_once (ap (λ (a : ℕ). has (direct a) z) e ∙ h) | inr n ↦ through n h ]

  pub needs_reaches : (x y z : ℕ) → Needs direct x y → Reaches direct y z → Needs direct x z
  needs_reaches x y z n r = elim r [ inl e ↦ subst (λ (b : ℕ). Needs direct x b) e n | inr m ↦ Needs_trans direct [] n m ]

  pub reaches_needs : (x y z : ℕ) → Reaches direct x y → Needs direct y z → Needs direct x z
  reaches_needs x y z r n = elim r [ inl e ↦ subst (λ (a : ℕ). Needs direct a z) (sym e) n | inr m ↦ Needs_trans direct [] m n ]

  pub reaches_along : (x x' y y' : ℕ) → x' ≡ x → y' ≡ y → Reaches direct x y → Reaches direct x' y'
  reaches_along x x' y y' e f r = subst (λ (a : ℕ). Reaches direct a y') (sym e) (subst (λ (b : ℕ). Reaches direct x b) (sym f) r)

  module _ (path bounds work places : List ℕ) (on_path : IsPath direct path bounds places) (in_work : IsWork path bounds work) where
    -- each node of the path reaches the last that has needs to follow
    pub to_last : (j : ℕ) → has work j ≡ true → ((x : ℕ) → has work x ≡ true → x ≤ j) → (p : ℕ) → p < length path → Reaches direct (get_or path p 0) (get_or path j 0)
    to_last j in_it greatest p h =
        let low : j < length path = in_work.inside j in_it in
        elim (cases_lt j p) [
          | inl less ↦
              let t : (b : ℕ) × (has bounds b ≡ true) × ((c : ℕ) → has bounds c ≡ true → c ≤ b) = top bounds 0 (in_work.first (omega (arith, h))) in
              let b_low : t.0 ≤ j = greatest t.0 (in_work.kept t.0 t.1) in
              reaches_trans (get_or path p 0) (get_or path t.0 0) (get_or path j 0)
              (on_path.around p t.0 h t.1 (omega (arith, less, b_low)) (λ c k l. t.2 c k)) (on_path.ahead t.0 j b_low low)
          | inr more ↦ on_path.ahead p j more low
        ]

    -- groups join where the last node with needs to follow needs one before
    pub path_narrowed : (j i : ℕ) (bounds' : List ℕ) → has work j ≡ true → ((x : ℕ) → has work x ≡ true → x ≤ j) → i < length path → has (direct (get_or path j 0)) (get_or path i 0) ≡ true
        → IsNarrowed bounds i bounds' → IsPath direct path bounds' places
    path_narrowed j i bounds' in_it greatest low edge n =
        record {
          at = on_path.at;
          back = on_path.back;
          ahead = on_path.ahead;
          around = λ p b h hb le most. elim (cases_lt i p) [
            | inl beyond ↦
                let out : Needs direct (get_or path p 0) (get_or path i 0) = reaches_need (get_or path p 0) (get_or path j 0) (get_or path i 0) (to_last j in_it greatest p h) edge in
                let home : Reaches direct (get_or path i 0) (get_or path b 0) =
                on_path.around i b low (n.only b hb).0 (n.only b hb).1 (λ c k l. most c (n.keeps c k l) (omega (arith, l, beyond))) in
                inr (needs_reaches (get_or path p 0) (get_or path i 0) (get_or path b 0) out home)
            | inr within ↦ on_path.around p b h (n.only b hb).0 le (λ c k l. most c (n.keeps c k (omega (arith, l, within))) l)
          ];
        }

    pub work_narrowed : (i : ℕ) (bounds' : List ℕ) → IsNarrowed bounds i bounds' → IsWork path bounds' work
    work_narrowed i bounds' n =
        record {
          rises = in_work.rises;
          bounds_rise = n.rises;
          inside = in_work.inside;
          kept = λ b h. in_work.kept b (n.only b h).0;
          first = λ h. n.keeps 0 (in_work.first h) (omega arith);
        }

    module _ (v : ℕ) (inside : v < length places) (unseen : get_or places v 0 ≡ 0) where
      -- the places where v has been entered
      entered : List ℕ
      entered = set places v (length path + 2)

      pub place_other : (x : ℕ) → x ≢ v → get_or (set places v (length path + 2)) x 0 ≡ get_or places x 0
      place_other x other = get_or-set_other places v x (length path + 2) 0 other

      pub place_new : get_or (set places v (length path + 2)) v 0 ≡ length path + 2
      place_new = get_or-set_same places v (length path + 2) 0 inside

      pub node_old : (p : ℕ) → p < length path → get_or (path ++ v ∷ []) p 0 ≡ get_or path p 0
      node_old p h = get_or_append_left path (v ∷ []) 0 p h

      pub node_new : (p : ℕ) → p ≡ length path → get_or (path ++ v ∷ []) p 0 ≡ v
      node_new p e = get_or_push path v 0 p (sym e)

      pub ends_at : (p : ℕ) → p < length (path ++ v ∷ []) → (p < length path) ⊎ (p ≡ length path)
      ends_at p h = elim (cases_lt p (length path)) [ inl less ↦ inl less | inr more ↦ inr (omega (arith, h, more, length_push path v)) ]

      pub old_other : (p : ℕ) → p < length path → get_or path p 0 ≢ v
      old_other p h same = omega (arith, on_path.at p h, sym (ap (λ (x : ℕ). get_or places x 0) same), unseen)

      pub path_entered : ((p : ℕ) → p < length path → Reaches direct (get_or path p 0) v) → IsPath direct (path ++ v ∷ []) (bounds ++ length path ∷ []) (set places v (length path + 2))
      path_entered reached =
          record {
            at = λ p h. elim (ends_at p h) [
              | inl less ↦
                  ap (λ (x : ℕ). get_or (set places v (length path + 2)) x 0) (node_old p less) ∙ place_other (get_or path p 0) (old_other p less) ∙ on_path.at p less
              | inr e ↦ ap (λ (x : ℕ). get_or (set places v (length path + 2)) x 0) (node_new p e) ∙ place_new ∙ ap (λ (n : ℕ). n + 2) (sym e)
            ];
            back = λ x i h. elim (cases_eq x v) [
              | inl same ↦
                  let e : i ≡ length path = omega (arith, h, ap (λ (y : ℕ). get_or (set places v (length path + 2)) y 0) same, place_new) in
                  (omega (arith, e, length_push path v), node_new i e ∙ sym same)
              | inr other ↦
                  let t : (i < length path) × (get_or path i 0 ≡ x) = on_path.back x i (sym (place_other x other) ∙ h) in
                  (omega (arith, t.0, length_push path v), node_old i t.0 ∙ t.1)
            ];
            ahead = λ p q le h. elim (ends_at q h) [
              | inl less ↦
                  let p_less : p < length path = omega (arith, le, less) in
                  reaches_along (get_or path p 0) (get_or (path ++ v ∷ []) p 0) (get_or path q 0) (get_or (path ++ v ∷ []) q 0) (node_old p p_less) (node_old q less) (on_path.ahead p q le less)
              | inr e ↦ elim (cases_lt p (length path)) [
                | inl p_less ↦ reaches_along (get_or path p 0) (get_or (path ++ v ∷ []) p 0) v (get_or (path ++ v ∷ []) q 0) (node_old p p_less) (node_new q e) (reached p p_less)
                | inr p_more ↦ inl (ap (λ (i : ℕ). get_or (path ++ v ∷ []) i 0) (omega (arith, le, e, p_more)))
              ]
            ];
            around = λ p b h hb le most. elim (ends_at p h) [
              | inl less ↦
                  let b_less : b < length path = omega (arith, le, less) in
                  let old : has bounds b ≡ true = elim (has_push bounds (length path) b hb) [ inl front ↦ front | inr e ↦ absurd (omega (arith, e, b_less)) ] in
                  reaches_along (get_or path p 0) (get_or (path ++ v ∷ []) p 0) (get_or path b 0) (get_or (path ++ v ∷ []) b 0) (node_old p less) (node_old b b_less)
                  (on_path.around p b less old le (λ c k l. most c (has_front bounds (length path) c k) l))
              | inr e ↦
                  let up : length path ≤ b = most (length path) (has_end bounds (length path)) (omega (arith, e)) in
                  inl (ap (λ (i : ℕ). get_or (path ++ v ∷ []) i 0) (omega (arith, up, le, e)))
            ];
          }

      pub work_entered : IsWork (path ++ v ∷ []) (bounds ++ length path ∷ []) (work ++ length path ∷ [])
      work_entered =
          record {
            rises = rises_push work (length path) in_work.rises in_work.inside;
            bounds_rise = rises_push bounds (length path) in_work.bounds_rise (λ y h. in_work.inside y (in_work.kept y h));
            inside = λ j h. elim (has_push work (length path) j h) [
              | inl front ↦ omega (arith, in_work.inside j front, length_push path v)
              | inr e ↦ omega (arith, e, length_push path v)
            ];
            kept = λ b h. elim (has_push bounds (length path) b h) [
              | inl front ↦ has_front work (length path) b (in_work.kept b front)
              | inr e ↦ ap (λ (x : ℕ). has (work ++ length path ∷ []) x) (sym e) ∙ has_end work (length path)
            ];
            first = λ h. elim (cases_lt 0 (length path)) [
              | inl some ↦ has_front bounds (length path) 0 (in_work.first some)
              | inr none ↦ let e : 0 ≡ length path = omega (arith, none) in ap (λ (x : ℕ). has (bounds ++ length path ∷ []) x) e ∙ has_end bounds (length path)
            ];
          }
