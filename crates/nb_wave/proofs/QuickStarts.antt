-- A start takes its own mark away, and no other, where the marks are of what is due or needs something due.
use Rattle.std.proofs.Common.{ℕ, ◌+◌, ◌-◌, ◌≡◌, ◌≢◌, ◌<◌, ◌≤◌, refl, sym, ◌∙◌, ap, subst, Bool, true, false, cond, not, ◌&&◌, ◌||◌, ◌⊎◌, inl, inr, eqb, List, [], ◌∷◌, length, set, arith, length-set, get_or-set_same, get_or-set_other, Option, Some, None}
use Rattle.std.specs.Prelude.{slice_get}
use Rattle.std.specs.List.{list_any}
use Rattle.std.proofs.lemmas.Bool.{false≢true, cases_eq, cases_Bool, or_right, and_parts, and_from, not-true, false_from_ne_true, eqb-false, eq-eqb}
use Rattle.std.proofs.lemmas.Option.{slice_get_within}
use Rattle.nb_graph.specs.Needs.{has, Needs, at_once, through}
use Rattle.nb_graph.proofs.Reaches.{has_head, has_tail, has_cases, any_has, has_any, needed_sound, needed_complete, Needs_trans}
use Rattle.nb_wave.specs.declared.footing.Footing.{Footing}
use Rattle.nb_wave.specs.declared.row.Row.{Row}
use Rattle.nb_wave.specs.Footings.{same_numbers, same_base, same_footing}
use Rattle.nb_wave.specs.Rules.{from_option, is_wanted, is_idle, is_behind, is_pulling, is_leaving, is_circular, is_overtaken, wants_start, passes, needs_of, numbers, needed, rests_on, pulls_on, held, due, may_start, leaving, least, first_where, IsSound}
use Rattle.nb_wave.specs.Steps.{renumbered, resting, rested, begun, stepped}
use Rattle.nb_wave.specs.Marks.{marked, Rests}
use Rattle.nb_wave.specs.QuickRows.{AllBelow, Follows, IsQuick, AreQuick, starts_next}
use Rattle.nb_wave.specs.Wave.{IsRows}
use Rattle.nb_wave.proofs.Numbers.{same_numbers_eq}
use Rattle.nb_wave.proofs.Spreads.{needs_within, rests_from, rests_to, rests_above}
use Rattle.nb_wave.proofs.Dues.{same_tests, Through, needs_first}
use Rattle.nb_wave.proofs.Stepped.{mild_begun, is_plain, length_stepped, get_stepped_same, get_stepped_other, wanted_stepped, numbers_stepped, needed_stepped, Comes, comes}
use Rattle.nb_wave.proofs.Calm.{passes_row, passes_at, wants_parts, due_wants, due_wanted, due_behind, may_due, may_needs, Calm, calm_self, behind_apart, wants_apart}
use Rattle.nb_wave.proofs.Changing.{length_renumbered}
use Rattle.nb_wave.proofs.Runs.{range_has, none_leaving}
use mathlib.Core.Path.{fun_ext}

-- ---- what follows is behind

renumbered_has : (v n : ℕ) (us xs : List ℕ) → length us ≤ length xs → has us v ≡ true → has (renumbered v n us xs) n ≡ true
renumbered_has v n [] xs long h = absurd (false≢true h)
renumbered_has v n (u ∷ us) [] long h = absurd (omega (arith, long))
renumbered_has v n (u ∷ us) (x ∷ xs) long h =
    elim (has_cases u us v h) [
      | inl same ↦
          let e : eqb u v ≡ true = eq-eqb u v same in
          has_head (cond (eqb u v) n x) (renumbered v n us xs) n (ap (λ (b : Bool). cond b n x) e)
      | inr later ↦ has_tail (cond (eqb u v) n x) (renumbered v n us xs) n (renumbered_has v n us xs (omega (arith, long)) later)
    ]

-- what differs in starts isn't one
starts_apart : (f k : Footing) (n : ℕ) → has f.starts n ≡ true → AllBelow n k.starts → same_footing f k ≡ false
starts_apart f k n h below =
    false_from_ne_true (same_footing f k) (λ e.
    let base : same_base f k ≡ true = (and_parts (same_base f k) (same_numbers f.renewals k.renewals) e).0 in
    let s : same_numbers f.starts k.starts ≡ true =
    (and_parts (eqb f.place k.place && eqb f.mark k.mark && same_numbers f.inputs k.inputs) (same_numbers f.starts k.starts) base).1 in
    let less : n < n = below n (ap (λ (l : List ℕ). has l n) (sym (same_numbers_eq f.starts k.starts s)) ∙ h) in
    omega (arith, less))

behind_follows : (u place : ℕ) (r : Row) → Follows place r → has r.needs u ≡ true → is_behind (rested u place r) ≡ true
behind_follows u place r f h = go r.kept refl
  where
    go : (o : Option Footing) → r.kept ≡ o → from_option true (λ (k : Footing). not (same_footing (resting u place r) k)) o ≡ true
    go None e = refl
    go (Some k) e = ap not (starts_apart (resting u place r) k place (renumbered_has u place r.needs (Footing.starts r.present) f.long h) (f.before k e))

-- ---- the marks tell what may start

-- it is wanted and marked, and nothing that it needs directly is
pub record IsNext (rows : List Row) (marks : List Bool) (v : ℕ) : Type 0 where
  pub wanted : passes is_wanted rows v ≡ true
  pub mark : marked marks v ≡ true
  pub none : list_any (marked marks) (needs_of rows v) ≡ false

module _ (rows : List Row) (marks : List Bool) (place : ℕ) (is : IsRows rows) (sound : IsSound rows) (q : AreQuick rows marks place) where
  no_held : (v : ℕ) → held rows v ≡ false
  no_held v = ap (λ (b : Bool). b && rests_on (passes is_overtaken rows) rows v) q.still

  due_from : (v : ℕ) → passes wants_start rows v ≡ true → due rows v ≡ true
  due_from v h = and_from (passes wants_start rows v) (not (held rows v)) h (ap not (no_held v))

  near_to : (v : ℕ) → passes is_wanted rows v ≡ true → marked marks v ≡ true → Rests (due rows) rows v
  near_to v want h = rests_to (due rows) rows v (sym (q.near v want) ∙ h)

  near_from : (v : ℕ) → passes is_wanted rows v ≡ true → Rests (due rows) rows v → marked marks v ≡ true
  near_from v want r = q.near v want ∙ rests_from (due rows) rows is.needs v r

  -- the row of one that is wanted and marked
  record QuickAt (v : ℕ) : Type 0 where
    pub row : Row
    pub at : slice_get rows v ≡ Some row
    pub wanted : row.wanted ≡ true
    pub quick : IsQuick rows marks place row
    pub needs : needs_of rows v ≡ row.needs

  quick_at : (v : ℕ) → passes is_wanted rows v ≡ true → marked marks v ≡ true → QuickAt v
  quick_at v want mark =
      let p : (r : Row) × (slice_get rows v ≡ Some r) × (is_wanted r ≡ true) = passes_row is_wanted rows v want in
      record { row = p.0; at = p.1; wanted = p.2; quick = q.each v p.0 p.1 p.2 mark; needs = ap (from_option [] (λ (r : Row). r.needs)) p.1 }

  need_wanted : (v u : ℕ) → passes is_wanted rows v ≡ true → marked marks v ≡ true → has (needs_of rows v) u ≡ true → passes is_wanted rows u ≡ true
  need_wanted v u want mark h =
      let a : QuickAt v = quick_at v want mark in
      IsQuick.wanted a.quick u (ap (λ (l : List ℕ). has l u) (sym a.needs) ∙ h)

  -- so is each on the way from a wanted one to one that rests on what is due
  through_wanted : {v x : ℕ} → Needs (needs_of rows) v x → passes is_wanted rows v ≡ true → Rests (due rows) rows x → passes is_wanted rows x ≡ true
  through_wanted {v} {x} (at_once h) want r = need_wanted v x want (near_from v want (rests_above (due rows) rows v x h r)) h
  through_wanted {v} {x} (through {w = y} n h) want r =
      let ry : Rests (due rows) rows y = rests_above (due rows) rows y x h r in
      let wy : passes is_wanted rows y ≡ true = through_wanted n want ry in
      need_wanted y x wy (near_from y wy ry) h

  -- nothing is due that the next one needs
  next_needs : (v : ℕ) → IsNext rows marks v → (w : ℕ) → Needs (needs_of rows) v w → due rows w ≡ false
  next_needs v f w k =
      false_from_ne_true (due rows w) (λ d.
      let t : Through rows v w = needs_first rows k in
      let want : passes is_wanted rows t.0 ≡ true = need_wanted v t.0 f.wanted f.mark t.1 in
      let r : Rests (due rows) rows t.0 = elim t.2 [ inl same ↦ inl (ap (due rows) same ∙ d) | inr m ↦ inr (w, m, d) ] in
      false≢true (sym f.none ∙ has_any (marked marks) (needs_of rows v) t.0 t.1 (near_from t.0 want r)))

  pub next_due : (v : ℕ) → IsNext rows marks v → due rows v ≡ true
  next_due v f =
      elim (near_to v f.wanted f.mark) [
        | inl d ↦ d
        | inr t ↦ absurd (false≢true (sym (next_needs v f t.0 t.1) ∙ t.2))
      ]

  pub next_may : (v : ℕ) → IsNext rows marks v → may_start rows v ≡ true
  next_may v f =
      let circular = passes is_circular rows v in
      let some = list_any (due rows) (needed rows v) in
      and_from (due rows v) (circular || not some) (next_due v f)
      (or_right circular (not some) (ap not (false_from_ne_true some (λ h.
      let t : (w : ℕ) × (has (needed rows v) w ≡ true) × (due rows w ≡ true) = any_has (due rows) (needed rows v) h in
      false≢true (sym (next_needs v f t.0 (needed_sound (needs_of rows) (numbers rows) v t.0 t.1)) ∙ t.2)))))

  complete : (v w : ℕ) → Needs (needs_of rows) v w → has (needed rows v) w ≡ true
  complete v w k = needed_complete (needs_of rows) (numbers rows) (needs_within rows is.needs) k

  long_needs : (us : List ℕ) (u : ℕ) → has us u ≡ true → 0 < length us
  long_needs [] u h = absurd (false≢true h)
  long_needs (x ∷ us) u h = omega arith

  may_next : (v : ℕ) → may_start rows v ≡ true → IsNext rows marks v
  may_next v may =
      let d : due rows v ≡ true = may_due rows v may in
      let want : passes is_wanted rows v ≡ true = due_wanted rows v d in
      let mark : marked marks v ≡ true = near_from v want (inl d) in
      let a : QuickAt v = quick_at v want mark in
      record {
        wanted = want;
        mark = mark;
        none = false_from_ne_true (list_any (marked marks) (needs_of rows v)) (λ h.
            let t : (u : ℕ) × (has (needs_of rows v) u ≡ true) × (marked marks u ≡ true) = any_has (marked marks) (needs_of rows v) h in
            let r : Rests (due rows) rows t.0 = near_to t.0 (need_wanted v t.0 want mark t.1) t.2 in
            let f : Follows place a.row = IsQuick.follows a.quick (ap (list_any (marked marks)) (sym a.needs) ∙ h) in
            elim (cases_Bool (is_plain a.row)) [
              | inr mark_there ↦
                  let none : Footing.starts (Row.present a.row) ≡ [] = sound.starts v a.row a.at (eqb-false (Footing.mark (Row.present a.row)) 0 mark_there) in
                  let short : length (Footing.starts (Row.present a.row)) ≡ 0 = ap (λ (l : List ℕ). length l) none in
                  let some : 0 < length (Row.needs a.row) = long_needs (Row.needs a.row) t.0 (ap (λ (l : List ℕ). has l t.0) (sym a.needs) ∙ t.1) in
                  omega (arith, f.long, short, some)
              | inl plain ↦
                  let plain_there : passes is_plain rows v ≡ true = passes_at is_plain rows v a.row a.at ∙ plain in
                  let not_due : (w : ℕ) → Needs (needs_of rows) v w → due rows w ≡ true → ⊥ =
                  λ w k dw. false≢true (sym (may_needs rows is.needs v w may plain_there (complete v w k)) ∙ due_wants rows w dw) in
                  elim r [
                    | inl own ↦ not_due t.0 (at_once t.1) own
                    | inr s ↦ not_due s.0 (Needs_trans (needs_of rows) (numbers rows) (at_once t.1) s.1) s.2
                  ]
            ]);
      }

  next_from : (v : ℕ) → starts_next marks rows v ≡ true → IsNext rows marks v
  next_from v h =
      let t : ((passes is_wanted rows v && marked marks v) ≡ true) × (not (list_any (marked marks) (needs_of rows v)) ≡ true) =
      and_parts (passes is_wanted rows v && marked marks v) (not (list_any (marked marks) (needs_of rows v))) h in
      let s : (passes is_wanted rows v ≡ true) × (marked marks v ≡ true) = and_parts (passes is_wanted rows v) (marked marks v) t.0 in
      record { wanted = s.0; mark = s.1; none = not-true (list_any (marked marks) (needs_of rows v)) t.1 }

  next_to : (v : ℕ) → IsNext rows marks v → starts_next marks rows v ≡ true
  next_to v f =
      and_from (passes is_wanted rows v && marked marks v) (not (list_any (marked marks) (needs_of rows v)))
      (and_from (passes is_wanted rows v) (marked marks v) f.wanted f.mark) (ap not f.none)

  pub next_is : least (starts_next marks) rows ≡ least may_start rows
  next_is =
      ap (λ (test : ℕ → Bool). first_where test (numbers rows))
      (fun_ext (λ v. same_tests (starts_next marks rows v) (may_start rows v) (λ h. next_may v (next_from v h)) (λ h. next_to v (may_next v h))))

  pub may_is_next : (v : ℕ) → may_start rows v ≡ true → IsNext rows marks v
  may_is_next v may = may_next v may

  -- ---- a start of u

  module _ (none : least leaving rows ≡ None) (u : ℕ) (f : IsNext rows marks u) where
    calm_u : Calm (stepped begun u place rows) u
    calm_u = calm_self rows is.needs sound u place (next_may u f)

    not_itself : Needs (needs_of rows) u u → ⊥
    not_itself k = false≢true (sym (next_needs u f u k) ∙ next_due u f)

    not_user : (x : ℕ) → has (needs_of rows x) u ≡ true → u ≢ x
    not_user x h e = not_itself (at_once (ap (λ (y : ℕ). has (needs_of rows y) u) e ∙ h))

    apart : (x : ℕ) → has (needs_of rows x) u ≡ false → passes is_plain rows x ≡ true → has (needs_of rows x) u ≡ false
    apart x h plain = h

    -- a user of u is behind then
    user_behind : (x : ℕ) → passes is_wanted rows x ≡ true → has (needs_of rows x) u ≡ true → passes is_behind (stepped begun u place rows) x ≡ true
    user_behind x want h =
        let mark : marked marks x ≡ true = near_from x want (inr (u, at_once h, next_due u f)) in
        let a : QuickAt x = quick_at x want mark in
        let h_row : has (Row.needs a.row) u ≡ true = ap (λ (l : List ℕ). has l u) (sym a.needs) ∙ h in
        let follows : Follows place a.row = IsQuick.follows a.quick (has_any (marked marks) (Row.needs a.row) u h_row f.mark) in
        passes_at is_behind (stepped begun u place rows) x (rested u place a.row) (get_stepped_other begun mild_begun u place rows x a.row (not_user x h) a.at)
        ∙ behind_follows u place a.row follows h_row

    idle_behind : (r : Row) → is_leaving r ≡ false → r.wanted ≡ false → is_behind (rested u place r) ≡ true
    idle_behind r stays out = go r.kept refl
      where
        go : (o : Option Footing) → r.kept ≡ o → from_option true (λ (k : Footing). not (same_footing (resting u place r) k)) o ≡ true
        go None e = refl
        go (Some k) e =
            let leaves : is_leaving r ≡ true =
            and_from (not r.wanted) (not (is_idle r)) (ap not out) (ap (λ (o : Option Footing). not (is_idle (record r { kept = o }))) e) in
            absurd (false≢true (sym stays ∙ leaves))

    -- what was behind stays so, but for u
    behind_stays : (x : ℕ) → 1 ≤ x → u ≢ x → passes is_behind rows x ≡ true → passes is_behind (stepped begun u place rows) x ≡ true
    behind_stays x low other h =
        elim (cases_Bool (has (needs_of rows x) u)) [
          | inr not_user_of_u ↦ behind_apart rows is.needs sound u place x other (apart x not_user_of_u) ∙ h
          | inl user ↦
              let p : (r : Row) × (slice_get rows x ≡ Some r) × (is_behind r ≡ true) = passes_row is_behind rows x h in
              elim (cases_Bool (Row.wanted p.0)) [
                | inl want ↦ user_behind x (passes_at is_wanted rows x p.0 p.1 ∙ want) user
                | inr out ↦
                    passes_at is_behind (stepped begun u place rows) x (rested u place p.0) (get_stepped_other begun mild_begun u place rows x p.0 other p.1)
                    ∙ idle_behind p.0 (sym (passes_at is_leaving rows x p.0 p.1) ∙ none_leaving rows none x low) out
              ]
        ]

    still_begun : pulls_on (stepped begun u place rows) ≡ false
    still_begun =
        false_from_ne_true (pulls_on (stepped begun u place rows)) (λ h.
        let t : (x : ℕ) × (has (numbers (stepped begun u place rows)) x ≡ true) × (passes is_pulling (stepped begun u place rows) x ≡ true) =
        any_has (passes is_pulling (stepped begun u place rows)) (numbers (stepped begun u place rows)) h in
        let there : has (numbers rows) t.0 ≡ true = ap (λ (l : List ℕ). has l t.0) (sym (numbers_stepped begun mild_begun u place rows)) ∙ t.1 in
        let low : 1 ≤ t.0 = (range_has 1 (length rows - 1) t.0 there).0 in
        let p : (r : Row) × (slice_get (stepped begun u place rows) t.0 ≡ Some r) × (is_pulling r ≡ true) = passes_row is_pulling (stepped begun u place rows) t.0 t.2 in
        let parts : (Row.later p.0 ≡ true) × (not (is_behind p.0) ≡ true) = and_parts (Row.later p.0) (not (is_behind p.0)) p.2 in
        let c : Comes begun mild_begun u place rows t.0 p.0 = comes begun mild_begun u place rows t.0 p.0 p.1 in
        let new_at : slice_get (stepped begun u place rows) t.0 ≡ Some p.0 = p.1 in
        elim (cases_eq u t.0) [
          | inl same ↦
              let at_u : slice_get rows u ≡ Some c.old = ap (slice_get rows) same ∙ c.at in
              let made : slice_get (stepped begun u place rows) t.0 ≡ Some (rested u place (begun c.old)) =
              ap (slice_get (stepped begun u place rows)) (sym same) ∙ get_stepped_same begun mild_begun u place rows c.old at_u in
              let e : p.0 ≡ rested u place (begun c.old) = cc in
              false≢true (ap (λ (r : Row). r.later) (sym e) ∙ parts.0)
          | inr other ↦
              let made : slice_get (stepped begun u place rows) t.0 ≡ Some (rested u place c.old) = get_stepped_other begun mild_begun u place rows t.0 c.old other c.at in
              let e : p.0 ≡ rested u place c.old = cc in
              let later : Row.later c.old ≡ true = ap (λ (r : Row). r.later) (sym e) ∙ parts.0 in
              let not_behind : is_behind c.old ≡ false =
              false_from_ne_true (is_behind c.old) (λ k.
              let b : passes is_behind (stepped begun u place rows) t.0 ≡ true = behind_stays t.0 low other (passes_at is_behind rows t.0 c.old c.at ∙ k) in
              false≢true (sym (not-true (is_behind p.0) parts.1) ∙ (sym (passes_at is_behind (stepped begun u place rows) t.0 p.0 p.1) ∙ b))) in
              let pulling : passes is_pulling rows t.0 ≡ true = passes_at is_pulling rows t.0 c.old c.at ∙ and_from (Row.later c.old) (not (is_behind c.old)) later (ap not not_behind) in
              false≢true (sym q.still ∙ has_any (passes is_pulling rows) (numbers rows) t.0 there pulling)
        ])

    due_begun : (x : ℕ) → passes wants_start (stepped begun u place rows) x ≡ true → due (stepped begun u place rows) x ≡ true
    due_begun x h =
        and_from (passes wants_start (stepped begun u place rows) x) (not (held (stepped begun u place rows) x)) h
        (ap (λ (b : Bool). not (b && rests_on (passes is_overtaken (stepped begun u place rows)) (stepped begun u place rows) x)) still_begun)

    user_due : (x : ℕ) → passes is_wanted rows x ≡ true → has (needs_of rows x) u ≡ true → due (stepped begun u place rows) x ≡ true
    user_due x want h =
        due_begun x
        (wants_parts (stepped begun u place rows) x
        ∙ and_from (passes is_wanted (stepped begun u place rows) x) (passes is_behind (stepped begun u place rows) x)
        (wanted_stepped begun mild_begun u place rows x ∙ want) (user_behind x want h))

    due_stays : (x : ℕ) → u ≢ x → due rows x ≡ true → due (stepped begun u place rows) x ≡ true
    due_stays x other d =
        elim (cases_Bool (has (needs_of rows x) u)) [
          | inl user ↦ user_due x (due_wanted rows x d) user
          | inr not_user_of_u ↦ due_begun x (wants_apart rows is.needs sound u place x other (apart x not_user_of_u) ∙ due_wants rows x d)
        ]

    due_came : (x : ℕ) → due (stepped begun u place rows) x ≡ true → (u ≢ x) × ((due rows x ≡ true) ⊎ (has (needs_of rows x) u ≡ true))
    due_came x d =
        let other : u ≢ x =
        λ e. false≢true (sym (Calm.present calm_u) ∙ (ap (passes is_behind (stepped begun u place rows)) e ∙ due_behind (stepped begun u place rows) x d)) in (
          other,
          elim (cases_Bool (has (needs_of rows x) u)) [
            | inl user ↦ inr user
            | inr not_user_of_u ↦ inl (due_from x (sym (wants_apart rows is.needs sound u place x other (apart x not_user_of_u)) ∙ due_wants (stepped begun u place rows) x d))
          ],
        )

    -- who rests on what is due then rested so before, and who rested so does, but for u
    rests_came : (v : ℕ) → Rests (due (stepped begun u place rows)) rows v → Rests (due rows) rows v
    rests_came v r =
        elim r [
          | inl own ↦ elim (due_came v own).1 [ inl d ↦ inl d | inr user ↦ inr (u, at_once user, next_due u f) ]
          | inr t ↦ elim (due_came t.0 t.2).1 [ inl d ↦ inr (t.0, t.1, d) | inr user ↦ inr (u, through t.1 user, next_due u f) ]
        ]

    last_due : {v : ℕ} → Needs (needs_of rows) v u → passes is_wanted rows v ≡ true → Rests (due (stepped begun u place rows)) rows v
    last_due {v} (at_once h) want = inl (user_due v want h)
    last_due {v} (through {w = x} n h) want =
        inr (x, n, user_due x (through_wanted n want (inr (u, at_once h, next_due u f))) h)

    rests_stays : (v : ℕ) → u ≢ v → passes is_wanted rows v ≡ true → Rests (due rows) rows v → Rests (due (stepped begun u place rows)) rows v
    rests_stays v other want r =
        elim r [
          | inl own ↦ inl (due_stays v other own)
          | inr t ↦ elim (cases_eq u t.0) [
            | inl same ↦ last_due (subst (Needs (needs_of rows) v) (sym same) t.1) want
            | inr apart_w ↦ inr (t.0, t.1, due_stays t.0 apart_w t.2)
          ]
        ]

    rests_not : Rests (due (stepped begun u place rows)) rows u → ⊥
    rests_not r =
        elim r [
          | inl own ↦ (due_came u own).0 refl
          | inr t ↦ elim (due_came t.0 t.2).1 [
            | inl d ↦ false≢true (sym (next_needs u f t.0 t.1) ∙ d)
            | inr user ↦ not_itself (through t.1 user)
          ]
        ]

    rests_same : (v : ℕ) → rests_on (due (stepped begun u place rows)) (stepped begun u place rows) v ≡ rests_on (due (stepped begun u place rows)) rows v
    rests_same v =
        ap (λ (l : List ℕ). due (stepped begun u place rows) v || list_any (due (stepped begun u place rows)) l) (needed_stepped begun mild_begun u place rows v)

    near_begun : u < length marks → (v : ℕ) → passes is_wanted (stepped begun u place rows) v ≡ true
        → marked (set marks u false) v ≡ rests_on (due (stepped begun u place rows)) (stepped begun u place rows) v
    near_begun inside v h =
        let want : passes is_wanted rows v ≡ true = sym (wanted_stepped begun mild_begun u place rows v) ∙ h in
        elim (cases_eq u v) [
          | inl same ↦
              ap (marked (set marks u false)) (sym same) ∙ get_or-set_same marks u false false inside
              ∙ sym (false_from_ne_true (rests_on (due (stepped begun u place rows)) rows v) (λ k.
              rests_not (subst (Rests (due (stepped begun u place rows)) rows) (sym same) (rests_to (due (stepped begun u place rows)) rows v k))))
              ∙ sym (rests_same v)
          | inr other ↦
              get_or-set_other marks u v false false (λ e. other (sym e)) ∙ q.near v want
              ∙ same_tests (rests_on (due rows) rows v) (rests_on (due (stepped begun u place rows)) rows v)
              (λ k. rests_from (due (stepped begun u place rows)) rows is.needs v (rests_stays v other want (rests_to (due rows) rows v k)))
              (λ k. rests_from (due rows) rows is.needs v (rests_came v (rests_to (due (stepped begun u place rows)) rows v k)))
              ∙ sym (rests_same v)
        ]

    mark_left : (v : ℕ) → u < length marks → marked (set marks u false) v ≡ true → (u ≢ v) × (marked marks v ≡ true)
    mark_left v inside h =
        elim (cases_eq u v) [
          | inl same ↦ absurd (false≢true (sym (get_or-set_same marks u false false inside) ∙ (ap (marked (set marks u false)) same ∙ h)))
          | inr other ↦ (other, sym (get_or-set_other marks u v false false (λ e. other (sym e))) ∙ h)
        ]

    any_left : (us : List ℕ) → u < length marks → list_any (marked (set marks u false)) us ≡ true → list_any (marked marks) us ≡ true
    any_left us inside h =
        let t : (x : ℕ) × (has us x ≡ true) × (marked (set marks u false) x ≡ true) = any_has (marked (set marks u false)) us h in
        has_any (marked marks) us t.0 t.1 (mark_left t.0 inside t.2).1

    quick_rested : (r : Row) → u < length marks → IsQuick rows marks place r → IsQuick (stepped begun u place rows) (set marks u false) (place + 1) (rested u place r)
    quick_rested r inside k =
        record {
          wanted = λ x h. wanted_stepped begun mild_begun u place rows x ∙ k.wanted x h;
          follows = λ some.
              let old : Follows place r = k.follows (any_left r.needs inside some) in
              record {
                long = omega (arith, old.long, length_renumbered u place r.needs (Footing.starts r.present));
                before = λ s e x h. let less : x < place = old.before s e x h in omega (arith, less);
              };
        }

    pub quick_begun : AreQuick (stepped begun u place rows) (set marks u false) (place + 1)
    quick_begun =
        let a : QuickAt u = quick_at u f.wanted f.mark in
        let inside : u < length marks = omega (arith, slice_get_within rows u a.row a.at, q.size) in
        record {
          still = still_begun;
          size = length-set marks u false ∙ q.size ∙ sym (length_stepped begun mild_begun u place rows);
          near = near_begun inside;
          each = λ v r at want mark.
              let m : (u ≢ v) × (marked marks v ≡ true) = mark_left v inside mark in
              let c : Comes begun mild_begun u place rows v r = comes begun mild_begun u place rows v r at in
              let made : slice_get (stepped begun u place rows) v ≡ Some (rested u place c.old) = get_stepped_other begun mild_begun u place rows v c.old m.0 c.at in
              let e : rested u place c.old ≡ r = cc in
              subst (IsQuick (stepped begun u place rows) (set marks u false) (place + 1)) e (quick_rested c.old inside (q.each v c.old c.at (sym c.wanted ∙ want) m.1));
        }
