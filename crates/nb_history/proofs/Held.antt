-- What is due needs nothing that is held. Where nothing is due or pulling, no wanted variable is behind.
use Rattle.std.proofs.Common.{inl, inr, ℕ, ◌≡◌, refl, sym, ◌∙◌, Bool, true, false, not, ◌&&◌, ◌||◌, ◌⊎◌}
use Rattle.std.specs.List.{list_any}
use Rattle.std.proofs.lemmas.Bool.{or_cases, or_left, or_right, and_parts, and_from, and_left, false≢true, false_from_ne_true}
use Rattle.nb_graph.specs.Needs.{has, Needs, at_once, through}
use Rattle.nb_graph.proofs.Reaches.{any_has, has_any, needed_trans, needed_sound}
use Rattle.nb_sheet.specs.Lists.{numbers}
use Rattle.nb_resolve.specs.Names.{direct}
use Rattle.nb_history.specs.Needs.{circular, needed}
use Rattle.nb_history.specs.Reading.{Reading}
use Rattle.nb_history.specs.Rules.{wanted, is_behind, is_overtaken, pulls_on, is_held, due, may_start}
use Rattle.nb_history.specs.Log.{IsQuiet}
use Rattle.nb_history.proofs.Direct.{direct_within}
use Rattle.nb_history.proofs.Closing.{due_parts, due_from, MayBegin, may_start_cases}
use Rattle.nb_history.proofs.Scratches.{NamedDefined, wanted_input}

-- ---- what a wanted variable needs is wanted

module _ (r : Reading) (named_defined : NamedDefined r.sheet) where
  wanted_through : {v w : ℕ} → Needs (direct r.sheet) v w → wanted r v ≡ true → wanted r w ≡ true
  wanted_through {v} {w} (at_once h) want = wanted_input r named_defined v w want h
  wanted_through {v} {w} (through {w = x} n h) want = wanted_input r named_defined x w (wanted_through n want) h

  pub wanted_needed : (v w : ℕ) → wanted r v ≡ true → has (needed r.sheet v) w ≡ true → wanted r w ≡ true
  wanted_needed v w want n = wanted_through (needed_sound (direct r.sheet) (numbers r.sheet.rows) v w n) want

-- ---- what is held

module _ (r : Reading) where
  held_parts : (v : ℕ) → is_held r v ≡ true
      → (pulls_on r ≡ true) × ((is_overtaken r v ≡ true) ⊎ ((w : ℕ) × (has (needed r.sheet v) w ≡ true) × (is_overtaken r w ≡ true)))
  held_parts v h =
      let t : (pulls_on r ≡ true) × ((is_overtaken r v || list_any (is_overtaken r) (needed r.sheet v)) ≡ true)
      = and_parts (pulls_on r) (is_overtaken r v || list_any (is_overtaken r) (needed r.sheet v)) h in (
        t.0,
        elim (or_cases (is_overtaken r v) (list_any (is_overtaken r) (needed r.sheet v)) t.1) [
          | inl here ↦ inl here
          | inr some ↦ inr (any_has (is_overtaken r) (needed r.sheet v) some)
        ],
      )

  pub held_itself : (v : ℕ) → pulls_on r ≡ true → is_overtaken r v ≡ true → is_held r v ≡ true
  held_itself v p o =
      and_from (pulls_on r) (is_overtaken r v || list_any (is_overtaken r) (needed r.sheet v)) p (or_left (is_overtaken r v) (list_any (is_overtaken r) (needed r.sheet v)) o)

  held_through : (v w : ℕ) → pulls_on r ≡ true → has (needed r.sheet v) w ≡ true → is_overtaken r w ≡ true → is_held r v ≡ true
  held_through v w p n o =
      and_from (pulls_on r) (is_overtaken r v || list_any (is_overtaken r) (needed r.sheet v)) p
      (or_right (is_overtaken r v) (list_any (is_overtaken r) (needed r.sheet v)) (has_any (is_overtaken r) (needed r.sheet v) w n o))

  -- what needs a held variable is held
  pub held_above : (v w : ℕ) → has (needed r.sheet v) w ≡ true → is_held r w ≡ true → is_held r v ≡ true
  held_above v w n h =
      let p : (pulls_on r ≡ true) × ((is_overtaken r w ≡ true) ⊎ ((x : ℕ) × (has (needed r.sheet w) x ≡ true) × (is_overtaken r x ≡ true))) = held_parts w h in
      elim p.1 [
        | inl o ↦ held_through v w p.0 n o
        | inr t ↦ held_through v t.0 p.0 (needed_trans (direct r.sheet) (numbers r.sheet.rows) (direct_within r.sheet) v w t.0 n t.1) t.2
      ]

  -- a due v needs nothing that is held
  pub due_needs_free : (v w : ℕ) → due r v ≡ true → has (needed r.sheet v) w ≡ true → is_held r w ≡ false
  due_needs_free v w d n =
      false_from_ne_true (is_held r w) (λ h. false≢true (sym (due_parts r v d).free ∙ held_above v w n h))

  -- while nothing is pulling, nothing is held
  pub free_from : pulls_on r ≡ false → (v : ℕ) → is_held r v ≡ false
  free_from h v = and_left (pulls_on r) (is_overtaken r v || list_any (is_overtaken r) (needed r.sheet v)) h

  -- and no wanted variable is behind, where nothing is due
  pub none_behind : IsQuiet r → pulls_on r ≡ false → (v : ℕ) → wanted r v ≡ true → is_behind r v ≡ false
  none_behind quiet h v w =
      false_from_ne_true (is_behind r v) (λ b. false≢true (sym (quiet v).1 ∙ due_from r v w b (free_from h v)))

-- so what it needs is behind exactly where it is due
pub due_where_behind : (r : Reading) → NamedDefined r.sheet → (v w : ℕ) → due r v ≡ true → has (needed r.sheet v) w ≡ true → due r w ≡ is_behind r w
due_where_behind r named_defined v w d n =
    let want : wanted r w ≡ true = wanted_needed r named_defined v w (due_parts r v d).wanted n in
    three (wanted r w) (is_behind r w) (is_held r w) want (due_needs_free r v w d n)
  where
    three : (a b c : Bool) → a ≡ true → c ≡ false → (a && b && not c) ≡ b
    three true true false p q = refl
    three true false false p q = refl
    three true b true p q = absurd (false≢true (sym q))
    three false b c p q = absurd (false≢true p)

-- nothing that it needs is behind, where it may start
pub may_begin : (r : Reading) → NamedDefined r.sheet → (v : ℕ) → may_start r v ≡ true → MayBegin r v
may_begin r named_defined v h =
    let t : (due r v ≡ true) × ((circular r.sheet v ≡ true) ⊎ ((w : ℕ) → has (needed r.sheet v) w ≡ true → due r w ≡ false)) = may_start_cases r v h in
    elim t.1 [
      | inl c ↦ inl c
      | inr none ↦ inr (λ w n. sym (due_where_behind r named_defined v w t.0 n) ∙ none w n)
    ]

pub may_behind : (r : Reading) (v : ℕ) → may_start r v ≡ true → is_behind r v ≡ true
may_behind r v h = (due_parts r v (may_start_cases r v h).0).behind
