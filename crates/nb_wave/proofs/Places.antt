-- A row where it is read, and the least variable that passes.
use Rattle.std.proofs.Common.{ℕ, zero, suc, ◌+◌, ◌-◌, ◌≡◌, ◌<◌, ◌≤◌, refl, ◌∙◌, ap, Bool, true, false, inl, inr, List, [], length, get_or, Some, None, arith}
use Rattle.std.specs.List.{range_with_len, list_any}
use Rattle.std.proofs.lemmas.Bool.{cases_eq, or_from, or_left, or_right}
use Rattle.std.proofs.lemmas.Option.{slice_get_read}
use Rattle.nb_wave.specs.declared.row.Row.{Row}
use Rattle.nb_wave.specs.Rules.{from_option, passes, needs_of, numbers, first_where}

-- ---- a row that was read

pub passes_read : (test : Row → Bool) (rows : List Row) (v : ℕ) (x : Row) → v < length rows → x ≡ get_or rows v x → passes test rows v ≡ test x
passes_read test rows v x inside read = ap (from_option false test) (slice_get_read rows (length rows) v x refl inside read)

pub needs_read : (rows : List Row) (v : ℕ) (x : Row) → v < length rows → x ≡ get_or rows v x → needs_of rows v ≡ x.needs
needs_read rows v x inside read = ap (from_option [] (λ (r : Row). r.needs)) (slice_get_read rows (length rows) v x refl inside read)

-- ---- the first of numbers that count up

first_in : (test : ℕ → Bool) (a n v : ℕ) → a ≤ v → v < a + n → test v ≡ true → ((u : ℕ) → a ≤ u → u < v → test u ≡ false)
    → first_where test (range_with_len a n) ≡ Some v
first_in test a zero v low high here none = absurd (omega arith)
first_in test a (suc n) v low high here none =
    elim (cases_eq a v) [
      | inl same ↦ let e : test a ≡ true = ap test same ∙ here in rw e (ap (λ (x : ℕ). Some x) same)
      | inr other ↦
          let e : test a ≡ false = none a (omega arith) (omega (arith, other)) in
          rw e (first_in test (a + 1) n v (omega (arith, other)) (omega arith) here (λ u l m. none u (omega arith) m))
    ]

first_none_in : (test : ℕ → Bool) (a n : ℕ) → ((u : ℕ) → a ≤ u → u < a + n → test u ≡ false) → first_where test (range_with_len a n) ≡ None
first_none_in test a zero none = refl
first_none_in test a (suc n) none =
    let e : test a ≡ false = none a (omega arith) (omega arith) in rw e (first_none_in test (a + 1) n (λ u l m. none u (omega arith) (omega arith)))

any_in : (test : ℕ → Bool) (a n v : ℕ) → a ≤ v → v < a + n → test v ≡ true → list_any test (range_with_len a n) ≡ true
any_in test a zero v low high here = absurd (omega arith)
any_in test a (suc n) v low high here =
    elim (cases_eq a v) [
      | inl same ↦ or_left (test a) (list_any test (range_with_len (a + 1) n)) (ap test same ∙ here)
      | inr other ↦ or_right (test a) (list_any test (range_with_len (a + 1) n)) (any_in test (a + 1) n v (omega (arith, other)) (omega arith) here)
    ]

none_in : (test : ℕ → Bool) (a n : ℕ) → ((u : ℕ) → a ≤ u → u < a + n → test u ≡ false) → list_any test (range_with_len a n) ≡ false
none_in test a zero none = refl
none_in test a (suc n) none =
    or_from (test a) (list_any test (range_with_len (a + 1) n)) (none a (omega arith) (omega arith)) (none_in test (a + 1) n (λ u l m. none u (omega arith) (omega arith)))

-- of those below i none passes
abbrev pub NoneBelow : (ℕ → Bool) → ℕ → Type 0
NoneBelow test i = (u : ℕ) → 1 ≤ u → u < i → test u ≡ false

pub none_more : (test : ℕ → Bool) (i : ℕ) → NoneBelow test i → test i ≡ false → NoneBelow test (i + 1)
none_more test i none here u low high = elim (cases_eq u i) [ inl same ↦ ap test same ∙ here | inr other ↦ none u low (omega (arith, other)) ]

pub least_found : (test : ℕ → Bool) (rows : List Row) (v : ℕ) → 1 ≤ v → v < length rows → test v ≡ true → NoneBelow test v → first_where test (numbers rows) ≡ Some v
least_found test rows v low high here none = first_in test 1 (length rows - 1) v low (omega arith) here none

pub least_none : (test : ℕ → Bool) (rows : List Row) (i : ℕ) → length rows ≤ i → NoneBelow test i → first_where test (numbers rows) ≡ None
least_none test rows i past none = first_none_in test 1 (length rows - 1) (λ u low high. none u low (omega arith))

pub any_found : (test : ℕ → Bool) (rows : List Row) (v : ℕ) → 1 ≤ v → v < length rows → test v ≡ true → list_any test (numbers rows) ≡ true
any_found test rows v low high here = any_in test 1 (length rows - 1) v low (omega arith) here

pub any_none : (test : ℕ → Bool) (rows : List Row) (i : ℕ) → length rows ≤ i → NoneBelow test i → list_any test (numbers rows) ≡ false
any_none test rows i past none = none_in test 1 (length rows - 1) (λ u low high. none u low (omega arith))
