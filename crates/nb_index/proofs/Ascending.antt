-- Numbers that ascend: what is among them after one is put at its place or taken away, and that they still ascend.
use Rattle.std.proofs.Common.{ℕ, suc, ◌+◌, ◌-◌, ◌≡◌, ◌≢◌, ◌<◌, ◌≤◌, refl, sym, ◌∙◌, ap, subst, eq-eqb, eqb-true, ne_eqb, cond, Bool, true, false, ◌||◌, ◌&&◌, not, inl, inr, List, ◌∷◌, length, get_or, take, drop, min, drop-cons, insert, remove, arith}
use Rattle.std.proofs.lemmas.Bool.{cases_lt, cases_eq}
use Rattle.std.proofs.lemmas.List.{take-append-drop, get_or-take, length-take, get_or-drop, length-drop, get_or_default}
use Rattle.std.proofs.lemmas.List.Edits.{length-insert, get_or-insert_below, get_or-insert_at, get_or-insert_above, length-remove, get_or-remove_below, get_or-remove_above}
use Rattle.std.proofs.lemmas.List.Folds.{list_any-append, list_any_none, list_any_at}
use Rattle.std.specs.Prelude.{◌==◌, Ok, Err}
use Rattle.std.specs.List.Sorted.{IsBinarySearchResult}
use Rattle.std.specs.Ordering.{nat_cmp}
use Rattle.std.proofs.lemmas.List.Sorted.{searched}
use Rattle.nb_index.specs.Numbers.{has, Ascends}

or_swapped : (a b c : Bool) → (a || (b || c)) ≡ (b || (a || c))
or_swapped true true c = refl
or_swapped true false c = refl
or_swapped false b c = refl

has-parted : (xs : List ℕ) (i x : ℕ) → has xs x ≡ (has (take i xs) x || has (drop i xs) x)
has-parted xs i x =
    sym (ap (λ (l : List ℕ). has l x) (take-append-drop i xs)) ∙ list_any-append (λ y. y == x) (take i xs) (drop i xs)

pub has-insert : (xs : List ℕ) (i y x : ℕ) → has (insert xs i y) x ≡ has (y ∷ xs) x
has-insert xs i y x =
    list_any-append (λ z. z == x) (take i xs) (y ∷ drop i xs)
    ∙ or_swapped (has (take i xs) x) (y == x) (has (drop i xs) x)
    ∙ ap (λ (b : Bool). (y == x) || b) (sym (has-parted xs i x))

pub ascends_weakly : (xs : List ℕ) → Ascends xs → (i j : ℕ) → i ≤ j → j < length xs → get_or xs i 0 ≤ get_or xs j 0
ascends_weakly xs h i j le lt =
    elim (cases_lt i j) [
      | inl less ↦ omega (arith, h i j less lt)
      | inr more ↦ let e : i ≡ j = omega arith in omega (arith, ap (λ (k : ℕ). get_or xs k 0) e)
    ]

-- what is below y stands before i, and what is above it from i on
pub record IsPlace (xs : List ℕ) (y i : ℕ) : Type 0 where
  pub within : i ≤ length xs
  pub below : (k : ℕ) → k < i → get_or xs k 0 < y
  pub above : (k : ℕ) → i ≤ k → k < length xs → y < get_or xs k 0

-- ---- reads after a number is put at i

read_at : (xs : List ℕ) (i y k : ℕ) → i ≤ length xs → k ≡ i → get_or (insert xs i y) k 0 ≡ y
read_at xs i y k le e = ap (λ (n : ℕ). get_or (insert xs i y) n 0) e ∙ get_or-insert_at xs i y 0 le

read_above : (xs : List ℕ) (i y k : ℕ) → i ≤ length xs → i < k → get_or (insert xs i y) k 0 ≡ get_or xs (k - 1) 0
read_above xs i y k le less =
    let e : k ≡ k - 1 + 1 = omega arith in
    ap (λ (n : ℕ). get_or (insert xs i y) n 0) e ∙ get_or-insert_above xs i y 0 (k - 1) (omega arith) le

pub Ascends-insert : (xs : List ℕ) (i y : ℕ) → Ascends xs → IsPlace xs y i → Ascends (insert xs i y)
Ascends-insert xs i y h place a b lt within =
    let le : i ≤ length xs = place.within in
    let size : length (insert xs i y) ≡ length xs + 1 = length-insert xs i y le in
    elim (cases_lt b i) [
      | inl under ↦
          omega (arith, get_or-insert_below xs i y 0 a (omega arith) le, get_or-insert_below xs i y 0 b under le, h a b lt (omega arith))
      | inr over ↦
          elim (cases_eq b i) [
            | inl same ↦ omega (arith, get_or-insert_below xs i y 0 a (omega arith) le, read_at xs i y b le same, place.below a (omega arith))
            | inr other ↦
                let eb : get_or (insert xs i y) b 0 ≡ get_or xs (b - 1) 0 = read_above xs i y b le (omega (arith, other)) in
                elim (cases_lt a i) [
                  | inl less ↦ omega (arith, eb, get_or-insert_below xs i y 0 a less le, h a (b - 1) (omega (arith, other)) (omega (arith, other)))
                  | inr more ↦
                      elim (cases_eq a i) [
                        | inl there ↦ omega (arith, eb, read_at xs i y a le there, place.above (b - 1) (omega (arith, other)) (omega (arith, other)))
                        | inr past ↦
                            omega (arith, eb, read_above xs i y a le (omega (arith, past)), h (a - 1) (b - 1) (omega (arith, past)) (omega (arith, past)))
                      ]
                ]
          ]
    ]

pub Ascends-remove : (xs : List ℕ) (i : ℕ) → i < length xs → Ascends xs → Ascends (remove xs i)
Ascends-remove xs i less h a b lt within =
    let size : length (remove xs i) + 1 ≡ length xs = length-remove xs i less in
    elim (cases_lt b i) [
      | inl under ↦
          omega (arith, get_or-remove_below xs i 0 a (omega arith) less, get_or-remove_below xs i 0 b under less, h a b lt (omega arith))
      | inr over ↦
          elim (cases_lt a i) [
            | inl before ↦ omega (arith, get_or-remove_below xs i 0 a before less, get_or-remove_above xs i 0 b over less, h a (b + 1) (omega arith) (omega arith))
            | inr after ↦ omega (arith, get_or-remove_above xs i 0 a after less, get_or-remove_above xs i 0 b over less, h (a + 1) (b + 1) (omega arith) (omega arith))
          ]
    ]

-- ---- what is among them after one is taken away

-- a number that none of them is
none_of : (xs : List ℕ) (y : ℕ) → ((k : ℕ) → k < length xs → get_or xs k 0 ≡ y → ⊥) → has xs y ≡ false
none_of xs y h = list_any_none (λ z. z == y) xs (λ k d less. ne_eqb _ _ (λ e. h k less (get_or_default xs k 0 d less ∙ e)))

-- the list from i on
drop_from : (xs : List ℕ) (i y : ℕ) → i < length xs → get_or xs i 0 ≡ y → drop i xs ≡ y ∷ drop (suc i) xs
drop_from xs i y less e = drop-cons xs i 0 less ∙ ap (λ (z : ℕ). z ∷ drop (suc i) xs) e

again : (b c : Bool) → (b ≡ true → c ≡ true) → c ≡ (b || c)
again true c h = h refl
again false c h = refl

without : (a b c : Bool) → (b ≡ true → a ≡ false) → (b ≡ true → c ≡ false) → (a || c) ≡ (not b && (a || (b || c)))
without a true c ea ec = rw (ea refl, ec refl) refl
without a false c ea ec = refl

pub has-remove : (xs : List ℕ) (i y x : ℕ) → Ascends xs → i < length xs → get_or xs i 0 ≡ y → has (remove xs i) x ≡ (not (y == x) && has xs x)
has-remove xs i y x h less e =
    let front = take i xs in
    let rest = drop (suc i) xs in
    let split : drop i xs ≡ y ∷ rest = drop_from xs i y less e in
    let whole : has xs x ≡ (has front x || ((y == x) || has rest x)) = has-parted xs i x ∙ ap (λ (l : List ℕ). has front x || has l x) split in
    let size : length front ≡ min i (length xs) = length-take i xs in
    let no_front : (y == x) ≡ true → has front x ≡ false
    = λ same.
    none_of front x (λ k under is.
    omega (arith, eqb-true y x same, size, get_or-take i xs k 0 (omega (arith, size)), h k i (omega (arith, size)) less)) in
    let no_rest : (y == x) ≡ true → has rest x ≡ false
    = λ same.
    none_of rest x (λ k under is.
    let length_rest : length rest ≡ length xs - suc i = length-drop (suc i) xs in
    omega (arith, eqb-true y x same, get_or-drop (suc i) xs k 0, h i (suc i + k) (omega arith) (omega (arith, length_rest)))) in
    list_any-append (λ z. z == x) front rest
    ∙ without (has front x) (y == x) (has rest x) no_front no_rest
    ∙ ap (λ (b : Bool). not (y == x) && b) (sym whole)

-- one that is among them already adds nothing
pub has_again : (xs : List ℕ) (i y x : ℕ) → i < length xs → get_or xs i 0 ≡ y → has xs x ≡ has (y ∷ xs) x
has_again xs i y x less e = again (y == x) (has xs x) (λ same. list_any_at (λ z. z == x) xs i 0 less (eq-eqb (get_or xs i 0) x (e ∙ eqb-true y x same)))

pub absent_at : (xs : List ℕ) (y i : ℕ) → IsPlace xs y i → has xs y ≡ false
absent_at xs y i place =
    none_of xs y (λ k less e. elim (cases_lt k i) [ inl under ↦ omega (arith, place.below k under) | inr over ↦ omega (arith, place.above k over less) ])

-- one that isn't among them takes nothing away
again_without : (b c : Bool) → (b ≡ true → c ≡ false) → c ≡ (not b && c)
again_without true c h = h refl
again_without false c h = refl

pub has_without : (xs : List ℕ) (i y x : ℕ) → IsPlace xs y i → has xs x ≡ (not (y == x) && has xs x)
has_without xs i y x place =
    again_without (y == x) (has xs x) (λ same. subst (λ (z : ℕ). has xs z ≡ false) (eqb-true y x same) (absent_at xs y i place))

-- ---- what a search for a number says

pub found_at : (xs ys : List ℕ) (y i : ℕ) → ys ≡ xs → Ascends xs → IsBinarySearchResult (λ z. nat_cmp z y) ys (Ok i) → (i < length xs) × (get_or xs i 0 ≡ y)
found_at xs ys y i e h r =
    searched xs y (Ok i) (subst (λ (l : List ℕ). IsBinarySearchResult (λ z. nat_cmp z y) l (Ok i)) e r) (ascends_weakly xs h)

pub place_for : (xs ys : List ℕ) (y i : ℕ) → ys ≡ xs → Ascends xs → IsBinarySearchResult (λ z. nat_cmp z y) ys (Err i) → IsPlace xs y i
place_for xs ys y i e h r =
    let p : (i ≤ length xs) × ((k : ℕ) → k < i → get_or xs k 0 < y) × ((k : ℕ) → i ≤ k → k < length xs → y < get_or xs k 0)
    = searched xs y (Err i) (subst (λ (l : List ℕ). IsBinarySearchResult (λ z. nat_cmp z y) l (Err i)) e r) (ascends_weakly xs h) in
    record { within = p.0; below = p.1; above = p.2 }

-- they ascend after an attempt to put a number at its place
pub inserted_if : (xs new : List ℕ) (i y : ℕ) (b : Bool) → new ≡ cond b (insert xs i y) xs → Ascends xs → IsPlace xs y i → Ascends new
inserted_if xs new i y true e h place = subst Ascends (sym e) (Ascends-insert xs i y h place)
inserted_if xs new i y false e h place = subst Ascends (sym e) h

-- two are among them, where there are two at least
pub two_at_least : (xs ys : List ℕ) → ys ≡ xs → Ascends ys → 2 ≤ length ys → (v : ℕ) × (w : ℕ) × (v ≢ w) × (has xs v ≡ true) × (has xs w ≡ true)
two_at_least xs ys e h two =
    let first : ℕ = get_or ys 0 0 in
    let second : ℕ = get_or ys 1 0 in
    let less : first < second = h 0 1 (omega arith) (omega arith) in
    let has_first : has ys first ≡ true = list_any_at (λ z. z == first) ys 0 0 (omega arith) (eq-eqb first first refl) in
    let has_second : has ys second ≡ true = list_any_at (λ z. z == second) ys 1 0 (omega arith) (eq-eqb second second refl) in
    (first, second, λ same. omega (arith, same, less), sym (ap (λ (l : List ℕ). has l first) e) ∙ has_first, sym (ap (λ (l : List ℕ). has l second) e) ∙ has_second)
