-- The list of the rows that are touched, and how many aren't.
use Rattle.std.proofs.Common.{ℕ, zero, suc, ◌+◌, ◌≡◌, ◌<◌, ◌≤◌, refl, sym, ◌∙◌, ap, Bool, true, false, cond, ◌||◌, ◌⊎◌, inl, inr, List, [], ◌∷◌, ◌++◌, length, set, arith, length-set, eq-eqb, eqb-true}
use Rattle.std.proofs.lemmas.Bool.{cases_eq, false≢true, false_from_ne_true}
use Rattle.std.proofs.lemmas.List.Folds.{list_any-append}
use Rattle.std.proofs.lemmas.List.{length_push}
use Rattle.std.specs.Prelude.{◌==◌}
use Rattle.nb_index.specs.Numbers.{has}
use Rattle.nb_index.specs.Rows.{present, marked, present_at, marked_at, touched_at, is_touched, untouched}
use Rattle.nb_index.specs.declared.row.Row.{Row}
use Rattle.nb_index.proofs.ReadRows.{row_at-set_same, row_at-set_other, row_at-set_kept, row_at-push}

-- ---- a list with one more at its end

or_right : (a b : Bool) → b ≡ true → (a || b) ≡ true
or_right true b h = refl
or_right false b h = h

or_left : (a b : Bool) → a ≡ true → (a || b) ≡ true
or_left true b h = refl
or_left false b h = absurd (false≢true h)

or_cases : (a b : Bool) → (a || b) ≡ true → (a ≡ true) ⊎ (b ≡ true)
or_cases true b h = inl refl
or_cases false b h = inr h

pub has_front : (xs : List ℕ) (x u : ℕ) → has xs u ≡ true → has (xs ++ x ∷ []) u ≡ true
has_front xs x u h = list_any-append (λ y. y == u) xs (x ∷ []) ∙ or_left (has xs u) (has (x ∷ []) u) h

pub has_end : (xs : List ℕ) (x u : ℕ) → u ≡ x → has (xs ++ x ∷ []) u ≡ true
has_end xs x u e = list_any-append (λ y. y == u) xs (x ∷ []) ∙ or_right (has xs u) (has (x ∷ []) u) (or_left (x == u) false (eq-eqb x u (sym e)))

pub has_push : (xs : List ℕ) (x u : ℕ) → has (xs ++ x ∷ []) u ≡ true → (has xs u ≡ true) ⊎ (u ≡ x)
has_push xs x u h =
    elim (or_cases (has xs u) (has (x ∷ []) u) (sym (list_any-append (λ y. y == u) xs (x ∷ [])) ∙ h)) [
      | inl front ↦ inl front
      | inr last ↦ elim (or_cases (x == u) false last) [ inl same ↦ inr (sym (eqb-true x u same)) | inr none ↦ absurd (false≢true none) ]
    ]

-- ---- how many rows aren't touched

abbrev one_less : Bool → ℕ
one_less b = cond b 0 1

-- a row that wasn't touched is
pub untouched-touch : (rows : List Row) (r : ℕ) (new : Row) → r < length rows → touched_at rows r ≡ false → new.touched ≡ true → untouched (set rows r new) + 1 ≡ untouched rows
untouched-touch [] r new less was is = absurd (omega arith)
untouched-touch (row ∷ rows) zero new less was is = omega (arith, ap (λ (b : Bool). one_less b) was, ap (λ (b : Bool). one_less b) is)
untouched-touch (row ∷ rows) (suc r) new less was is = omega (arith, untouched-touch rows r new (omega arith) was is)

pub untouched-kept : (rows : List Row) (r : ℕ) (new : Row) → new.touched ≡ touched_at rows r → untouched (set rows r new) ≡ untouched rows
untouched-kept [] r new same = refl
untouched-kept (row ∷ rows) zero new same = ap (λ (b : Bool). one_less b + untouched rows) same
untouched-kept (row ∷ rows) (suc r) new same = ap (λ (n : ℕ). one_less row.touched + n) (untouched-kept rows r new same)

one_at_most : (b : Bool) → one_less b ≤ 1
one_at_most true = omega arith
one_at_most false = omega arith

pub untouched-set : (rows : List Row) (r : ℕ) (new : Row) → untouched (set rows r new) ≤ untouched rows + 1
untouched-set [] r new = omega arith
untouched-set (row ∷ rows) zero new = omega (arith, one_at_most row.touched, one_at_most new.touched)
untouched-set (row ∷ rows) (suc r) new = omega (arith, untouched-set rows r new)

pub untouched-push : (rows : List Row) (new : Row) → untouched (rows ++ new ∷ []) ≤ length rows + 1
untouched-push [] new = omega (arith, one_at_most new.touched)
untouched-push (row ∷ rows) new = omega (arith, one_at_most row.touched, untouched-push rows new)

pub untouched-length : (rows : List Row) → untouched rows ≤ length rows
untouched-length [] = omega arith
untouched-length (row ∷ rows) = omega (arith, one_at_most row.touched, untouched-length rows)

-- ---- what the list of touched rows keeps

-- the list has each touched row, and no other number than of a row
pub record IsList (rows : List Row) (list : List ℕ) : Type 0 where
  pub listed : (r : ℕ) → touched_at rows r ≡ true → has list r ≡ true
  pub inside : (r : ℕ) → has list r ≡ true → r < length rows

pub list_with : (rows : List Row) (list : List ℕ) (r : ℕ) (new : Row) → r < length rows → IsList rows list → IsList (set rows r new) (list ++ r ∷ [])
list_with rows list r new less was =
    record {
      listed =
          λ q is.
          elim (cases_eq q r) [
            | inl here ↦ has_end list r q here
            | inr other ↦ has_front list r q (was.listed q (sym (row_at-set_other is_touched false rows r q new other) ∙ is))
          ];
      inside =
          λ q h.
          let size : length (set rows r new) ≡ length rows = length-set rows r new in
          elim (has_push list r q h) [ inl front ↦ omega (arith, size, was.inside q front) | inr last ↦ omega (arith, size, last) ];
    }

pub list_without : (rows : List Row) (list whole : List ℕ) (r : ℕ) (new : Row) → whole ≡ list ++ r ∷ [] → new.touched ≡ false → IsList rows whole → IsList (set rows r new) list
list_without rows list whole r new e off was =
    let last : has whole r ≡ true = ap (λ (l : List ℕ). has l r) e ∙ has_end list r r refl in
    let less : r < length rows = was.inside r last in
    record {
      listed =
          λ q is.
          elim (cases_eq q r) [
            | inl here ↦
                absurd (false≢true
                (sym off ∙ sym (row_at-set_same is_touched false rows r new less) ∙ ap (λ (k : ℕ). touched_at (set rows r new) k) (sym here) ∙ is))
            | inr other ↦
                elim (has_push list r q (ap (λ (l : List ℕ). has l q) (sym e) ∙ was.listed q (sym (row_at-set_other is_touched false rows r q new other) ∙ is))) [
                  | inl front ↦ front
                  | inr same ↦ absurd (other same)
                ]
          ];
      inside =
          λ q h.
          let size : length (set rows r new) ≡ length rows = length-set rows r new in
          let in_whole : has whole q ≡ true = ap (λ (l : List ℕ). has l q) e ∙ has_front list r q h in
          omega (arith, size, was.inside q in_whole);
    }

pub list_kept : (rows : List Row) (list : List ℕ) (r : ℕ) (new : Row) → r < length rows → new.touched ≡ touched_at rows r → IsList rows list → IsList (set rows r new) list
list_kept rows list r new less same was =
    record {
      listed = λ q is. was.listed q (sym (row_at-set_kept is_touched false rows r new less same q) ∙ is);
      inside = λ q h. let size : length (set rows r new) ≡ length rows = length-set rows r new in omega (arith, size, was.inside q h);
    }

-- an untouched row is added, or isn't
pub list_push : (b : Bool) (rows : List Row) (list : List ℕ) (new : Row) → new.touched ≡ false → IsList rows list → IsList (cond b (rows ++ new ∷ []) rows) list
list_push true rows list new off was =
    record {
      listed = λ q is. was.listed q (sym (row_at-push is_touched false rows new q off) ∙ is);
      inside = λ q h. omega (arith, length_push rows new, was.inside q h);
    }
list_push false rows list new off was = was

pub untouched-tried : (b : Bool) (rows : List Row) (new : Row) → untouched (cond b (rows ++ new ∷ []) rows) ≤ length rows + 1
untouched-tried true rows new = untouched-push rows new
untouched-tried false rows new = omega (arith, untouched-length rows)

-- the last of the list is the number of a row
pub last_inside : (rows : List Row) (list whole : List ℕ) (r : ℕ) → whole ≡ list ++ r ∷ [] → IsList rows whole → r < length rows
last_inside rows list whole r e was = was.inside r (ap (λ (l : List ℕ). has l r) e ∙ has_end list r r refl)

same_unless : (row : Row) → (row.touched ≡ true → ⊥) → marked row ≡ present row
same_unless row off = ap (λ (b : Bool). cond b row.kept.items row.present.items) (false_from_ne_true row.touched off)

-- where no row is touched, each has what it had at the mark
pub all_kept : (rows : List Row) → ((r : ℕ) → touched_at rows r ≡ true → ⊥) → (r : ℕ) → marked_at rows r ≡ present_at rows r
all_kept [] none r = refl
all_kept (row ∷ rows) none zero = same_unless row (none 0)
all_kept (row ∷ rows) none (suc r) = all_kept rows (λ q. none (suc q)) r

pub none_listed : (rows : List Row) (list : List ℕ) → length list ≡ 0 → IsList rows list → (r : ℕ) → marked_at rows r ≡ present_at rows r
none_listed rows [] e was = all_kept rows (λ q is. false≢true (was.listed q is))
none_listed rows (x ∷ list) e was = absurd (omega (arith, e))
