-- Steps of the scan for a name.
use Rattle.std.proofs.Common.{inl, inr, ℕ, zero, suc, ◌≡◌, ◌+◌, ◌<◌, ◌≤◌, refl, sym, ◌∙◌, ap, Bool, true, false, cond, List, [], ◌∷◌, ◌++◌, append-nil, length, take, get_or, length-take, add-zero, arith, Option, Some, None, Result}
use Rattle.std.specs.Prelude.{not, is_some}
use Rattle.std.proofs.lemmas.Option.{slice_get-get_or}
use Rattle.std.specs.Result.{result_err, result_unwrap_or}
use Rattle.std.proofs.lemmas.List.{take_more}
use Rattle.std.proofs.lemmas.Bool.{cases_Bool}
use Rattle.nb_sheet.specs.Lists.{Name, nth, numbers_from}
use Rattle.nb_sheet.specs.declared.row.VarRow.{VarRow}
use Rattle.nb_sheet.specs.declared.refused.Refused.{Refused}
use Rattle.nb_sheet.specs.declared.refused.Refused.TheVariants.{NoVariable}
use Rattle.nb_sheet.specs.Sheet.{Sheet, named, not_once, no_one_named, no_variable, where_true, first_of, the_one_named}
use Rattle.nb_sheet.specs.Scan.{also, has_name, one_of, one_in}

pub numbers_from_push : {A : Type 0} (test : A → Bool) (k : ℕ) (xs : List A) (x : A) → numbers_from k test (xs ++ x ∷ []) ≡ numbers_from k test xs ++ cond (test x) ((k + length xs) ∷ []) []
numbers_from_push test k [] x = rw add-zero refl
numbers_from_push test k (y ∷ xs) x =
    let e : k + 1 + length xs ≡ k + suc (length xs) = omega arith in
    elim (cases_Bool (test y)) [
      | inl here ↦ rw here (ap (λ (l : List ℕ). k ∷ l) (numbers_from_push test (k + 1) xs x) ∙ rw e refl)
      | inr not_here ↦ rw not_here (numbers_from_push test (k + 1) xs x ∙ rw e refl)
    ]

one_push : (vs : List ℕ) (w : ℕ) → one_of (vs ++ w ∷ []) ≡ also w (one_of vs)
one_push [] w = refl
one_push (v ∷ []) w = refl
one_push (v ∷ u ∷ more) w = refl

found_push : (m : ℕ) (n : Name) (rows : List VarRow) (row : VarRow) → one_in m n (rows ++ row ∷ []) ≡ cond (has_name m n row) (also (1 + length rows) (one_in m n rows)) (one_in m n rows)
found_push m n rows row =
    elim (cases_Bool (has_name m n row)) [
      | inl here ↦ rw (numbers_from_push (has_name m n) 1 rows row, here) (one_push (numbers_from 1 (has_name m n) rows) (1 + length rows))
      | inr not_here ↦ rw (numbers_from_push (has_name m n) 1 rows row, not_here, append-nil) refl
    ]

found_more : (m : ℕ) (n : Name) (rows : List VarRow) (i : ℕ) (d : VarRow) → i < length rows
    → one_in m n (take (i + 1) rows) ≡ cond (has_name m n (get_or rows i d)) (also (i + 1) (one_in m n (take i rows))) (one_in m n (take i rows))
found_more m n rows i d h =
    let len : 1 + length (take i rows) ≡ i + 1 = rw length-take (omega arith) in
    rw (take_more rows i d h) (found_push m n (take i rows) (get_or rows i d) ∙ rw len refl)

-- one turn of the scan, where the row has the name and where not
pub found_yes : (m : ℕ) (n : Name) (rows : List VarRow) (i : ℕ) (row : VarRow) (b : Bool) (found : Result ℕ Refused) → i < length rows → row ≡ get_or rows i row → b ≡ has_name m n row → b ≡ true
    → found ≡ one_in m n (take i rows) → also (i + 1) found ≡ one_in m n (take (i + 1) rows)
found_yes m n rows i row b found h at e t inv =
    let here : has_name m n (get_or rows i row) ≡ true = ap (has_name m n) (sym at) ∙ (sym e ∙ t) in
    ap (also (i + 1)) inv ∙ sym (found_more m n rows i row h ∙ rw here refl)

pub found_no : (m : ℕ) (n : Name) (rows : List VarRow) (i : ℕ) (row : VarRow) (b : Bool) (found : Result ℕ Refused) → i < length rows → row ≡ get_or rows i row → b ≡ has_name m n row → b ≡ false
    → found ≡ one_in m n (take i rows) → found ≡ one_in m n (take (i + 1) rows)
found_no m n rows i row b found h at e t inv =
    let not_here : has_name m n (get_or rows i row) ≡ false = ap (has_name m n) (sym at) ∙ (sym e ∙ t) in
    inv ∙ sym (found_more m n rows i row h ∙ rw not_here refl)

-- why it isn't one
err_one : (vs : List ℕ) → result_err (one_of vs) ≡ not_once vs
err_one [] = refl
err_one (v ∷ []) = refl
err_one (v ∷ w ∷ more) = refl

pub why_not : (s : Sheet) (m : ℕ) (name : Option Name) (own n : Name) (rows : List VarRow) (found : Result ℕ Refused) (o : Option Refused)
    → name ≡ Some own → n ≡ own → rows ≡ s.rows → found ≡ one_in m n rows → o ≡ result_err found → o ≡ no_one_named s m name
why_not s m name own n rows found o is same all e r =
    r ∙ ap result_err (e ∙ ap (λ k. one_in m k rows) same ∙ ap (one_in m own) all) ∙ err_one (named s m own) ∙ sym (ap (no_one_named s m) is)

-- the one that is found is there
module _ (test : VarRow → Bool) where
  numbers_there : (k : ℕ) (rows : List VarRow) (v : ℕ) (more : List ℕ) → numbers_from k test rows ≡ v ∷ more → (k ≤ v) × (v < k + length rows)
  numbers_there k [] v more e = absurd (cc)
  numbers_there k (x ∷ xs) v more e =
      elim (cases_Bool (test x)) [
        | inl here ↦
            let f : k ∷ numbers_from (k + 1) test xs ≡ v ∷ more = rw here at e in
            let same : k ≡ v = cc in
            (omega arith, omega arith)
        | inr not_here ↦
            let f : numbers_from (k + 1) test xs ≡ v ∷ more = rw not_here at e in
            let later = numbers_there (k + 1) xs v more f in
            (omega arith, omega arith)
      ]

there_if : (rows : List VarRow) (v : ℕ) → 1 ≤ v → v < 1 + length rows → where_true (not (is_some (nth rows v))) NoVariable ≡ None
there_if [] v low high = absurd (omega (arith, low, high))
there_if (x ∷ xs) zero low high = absurd (omega (arith, low))
there_if (x ∷ xs) (suc i) low high = rw (slice_get-get_or (x ∷ xs) i x (omega (arith, high))) refl

-- by the list of those that have the name
one_there : (test : VarRow → Bool) (rows : List VarRow) (vs : List ℕ) → numbers_from 1 test rows ≡ vs → not_once vs ≡ None → where_true (not (is_some (nth rows (first_of vs)))) NoVariable ≡ None
one_there test rows [] e h = absurd (cc)
one_there test rows (v ∷ []) e h = let p = numbers_there test 1 rows v [] e in there_if rows v p.0 p.1
one_there test rows (v ∷ w ∷ more) e h = absurd (cc)

first_one : (vs : List ℕ) → not_once vs ≡ None → result_unwrap_or (one_of vs) 0 ≡ first_of vs
first_one [] h = refl
first_one (v ∷ []) h = refl
first_one (v ∷ w ∷ more) h = absurd (cc)

pub the_one_is : (s : Sheet) (m : ℕ) (name : Option Name) (own n : Name) (rows : List VarRow) (found : Result ℕ Refused) (v : ℕ)
    → no_one_named s m name ≡ None → name ≡ Some own → n ≡ own → rows ≡ s.rows → found ≡ one_in m n rows → v ≡ result_unwrap_or found 0
    → (v ≡ the_one_named s m name) × (no_variable s v ≡ None)
the_one_is s m name own n rows found v once is same all e r =
    let none : not_once (named s m own) ≡ None = ap (no_one_named s m) (sym is) ∙ once in
    let one : found ≡ one_in m own s.rows = e ∙ ap (λ k. one_in m k rows) same ∙ ap (one_in m own) all in
    let first : v ≡ first_of (named s m own) = r ∙ ap (λ (o : Result ℕ Refused). result_unwrap_or o 0) one ∙ first_one (named s m own) none in
    (first ∙ sym (ap (the_one_named s m) is), ap (no_variable s) first ∙ one_there (has_name m own) s.rows (named s m own) refl none)
