-- Steps of the loops that scan rows and names.
use Rattle.std.proofs.Common.{inl, inr, ℕ, ◌≡◌, ◌+◌, ◌<◌, refl, sym, ◌∙◌, ap, Bool, true, false, cond, List, [], ◌∷◌, ◌++◌, append-nil, length, take, get_or, length-take, arith, None}
use Rattle.std.proofs.lemmas.List.{take_more}
use Rattle.std.proofs.lemmas.Bool.{cases_Bool}
use Rattle.nb_sheet.specs.Lists.{Name, numbers_from}
use Rattle.nb_sheet.specs.declared.row.VarRow.{VarRow}
use Rattle.nb_resolve.specs.Names.{resolved}
use Rattle.nb_sheet.specs.Scan.{has_name}
use Rattle.nb_sheet.proofs.Scans.{numbers_from_push}
use Rattle.nb_resolve.specs.Scan.{also, found_in}
use Rattle.nb_resolve.specs.declared.resolution.Resolution.{Resolution}

resolved_push : (vs : List ℕ) (w : ℕ) → resolved (vs ++ w ∷ []) None ≡ also w (resolved vs None)
resolved_push [] w = refl
resolved_push (v ∷ []) w = refl
resolved_push (v ∷ u ∷ more) w = refl

found_push : (m : ℕ) (n : Name) (rows : List VarRow) (row : VarRow) → found_in m n (rows ++ row ∷ []) ≡ cond (has_name m n row) (also (1 + length rows) (found_in m n rows)) (found_in m n rows)
found_push m n rows row =
    elim (cases_Bool (has_name m n row)) [
      | inl here ↦ rw (numbers_from_push (has_name m n) 1 rows row, here) (resolved_push (numbers_from 1 (has_name m n) rows) (1 + length rows))
      | inr not_here ↦ rw (numbers_from_push (has_name m n) 1 rows row, not_here, append-nil) refl
    ]

found_more : (m : ℕ) (n : Name) (rows : List VarRow) (i : ℕ) (d : VarRow) → i < length rows
    → found_in m n (take (i + 1) rows) ≡ cond (has_name m n (get_or rows i d)) (also (i + 1) (found_in m n (take i rows))) (found_in m n (take i rows))
found_more m n rows i d h =
    let len : 1 + length (take i rows) ≡ i + 1 = rw length-take (omega arith) in
    rw (take_more rows i d h) (found_push m n (take i rows) (get_or rows i d) ∙ rw len refl)

-- one turn of the scan, where the row has the name and where not
pub found_yes : (m : ℕ) (n : Name) (rows : List VarRow) (i : ℕ) (row : VarRow) (b : Bool) (found : Resolution) → i < length rows → row ≡ get_or rows i row → b ≡ has_name m n row → b ≡ true
    → found ≡ found_in m n (take i rows) → also (i + 1) found ≡ found_in m n (take (i + 1) rows)
found_yes m n rows i row b found h at e t inv =
    let here : has_name m n (get_or rows i row) ≡ true = ap (has_name m n) (sym at) ∙ (sym e ∙ t) in
    ap (also (i + 1)) inv ∙ sym (found_more m n rows i row h ∙ rw here refl)

pub found_no : (m : ℕ) (n : Name) (rows : List VarRow) (i : ℕ) (row : VarRow) (b : Bool) (found : Resolution) → i < length rows → row ≡ get_or rows i row → b ≡ has_name m n row → b ≡ false
    → found ≡ found_in m n (take i rows) → found ≡ found_in m n (take (i + 1) rows)
found_no m n rows i row b found h at e t inv =
    let not_here : has_name m n (get_or rows i row) ≡ false = ap (has_name m n) (sym at) ∙ (sym e ∙ t) in
    inv ∙ sym (found_more m n rows i row h ∙ rw not_here refl)
