-- Rows that were replaced, put back.
use Rattle.std.proofs.Common.{ℕ, zero, suc, ◌≡◌, refl, ◌∙◌, ap, List, [], ◌∷◌, ◌++◌, get_or, set, take}
use Rattle.nb_sheet.specs.declared.row.VarRow.{VarRow}
use Rattle.nb_sheet.specs.declared.rows.Change.{Change}
use Rattle.nb_sheet.specs.Changes.{put_back, GiveTheSame}

pub back_append : (cs ds : List Change) (rows : List VarRow) → put_back (cs ++ ds) rows ≡ put_back cs (put_back ds rows)
back_append [] ds rows = refl
back_append (c ∷ cs) ds rows = ap (λ (l : List VarRow). set l c.at c.row) (back_append cs ds rows)

-- one row is replaced, and put back
back_one : (n : ℕ) (rows : List VarRow) (i : ℕ) (row old : VarRow) → old ≡ get_or rows i old → set (take n (set rows i row)) i old ≡ take n rows
back_one zero rows i row old e = refl
back_one (suc n) [] i row old e = refl
back_one (suc n) (x ∷ rows) zero row old e = ap (λ (y : VarRow). y ∷ take n rows) e
back_one (suc n) (x ∷ rows) (suc i) row old e = ap (λ (l : List VarRow). x ∷ l) (back_one n rows i row old e)

pub one_more : (changes : List Change) (rows : List VarRow) (c : Change) (row : VarRow) (i : ℕ) → c.at ≡ i → c.row ≡ get_or rows i c.row → GiveTheSame changes rows (changes ++ c ∷ []) (set rows i row)
one_more changes rows c row i e read n =
    back_append changes (c ∷ []) (take n (set rows i row))
    ∙ ap (put_back changes) (ap (λ (j : ℕ). set (take n (set rows i row)) j c.row) e ∙ back_one n rows i row c.row read)
