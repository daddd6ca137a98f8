-- What is read off the rows after one is set or added.
use Rattle.std.proofs.Common.{ℕ, zero, suc, ◌≡◌, ◌≢◌, ◌<◌, ◌≤◌, refl, sym, ◌∙◌, ap, List, [], ◌∷◌, ◌++◌, length, set, get_or, Bool, true, false, ◌&&◌, arith, inl, inr}
use Rattle.std.proofs.lemmas.Bool.{cases_eq}
use Rattle.nb_index.specs.Numbers.{has}
use Rattle.nb_index.specs.Rows.{row_at}
use Rattle.nb_index.specs.declared.row.Row.{Row}

module _ {X : Type 0} (read : Row → X) (none : X) where
  pub row_at-set_same : (rows : List Row) (r : ℕ) (new : Row) → r < length rows → row_at read none (set rows r new) r ≡ read new
  row_at-set_same [] r new less = absurd (omega arith)
  row_at-set_same (row ∷ rows) zero new less = refl
  row_at-set_same (row ∷ rows) (suc r) new less = row_at-set_same rows r new (omega arith)

  pub row_at-set_other : (rows : List Row) (r q : ℕ) (new : Row) → q ≢ r → row_at read none (set rows r new) q ≡ row_at read none rows q
  row_at-set_other [] r q new other = refl
  row_at-set_other (row ∷ rows) zero zero new other = absurd (other refl)
  row_at-set_other (row ∷ rows) zero (suc q) new other = refl
  row_at-set_other (row ∷ rows) (suc r) zero new other = refl
  row_at-set_other (row ∷ rows) (suc r) (suc q) new other = row_at-set_other rows r q new (λ e. other (ap suc e))

  -- a row is set that reads as before
  pub row_at-set_kept : (rows : List Row) (r : ℕ) (new : Row) → r < length rows → read new ≡ row_at read none rows r → (q : ℕ) → row_at read none (set rows r new) q ≡ row_at read none rows q
  row_at-set_kept rows r new less same q =
      elim (cases_eq q r) [
        | inl here ↦
            ap (λ (k : ℕ). row_at read none (set rows r new) k) here
            ∙ row_at-set_same rows r new less
            ∙ same
            ∙ ap (λ (k : ℕ). row_at read none rows k) (sym here)
        | inr other ↦ row_at-set_other rows r q new other
      ]

  pub row_at-past : (rows : List Row) (r : ℕ) → length rows ≤ r → row_at read none rows r ≡ none
  row_at-past [] r past = refl
  row_at-past (row ∷ rows) zero past = absurd (omega arith)
  row_at-past (row ∷ rows) (suc r) past = row_at-past rows r (omega arith)

  -- a row is added that reads as one past the last
  pub row_at-push : (rows : List Row) (new : Row) (r : ℕ) → read new ≡ none → row_at read none (rows ++ new ∷ []) r ≡ row_at read none rows r
  row_at-push [] new zero empty = empty
  row_at-push [] new (suc r) empty = refl
  row_at-push (row ∷ rows) new zero empty = refl
  row_at-push (row ∷ rows) new (suc r) empty = row_at-push rows new r empty

  pub row_at-get_or : (rows : List Row) (r : ℕ) (d : Row) → r < length rows → row_at read none rows r ≡ read (get_or rows r d)
  row_at-get_or [] r d less = absurd (omega arith)
  row_at-get_or (row ∷ rows) zero d less = refl
  row_at-get_or (row ∷ rows) (suc r) d less = row_at-get_or rows r d (omega arith)

  pub row_at-read : (rows : List Row) (r : ℕ) (row : Row) → r < length rows → row ≡ get_or rows r row → row_at read none rows r ≡ read row
  row_at-read rows r row less e = row_at-get_or rows r row less ∙ ap read (sym e)

-- nothing is lost from an empty row
pub loses_none : (xs : List ℕ) → xs ≡ [] → (b : Bool) (x : ℕ) → has xs x ≡ (b && has xs x)
loses_none [] e true x = refl
loses_none [] e false x = refl
loses_none (y ∷ xs) e b x = absurd (omega (arith, ap (λ (l : List ℕ). length l) e))
