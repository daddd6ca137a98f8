-- A table of names, as each variable is noted in it, and what is read off it.
use Rattle.std.proofs.Common.{ℕ, ◌≡◌, ◌+◌, ◌<◌, refl, sym, ◌∙◌, ap, Bool, true, false, cond, List, [], ◌∷◌, length, take, get_or, bytes_eq, nat_eq, Option, Some, None}
use Rattle.std.specs.Prelude.{◌&&◌}
use Rattle.std.specs.HashMap.{HashMap}
use Rattle.std.proofs.lemmas.Bool.{and_right}
use Rattle.nb_sheet.specs.Lists.{Name, is_name, from_option}
use Rattle.nb_sheet.specs.Scan.{has_name}
use Rattle.nb_sheet.specs.Sheet.{Sheet, named}
use Rattle.nb_sheet.specs.declared.row.VarRow.{VarRow}
use Rattle.nb_resolve.specs.Names.{resolved, resolve, is_twice, is_duplicate_row}
use Rattle.nb_resolve.specs.Scan.{also, found_in, builtin_place, or_builtin}
use Rattle.nb_resolve.specs.declared.resolution.Resolution.{Resolution}
use Rattle.nb_resolve.specs.declared.resolution.Resolution.TheVariants.{Var, Builtin, Twice, Missing}
use Rattle.nb_resolve.proofs.Scans.{found_yes, found_no}
use Rattle.nb_closing.specs.Names.{Key, is_same, given, noted, IsTable}

-- ---- one more row

more_by : (b : Bool) (q : Key) (rows : List VarRow) (i : ℕ) (row : VarRow) (was is : Resolution) → i < length rows → row ≡ get_or rows i row → b ≡ has_name q.0 q.1.now row
    → was ≡ found_in q.0 q.1.now (take i rows) → is ≡ cond b (also (i + 1) was) was → is ≡ found_in q.0 q.1.now (take (i + 1) rows)
more_by true q rows i row was is inside at e inv set = set ∙ found_yes q.0 q.1.now rows i row true was inside at e refl inv
more_by false q rows i row was is inside at e inv set = set ∙ found_no q.0 q.1.now rows i row false was inside at e refl inv

module _ {S : Type 0} (old new : HashMap Key Resolution S) (rows : List VarRow) (i : ℕ) (row : VarRow) (inside : i < length rows) (at : row ≡ get_or rows i row) (inv : IsTable (take i rows) old) where
  -- a row that has a name
  pub table_named : (k : Key) (own : Name) → row.name ≡ Some own → k.0 ≡ row.«module» → k.1.now ≡ own
      → ((q : Key) → given new q ≡ noted k (i + 1) (given old) q) → IsTable (take (i + 1) rows) new
  table_named k own named_so m n set q =
      let has : is_same k q ≡ has_name q.0 q.1.now row =
      ap (λ a. nat_eq a q.0 && bytes_eq k.1.now q.1.now) m
      ∙ ap (λ a. nat_eq row.«module» q.0 && bytes_eq a q.1.now) n
      ∙ ap (λ (o : Option Name). nat_eq row.«module» q.0 && is_name o q.1.now) (sym named_so) in
      more_by (is_same k q) q rows i row (given old q) (given new q) inside at has (inv q) (set q)

  -- a row that has none
  pub table_unnamed : row.name ≡ None → IsTable (take (i + 1) rows) old
  table_unnamed none q =
      let has : false ≡ has_name q.0 q.1.now row =
      sym (ap (λ (o : Option Name). nat_eq row.«module» q.0 && is_name o q.1.now) none ∙ and_right (nat_eq row.«module» q.0) false refl) in
      more_by false q rows i row (given old q) (given old q) inside at has (inv q) refl

-- ---- what is read off

or_builtin_of : (vs : List ℕ) (o : Option ℕ) → or_builtin o (resolved vs None) ≡ resolved vs o
or_builtin_of [] None = refl
or_builtin_of [] (Some b) = refl
or_builtin_of (v ∷ []) None = refl
or_builtin_of (v ∷ []) (Some b) = refl
or_builtin_of (v ∷ w ∷ more) None = refl
or_builtin_of (v ∷ w ∷ more) (Some b) = refl

-- by the variables, and by the builtins where these have none of the name
pub by_builtins : (s : Sheet) (m : ℕ) (n : Name) (r : Resolution) → r ≡ found_in m n s.rows → or_builtin (builtin_place n s.builtins) r ≡ resolve s m n
by_builtins s m n r e = ap (or_builtin (builtin_place n s.builtins)) e ∙ or_builtin_of (named s m n) (builtin_place n s.builtins)

pub found_already : (o : Option ℕ) (r : Resolution) → (r ≡ Missing → ⊥) → or_builtin o r ≡ r
found_already None Missing other = absurd (other refl)
found_already (Some b) Missing other = absurd (other refl)
found_already None (Var v) other = refl
found_already (Some b) (Var v) other = refl
found_already None (Builtin v) other = refl
found_already (Some b) (Builtin v) other = refl
found_already None Twice other = refl
found_already (Some b) Twice other = refl

twice_if : (vs : List ℕ) → resolved vs None ≡ Twice → is_twice vs ≡ true
twice_if [] e = absurd (cc)
twice_if (v ∷ []) e = absurd (cc)
twice_if (v ∷ w ∷ more) e = refl

once_if : (vs : List ℕ) → (resolved vs None ≡ Twice → ⊥) → is_twice vs ≡ false
once_if [] other = refl
once_if (v ∷ []) other = refl
once_if (v ∷ w ∷ more) other = absurd (other refl)

module _ (s : Sheet) (row : VarRow) (own : Name) (r : Resolution) (named_so : row.name ≡ Some own) (is : r ≡ found_in row.«module» own s.rows) where
  twin_is : is_duplicate_row s row ≡ is_twice (named s row.«module» own)
  twin_is = ap (from_option false (λ n. is_twice (named s row.«module» n))) named_so

  pub is_twin : r ≡ Twice → true ≡ is_duplicate_row s row
  is_twin e = sym (twin_is ∙ twice_if (named s row.«module» own) (sym is ∙ e))

  pub no_twin : (r ≡ Twice → ⊥) → false ≡ is_duplicate_row s row
  no_twin other = sym (twin_is ∙ once_if (named s row.«module» own) (λ e. other (is ∙ e)))
