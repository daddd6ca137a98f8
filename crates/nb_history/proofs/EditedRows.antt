-- The rows after an edit: those of before, and some that were given at the edit's place or undefined.
use Rattle.std.proofs.Common.{inl, inr, ℕ, zero, suc, ◌+◌, ◌≡◌, refl, sym, ◌∙◌, ap, subst, true, false, ◌⊎◌, List, [], ◌∷◌, ◌++◌, map, length, Option, Some, None, is_some}
use Rattle.std.specs.Prelude.{slice_get}
use Rattle.std.proofs.lemmas.Bool.{cases_eq, false≢true}
use Rattle.std.proofs.lemmas.Option.{none-some, same_Some}
use Rattle.nb_sheet.specs.declared.row.BodyOf.TheVariants.{Cell as CellBody, Import as ImportBody}
use Rattle.nb_sheet.specs.declared.row.VarRow.{VarRow}
use Rattle.nb_sheet.specs.declared.copies.NewVar.{NewVar}
use Rattle.nb_sheet.specs.declared.copies.NewModule.{NewModule}
use Rattle.nb_sheet.specs.declared.edit.Edit.{Edit}
use Rattle.nb_sheet.specs.declared.edit.Edit.TheVariants.{AddModule, AddVariable, AddCell, Define, Import, Delete, Redefine, Derive}
use Rattle.nb_sheet.specs.Lists.{nth, put, from_option}
use Rattle.nb_sheet.specs.Derive.{derived, new_row, rows_of}
use Rattle.nb_sheet.specs.Sheet.{Sheet, edited_sheet, defined_by, undefined, the_one_named}
use Rattle.nb_history.proofs.Closing.{nth_put_same, nth_put_other}

-- a row of an edit at this place
pub record Fresh (place : ℕ) (row : VarRow) : Type 0 where
  pub named : is_some row.name ≡ true → is_some row.body ≡ true
  pub placed : is_some row.body ≡ true → row.place ≡ place
  pub new : (row.place ≡ place) ⊎ (row.place ≡ 0)

abbrev pub Edited : List VarRow → ℕ → List VarRow → Type 0
Edited rows place rows' = (v : ℕ) (row : VarRow) → nth rows' v ≡ Some row → (nth rows v ≡ Some row) ⊎ Fresh place row

-- an element of a list with one more
pub nth_push : {A : Type 0} (xs : List A) (y : A) (v : ℕ) (x : A) → nth (xs ++ y ∷ []) v ≡ Some x → (nth xs v ≡ Some x) ⊎ (y ≡ x)
nth_push xs y zero x h = absurd (none-some x h)
nth_push xs y (suc i) x h = go xs i h
  where
    go : (xs : List _) (i : ℕ) → slice_get (xs ++ y ∷ []) i ≡ Some x → (slice_get xs i ≡ Some x) ⊎ (y ≡ x)
    go [] zero h = inr (same_Some y x h)
    go [] (suc i) h = absurd (none-some x h)
    go (z ∷ xs) zero h = inl h
    go (z ∷ xs) (suc i) h = go xs i h

pushed : (rows : List VarRow) (place : ℕ) (new : VarRow) → Fresh place new → Edited rows place (rows ++ new ∷ [])
pushed rows place new fresh v row at = elim (nth_push rows new v row at) [
  | inl old ↦ inl old
  | inr same ↦ inr (subst (λ (x : VarRow). Fresh place x) same fresh)
]

row_changed : (rows : List VarRow) (place u : ℕ) (change : VarRow → VarRow) → ((row : VarRow) → Fresh place (change row)) → Edited rows place (from_option rows (λ row. put rows u (change row)) (nth rows u))
row_changed rows place u change fresh = go (nth rows u) refl
  where
    go : (o : Option VarRow) → nth rows u ≡ o → Edited rows place (from_option rows (λ row. put rows u (change row)) o)
    go None e v row at = inl at
    go (Some old) e v row at = elim (cases_eq u v) [
      | inr other ↦ inl (sym (nth_put_other rows u v (change old) other) ∙ at)
      | inl same ↦
          let here : Some (change old) ≡ Some row = sym (nth_put_same rows u old (change old) e) ∙ (ap (nth (put rows u (change old))) same ∙ at) in
          inr (subst (λ (x : VarRow). Fresh place x) (same_Some (change old) row here) (fresh old))
    ]

given_row : (place : ℕ) (row : VarRow) → is_some row.body ≡ true → row.place ≡ place → Fresh place row
given_row place row body at = record { named = λ k. body; placed = λ k. at; new = inl at }

bare_row : (place : ℕ) (row : VarRow) → is_some row.name ≡ false → is_some row.body ≡ false → row.place ≡ 0 → Fresh place row
bare_row place row name body at = record { named = λ k. absurd (false≢true (sym name ∙ k)); placed = λ k. absurd (false≢true (sym body ∙ k)); new = inr at }

-- ---- the rows of copies

get_append : {A : Type 0} (xs ys : List A) (i : ℕ) (x : A) → slice_get (xs ++ ys) i ≡ Some x → (slice_get xs i ≡ Some x) ⊎ ((j : ℕ) × (slice_get ys j ≡ Some x))
get_append [] ys i x h = inr (i, h)
get_append (z ∷ xs) ys zero x h = inl h
get_append (z ∷ xs) ys (suc i) x h = get_append xs ys i x h

-- each element of a list is a fresh row
abbrev AreFresh : ℕ → List VarRow → Type 0
AreFresh place rows = (i : ℕ) (row : VarRow) → slice_get rows i ≡ Some row → Fresh place row

more_rows : (rows : List VarRow) (place : ℕ) (more : List VarRow) → AreFresh place more → Edited rows place (rows ++ more)
more_rows rows place more fresh zero row at = absurd (none-some row at)
more_rows rows place more fresh (suc i) row at = elim (get_append rows more i row at) [
  | inl old ↦ inl old
  | inr new ↦ inr (fresh new.0 row new.1)
]

variables_fresh : (m place : ℕ) (vars : List NewVar) → AreFresh place (map (new_row m place) vars)
variables_fresh m place [] i row at = absurd (none-some row at)
variables_fresh m place (v ∷ vars) zero row at = subst (λ (x : VarRow). Fresh place x) (same_Some (new_row m place v) row at) (given_row place (new_row m place v) refl refl)
variables_fresh m place (v ∷ vars) (suc i) row at = variables_fresh m place vars i row at

copies_fresh : (next place : ℕ) (copies : List NewModule) → AreFresh place (rows_of next place copies)
copies_fresh next place [] i row at = absurd (none-some row at)
copies_fresh next place (c ∷ copies) i row at = elim (get_append (map (new_row next place) c.variables) (rows_of (next + 1) place copies) i row at) [
  | inl here ↦ variables_fresh next place c.variables i row here
  | inr later ↦ copies_fresh (next + 1) place copies later.0 row later.1
]

pub edited_rows : (s : Sheet) (edit : Edit) (place : ℕ) → Edited s.rows place (edited_sheet s edit place).rows
edited_rows s AddModule place = λ v row at. inl at
edited_rows s (AddVariable m observed) place =
    pushed s.rows place (record { «module» = m; observed = observed; name = None; body = None; place = 0 })
    (bare_row place (record { «module» = m; observed = observed; name = None; body = None; place = 0 }) refl refl refl)
edited_rows s (AddCell m cell observed) place =
    pushed s.rows place (record { «module» = m; observed = observed; name = cell.name; body = Some (CellBody cell); place = place })
    (given_row place (record { «module» = m; observed = observed; name = cell.name; body = Some (CellBody cell); place = place }) refl refl)
edited_rows s (Define v cell) place =
    row_changed s.rows place v (defined_by cell.name (CellBody cell) place) (λ row. given_row place (defined_by cell.name (CellBody cell) place row) refl refl)
edited_rows s (Import v name alias from) place =
    row_changed s.rows place v (defined_by (Some alias) (ImportBody name from) place) (λ row. given_row place (defined_by (Some alias) (ImportBody name from) place row) refl refl)
edited_rows s (Delete v) place = row_changed s.rows place v undefined (λ row. bare_row place (undefined row) refl refl refl)
edited_rows s (Redefine m cell) place =
    row_changed s.rows place (the_one_named s m cell.name) (λ row. record row { body = Some (CellBody cell); place = place })
    (λ row. given_row place (record row { body = Some (CellBody cell); place = place }) refl refl)
edited_rows s (Derive m specifiers source) place = more_rows s.rows place (rows_of (length s.modules) place (derived s.modules s.rows m specifiers source)) (copies_fresh (length s.modules) place (derived s.modules s.rows m specifiers source))

-- builtins never change
pub edited_builtins : (s : Sheet) (edit : Edit) (place : ℕ) → (edited_sheet s edit place).builtins ≡ s.builtins
edited_builtins s AddModule place = refl
edited_builtins s (AddVariable m observed) place = refl
edited_builtins s (AddCell m cell observed) place = refl
edited_builtins s (Define v cell) place = refl
edited_builtins s (Import v name alias from) place = refl
edited_builtins s (Delete v) place = refl
edited_builtins s (Redefine m cell) place = refl
edited_builtins s (Derive m specifiers source) place = refl
