-- What a sheet keeps when its rows change.
use Rattle.std.proofs.Common.{inl, inr, ℕ, zero, suc, ◌≡◌, ◌+◌, ◌<◌, ◌≤◌, refl, sym, ◌∙◌, ap, subst, Bool, true, false, ◌&&◌, ◌||◌, not, List, [], ◌∷◌, ◌++◌, length, set, arith, Option, Some, None}
use Rattle.std.proofs.lemmas.Bool.{cases_Bool, ltb-true, lt-ltb, ltb-false}
use Rattle.std.proofs.lemmas.List.{length_push}
use Rattle.std.specs.Prelude.{nat_lt, slice_get, is_some}
use Rattle.std.specs.List.{list_all}
use Rattle.std.specs.Prelude.{Result, Ok, Err, OnOk, OnErr}
use Rattle.nb_value.specs.declared.pairs.Field.{Field}
use Rattle.nb_value.specs.declared.value.Value.{Value}
use Rattle.nb_sheet.specs.Derive.{Modules}
use Rattle.nb_syntax.specs.declared.tree.Cell.{Cell}
use Rattle.nb_sheet.specs.declared.row.BodyOf.{BodyOf}
use Rattle.nb_sheet.specs.declared.row.BodyOf.TheVariants.{Cell as CellBody, Import as ImportBody}
use Rattle.nb_sheet.specs.declared.row.VarRow.{VarRow}
use Rattle.nb_sheet.specs.declared.refused.Refused.TheVariants.{TooManyModules}
use Rattle.nb_sheet.specs.Lists.{Name, nth, put, from_option}
use Rattle.nb_sheet.specs.Sheet.{Sheet, IsSheet, is_body, is_row, defined_by, undefined, too_many_modules}
use Rattle.nb_sheet.specs.Scan.{changed, redefined_by}

less_more : (a m n : ℕ) → m ≤ n → nat_lt a m ≡ true → nat_lt a n ≡ true
less_more a m n more h = let less : a < m = ltb-true a m h in lt-ltb a n (omega (arith, less, more))

pub all_of_two : (a b : Bool) → (a && b) ≡ true → (a ≡ true) × (b ≡ true)
all_of_two true b e = (refl, e)
all_of_two false b e = absurd (cc)

pub both : (a b : Bool) → a ≡ true → b ≡ true → (a && b) ≡ true
both true b p q = q
both false b p q = p

-- the parts of what a sheet keeps of a row
record Parts (m : ℕ) (row : VarRow) : Type 0 where
  of_module : nat_lt row.«module» m ≡ true
  named : (not (is_some row.name) || is_some row.body) ≡ true
  body : is_body m row.body ≡ true

parts : (m : ℕ) (row : VarRow) → is_row m row ≡ true → Parts m row
parts m row h =
    let named = not (is_some row.name) || is_some row.body in
    let p = all_of_two (nat_lt row.«module» m && named) (is_body m row.body) h in
    let q = all_of_two (nat_lt row.«module» m) named p.0 in
    record { of_module = q.0; named = q.1; body = p.1 }

pub whole : (m : ℕ) (row : VarRow) → nat_lt row.«module» m ≡ true → (not (is_some row.name) || is_some row.body) ≡ true → is_body m row.body ≡ true → is_row m row ≡ true
whole m row a b c =
    let named = not (is_some row.name) || is_some row.body in
    both (nat_lt row.«module» m && named) (is_body m row.body) (both (nat_lt row.«module» m) named a b) c

-- ---- more modules

body_more : (m n : ℕ) (body : Option BodyOf) → m ≤ n → is_body m body ≡ true → is_body n body ≡ true
body_more m n None more h = refl
body_more m n (Some (CellBody cell)) more h = refl
body_more m n (Some (ImportBody name from)) more h = less_more from m n more h

row_more : (m n : ℕ) (row : VarRow) → m ≤ n → is_row m row ≡ true → is_row n row ≡ true
row_more m n row more h =
    let p = parts m row h in
    whole n row (less_more row.«module» m n more p.of_module) p.named (body_more m n row.body more p.body)

pub all_more : (m n : ℕ) (rows : List VarRow) → m ≤ n → list_all (is_row m) rows ≡ true → list_all (is_row n) rows ≡ true
all_more m n [] more h = refl
all_more m n (row ∷ rows) more h =
    let p = all_of_two (is_row m row) (list_all (is_row m) rows) h in
    both (is_row n row) (list_all (is_row n) rows) (row_more m n row more p.0) (all_more m n rows more p.1)

pub few : (s : Sheet) (made : ℕ) → too_many_modules s made ≡ None → length s.modules + made ≤ 64
few s made h = elim (cases_Bool (nat_lt 64 (length s.modules + made))) [
  | inl here ↦ let no : Some TooManyModules ≡ None = rw here at h in absurd (cc)
  | inr not_here ↦ ltb-false 64 (length s.modules + made) not_here
]

pub wider : (s : Sheet) → too_many_modules s 1 ≡ None → IsSheet s → IsSheet (record s { modules = s.modules ++ false ∷ [] })
wider s fits h =
    let size : length (s.modules ++ false ∷ []) ≡ length s.modules + 1 = length_push s.modules false in
    record {
      builtins = h.builtins;
      some_module = omega (arith, size);
      modules = omega (arith, few s 1 fits, size);
      variables = h.variables;
      rows = ap (λ (m : ℕ). list_all (is_row m) s.rows) size ∙ all_more (length s.modules) (length s.modules + 1) s.rows (omega arith) h.rows;
    }

pub is_sheet : (builtins : List (Field Value)) (rows : List VarRow) (modules new : Modules) → new ≡ modules → IsSheet (record { builtins = builtins; modules = modules; rows = rows })
    → IsSheet (record { builtins = builtins; modules = new; rows = rows })
is_sheet builtins rows modules new e h = subst (λ (p : Modules). IsSheet (record { builtins = builtins; modules = p; rows = rows })) (sym e) h

-- ---- a changed row

length_put : (rows : List VarRow) (i : ℕ) (y : VarRow) → length (set rows i y) ≡ length rows
length_put [] i y = refl
length_put (x ∷ xs) zero y = refl
length_put (x ∷ xs) (suc i) y = ap (λ (n : ℕ). suc n) (length_put xs i y)

put_all : (test : VarRow → Bool) (rows : List VarRow) (i : ℕ) (y : VarRow) → test y ≡ true → list_all test rows ≡ true → list_all test (set rows i y) ≡ true
put_all test [] i y t h = refl
put_all test (x ∷ xs) zero y t h = both (test y) (list_all test xs) t (all_of_two (test x) (list_all test xs) h).1
put_all test (x ∷ xs) (suc i) y t h =
    let p = all_of_two (test x) (list_all test xs) h in
    both (test x) (list_all test (set xs i y)) p.0 (put_all test xs i y t p.1)

at_all : (test : VarRow → Bool) (rows : List VarRow) (i : ℕ) (row : VarRow) → slice_get rows i ≡ Some row → list_all test rows ≡ true → test row ≡ true
at_all test [] i row e h = absurd (cc)
at_all test (x ∷ xs) zero row e h =
    let same : x ≡ row = cc in
    ap test (sym same) ∙ (all_of_two (test x) (list_all test xs) h).0
at_all test (x ∷ xs) (suc i) row e h = at_all test xs i row e (all_of_two (test x) (list_all test xs) h).1

changed_all : (test : VarRow → Bool) (change : VarRow → VarRow) (rows : List VarRow) (v : ℕ) (o : Option VarRow) → ((row : VarRow) → test row ≡ true → test (change row) ≡ true) → nth rows v ≡ o
    → list_all test rows ≡ true → list_all test (from_option rows (λ row. put rows v (change row)) o) ≡ true
changed_all test change rows v None keeps e h = h
changed_all test change rows zero (Some row) keeps e h = h
changed_all test change rows (suc i) (Some row) keeps e h = put_all test rows i (change row) (keeps row (at_all test rows i row e h)) h

length_changed : (change : VarRow → VarRow) (rows : List VarRow) (v : ℕ) (o : Option VarRow) → length (from_option rows (λ row. put rows v (change row)) o) ≡ length rows
length_changed change rows v None = refl
length_changed change rows zero (Some row) = refl
length_changed change rows (suc i) (Some row) = length_put rows i (change row)

-- so many rows as before, of a sheet
abbrev pub IsChanged : Sheet → List VarRow → Type 0
IsChanged s rows = (length rows ≡ length s.rows) × IsSheet (record s { rows = rows })

pub unchanged : (s : Sheet) (rows : List VarRow) → rows ≡ s.rows → IsSheet s → IsChanged s rows
unchanged s rows e h = (
  ap length e,
  record {
    builtins = h.builtins;
    some_module = h.some_module;
    modules = h.modules;
    variables = omega (arith, h.variables, ap length e);
    rows = ap (list_all (is_row (length s.modules))) e ∙ h.rows;
  },
)

-- a change that keeps each row keeps the sheet
keeps_rows : (s : Sheet) (v : ℕ) (change : VarRow → VarRow) (rows : List VarRow) → rows ≡ changed s.rows v change → ((row : VarRow) → is_row (length s.modules) row ≡ true → is_row (length s.modules) (change row) ≡ true)
    → IsSheet s → IsChanged s rows
keeps_rows s v change rows e keeps h =
    let size : length rows ≡ length s.rows = ap length e ∙ length_changed change s.rows v (nth s.rows v) in (
      size,
      record {
        builtins = h.builtins;
        some_module = h.some_module;
        modules = h.modules;
        variables = omega (arith, h.variables, size);
        rows = ap (list_all (is_row (length s.modules))) e ∙ changed_all (is_row (length s.modules)) change s.rows v (nth s.rows v) keeps refl h.rows;
      },
    )

or_true : (b : Bool) → (b || true) ≡ true
or_true true = refl
or_true false = refl

pub defined_keeps : (s : Sheet) (v : ℕ) (name : Option Name) (body : BodyOf) (place : ℕ) (rows : List VarRow) → is_body (length s.modules) (Some body) ≡ true → IsSheet s
    → rows ≡ changed s.rows v (defined_by name body place) → IsChanged s rows
defined_keeps s v name body place rows there h e =
    keeps_rows s v (defined_by name body place) rows e
    (λ row is. whole (length s.modules) (defined_by name body place row) (parts (length s.modules) row is).of_module (or_true (not (is_some name))) there) h

pub undefined_keeps : (s : Sheet) (v : ℕ) (rows : List VarRow) → IsSheet s → rows ≡ changed s.rows v undefined → IsChanged s rows
undefined_keeps s v rows h e = keeps_rows s v undefined rows e (λ row is. whole (length s.modules) (undefined row) (parts (length s.modules) row is).of_module refl refl) h

pub redefined_keeps : (s : Sheet) (v : ℕ) (cell : Cell) (place : ℕ) (rows : List VarRow) → IsSheet s → rows ≡ changed s.rows v (redefined_by cell place) → IsChanged s rows
redefined_keeps s v cell place rows h e =
    keeps_rows s v (redefined_by cell place) rows e
    (λ row is. whole (length s.modules) (redefined_by cell place row) (parts (length s.modules) row is).of_module (or_true (not (is_some row.name))) refl) h

-- whether a call did what it does or failed
pub either : {A B P Q G : Type 0} (r : Result A B) → OnOk r P → OnErr r Q → (P → G) → (Q → G) → G
either (Ok x) p q f g = f p
either (Err x) p q f g = g q
