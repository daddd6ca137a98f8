-- The copies of a derive import from modules that are there, or from one another.
use Rattle.std.proofs.Common.{inl, inr, ℕ, ◌≡◌, ◌+◌, ◌<◌, ◌≤◌, refl, sym, ◌∙◌, ap, subst, Bool, true, false, ◌&&◌, ◌||◌, not, ◌==◌, cond, List, [], ◌∷◌, ◌++◌, map, length, arith, Option, Some, None}
use Rattle.std.specs.Prelude.{nat_lt, is_some}
use Rattle.std.specs.List.{list_all, filter, flat_map}
use Rattle.std.proofs.lemmas.Bool.{cases_Bool, lt-ltb, ltb-true}
use Rattle.std.proofs.lemmas.List.{length-map}
use Rattle.nb_sheet.specs.Lists.{Name}
use Rattle.nb_sheet.specs.declared.copies.NewVar.{NewVar}
use Rattle.nb_sheet.specs.declared.copies.NewModule.{NewModule}
use Rattle.nb_sheet.specs.declared.edit.Specifier.{Specifier}
use Rattle.nb_sheet.specs.declared.row.BodyOf.{BodyOf}
use Rattle.nb_sheet.specs.declared.row.BodyOf.TheVariants.{Cell as CellBody, Import as ImportBody}
use Rattle.nb_sheet.specs.declared.row.VarRow.{VarRow}
use Rattle.nb_sheet.specs.Derive.{Modules, is_copied, copied_of, copied_modules, copy_of, turned, copied_var, import_of, first_vars, module_copy, derived}
use Rattle.nb_sheet.specs.Sheet.{is_body, is_row, is_from}
use Rattle.nb_sheet.proofs.Keeps.{all_of_two, both}

copy_below : (next : ℕ) (copied : List ℕ) (k n : ℕ) → k < n → next + length copied ≤ n → copy_of next copied k < n
copy_below next [] k n less low = less
copy_below next (c ∷ copied) k n less low =
    elim (cases_Bool (c == k)) [
      | inl here ↦ subst (λ (b : Bool). cond b next (copy_of (next + 1) copied k) < n) (sym here) (omega (arith, low))
      | inr not_here ↦ subst (λ (b : Bool). cond b next (copy_of (next + 1) copied k) < n) (sym not_here) (copy_below (next + 1) copied k n less (omega (arith, low)))
    ]

-- whether a variable's body may stand among n modules
abbrev fits : ℕ → NewVar → Bool
fits n v = is_body n (Some v.body)

turned_fits : (next : ℕ) (copied : List ℕ) (n : ℕ) (body : BodyOf) → next + length copied ≤ n → is_body next (Some body) ≡ true → is_body n (Some (turned next copied body)) ≡ true
turned_fits next copied n (CellBody cell) low h = refl
turned_fits next copied n (ImportBody name from) low h =
    let less : from < next = ltb-true from next h in
    lt-ltb (copy_of next copied from) n (copy_below next copied from n (omega (arith, less, low)) low)

all_append : (test : NewVar → Bool) (xs ys : List NewVar) → list_all test xs ≡ true → list_all test ys ≡ true → list_all test (xs ++ ys) ≡ true
all_append test [] ys h g = g
all_append test (x ∷ xs) ys h g =
    let p = all_of_two (test x) (list_all test xs) h in
    both (test x) (list_all test (xs ++ ys)) p.0 (all_append test xs ys p.1 g)

var_fits : (next : ℕ) (copied : List ℕ) (n : ℕ) (name : Option Name) (body : Option BodyOf) → next + length copied ≤ n → is_body next body ≡ true → list_all (fits n) (copied_var next copied name body) ≡ true
var_fits next copied n None body low h = refl
var_fits next copied n (Some name) None low h = refl
var_fits next copied n (Some name) (Some body) low h = both (is_body n (Some (turned next copied body))) true (turned_fits next copied n body low h) refl

vars_fit : (next : ℕ) (copied : List ℕ) (n : ℕ) (test : VarRow → Bool) (rows : List VarRow) → next + length copied ≤ n → list_all (is_row next) rows ≡ true
    → list_all (fits n) (flat_map (λ (row : VarRow). copied_var next copied row.name row.body) (filter test rows)) ≡ true
vars_fit next copied n test [] low h = refl
vars_fit next copied n test (row ∷ rows) low h =
    let p = all_of_two (is_row next row) (list_all (is_row next) rows) h in
    let body : is_body next row.body ≡ true = (all_of_two (nat_lt row.«module» next && (not (is_some row.name) || is_some row.body)) (is_body next row.body) p.0).1 in
    let more = vars_fit next copied n test rows low p.1 in
    let of_row = λ (row : VarRow). copied_var next copied row.name row.body in
    elim (cases_Bool (test row)) [
      | inl here ↦ ap (λ (b : Bool). list_all (fits n) (flat_map of_row (cond b (row ∷ filter test rows) (filter test rows)))) here
          ∙ all_append (fits n) (of_row row) (flat_map of_row (filter test rows)) (var_fits next copied n row.name row.body low body) more
      | inr not_here ↦ ap (λ (b : Bool). list_all (fits n) (flat_map of_row (cond b (row ∷ filter test rows) (filter test rows)))) not_here ∙ more
    ]

imports_fit : (n source : ℕ) (specifiers : List Specifier) → source < n → list_all (fits n) (map (import_of source) specifiers) ≡ true
imports_fit n source [] less = refl
imports_fit n source (s ∷ specifiers) less = both (nat_lt source n) (list_all (fits n) (map (import_of source) specifiers)) (lt-ltb source n less) (imports_fit n source specifiers less)

first_fit : (n m : ℕ) (specifiers : List Specifier) (source : ℕ) (b : Bool) → source < n → list_all (fits n) (cond b (map (import_of source) specifiers) []) ≡ true
first_fit n m specifiers source true less = imports_fit n source specifiers less
first_fit n m specifiers source false less = refl

copies_fit : (modules : Modules) (rows : List VarRow) (m : ℕ) (specifiers : List Specifier) (source : ℕ) (copied list : List ℕ) (n : ℕ) → source < n → length modules + length copied ≤ n → list_all (is_row (length modules)) rows ≡ true
    → list_all (is_from n) (map (module_copy (length modules) rows m specifiers source copied) list) ≡ true
copies_fit modules rows m specifiers source copied [] n less low h = refl
copies_fit modules rows m specifiers source copied (k ∷ list) n less low h =
    both (is_from n (module_copy (length modules) rows m specifiers source copied k)) (list_all (is_from n) (map (module_copy (length modules) rows m specifiers source copied) list))
    (all_append (fits n) (first_vars m specifiers source k) (flat_map (λ (row : VarRow). copied_var (length modules) copied row.name row.body) (copied_of m specifiers rows k)) (first_fit n m specifiers source (k == m) less)
    (vars_fit (length modules) copied n (is_copied m specifiers k) rows low h))
    (copies_fit modules rows m specifiers source copied list n less low h)

pub there : (modules : Modules) (rows : List VarRow) (m : ℕ) (specifiers : List Specifier) (source : ℕ) (copies : List NewModule) → source < length modules → list_all (is_row (length modules)) rows ≡ true
    → copies ≡ derived modules rows m specifiers source → list_all (is_from (length modules + length copies)) copies ≡ true
there modules rows m specifiers source copies less h e =
    let copied = copied_modules modules rows m specifiers in
    let size : length copies ≡ length copied = ap length e ∙ length-map copied (module_copy (length modules) rows m specifiers source copied) in
    ap (list_all (is_from (length modules + length copies))) e
    ∙ copies_fit modules rows m specifiers source copied copied (length modules + length copies) (omega (arith, less)) (omega (arith, size)) h
