-- What a sheet keeps when copies are added.
use Rattle.std.proofs.Common.{inl, inr, ℕ, ◌≡◌, ◌+◌, ◌<◌, ◌≤◌, refl, ◌∙◌, ap, Bool, true, List, [], ◌∷◌, ◌++◌, map, length, arith, Option, Some, None}
use Rattle.std.proofs.lemmas.Bool.{cases_Bool, lt-ltb, ltb-false}
use Rattle.std.proofs.lemmas.List.{length-append, length-map}
use Rattle.std.specs.Prelude.{nat_lt}
use Rattle.std.specs.List.{list_all}
use Rattle.nb_sheet.specs.declared.copies.NewVar.{NewVar}
use Rattle.nb_sheet.specs.declared.copies.NewModule.{NewModule}
use Rattle.nb_sheet.specs.declared.row.VarRow.{VarRow}
use Rattle.nb_sheet.specs.declared.refused.Refused.{Refused}
use Rattle.nb_sheet.specs.declared.refused.Refused.TheVariants.{TooManyVariables}
use Rattle.nb_sheet.specs.Lists.{or_else}
use Rattle.nb_sheet.specs.Derive.{Modules, new_row, rows_of, variables_of}
use Rattle.nb_sheet.specs.Sheet.{Sheet, IsSheet, is_body, is_row, is_from, too_many, too_many_modules, too_many_variables}
use Rattle.nb_sheet.proofs.Keeps.{all_of_two, both, whole, all_more, few}

length_rows : (next place : ℕ) (copies : List NewModule) → length (rows_of next place copies) ≡ variables_of copies
length_rows next place [] = refl
length_rows next place (c ∷ copies) =
    length-append (map (new_row next place) c.variables) (rows_of (next + 1) place copies)
    ∙ ap (λ (n : ℕ). n + length (rows_of (next + 1) place copies)) (length-map c.variables (new_row next place))
    ∙ ap (λ (n : ℕ). length c.variables + n) (length_rows (next + 1) place copies)

all_append : (test : VarRow → Bool) (xs ys : List VarRow) → list_all test xs ≡ true → list_all test ys ≡ true → list_all test (xs ++ ys) ≡ true
all_append test [] ys h g = g
all_append test (x ∷ xs) ys h g =
    let p = all_of_two (test x) (list_all test xs) h in
    both (test x) (list_all test (xs ++ ys)) p.0 (all_append test xs ys p.1 g)

new_rows : (n next place : ℕ) (vars : List NewVar) → next < n → list_all (λ (v : NewVar). is_body n (Some v.body)) vars ≡ true → list_all (is_row n) (map (new_row next place) vars) ≡ true
new_rows n next place [] less h = refl
new_rows n next place (v ∷ vars) less h =
    let p = all_of_two (is_body n (Some v.body)) (list_all (λ (v : NewVar). is_body n (Some v.body)) vars) h in
    both (is_row n (new_row next place v)) (list_all (is_row n) (map (new_row next place) vars)) (whole n (new_row next place v) (lt-ltb next n less) refl p.0) (new_rows n next place vars less p.1)

all_rows : (n next place : ℕ) (copies : List NewModule) → next + length copies ≤ n → list_all (is_from n) copies ≡ true → list_all (is_row n) (rows_of next place copies) ≡ true
all_rows n next place [] low h = refl
all_rows n next place (c ∷ copies) low h =
    let p = all_of_two (is_from n c) (list_all (is_from n) copies) h in
    all_append (is_row n) (map (new_row next place) c.variables) (rows_of (next + 1) place copies) (new_rows n next place c.variables (omega (arith, low)) p.0)
    (all_rows n (next + 1) place copies (omega (arith, low)) p.1)

pub neither : (a b : Option Refused) → or_else a b ≡ None → (a ≡ None) × (b ≡ None)
neither None b e = (refl, e)
neither (Some r) b e = absurd (cc)

pub few_variables : (s : Sheet) (made : ℕ) → too_many_variables s made ≡ None → length s.rows + made ≤ 1024
few_variables s made h = elim (cases_Bool (nat_lt 1024 (length s.rows + made))) [
  | inl here ↦ let wrong : Some TooManyVariables ≡ None = rw here at h in absurd (cc)
  | inr not_here ↦ ltb-false 1024 (length s.rows + made) not_here
]

-- the room that copies have
pub room : (s : Sheet) (copies : List NewModule) → too_many s copies ≡ None → (length s.modules + length copies ≤ 64) × (length s.rows + variables_of copies ≤ 1024)
room s copies h =
    let p = neither (too_many_modules s (length copies)) (too_many_variables s (variables_of copies)) h in
    (few s (length copies) p.0, few_variables s (variables_of copies) p.1)

pub added_keep : (s : Sheet) (copies : List NewModule) (place : ℕ) (modules : Modules) (rows : List VarRow) → too_many s copies ≡ None → list_all (is_from (length s.modules + length copies)) copies ≡ true
    → modules ≡ s.modules ++ map (λ c. true) copies → rows ≡ s.rows ++ rows_of (length s.modules) place copies → IsSheet s
    → (length modules ≡ length s.modules + length copies) × (length rows ≡ length s.rows + variables_of copies) × IsSheet (record { builtins = s.builtins; modules = modules; rows = rows })
added_keep s copies place modules rows h from e f is =
    let fits = room s copies h in
    let n : ℕ = length s.modules + length copies in
    let marks : NewModule → Bool = λ c. true in
    let size : length modules ≡ n = ap length e ∙ length-append s.modules (map marks copies) ∙ ap (λ (k : ℕ). length s.modules + k) (length-map copies marks) in
    let rows_size : length rows ≡ length s.rows + variables_of copies =
    ap length f ∙ length-append s.rows (rows_of (length s.modules) place copies) ∙ ap (λ (k : ℕ). length s.rows + k) (length_rows (length s.modules) place copies) in
    let all : list_all (is_row n) (s.rows ++ rows_of (length s.modules) place copies) ≡ true =
    all_append (is_row n) s.rows (rows_of (length s.modules) place copies) (all_more (length s.modules) n s.rows (omega arith) is.rows) (all_rows n (length s.modules) place copies (omega arith) from) in (
      size,
      rows_size,
      record {
        builtins = is.builtins;
        some_module = omega (arith, size, is.some_module);
        modules = omega (arith, size, fits.0);
        variables = omega (arith, rows_size, fits.1);
        rows = ap (λ (k : ℕ). list_all (is_row k) rows) size ∙ ap (list_all (is_row n)) f ∙ all;
      },
    )
