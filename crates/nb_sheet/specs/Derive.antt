-- What a derive copies, and the copies.
use Rattle.std.specs.Prelude.{◌≡◌, ◌<◌, ℕ, zero, suc, ◌+◌, Bool, true, false, ◌&&◌, not, ◌==◌, eqb, cond, List, [], ◌∷◌, ◌++◌, map, length, Option, Some, None, is_some, get_or, slice_get}
use Rattle.std.specs.Str.{bytes_eq}
use Rattle.std.specs.List.{filter, flat_map, fold, list_any, IsDistinct}
use Rattle.nb_sheet.specs.Lists.{Name, from_option}
use Rattle.nb_sheet.specs.declared.copies.NewVar.{NewVar}
use Rattle.nb_sheet.specs.declared.copies.NewModule.{NewModule}
use Rattle.nb_sheet.specs.declared.edit.Specifier.{Specifier}
use Rattle.nb_sheet.specs.declared.row.BodyOf.{BodyOf}
use Rattle.nb_sheet.specs.declared.row.BodyOf.TheVariants.{Cell as CellBody, Import as ImportBody}
use Rattle.nb_sheet.specs.declared.row.VarRow.{VarRow}

-- for each module whether a derive made it
abbrev pub Modules : Type 0
Modules = List Bool

abbrev pub by_derive : Modules → ℕ → Bool
by_derive modules k = get_or modules k false

abbrev pub has_number : ℕ → List ℕ → Bool
has_number k numbers = list_any (eqb k) numbers

abbrev pub is_alias : List Specifier → Option Name → Bool
is_alias specifiers None = false
is_alias specifiers (Some n) = list_any (λ (s : Specifier). bytes_eq n s.alias) specifiers

-- the variables of module k that a derive of m copies: those that have a name, and of m's none whose name is an alias
abbrev pub is_copied : ℕ → List Specifier → ℕ → VarRow → Bool
is_copied m specifiers k row = (row.«module» == k) && is_some row.name && not ((k == m) && is_alias specifiers row.name)

abbrev pub copied_of : ℕ → List Specifier → List VarRow → ℕ → List VarRow
copied_of m specifiers rows k = filter (is_copied m specifiers k) rows

-- ---- the modules that are copied, a list that begins with m

-- an import adds the module that it is from, if that one was made by a derive and isn't in the list
abbrev pub add_module : Modules → List ℕ → Option BodyOf → List ℕ
add_module modules list None = list
add_module modules list (Some (CellBody cell)) = list
add_module modules list (Some (ImportBody name from)) = cond (by_derive modules from && not (has_number from list)) (list ++ from ∷ []) list

abbrev pub add_modules : Modules → List ℕ → List VarRow → List ℕ
add_modules modules list rows = fold (λ (l : List ℕ) (row : VarRow). add_module modules l row.body) list rows

-- the list is gone through in order, from this place on, for at most n modules
abbrev pub walk : Modules → (ℕ → List VarRow) → ℕ → ℕ → List ℕ → List ℕ
walk modules copied zero place list = list
walk modules copied (suc n) place list = from_option list (λ k. walk modules copied n (place + 1) (add_modules modules list (copied k))) (slice_get list place)

abbrev pub copied_modules : Modules → List VarRow → ℕ → List Specifier → List ℕ
copied_modules modules rows m specifiers = walk modules (copied_of m specifiers rows) (length modules) 0 (m ∷ [])

-- what such a list keeps: its modules are there, each once
pub record AreModules (n : ℕ) (list : List ℕ) : Type 0 where
  pub distinct : IsDistinct eqb list
  pub below : (k : ℕ) → has_number k list ≡ true → k < n

-- ---- the copies

-- the number of the copy of k, where the copies get their numbers in order; a module that isn't copied keeps its own
abbrev pub copy_of : ℕ → List ℕ → ℕ → ℕ
copy_of next [] k = k
copy_of next (c ∷ copied) k = cond (c == k) next (copy_of (next + 1) copied k)

abbrev pub turned : ℕ → List ℕ → BodyOf → BodyOf
turned next copied (CellBody cell) = CellBody cell
turned next copied (ImportBody name from) = ImportBody name (copy_of next copied from)

abbrev pub copied_var : ℕ → List ℕ → Option Name → Option BodyOf → List NewVar
copied_var next copied (Some name) (Some body) = record { name = name; body = turned next copied body } ∷ []
copied_var next copied _ _ = []

-- a specifier's variable of the source, under its alias
abbrev pub import_of : ℕ → Specifier → NewVar
import_of source s = record { name = s.alias; body = ImportBody s.name source }

-- the copy of m begins with the imports from the source
abbrev pub first_vars : ℕ → List Specifier → ℕ → ℕ → List NewVar
first_vars m specifiers source k = cond (k == m) (map (import_of source) specifiers) []

abbrev pub module_copy : ℕ → List VarRow → ℕ → List Specifier → ℕ → List ℕ → ℕ → NewModule
module_copy next rows m specifiers source copied k = record {
  variables = first_vars m specifiers source k ++ flat_map (λ (row : VarRow). copied_var next copied row.name row.body) (copied_of m specifiers rows k);
}

-- the copies of a derive, the first that of m
abbrev pub derived : Modules → List VarRow → ℕ → List Specifier → ℕ → List NewModule
derived modules rows m specifiers source =
    let copied = copied_modules modules rows m specifiers in
    map (module_copy (length modules) rows m specifiers source copied) copied

-- ---- the rows that they get

abbrev pub new_row : ℕ → ℕ → NewVar → VarRow
new_row m place v = record { «module» = m; observed = false; name = Some v.name; body = Some v.body; place = place }

abbrev pub rows_of : ℕ → ℕ → List NewModule → List VarRow
rows_of next place [] = []
rows_of next place (c ∷ copies) = map (new_row next place) c.variables ++ rows_of (next + 1) place copies

-- how many variables they have
abbrev pub variables_of : List NewModule → ℕ
variables_of [] = 0
variables_of (c ∷ copies) = length c.variables + variables_of copies
