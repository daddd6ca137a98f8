-- The sheet: modules, variables and what an edit makes of them.
use Rattle.std.specs.Prelude.{ℕ, ◌+◌, Bool, true, false, ◌&&◌, ◌||◌, not, ◌==◌, ◌≡◌, ◌≤◌, ◌<◌, ⊤, Result, Ok, Err, nat_le, nat_lt, List, [], ◌∷◌, ◌++◌, length, map, Option, Some, None, is_some}
use Rattle.std.specs.List.{list_all}
use Rattle.nb_sheet.specs.Lists.{nth, put, numbers_where, Name, is_name, or_else, from_option}
use Rattle.nb_sheet.specs.Derive.{Modules, derived, rows_of, variables_of}
use Rattle.nb_value.specs.declared.pairs.Field.{Field}
use Rattle.nb_value.specs.declared.value.Value.{Value}
use Rattle.nb_sheet.specs.declared.row.BodyOf.{BodyOf}
use Rattle.nb_sheet.specs.declared.row.BodyOf.TheVariants.{Cell as CellBody, Import as ImportBody}
use Rattle.nb_sheet.specs.declared.row.VarRow.{VarRow}
use Rattle.nb_sheet.specs.declared.copies.NewVar.{NewVar}
use Rattle.nb_sheet.specs.declared.copies.NewModule.{NewModule}
use Rattle.nb_sheet.specs.declared.edit.Edit.{Edit}
use Rattle.nb_sheet.specs.declared.edit.Edit.TheVariants.{AddModule, AddVariable, AddCell, Define, Import, Delete, Redefine, Derive}
use Rattle.nb_sheet.specs.declared.refused.Refused.{Refused}
use Rattle.nb_sheet.specs.declared.refused.Refused.TheVariants.{NoModule, NoVariable, TooManyModules, TooManyVariables, NotNamed, NamedTwice}

-- the builtins, the modules with the mark whether a derive made them, and the variables in order of number
pub record Sheet : Type 0 where
  pub builtins : List (Field Value)
  pub modules : Modules
  pub rows : List VarRow

-- what every sheet keeps of a row: its module is there, an import's too, and it has a name only while it is defined
abbrev pub is_body : ℕ → Option BodyOf → Bool
is_body modules None = true
is_body modules (Some (CellBody cell)) = true
is_body modules (Some (ImportBody name from)) = nat_lt from modules

abbrev pub is_row : ℕ → VarRow → Bool
is_row modules row = nat_lt row.module modules && (not (is_some row.name) || is_some row.body) && is_body modules row.body

-- what every sheet keeps
pub record IsSheet (s : Sheet) : Type 0 where
  pub builtins : length s.builtins ≤ 65536
  pub some_module : 0 < length s.modules
  pub modules : length s.modules ≤ 64
  pub variables : length s.rows ≤ 1024
  pub rows : list_all (is_row (length s.modules)) s.rows ≡ true

-- module 0, and no variable
abbrev pub empty_sheet : List (Field Value) → Sheet
empty_sheet builtins = record { builtins = builtins; modules = false ∷ []; rows = [] }

-- the variables of module m that have the name n
abbrev pub named : Sheet → ℕ → Name → List ℕ
named s m n = numbers_where (λ (row : VarRow). (row.module == m) && is_name row.name n) s.rows

-- ---- the refusals

-- a reason, where the test holds
abbrev pub where_true : Bool → Refused → Option Refused
where_true true reason = Some reason
where_true false reason = None

abbrev pub no_module : Sheet → ℕ → Option Refused
no_module s m = where_true (nat_le (length s.modules) m) NoModule

abbrev pub no_variable : Sheet → ℕ → Option Refused
no_variable s v = where_true (not (is_some (nth s.rows v))) NoVariable

-- so many modules more, and so many variables more, are too many
abbrev pub too_many_modules : Sheet → ℕ → Option Refused
too_many_modules s made = where_true (nat_lt 64 (length s.modules + made)) TooManyModules

abbrev pub too_many_variables : Sheet → ℕ → Option Refused
too_many_variables s made = where_true (nat_lt 1024 (length s.rows + made)) TooManyVariables

abbrev pub too_many : Sheet → List NewModule → Option Refused
too_many s copies = or_else (too_many_modules s (length copies)) (too_many_variables s (variables_of copies))

abbrev pub not_once : List ℕ → Option Refused
not_once [] = Some NotNamed
not_once (v ∷ []) = None
not_once (v ∷ w ∷ more) = Some NamedTwice

abbrev pub no_one_named : Sheet → ℕ → Option Name → Option Refused
no_one_named s m None = Some NotNamed
no_one_named s m (Some n) = not_once (named s m n)

-- what a test of an edit answers
abbrev pub reason : Result ⊤ Refused → Option Refused
reason (Ok _) = None
reason (Err r) = Some r

-- the first reason against an edit
abbrev pub refusal : Sheet → Edit → Option Refused
refusal s AddModule = too_many_modules s 1
refusal s (AddVariable m observed) = or_else (no_module s m) (too_many_variables s 1)
refusal s (AddCell m cell observed) = or_else (no_module s m) (too_many_variables s 1)
refusal s (Define v cell) = no_variable s v
refusal s (Import v name alias from) = or_else (no_module s from) (no_variable s v)
refusal s (Delete v) = no_variable s v
refusal s (Redefine m cell) = or_else (no_module s m) (no_one_named s m cell.name)
refusal s (Derive m specifiers source) = or_else (or_else (no_module s m) (no_module s source)) (too_many s (derived s.modules s.rows m specifiers source))

-- ---- the sheet after an edit

abbrev pub add_row : Sheet → VarRow → Sheet
add_row s row = record s { rows = s.rows ++ row ∷ [] }

-- the v-th row, changed
abbrev pub change_row : Sheet → ℕ → (VarRow → VarRow) → Sheet
change_row s v change = record s { rows = from_option s.rows (λ row. put s.rows v (change row)) (nth s.rows v) }

-- the one variable that has the name
abbrev pub first_of : List ℕ → ℕ
first_of [] = 0
first_of (v ∷ more) = v

abbrev pub the_one_named : Sheet → ℕ → Option Name → ℕ
the_one_named s m None = 0
the_one_named s m (Some n) = first_of (named s m n)

-- a name and a body, given at this place
abbrev pub defined_by : Option Name → BodyOf → ℕ → VarRow → VarRow
defined_by name body place row = record row { name = name; body = Some body; place = place }

abbrev pub undefined : VarRow → VarRow
undefined row = record row { name = None; body = None; place = 0 }

-- the copies, each a module that a derive made
abbrev pub with_copies : Sheet → List NewModule → ℕ → Sheet
with_copies s copies place = record s { modules = s.modules ++ map (λ c. true) copies; rows = s.rows ++ rows_of (length s.modules) place copies }

-- each import of a copy is from one of so many modules
abbrev pub is_from : ℕ → NewModule → Bool
is_from modules copy = list_all (λ (v : NewVar). is_body modules (Some v.body)) copy.variables

-- what an admitted edit at this place makes of the sheet
abbrev pub edited_sheet : Sheet → Edit → ℕ → Sheet
edited_sheet s AddModule place = record s { modules = s.modules ++ false ∷ [] }
edited_sheet s (AddVariable m observed) place =
    add_row s (record { «module» = m; observed = observed; name = None; body = None; place = 0 })
edited_sheet s (AddCell m cell observed) place =
    add_row s (record { «module» = m; observed = observed; name = cell.name; body = Some (CellBody cell); place = place })
edited_sheet s (Define v cell) place = change_row s v (defined_by cell.name (CellBody cell) place)
edited_sheet s (Import v name alias from) place = change_row s v (defined_by (Some alias) (ImportBody name from) place)
edited_sheet s (Delete v) place = change_row s v undefined
edited_sheet s (Redefine m cell) place =
    change_row s (the_one_named s m cell.name) (λ row. record row { body = Some (CellBody cell); place = place })
edited_sheet s (Derive m specifiers source) place = with_copies s (derived s.modules s.rows m specifiers source) place

abbrev pub is_derive : Edit → Bool
is_derive (Derive m specifiers source) = true
is_derive _ = false
