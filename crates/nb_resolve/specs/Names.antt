-- What a name stands for in a module, and a variable's inputs.
use Rattle.std.specs.Prelude.{ℕ, Bool, true, false, cond, List, [], ◌∷◌, map, Option, Some, None}
use Rattle.std.specs.List.{filter_map, position_from}
use Rattle.std.specs.Str.{bytes_eq}
use Rattle.nb_value.specs.declared.pairs.Field.{Field}
use Rattle.nb_value.specs.declared.value.Value.{Value}
use Rattle.nb_syntax.specs.FreeNames.{free}
use Rattle.nb_sheet.specs.Lists.{nth, Name, from_option}
use Rattle.nb_sheet.specs.Sheet.{Sheet, named}
use Rattle.nb_sheet.specs.declared.row.BodyOf.{BodyOf}
use Rattle.nb_sheet.specs.declared.row.BodyOf.TheVariants.{Cell as CellBody, Import as ImportBody}
use Rattle.nb_sheet.specs.declared.row.VarRow.{VarRow}
use Rattle.nb_resolve.specs.declared.resolution.Resolution.{Resolution}
use Rattle.nb_resolve.specs.declared.resolution.Resolution.TheVariants.{Var, Builtin, Twice, Missing}

-- ---- what a name stands for

-- by the variables that have it, and then by the builtins
abbrev pub resolved : List ℕ → Option ℕ → Resolution
resolved (v ∷ w ∷ more) builtin = Twice
resolved (v ∷ []) builtin = Var v
resolved [] (Some b) = Builtin b
resolved [] None = Missing

abbrev pub resolve : Sheet → ℕ → Name → Resolution
resolve s m n = resolved (named s m n) (position_from (λ (b : Field Value). bytes_eq b.name n) 0 s.builtins)

-- another variable of its module has its name
abbrev pub is_twice : List ℕ → Bool
is_twice (v ∷ w ∷ more) = true
is_twice _ = false

abbrev pub is_duplicate_row : Sheet → VarRow → Bool
is_duplicate_row s row = from_option false (λ n. is_twice (named s row.module n)) row.name

abbrev pub duplicate : Sheet → ℕ → Bool
duplicate s v = from_option false (is_duplicate_row s) (nth s.rows v)

-- ---- inputs: each name with what it stands for

abbrev pub inputs_of_body : Sheet → ℕ → Option BodyOf → List (Name × Resolution)
inputs_of_body s m None = []
inputs_of_body s m (Some (CellBody cell)) = map (λ n. (n, resolve s m n)) (free cell)
inputs_of_body s m (Some (ImportBody name from)) = (name, resolve s from name) ∷ []

abbrev pub inputs_of_row : Sheet → VarRow → List (Name × Resolution)
inputs_of_row s row = cond (is_duplicate_row s row) [] (inputs_of_body s row.module row.body)

abbrev pub inputs : Sheet → ℕ → List (Name × Resolution)
inputs s v = from_option [] (inputs_of_row s) (nth s.rows v)

abbrev pub variable_of : Name × Resolution → Option ℕ
variable_of (n, Var v) = Some v
variable_of (n, Builtin b) = None
variable_of (n, Twice) = None
variable_of (n, Missing) = None

-- the variables among the inputs
abbrev pub direct : Sheet → ℕ → List ℕ
direct s v = filter_map variable_of (inputs s v)
