-- What the scans over rows and builtins find.
use Rattle.std.specs.Prelude.{ℕ, Bool, false, List, Option, Some, None}
use Rattle.std.specs.List.{position_from}
use Rattle.std.specs.Str.{bytes_eq}
use Rattle.nb_value.specs.declared.value.Value.{Value}
use Rattle.nb_value.specs.declared.pairs.Field.{Field}
use Rattle.nb_sheet.specs.Lists.{Name, numbers_from, from_option}
use Rattle.nb_sheet.specs.Scan.{has_name}
use Rattle.nb_sheet.specs.declared.row.VarRow.{VarRow}
use Rattle.nb_resolve.specs.declared.resolution.Resolution.{Resolution}
use Rattle.nb_resolve.specs.declared.resolution.Resolution.TheVariants.{Var, Builtin, Twice, Missing}
use Rattle.nb_resolve.specs.Names.{resolved, is_twice}

-- what one more variable of the name makes of what was found
abbrev pub also : ℕ → Resolution → Resolution
also w Missing = Var w
also w (Var v) = Twice
also w (Builtin b) = Twice
also w Twice = Twice

-- what a name stands for by the variables alone
abbrev pub found_in : ℕ → Name → List VarRow → Resolution
found_in m n rows = resolved (numbers_from 1 (has_name m n) rows) None

abbrev pub builtin_place : Name → List (Field Value) → Option ℕ
builtin_place n builtins = position_from (λ (b : Field Value). bytes_eq b.name n) 0 builtins

-- the same with the builtins, where no variable has it
abbrev pub or_builtin : Option ℕ → Resolution → Resolution
or_builtin (Some b) Missing = Builtin b
or_builtin None Missing = Missing
or_builtin o (Var v) = Var v
or_builtin o (Builtin b) = Builtin b
or_builtin o Twice = Twice

-- two rows or more have the row's module and name
abbrev pub is_twin : List VarRow → VarRow → Bool
is_twin rows row = from_option false (λ n. is_twice (numbers_from 1 (has_name row.module n) rows)) row.name
