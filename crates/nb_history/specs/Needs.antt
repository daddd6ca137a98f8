-- Which variables a variable needs, and which are used.
use Rattle.std.specs.Prelude.{ℕ, Bool, false, ◌&&◌, ◌||◌, List, is_some}
use Rattle.std.specs.List.{list_any}
use Rattle.nb_graph.specs.Needs.{has, all_needed}
use Rattle.nb_sheet.specs.Lists.{nth, numbers, from_option}
use Rattle.nb_sheet.specs.Sheet.{Sheet}
use Rattle.nb_sheet.specs.declared.row.VarRow.{VarRow}
use Rattle.nb_resolve.specs.Names.{direct}

-- all that v needs, by number
abbrev pub needed : Sheet → ℕ → List ℕ
needed s v = all_needed (direct s) (numbers s.rows) v

-- whether v needs u
abbrev pub needs : Sheet → ℕ → ℕ → Bool
needs s v u = has (needed s v) u

abbrev pub circular : Sheet → ℕ → Bool
circular s v = needs s v v

abbrev pub is_defined : Sheet → ℕ → Bool
is_defined s v = from_option false (λ (row : VarRow). is_some row.body) (nth s.rows v)

abbrev pub is_observed : Sheet → ℕ → Bool
is_observed s v = from_option false (λ (row : VarRow). row.observed) (nth s.rows v)

-- an observed defined variable
abbrev pub is_root : Sheet → ℕ → Bool
is_root s v = is_defined s v && is_observed s v

-- v is defined, and is observed or needed by an observed defined variable
abbrev pub is_used : Sheet → ℕ → Bool
is_used s v = is_defined s v && (is_observed s v || list_any (λ w. is_root s w && needs s w v) (numbers s.rows))
