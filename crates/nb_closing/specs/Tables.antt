-- How the ties of all variables are made: first without the marks, and then the marks by a graph of who needs whom.
use Rattle.std.specs.Prelude.{ℕ, ◌≡◌, ◌≤◌, ◌&&◌, Bool, true, false, List, [], ◌∷◌, map, length, Some, is_some, slice_get}
use Rattle.std.specs.List.{filter_map}
use Rattle.nb_graph.specs.Needs.{has}
use Rattle.nb_sheet.specs.declared.row.VarRow.{VarRow}
use Rattle.nb_sheet.specs.Lists.{Name, numbers, numbers_where}
use Rattle.nb_sheet.specs.Sheet.{Sheet}
use Rattle.nb_resolve.specs.declared.resolution.Resolution.{Resolution}
use Rattle.nb_resolve.specs.Names.{inputs, inputs_of_row, direct, duplicate, is_duplicate_row, variable_of}
use Rattle.nb_history.specs.Rules.{input_code}
use Rattle.nb_closing.specs.Ties.{Ties}

-- what these inputs tie a variable to that is neither circular nor used
abbrev pub by_inputs : List (Name × Resolution) → Bool → Ties
by_inputs is twin =
    record {
      is_duplicate = twin;
      is_circular = false;
      is_used = false;
      inputs = is;
      codes = map input_code is;
      direct = filter_map variable_of is;
    }

-- the ties with these marks
abbrev pub marked : Bool → Bool → Ties → Ties
marked circular used t = record t { is_circular = circular; is_used = used }

-- of a row
abbrev pub row_ties : Sheet → VarRow → Ties
row_ties s row = by_inputs (inputs_of_row s row) (is_duplicate_row s row)

abbrev pub unmarked_ties : Sheet → ℕ → Ties
unmarked_ties s v = by_inputs (inputs s v) (duplicate s v)

-- of each variable, by number
abbrev pub all_unmarked : Sheet → List Ties
all_unmarked s = map (unmarked_ties s) (numbers s.rows)

-- a graph whose nodes are 0 and the variables
abbrev pub graph_by : List Ties → List (List ℕ)
graph_by ties = [] ∷ map (λ (t : Ties). t.direct) ties

-- the variables that these name are as many as there are, or fewer
abbrev pub IsWithin : List Ties → Type 0
IsWithin ties = (i : ℕ) (t : Ties) → slice_get ties i ≡ Some t → (u : ℕ) → has t.direct u ≡ true → u ≤ length ties

-- who needs whom directly
abbrev pub graph_of : Sheet → List (List ℕ)
graph_of s = [] ∷ map (direct s) (numbers s.rows)

-- an observed defined variable's row
abbrev pub is_root_row : VarRow → Bool
is_root_row row = is_some row.body && row.observed

abbrev pub roots_of : List VarRow → List ℕ
roots_of rows = numbers_where is_root_row rows
