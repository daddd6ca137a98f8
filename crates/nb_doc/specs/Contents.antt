-- What data is as a field of each kind, and its faults there.
use Rattle.std.specs.Prelude.{ℕ, Bool, List, [], position, nat_lt, Option, Some, None, is_some, option_and_then, unwrap_or, if◌then◌else◌}
use Rattle.std.specs.Str.{bytes_eq}
use Rattle.serde_json.specs.Data.{Data}
use Rattle.serde_json.specs.Find.{get, as_bool, as_str}
use Rattle.nb_syntax.specs.declared.tree.Cell.{Cell}
use Rattle.nb_parser.specs.Text.{cell_of}
use Rattle.nb_sheet.specs.declared.edit.Specifier.{Specifier}
use Rattle.nb_lines.specs.Fields.{number_in, name_in, specifiers_in}
use Rattle.nb_doc.specs.declared.around.Around.{Around}
use Rattle.nb_doc.specs.declared.form.Field.{Field}
use Rattle.nb_doc.specs.declared.form.Field.TheVariants as field
use Rattle.nb_doc.specs.declared.reason.DocReason.TheVariants.{WrongField}
use Rattle.nb_doc.specs.Faults.{Fault, here, no_cell, wrong_unless}
use Rattle.nb_doc.specs.Forms.{field_name}

-- ---- a text that is a name

abbrev pub name_fault : Data → Option Fault
name_fault d = wrong_unless (is_some (name_in d))

abbrev pub name_at : Field → Data → Option (List ℕ)
name_at f d = option_and_then name_in (get (field_name f) d)

-- the name where there is no alias
abbrev pub alias_or : List ℕ → Data → List ℕ
alias_or n d = unwrap_or (name_at field.Alias d) n

-- ---- true or false

abbrev pub truth_fault : Data → Option Fault
truth_fault d = wrong_unless (is_some (as_bool d))

-- as the field says, where it is there
abbrev pub observed_or : Bool → Data → Bool
observed_or b d = unwrap_or (option_and_then as_bool (get (field_name field.Observed) d)) b

-- ---- a cell's text

abbrev pub text_fault : List ℕ → Option Fault
text_fault text = if is_some (cell_of text) then None else Some (record { path = []; cause = no_cell text })

abbrev pub cell_case : Option (List ℕ) → Option Fault
cell_case None = Some (here WrongField)
cell_case (Some text) = text_fault text

abbrev pub cell_fault : Data → Option Fault
cell_fault d = cell_case (as_str d)

abbrev pub cell_in : Data → Option Cell
cell_in d = option_and_then cell_of (as_str d)

abbrev pub cell_at : Data → Option Cell
cell_at d = option_and_then cell_in (get (field_name field.Cell) d)

-- ---- a module, by its position or by its name

-- a position below the number of modules that may be meant
abbrev pub below : ℕ → ℕ → Option ℕ
below end n = if nat_lt n end then Some n else None

-- the position of the module that has the name
abbrev pub place_of : List (List ℕ) → List ℕ → Option ℕ
place_of names n = position (λ m. bytes_eq m n) names

unfoldable pub reference_in : Around → Data → Option ℕ
reference_in a d = if a.named then option_and_then (place_of a.names) (as_str d) else option_and_then (below a.modules) (number_in d)

abbrev pub reference_fault : Around → Data → Option Fault
reference_fault a d = wrong_unless (is_some (reference_in a d))

abbrev pub reference_at : Around → Field → Data → Option ℕ
reference_at a f d = option_and_then (reference_in a) (get (field_name f) d)

-- ---- the specifiers of a derive

-- a fault inside is one of the whole
abbrev pub with_fault : Data → Option Fault
with_fault d = wrong_unless (is_some (specifiers_in d))

abbrev pub with_at : Data → Option (List Specifier)
with_at d = option_and_then specifiers_in (get (field_name field.With) d)
