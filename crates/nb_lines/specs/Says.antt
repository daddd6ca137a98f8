-- What a line says that isn't bad.
use Rattle.std.specs.Prelude.{ℕ, List, Option, Some, None, option_map, option_and_then, if◌then◌else◌}
use Rattle.serde_json.specs.Data.{Data}
use Rattle.nb_value.specs.declared.outcome.Answer.{Answer}
use Rattle.nb_value.specs.declared.outcome.Answer.TheVariants as answer
use Rattle.nb_syntax.specs.declared.tree.Cell.{Cell}
use Rattle.nb_parser.specs.Text.{cell_of}
use Rattle.nb_sheet.specs.declared.edit.Edit.{Edit}
use Rattle.nb_sheet.specs.declared.edit.Edit.TheVariants.{AddModule, AddVariable, AddCell, Define, Import, Delete, Redefine, Derive}
use Rattle.nb_log.specs.declared.event.Event.{Event}
use Rattle.nb_log.specs.declared.event.Event.TheVariants as event
use Rattle.nb_log.specs.declared.event.Target.{Target}
use Rattle.nb_log.specs.declared.event.Target.TheVariants as target
use Rattle.nb_lines.specs.declared.form.Form.{Form}
use Rattle.nb_lines.specs.declared.form.Form.TheVariants as form
use Rattle.nb_lines.specs.declared.form.Field.TheVariants as field
use Rattle.nb_lines.specs.declared.script.ScriptLine.{ScriptLine}
use Rattle.nb_lines.specs.Fields.{is_there, whole_at, text_at, name_at, value_at, specifiers_at, observed_of, alias_or, editor_of}
use Rattle.nb_lines.specs.Reasons.{form_of, line_data}

-- x and y together, where both are there
abbrev pub both : {X Y Z : Type 0} → (X → Y → Z) → Option X → Option Y → Option Z
both f x y = option_and_then (λ a. option_map (f a) y) x

abbrev pub cell_at : Data → Option Cell
cell_at d = option_and_then cell_of (text_at field.Cell d)

-- an import of a name from a module, into a variable
abbrev pub imported : Data → ℕ → List ℕ → ℕ → Edit
imported d variable name from = Import variable name (alias_or name d) from

-- the edit of the form's line, where it has one
abbrev pub edit_of : Form → Data → Option Edit
edit_of form.Module d = Some AddModule
edit_of form.Variable d = option_map (λ m. AddVariable m (observed_of d)) (whole_at field.Module d)
edit_of form.Cell d = both (λ m c. AddCell m c (observed_of d)) (whole_at field.Module d) (cell_at d)
edit_of form.Define d = both Define (whole_at field.Variable d) (cell_at d)
edit_of form.Import d = option_and_then (λ v. both (imported d v) (name_at field.Name d) (whole_at field.From d)) (whole_at field.Variable d)
edit_of form.Delete d = option_map Delete (whole_at field.Variable d)
edit_of form.Redefine d = both Redefine (whole_at field.Module d) (cell_at d)
edit_of form.Derive d = option_and_then (λ m. both (Derive m) (specifiers_at field.With d) (whole_at field.Source d)) (whole_at field.Module d)
edit_of _ d = None

-- which fetch a settlement answers, and with what
abbrev pub target_of : Data → Option Target
target_of d = if is_there field.Ticket d then option_map target.Ticket (whole_at field.Ticket d) else option_map target.Key (text_at field.Key d)

abbrev pub answer_of : Data → Option Answer
answer_of d = if is_there field.Value d then option_map answer.Value (value_at field.Value d) else option_map answer.Failure (text_at field.Error d)

-- the event of the form's line
unfoldable pub event_of : Form → Data → Option Event
event_of form.Frame d = Some event.Frame
event_of form.Settle d = both event.Settle (target_of d) (answer_of d)
event_of form.Rest d = Some event.Rest
event_of form.Dispose d = Some event.Dispose
event_of f d = option_map event.Edit (edit_of f d)

abbrev pub of_editor : ℕ → Event → ScriptLine
of_editor n e = record { editor = n; event = e }

-- the editor and the event of a line
unfoldable pub data_script : Data → Option ScriptLine
data_script d = option_map (of_editor (editor_of d)) (option_and_then (λ f. event_of f d) (form_of d))

unfoldable pub script_of : List ℕ → Option ScriptLine
script_of line = option_and_then data_script (line_data line)
