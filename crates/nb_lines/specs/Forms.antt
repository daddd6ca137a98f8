-- The forms of lines: a table with, for each `do`, the fields that its lines have, in order, each with its kind.
use Rattle.std.specs.Prelude.{ℕ, Bool, true, false, List, [], ◌∷◌, map, codes, Option, Some, None, if◌then◌else◌}
use Rattle.std.specs.List.{list_any}
use Rattle.std.specs.Str.{bytes_eq}
use Rattle.nb_lines.specs.declared.form.Form.{Form}
use Rattle.nb_lines.specs.declared.form.Form.TheVariants as form
use Rattle.nb_lines.specs.declared.form.Field.{Field}
use Rattle.nb_lines.specs.declared.form.Field.TheVariants as field

-- What a field holds.
pub data Kind : Type 0 where
  -- a whole number from 0 to 4,294,967,295
  whole : Kind
  -- a whole number from 0 to 7
  editor : Kind
  -- true or false
  truth : Kind
  -- a text
  text : Kind
  -- a text that is a name
  name : Kind
  -- JSON that is a value within the limits
  value : Kind
  -- an array of names and of objects with a name and perhaps an alias
  specifiers : Kind

-- A field that a line has, or may have.
pub record Row : Type 0 where
  pub field : Field
  pub kind : Kind
  pub needed : Bool

abbrev pub needs : Field → Kind → Row
needs f k = record { field = f; kind = k; needed = true }

abbrev pub may : Field → Kind → Row
may f k = record { field = f; kind = k; needed = false }

abbrev pub row_field : Row → Field
row_field r = r.field

-- The table. A line of any form has `do` too, and may have `editor`.
abbrev pub rows : Form → List Row
rows form.Module = []
rows form.Variable = needs field.Module whole ∷ may field.Observed truth ∷ []
rows form.Cell = needs field.Module whole ∷ needs field.Cell text ∷ may field.Observed truth ∷ []
rows form.Define = needs field.Variable whole ∷ needs field.Cell text ∷ []
rows form.Import = needs field.Variable whole ∷ needs field.Name name ∷ may field.Alias name ∷ needs field.From whole ∷ []
rows form.Delete = needs field.Variable whole ∷ []
rows form.Redefine = needs field.Module whole ∷ needs field.Cell text ∷ []
rows form.Derive = needs field.Module whole ∷ needs field.With specifiers ∷ needs field.Source whole ∷ []
rows form.Frame = []
rows form.Settle = may field.Ticket whole ∷ may field.Key text ∷ may field.Value value ∷ may field.Error text ∷ []
rows form.Rest = []
rows form.Dispose = []

-- the fields that a line of the form may have
abbrev pub known : Form → List Field
known f = field.Do ∷ field.Editor ∷ map row_field (rows f)

-- the word of each form at `do`
unfoldable pub form_named : List ℕ → Option Form
form_named word =
    if bytes_eq word (codes "module") then Some form.Module
    else if bytes_eq word (codes "variable") then Some form.Variable
    else if bytes_eq word (codes "cell") then Some form.Cell
    else if bytes_eq word (codes "define") then Some form.Define
    else if bytes_eq word (codes "import") then Some form.Import
    else if bytes_eq word (codes "delete") then Some form.Delete
    else if bytes_eq word (codes "redefine") then Some form.Redefine
    else if bytes_eq word (codes "derive") then Some form.Derive
    else if bytes_eq word (codes "frame") then Some form.Frame
    else if bytes_eq word (codes "settle") then Some form.Settle
    else if bytes_eq word (codes "rest") then Some form.Rest
    else if bytes_eq word (codes "dispose") then Some form.Dispose
    else None

-- the key of each field
abbrev pub field_name : Field → List ℕ
field_name field.Do = codes "do"
field_name field.Editor = codes "editor"
field_name field.Module = codes "module"
field_name field.Variable = codes "variable"
field_name field.Cell = codes "cell"
field_name field.Observed = codes "observed"
field_name field.Name = codes "name"
field_name field.Alias = codes "alias"
field_name field.From = codes "from"
field_name field.With = codes "with"
field_name field.Source = codes "source"
field_name field.Ticket = codes "ticket"
field_name field.Key = codes "key"
field_name field.Value = codes "value"
field_name field.Error = codes "error"

-- the key is that of one of these fields
abbrev pub is_among : List Field → List ℕ → Bool
is_among fields key = list_any (λ f. bytes_eq (field_name f) key) fields
