-- The forms of objects in a document: the fields that each has, in order, each with the faults of what it holds.
use Rattle.std.specs.Prelude.{ℕ, Bool, true, false, not, List, [], ◌∷◌, map, codes, find, Option, Some, None, is_some, is_none, option_map, if◌then◌else◌}
use Rattle.std.specs.Option.{option_or}
use Rattle.std.specs.List.{list_any}
use Rattle.std.specs.Str.{bytes_eq}
use Rattle.serde_json.specs.Data.{Data}
use Rattle.serde_json.specs.Find.{get, as_object}
use Rattle.nb_lines.specs.Fields.{keys}
use Rattle.nb_doc.specs.declared.form.Field.{Field}
use Rattle.nb_doc.specs.declared.form.Field.TheVariants as field
use Rattle.nb_doc.specs.declared.reason.DocReason.TheVariants.{NotObject, UnknownField, MissingField}
use Rattle.nb_doc.specs.Faults.{Fault, here, under, in_part, fault_if, first_of}

-- the key of each field
abbrev pub field_name : Field → List ℕ
field_name field.Notebook = codes "notebook"
field_name field.Builtins = codes "builtins"
field_name field.Modules = codes "modules"
field_name field.Loaders = codes "loaders"
field_name field.Name = codes "name"
field_name field.Items = codes "items"
field_name field.Derive = codes "derive"
field_name field.With = codes "with"
field_name field.Source = codes "source"
field_name field.Cell = codes "cell"
field_name field.Observed = codes "observed"
field_name field.Import = codes "import"
field_name field.Alias = codes "alias"
field_name field.From = codes "from"
field_name field.Key = codes "key"
field_name field.Argv = codes "argv"

-- A field that an object has, or may have, with the faults of what it holds.
pub record Row : Type 0 where
  pub field : Field
  pub content : Data → Option Fault
  pub needed : Bool

abbrev pub needs : Field → (Data → Option Fault) → Row
needs f content = record { field = f; content = content; needed = true }

abbrev pub may : Field → (Data → Option Fault) → Row
may f content = record { field = f; content = content; needed = false }

abbrev pub row_field : Row → Field
row_field r = r.field

abbrev pub is_there : Field → Data → Bool
is_there f d = is_some (get (field_name f) d)

-- the key is that of one of these fields
abbrev pub is_among : List Field → List ℕ → Bool
is_among fields key = list_any (λ f. bytes_eq (field_name f) key) fields

-- the first key in byte order that is none of these fields'
abbrev pub unknown_key : List Field → Data → Option (List ℕ)
unknown_key fields d = find (λ k. not (is_among fields k)) (keys d)

-- ---- the faults of an object, in order

abbrev pub not_object : Data → Option Fault
not_object d = fault_if (is_none (as_object d)) NotObject

abbrev pub unknown_field : List Field → Data → Option Fault
unknown_field fields d = option_map (λ k. under k (here UnknownField)) (unknown_key fields d)

abbrev pub head_fault : List Field → Data → Option Fault
head_fault fields d = first_of (not_object d ∷ unknown_field fields d ∷ [])

abbrev pub missing : Field → Bool → Option Fault
missing f needed = if needed then Some (under (field_name f) (here MissingField)) else None

abbrev pub field_case : Row → Option Data → Option Fault
field_case r None = missing r.field r.needed
field_case r (Some d) = in_part (field_name r.field) (r.content d)

-- of a field: that it is missing, or what is wrong with it or inside
unfoldable pub field_fault : Data → Row → Option Fault
field_fault d r = field_case r (get (field_name r.field) d)

-- first that it is no object, then the first unknown field, then its fields in the table's order
unfoldable pub object_fault : List Row → Data → Option Fault
object_fault rows d = option_or (head_fault (map row_field rows) d) (first_of (map (field_fault d) rows))
