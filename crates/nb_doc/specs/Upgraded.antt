-- A document in version 2: as it was read, or with names for its modules where it is of version 1.
use Rattle.std.specs.Prelude.{◌≡◌, ℕ, ◌+◌, Bool, List, [], ◌∷◌, ◌++◌, Option, None, option_map, option_and_then, Result, if◌then◌else◌}
use Rattle.std.specs.Option.{option_map_or}
use Rattle.std.specs.Fmt.{decimal}
use Rattle.serde_json.specs.Data.{Data, string, number, array, object, unsigned, Items, no_items, item, put}
use Rattle.serde_json.specs.Find.{get, as_array, as_object}
use Rattle.serde_json.specs.Written.{compact_text}
use Rattle.nb_lines.specs.Fields.{number_in}
use Rattle.nb_lines.specs.Reasons.{line_data}
use Rattle.nb_doc.specs.declared.form.Field.{Field}
use Rattle.nb_doc.specs.declared.form.Field.TheVariants as field
use Rattle.nb_doc.specs.declared.reason.DocFail.{DocFail}
use Rattle.nb_doc.specs.Forms.{field_name}
use Rattle.nb_doc.specs.declared.document.Document.{Document}
use Rattle.nb_doc.specs.Documents.{is_named, first_fault, document_of, Reads}

-- ---- objects

-- an object with this in the field, whose other fields stay
unfoldable pub with_field : Field → Data → Data → Data
with_field f content d = option_map_or (λ ms. object (put (field_name f) content ms)) (as_object d) d

-- the number in a field, if the object has it there
abbrev pub number_at : Field → Data → Option ℕ
number_at f d = option_and_then number_in (get (field_name f) d)

abbrev pub array_at : Field → Data → Option Items
array_at f d = option_and_then as_array (get (field_name f) d)

-- ---- names in place of positions

-- the name of the module at a position: `m` and the position in decimal
abbrev pub module_name : ℕ → List ℕ
module_name k = 109 ∷ decimal k

-- with the name of the module in place of its position in the field; what lacks the field stays
unfoldable pub by_name : Field → Data → Data
by_name f d = option_map_or (λ k. with_field f (string (module_name k)) d) (number_at f d) d

-- items import by name
abbrev pub items_by_name : Items → Items
items_by_name no_items = no_items
items_by_name (item d ds) = item (by_name field.From d) (items_by_name ds)

unfoldable pub with_items : Data → Data
with_items d = option_map_or (λ ds. with_field field.Items (array (items_by_name ds)) d) (array_at field.Items d) d

-- the module at a position has its name, and means others by theirs
unfoldable pub named_module : ℕ → Data → Data
named_module k d = with_field field.Name (string (module_name k)) (with_items (by_name field.Source (by_name field.Derive d)))

-- from this position on
abbrev pub named_modules : ℕ → Items → Items
named_modules k no_items = no_items
named_modules k (item d ds) = item (named_module k d) (named_modules (k + 1) ds)

unfoldable pub with_modules : Data → Data
with_modules d = option_map_or (λ ds. with_field field.Modules (array (named_modules 0 ds)) d) (array_at field.Modules d) d

-- ---- the whole

-- what is of version 2 stays
unfoldable pub upgraded_by : Bool → Data → Data
upgraded_by named d = if named then d else with_field field.Notebook (number (unsigned 2)) (with_modules d)

abbrev pub upgraded_data : Data → Data
upgraded_data d = upgraded_by (is_named d) d

-- compact JSON and a line feed
abbrev pub json_line : Data → List ℕ
json_line d = compact_text d ++ 10 ∷ []

-- the bytes of the document in version 2
unfoldable pub upgraded : List ℕ → Option (List ℕ)
upgraded bytes = option_map (λ d. json_line (upgraded_data d)) (line_data bytes)

-- these bytes come, where the document has no fault; else its first fault comes; memory may run out
abbrev pub UpgradesDocument : List ℕ → Result (List ℕ) DocFail → Type 0
UpgradesDocument bytes result = Reads (first_fault bytes) (upgraded bytes) result

-- the bytes have no fault, and are this document
abbrev pub IsReadAs : Option Document → List ℕ → Type 0
IsReadAs document bytes = (first_fault bytes ≡ None) × (document_of bytes ≡ document)
