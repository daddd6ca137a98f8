-- The modules of a document, one after another.
use Rattle.std.specs.Prelude.{ℕ, ◌+◌, Bool, List, [], ◌∷◌, ◌++◌, map, Option, Some, None, is_some, option_map, option_and_then, nat_le, if◌then◌else◌}
use Rattle.std.specs.Option.{option_or}
use Rattle.std.specs.Fmt.{decimal}
use Rattle.serde_json.specs.Data.{Data, Items, no_items, item}
use Rattle.serde_json.specs.Find.{get, as_array}
use Rattle.nb_value.specs.Json.{push_front}
use Rattle.nb_sheet.specs.declared.edit.Specifier.{Specifier}
use Rattle.nb_lines.specs.Fields.{name_in}
use Rattle.nb_doc.specs.declared.around.Around.{Around}
use Rattle.nb_doc.specs.declared.module.Module.{Module}
use Rattle.nb_doc.specs.declared.module.Module.TheVariants.{Plain, Derived}
use Rattle.nb_doc.specs.declared.form.Field.{Field}
use Rattle.nb_doc.specs.declared.form.Field.TheVariants as field
use Rattle.nb_doc.specs.declared.reason.DocReason.TheVariants.{WrongField, TwoModules}
use Rattle.nb_doc.specs.Faults.{Fault, here, in_part, fault_if, first_of}
use Rattle.nb_doc.specs.Forms.{Row, row_field, needs, is_there, field_name, head_fault, field_fault}
use Rattle.nb_doc.specs.Contents.{name_at, place_of, reference_fault, reference_at, with_fault, with_at}
use Rattle.nb_doc.specs.Items.{count, array_case, items_fault, items_at}

-- a module of which others may be: so many, with these names, if modules have names
abbrev pub around : Bool → List (List ℕ) → ℕ → Around
around named names count = record { named = named; names = names; modules = count }

abbrev pub start : Bool → Around
start named = around named [] 0

-- ---- names

-- a name that an earlier module has
abbrev pub name_case : Around → Option (List ℕ) → Option Fault
name_case a None = Some (here WrongField)
name_case a (Some n) = fault_if (is_some (place_of a.names n)) TwoModules

abbrev pub own_name_fault : Around → Data → Option Fault
own_name_fault a d = name_case a (name_in d)

-- the module's name, where modules have names
abbrev pub listed : Option (List ℕ) → List (List ℕ)
listed None = []
listed (Some n) = n ∷ []

abbrev pub own_name : Around → Data → List (List ℕ)
own_name a d = if a.named then listed (name_at field.Name d) else []

-- with this module among those that may be meant
unfoldable pub next : Around → Data → Around
next a d = around a.named (a.names ++ own_name a d) (a.modules + 1)

-- ---- one module

abbrev pub name_row : Around → Row
name_row a = needs field.Name (own_name_fault a)

-- a derived module is derived from earlier ones
abbrev pub derived_rows : Around → List Row
derived_rows a = needs field.Derive (reference_fault a) ∷ needs field.With with_fault ∷ needs field.Source (reference_fault a) ∷ []

-- an item imports from an earlier module, or from its own
abbrev pub plain_rows : Around → Data → List Row
plain_rows a d = needs field.Items (items_fault (next a d)) ∷ []

-- where modules have names, the name comes first
abbrev pub known : Bool → List Field → List Field
known named fields = if named then field.Name ∷ fields else fields

abbrev pub name_part : Around → Data → Option Fault
name_part a d = if a.named then field_fault d (name_row a) else None

unfoldable pub rows_fault : Around → List Row → Data → Option Fault
rows_fault a rows d = first_of (head_fault (known a.named (map row_field rows)) d ∷ name_part a d ∷ first_of (map (field_fault d) rows) ∷ [])

-- what has the field `derive` is derived
unfoldable pub module_fault : Around → Data → Option Fault
module_fault a d = if is_there field.Derive d then rows_fault a (derived_rows a) d else rows_fault a (plain_rows a d) d

abbrev pub derived_module : Around → Data → Option Module
derived_module a d = option_and_then (λ m. option_and_then (λ (s : List Specifier). option_map (Derived m s) (reference_at a field.Source d)) (with_at d)) (reference_at a field.Derive d)

abbrev pub plain_module : Around → Data → Option Module
plain_module a d = option_map Plain (items_at (next a d) d)

unfoldable pub module_of : Around → Data → Option Module
module_of a d = if is_there field.Derive d then derived_module a d else plain_module a d

-- ---- all modules

abbrev pub modules_fault_from : Around → Items → Option Fault
modules_fault_from a no_items = None
modules_fault_from a (item d ds) = option_or (in_part (decimal a.modules) (module_fault a d)) (modules_fault_from (next a d) ds)

abbrev pub modules_from : Around → Items → Option (List Module)
modules_from a no_items = Some []
modules_from a (item d ds) = option_and_then (λ m. push_front m (modules_from (next a d) ds)) (module_of a d)

abbrev pub most_modules : ℕ
most_modules = 64

abbrev pub few_modules_fault : Bool → Items → Option Fault
few_modules_fault named ds = if nat_le (count ds) most_modules then modules_fault_from (start named) ds else Some (here WrongField)

abbrev pub modules_fault : Bool → Data → Option Fault
modules_fault named d = array_case (few_modules_fault named) (as_array d)

abbrev pub modules_in : Bool → Data → Option (List Module)
modules_in named d = option_and_then (modules_from (start named)) (as_array d)

abbrev pub modules_at : Bool → Data → Option (List Module)
modules_at named d = option_and_then (modules_in named) (get (field_name field.Modules) d)
