-- The items of a module: cells, and imports from modules.
use Rattle.std.specs.Prelude.{ℕ, suc, ◌+◌, true, false, List, [], ◌∷◌, Option, Some, None, option_map, option_and_then, if◌then◌else◌}
use Rattle.std.specs.Option.{option_or}
use Rattle.std.specs.Fmt.{decimal}
use Rattle.serde_json.specs.Data.{Data, Items, no_items, item}
use Rattle.serde_json.specs.Find.{get, as_array}
use Rattle.nb_value.specs.Json.{push_front}
use Rattle.nb_doc.specs.declared.around.Around.{Around}
use Rattle.nb_doc.specs.declared.item.Item.{Item}
use Rattle.nb_doc.specs.declared.item.Item.TheVariants.{Cell, Import}
use Rattle.nb_doc.specs.declared.form.Field.TheVariants as field
use Rattle.nb_doc.specs.declared.reason.DocReason.TheVariants.{WrongField}
use Rattle.nb_doc.specs.Faults.{Fault, here, in_part}
use Rattle.nb_doc.specs.Forms.{Row, needs, may, is_there, field_name, object_fault}
use Rattle.nb_doc.specs.Contents.{name_fault, name_at, alias_or, truth_fault, observed_or, cell_fault, cell_at, reference_fault, reference_at}

-- ---- elements of an array, each with the faults of the first one that has some

abbrev pub each_fault : (Data → Option Fault) → ℕ → Items → Option Fault
each_fault fault k no_items = None
each_fault fault k (item d ds) = option_or (in_part (decimal k) (fault d)) (each_fault fault (k + 1) ds)

abbrev pub each_of : {X : Type 0} → (Data → Option X) → Items → Option (List X)
each_of of no_items = Some []
each_of of (item d ds) = option_and_then (λ x. push_front x (each_of of ds)) (of d)

-- of an array, which it may fail to be
abbrev pub array_case : (Items → Option Fault) → Option Items → Option Fault
array_case fault None = Some (here WrongField)
array_case fault (Some ds) = fault ds

-- how many elements there are
abbrev pub count : Items → ℕ
count no_items = 0
count (item d ds) = suc (count ds)

-- ---- one item

abbrev pub cell_rows : List Row
cell_rows = needs field.Cell cell_fault ∷ may field.Observed truth_fault ∷ []

abbrev pub import_rows : Around → List Row
import_rows a = needs field.Import name_fault ∷ may field.Alias name_fault ∷ needs field.From (reference_fault a) ∷ may field.Observed truth_fault ∷ []

-- what has the field `import` is an import
unfoldable pub item_fault : Around → Data → Option Fault
item_fault a d = if is_there field.Import d then object_fault (import_rows a) d else object_fault cell_rows d

-- a cell's variable is observed where the item doesn't say
abbrev pub cell_item : Data → Option Item
cell_item d = option_map (λ c. Cell c (observed_or true d)) (cell_at d)

-- an import's isn't
abbrev pub imported : Data → List ℕ → ℕ → Item
imported d n k = Import n (alias_or n d) k (observed_or false d)

abbrev pub import_item : Around → Data → Option Item
import_item a d = option_and_then (λ n. option_map (imported d n) (reference_at a field.From d)) (name_at field.Import d)

unfoldable pub item_of : Around → Data → Option Item
item_of a d = if is_there field.Import d then import_item a d else cell_item d

-- ---- all items of a module

abbrev pub items_fault : Around → Data → Option Fault
items_fault a d = array_case (each_fault (item_fault a) 0) (as_array d)

abbrev pub items_in : Around → Data → Option (List Item)
items_in a d = option_and_then (each_of (item_of a)) (as_array d)

abbrev pub items_at : Around → Data → Option (List Item)
items_at a d = option_and_then (items_in a) (get (field_name field.Items) d)
