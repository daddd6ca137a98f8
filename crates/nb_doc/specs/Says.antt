-- The lines that a document's modules stand for.
use Rattle.std.specs.Prelude.{ℕ, ◌+◌, ◌==◌, List, [], ◌∷◌, ◌++◌, min, slice_get, if◌then◌else◌}
use Rattle.std.specs.Option.{option_map_or}
use Rattle.nb_sheet.specs.declared.edit.Edit.TheVariants.{AddModule, AddVariable, AddCell, Import, Derive}
use Rattle.nb_log.specs.declared.event.Event.{Event}
use Rattle.nb_log.specs.declared.event.Event.TheVariants.{Edit}
use Rattle.nb_doc.specs.declared.place.Place.{Place}
use Rattle.nb_doc.specs.declared.item.Item.{Item}
use Rattle.nb_doc.specs.declared.item.Item.TheVariants as item
use Rattle.nb_doc.specs.declared.module.Module.{Module}
use Rattle.nb_doc.specs.declared.module.Module.TheVariants.{Plain, Derived}
use Rattle.nb_doc.specs.Numbers.{number_of, items_of, places_of}

-- numbers that nothing has stand for all that are past the limits
abbrev pub no_module : ℕ
no_module = 64

abbrev pub no_variable : ℕ
no_variable = 1025

abbrev pub module_number : List Place → ℕ → ℕ
module_number places k = min (number_of places k) no_module

abbrev pub first_variable : List Place → ℕ → ℕ
first_variable places k = min (option_map_or (λ (p : Place). p.variable) (slice_get places k) 0) no_variable

abbrev pub next_variable : ℕ → ℕ
next_variable v = min (v + 1) no_variable

-- of module m an item whose variable has the number v
abbrev pub item_lines : List Place → ℕ → ℕ → Item → List Event
item_lines places m v (item.Cell c observed) = Edit (AddCell m c observed) ∷ []
item_lines places m v (item.Import n a k observed) = Edit (AddVariable m observed) ∷ Edit (Import v n a (module_number places k)) ∷ []

-- each item makes one variable
abbrev pub items_lines : List Place → ℕ → ℕ → List Item → List Event
items_lines places m v [] = []
items_lines places m v (i ∷ items) = item_lines places m v i ++ items_lines places m (next_variable v) items

-- the line that makes a module, which the first needs not
abbrev pub opening : List Place → ℕ → Module → List Event
opening places k (Plain items) = if k == 0 then [] else Edit AddModule ∷ []
opening places k (Derived m specifiers source) = Edit (Derive (module_number places m) specifiers (module_number places source)) ∷ []

abbrev pub module_lines : List Place → ℕ → Module → List Event
module_lines places k m = opening places k m ++ items_lines places (module_number places k) (first_variable places k) (items_of m)

-- from the module at this position on
abbrev pub lines_from : List Place → ℕ → List Module → List Event
lines_from places k [] = []
lines_from places k (m ∷ ms) = module_lines places k m ++ lines_from places (k + 1) ms

unfoldable pub lines_of : List Module → List Event
lines_of ms = lines_from (places_of ms) 0 ms
