-- The numbers that modules and variables have in a document's lines: those that they get if no line is refused.
use Rattle.std.specs.Prelude.{ℕ, ◌+◌, ◌==◌, ◌&&◌, Bool, false, List, [], ◌∷◌, ◌++◌, map, length, min, nat_lt, slice_get, Option, Some, None, if◌then◌else◌}
use Rattle.std.specs.Option.{option_map_or}
use Rattle.nb_syntax.specs.declared.tree.Cell.{Cell}
use Rattle.nb_syntax.specs.declared.tree.Body.TheVariants.{Expr as ExprBody}
use Rattle.nb_syntax.specs.declared.tree.Expr.TheVariants.{Null}
use Rattle.nb_sheet.specs.Derive.{Modules, add_modules, derived}
use Rattle.nb_sheet.specs.Lists.{from_option}
use Rattle.nb_sheet.specs.Sheet.{Sheet, empty_sheet, with_copies}
use Rattle.nb_sheet.specs.declared.row.BodyOf.{BodyOf}
use Rattle.nb_sheet.specs.declared.row.BodyOf.TheVariants.{Cell as CellBody, Import as ImportBody}
use Rattle.nb_sheet.specs.declared.row.VarRow.{VarRow}
use Rattle.nb_doc.specs.declared.place.Place.{Place}
use Rattle.nb_doc.specs.declared.count.Counted.{Counted}
use Rattle.nb_doc.specs.declared.item.Item.{Item}
use Rattle.nb_doc.specs.declared.item.Item.TheVariants as item
use Rattle.nb_doc.specs.declared.module.Module.{Module}
use Rattle.nb_doc.specs.declared.module.Module.TheVariants.{Plain, Derived}

-- A place has the number of a module, and the number of the first variable of its items.
abbrev pub place_at : ℕ → ℕ → Place
place_at number variable = record { number = number; variable = variable }

-- the number of the module at a position
abbrev pub number_of : List Place → ℕ → ℕ
number_of places k = option_map_or (λ (p : Place). p.number) (slice_get places k) 0

-- ---- what is counted: a sheet on which nothing is refused

-- Its cells are left out, since no number depends on what a cell says.
abbrev pub no_cell : Cell
no_cell = record { name = None; body = ExprBody Null }

abbrev pub row : ℕ → Option (List ℕ) → BodyOf → VarRow
row m name body = record { «module» = m; observed = false; name = name; body = Some body; place = 0 }

-- the one variable that an item makes
abbrev pub item_row : List Place → ℕ → Item → VarRow
item_row places m (item.Cell c o) = row m c.name (CellBody no_cell)
item_row places m (item.Import n a k o) = row m (Some a) (ImportBody n (number_of places k))

abbrev pub items_of : Module → List Item
items_of (Plain items) = items
items_of (Derived m s source) = []

abbrev pub with_items : List Place → ℕ → List Item → Sheet → Sheet
with_items places m items s = record s { rows = s.rows ++ map (item_row places m) items }

-- no number is told any more: the next module and the next variable are past the limits
abbrev pub is_full : Sheet → Bool
is_full s = nat_lt 64 (length s.modules) && nat_lt 1024 (length s.rows)

abbrev pub is_first : List Place → Bool
is_first places = length places == 0

-- a derived module is made with its variables and the other copies, another one empty; the first is there already
abbrev pub made : List Place → Module → Sheet → Sheet
made places (Plain items) s = if is_first places then s else record s { modules = s.modules ++ false ∷ [] }
made places (Derived m specifiers source) s = with_copies s (derived s.modules s.rows (number_of places m) specifiers (number_of places source)) 0

-- the number is that of the first copy, or of the one module that is made
abbrev pub number_for : List Place → Sheet → ℕ
number_for places s = if is_first places then 0 else length s.modules

-- the number of the next variable; past the limit it is always the same, which no variable has
abbrev pub variable_for : Sheet → ℕ
variable_for s = min (length s.rows) 1024 + 1

unfoldable pub place_for : List Place → Module → Sheet → Place
place_for places m s = place_at (number_for places s) (variable_for (if is_full s then s else made places m s))

unfoldable pub counted : List Place → Module → Sheet → Sheet
counted places m s = if is_full s then s else with_items (places ++ place_for places m s ∷ []) (number_for places s) (items_of m) (made places m s)

-- one step of a derive's walk: the module at this place of the list adds those that it imports from
abbrev pub gone_through : Modules → (ℕ → List VarRow) → ℕ → List ℕ → List ℕ
gone_through modules copied place list = from_option list (λ k. add_modules modules list (copied k)) (slice_get list place)

-- the places of the modules, one after another
abbrev pub places_from : Sheet → List Place → List Module → List Place
places_from s places [] = places
places_from s places (m ∷ ms) = places_from (counted places m s) (places ++ place_for places m s ∷ []) ms

unfoldable pub places_of : List Module → List Place
places_of ms = places_from (empty_sheet []) [] ms

-- what is kept of the sheet
abbrev pub sheet_of : List Bool → List VarRow → Sheet
sheet_of modules rows = record { builtins = []; modules = modules; rows = rows }

abbrev pub sheet_in : Counted → Sheet
sheet_in c = sheet_of c.marks.items c.rows.items
