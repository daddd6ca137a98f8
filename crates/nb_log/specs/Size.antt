-- The size of a log, and the places of its entries.
use Rattle.std.specs.Prelude.{ℕ, ◌+◌, ◌-◌, ◌==◌, List, length, sum_by, slice_get, Option, None, if◌then◌else◌}
use Rattle.nb_value.specs.declared.value.Value.{Value}
use Rattle.nb_value.specs.declared.pairs.Field.{Field}
use Rattle.nb_value.specs.Value.{size}
use Rattle.nb_log.specs.declared.event.Target.{Target}
use Rattle.nb_log.specs.declared.event.Target.TheVariants.{Ticket, Key}
use Rattle.nb_log.specs.declared.entry.Entry.{Entry}
use Rattle.nb_log.specs.Printing.{entry_size}

-- what a field takes
abbrev pub field_size : Field Value → ℕ
field_size f = 1 + length f.name + size f.value

-- what the field that says which fetch takes
abbrev pub target_size : Target → ℕ
target_size (Ticket t) = 8
target_size (Key k) = 5 + length k

-- the size of all entries together
abbrev pub total_size : List Entry → ℕ
total_size es = sum_by entry_size es

-- the entry at a place: places count from 1
abbrev pub entry_at : List Entry → ℕ → Option Entry
entry_at es place = if place == 0 then None else slice_get es (place - 1)
