-- The lines of a log fix the log.
use Rattle.std.specs.Prelude.{◌≡◌, ℕ, ◌^◌, List, Bool, true, nat_lt, ℤ, pos, negsuc}
use Rattle.std.specs.List.{AllByRecursion, list_all}
use Rattle.nb_value.specs.declared.value.Value.{Value, fold-Value}
use Rattle.nb_value.specs.declared.value.Value.TheOpen.{Value-F}
use Rattle.nb_syntax.specs.declared.tree.Cell.{Cell}
use Rattle.nb_sheet.specs.declared.edit.Edit.{Edit}
use Rattle.nb_sheet.specs.declared.edit.Edit.TheVariants as edit
use Rattle.nb_log.specs.declared.event.Event.{Event}
use Rattle.nb_log.specs.declared.event.Event.TheVariants as event
use Rattle.nb_log.specs.declared.entry.Entry.{Entry}
use Rattle.nb_log.specs.declared.entry.Entry.TheVariants as entry
use Rattle.nb_log.specs.Printing.{entry_value, entries_text}
use Rattle.nb_parser.specs.Parse.{Parses}

-- ---- numbers of 64 bits
-- Each number of a log has at most so many, by its type. Contracts see a number without its type, so it is said here.

-- from -2 ^ 63 to 2 ^ 64 - 1
abbrev pub is_short : ℤ → Bool
is_short (pos n) = nat_lt n (2 ^ 64)
is_short (negsuc n) = nat_lt n (2 ^ 63)

-- One level, with the answer of each value inside in its place.
abbrev pub short_step : Value-F Bool → Bool
short_step Value-F.Null = true
short_step (Value-F.Bool b) = true
short_step (Value-F.Int z) = is_short z
short_step (Value-F.Text t) = true
short_step (Value-F.List answers) = list_all (λ b. b) answers
short_step (Value-F.Rec fs) = list_all (λ f. f.value) fs

-- whether each number in the value has at most 64 bits
abbrev pub has_short_numbers : Value → Bool
has_short_numbers = fold-Value Bool short_step

-- ---- cells that a text spells

abbrev pub IsSpelled : Cell → Type 0
IsSpelled c = (text : List ℕ) × Parses text c

abbrev pub EditIsSpelled : Edit → Type 0
EditIsSpelled (edit.AddCell m c observed) = IsSpelled c
EditIsSpelled (edit.Define v c) = IsSpelled c
EditIsSpelled (edit.Redefine m c) = IsSpelled c
EditIsSpelled e = Unit {0}

abbrev pub EventIsSpelled : Event → Type 0
EventIsSpelled (event.Edit e) = EditIsSpelled e
EventIsSpelled e = Unit {0}

-- a text spells the cell of its edit, if it has one
abbrev pub EntryIsSpelled : Entry → Type 0
EntryIsSpelled (entry.Edit editor e) = EditIsSpelled e
EntryIsSpelled (entry.Refused editor reason e) = EventIsSpelled e
EntryIsSpelled e = Unit {0}

-- ---- the law

-- The entry's line tells it.
pub record IsTold (e : Entry) : Type 0 where
  pub spelled : EntryIsSpelled e
  pub short : has_short_numbers (entry_value e) ≡ true

-- Two logs with the same lines are one.
abbrev pub LinesFixLog : Type 0
LinesFixLog = (log other : List Entry) → AllByRecursion IsTold log → AllByRecursion IsTold other → entries_text log ≡ entries_text other → log ≡ other
