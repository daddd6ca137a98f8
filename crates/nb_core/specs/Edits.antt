-- Entries of edits, which alone change the sheet.
use Rattle.std.specs.Prelude.{Bool, true, false}
use Rattle.nb_log.specs.declared.entry.Entry.{Entry}
use Rattle.nb_log.specs.declared.entry.Entry.TheVariants.{Edit}

abbrev pub is_edit : Entry → Bool
is_edit (Edit editor edit) = true
is_edit e = false
