-- What becomes of a variable's site at its next entry.
use Rattle.std.specs.Prelude.{ℕ, Bool, true, false, cond, ◌&&◌, List}
use Rattle.nb_sheet.specs.Lists.{nth, put, from_option}
use Rattle.nb_log.specs.declared.entry.Entry.{Entry}
use Rattle.nb_log.specs.declared.entry.Entry.TheVariants.{Fulfilled, Rejected}
use Rattle.nb_closing.specs.declared.site.Site.{Site}

abbrev pub is_outcome : Entry → Bool
is_outcome (Fulfilled v x) = true
is_outcome (Rejected v e) = true
is_outcome e = false

-- it stops running; an outcome of a second or later pull renews it
abbrev pub stopped_site : Bool → ℕ → Site → Site
stopped_site shows place s = record s { renewal = cond (shows && s.later) place s.renewal; later = false }

abbrev pub stopped_at : List Site → ℕ → Bool → ℕ → List Site
stopped_at sites v shows place = from_option sites (λ s. put sites v (stopped_site shows place s)) (nth sites v)
