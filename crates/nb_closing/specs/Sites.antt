-- What others rest on of a variable's start, and what a reading has of it.
use Rattle.std.specs.Prelude.{ℕ, ◌+◌, ◌≡◌, false, ◌&&◌, nat_le, List, length, Option, Some, None, option_map}
use Rattle.nb_sheet.specs.Lists.{nth, from_option}
use Rattle.nb_sheet.specs.Sheet.{Sheet}
use Rattle.nb_history.specs.Reading.{Reading, Start, Footing, start_of}
use Rattle.nb_runs.specs.Starts.{start_in}
use Rattle.nb_closing.specs.declared.site.Site.{Site}
use Rattle.nb_closing.specs.declared.site.Moment.{Moment}

abbrev pub idle_site : Site
idle_site = record { number = 0; renewal = 0; later = false }

abbrev pub site_of : Option Start → Site
site_of None = idle_site
site_of (Some s) = record { number = s.number; renewal = s.renewal; later = s.running && nat_le 2 s.pulls }

abbrev pub site_in : List Site → ℕ → Site
site_in sites v = from_option idle_site (λ s. s) (nth sites v)

-- what a start rests on
abbrev pub kept_of : Option Start → Option Footing
kept_of o = option_map (λ (s : Start). s.kept) o

-- The reading has this sheet and a place for the start of each variable, its starts rest on what these do, and its variables
-- have the moment's sites.
pub record IsScene (r : Reading) (s : Sheet) (xs : List (Option Start)) (moment : Moment) : Type 0 where
  pub sheet : r.sheet ≡ s
  pub shaped : length r.starts ≡ length r.sheet.rows
  pub kept : (v : ℕ) → kept_of (start_of r v) ≡ kept_of (start_in xs v)
  pub sites : (v : ℕ) → site_of (start_of r v) ≡ site_in moment.sites.items v
  pub disposed : r.disposed ≡ moment.disposed
  pub place : moment.place ≡ r.entries + 1
