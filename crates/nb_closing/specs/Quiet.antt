-- Which variables stay as they are unless one that they need doesn't.
use Rattle.std.specs.Prelude.{ℕ, Bool, cond, not, ◌&&◌, List, [], map, Option, Some, None}
use Rattle.std.specs.List.{filter}
use Rattle.nb_sheet.specs.Lists.{numbers}
use Rattle.nb_sheet.specs.Sheet.{Sheet}
use Rattle.nb_history.specs.Needs.{is_used}
use Rattle.nb_history.specs.Reading.{Start, Footing}
use Rattle.nb_history.specs.Rules.{same_footing}
use Rattle.nb_runs.specs.Starts.{start_in}
use Rattle.nb_closing.specs.declared.site.Site.{Site}
use Rattle.nb_closing.specs.declared.site.Moment.{Moment}
use Rattle.nb_closing.specs.Sites.{site_in, kept_of}
use Rattle.nb_closing.specs.Ties.{Ties}
use Rattle.nb_closing.specs.Told.{footing_at}

-- what a variable of these ties, whose body has this place, rests on where the variables have these sites
abbrev pub footing_by : Ties → (ℕ → Site) → ℕ → Footing
footing_by t site place =
    record {
      place = place;
      is_duplicate = t.is_duplicate;
      is_circular = t.is_circular;
      inputs = t.codes;
      starts = cond t.is_circular [] (map (λ u. Site.number (site u)) t.direct);
      renewals = cond t.is_circular [] (map (λ u. Site.renewal (site u)) t.direct);
    }

-- it is idle and not wanted, or it is wanted and its start rests on what it rests on now
abbrev pub stands : Bool → Footing → Option Footing → Bool
stands wanted now None = not wanted
stands wanted now (Some kept) = wanted && same_footing now kept

-- it stands, and doesn't run at a second or later pull
abbrev pub is_quiet : Sheet → Bool → (ℕ → Site) → Option Footing → ℕ → Bool
is_quiet s disposed site start v =
    not (Site.later (site v)) && stands (not disposed && is_used s v) (footing_at s site v) start

-- where the starts rest on this, at a moment
abbrev pub quiet_at : Sheet → List (Option Start) → Moment → ℕ → Bool
quiet_at s starts m v = is_quiet s m.disposed (site_in m.sites.items) (kept_of (start_in starts v)) v

-- the variables that aren't quiet
abbrev pub loud_vars : Sheet → List (Option Start) → Moment → List ℕ
loud_vars s starts m = filter (λ v. not (quiet_at s starts m v)) (numbers s.rows)
