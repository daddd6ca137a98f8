-- How much work may still come between two lines.
use Rattle.std.specs.Prelude.{ℕ, ◌+◌, ◌-◌, ◌*◌, Bool, cond, not, ◌&&◌, ◌||◌, nat_le, filter, List, [], ◌∷◌, length, Option, Some, None, is_some}
use Rattle.std.specs.List.{list_any}
use Rattle.nb_sheet.specs.Lists.{numbers}
use Rattle.nb_history.specs.Needs.{circular, needed}
use Rattle.nb_history.specs.Reading.{Reading, Start}
use Rattle.nb_history.specs.Rules.{wanted, leaving, is_behind}

-- it runs, or waits for an answer
abbrev pub is_at_work : Start → Bool
is_at_work s = s.running || is_some s.ticket

-- a pull past the first that has no outcome yet
abbrev pub later_pull : Option Start → ℕ
later_pull None = 0
later_pull (Some s) = cond (is_at_work s && nat_le 2 s.pulls) 1 0

-- each pull makes at most 64 fetches, and each answer is of one of them
abbrev pub fetches_left : Start → ℕ
fetches_left s = 64 * s.pulls - length s.answers

-- the entries that a start may still need: `asked` and its answer for each fetch, and then an outcome
abbrev pub entries_left : Option Start → ℕ
entries_left None = 0
entries_left (Some s) = cond s.running (1 + 2 * fetches_left s) (cond (is_some s.ticket) (2 * fetches_left s) 0)

abbrev pub over_starts : (Option Start → ℕ) → List (Option Start) → ℕ
over_starts f [] = 0
over_starts f (s ∷ ss) = f s + over_starts f ss

-- the pulls past the first that have no outcome yet
abbrev pub later_pulls : Reading → ℕ
later_pulls r = over_starts later_pull r.starts

abbrev pub all_entries_left : Reading → ℕ
all_entries_left r = over_starts entries_left r.starts

-- ---- the `left` and `pending` entries that may come

-- v isn't behind, and nothing that it needs is
abbrev pub calm : Reading → ℕ → Bool
calm r v = not (is_behind r v) && (circular r.sheet v || not (list_any (is_behind r) (needed r.sheet v)))

-- v may still leave or start before the next line, at once or when no pull is running any more
abbrev pub is_open : Reading → ℕ → Bool
is_open r v = leaving r v || (wanted r v && not (calm r v))

abbrev pub open_count : Reading → ℕ
open_count r = length (filter (is_open r) (numbers r.sheet.rows))

-- Each entry of a variable, and each loader's answer, takes at least one of this. A `pending` takes an open variable, and
-- its start needs at most 129 entries. An outcome of a later pull may open each variable anew, now or when no pull is
-- running any more. So a later pull weighs more than all that it may open.
abbrev pub to_do : Reading → ℕ
to_do r = later_pulls r * (1 + 130 * length r.sheet.rows) + (130 * open_count r + all_entries_left r)

-- ---- with no loader, where each start runs at most once before the next line

abbrev pub runs_now : Option Start → ℕ
runs_now None = 0
runs_now (Some s) = cond s.running 1 0

abbrev pub running_count : Reading → ℕ
running_count r = over_starts runs_now r.starts

-- each entry of a variable takes at least one of this
abbrev pub to_run : Reading → ℕ
to_run r = later_pulls r * (1 + 2 * length r.sheet.rows) + (2 * open_count r + running_count r)
