-- When the marks of what is due, or needs something due, tell which variable starts next until the end: a start takes its
-- own mark away, and no other.
use Rattle.std.specs.Prelude.{ℕ, ◌≡◌, ◌≤◌, ◌<◌, Bool, true, false, ◌&&◌, not, List, length, Some, slice_get}
use Rattle.std.specs.List.{list_any}
use Rattle.nb_graph.specs.Needs.{has}
use Rattle.nb_wave.specs.declared.footing.Footing.{Footing}
use Rattle.nb_wave.specs.declared.row.Row.{Row}
use Rattle.nb_wave.specs.Rules.{is_wanted, passes, needs_of, pulls_on, due, rests_on}
use Rattle.nb_wave.specs.Marks.{marked}

abbrev pub AllBelow : ℕ → List ℕ → Type 0
AllBelow n xs = (x : ℕ) → has xs x ≡ true → x < n

-- it rests on a start number of each variable that it needs, and its own start on none from the place on: so a start there
-- of what it needs leaves it behind
pub record Follows (place : ℕ) (r : Row) : Type 0 where
  pub long : length r.needs ≤ length (Footing.starts r.present)
  pub before : (k : Footing) → r.kept ≡ Some k → AllBelow place (Footing.starts k)

-- what it needs is wanted, and it follows that if anything of it is marked
pub record IsQuick (rows : List Row) (marks : List Bool) (place : ℕ) (r : Row) : Type 0 where
  pub wanted : (u : ℕ) → has r.needs u ≡ true → passes is_wanted rows u ≡ true
  pub follows : list_any (marked marks) r.needs ≡ true → Follows place r

-- nothing is pulling. Of the wanted variables those are marked that are due or need something due, and their rows are quick
pub record AreQuick (rows : List Row) (marks : List Bool) (place : ℕ) : Type 0 where
  pub still : pulls_on rows ≡ false
  pub size : length marks ≡ length rows
  pub near : (v : ℕ) → passes is_wanted rows v ≡ true → marked marks v ≡ rests_on (due rows) rows v
  pub each : (v : ℕ) (r : Row) → slice_get rows v ≡ Some r → r.wanted ≡ true → marked marks v ≡ true → IsQuick rows marks place r

-- it is wanted and marked, and nothing that it needs directly is
abbrev pub starts_next : List Bool → List Row → ℕ → Bool
starts_next marks rows v = passes is_wanted rows v && marked marks v && not (list_any (marked marks) (needs_of rows v))
