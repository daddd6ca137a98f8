-- What a wave is told of the variables of a sheet.
use Rattle.std.specs.Prelude.{ℕ, ⊤, ◌≡◌, ◌≤◌, ◌<◌, ◌⊎◌, Bool, true, false, cond, not, ◌&&◌, List, [], length, map, Option, None, Some, IfSome, IsSome, option_map, slice_get}
use Rattle.nb_sheet.specs.Sheet.{Sheet}
use Rattle.nb_resolve.specs.Names.{inputs, direct, duplicate}
use Rattle.nb_wave.specs.declared.footing.Footing.{Footing as Numbered}
use Rattle.nb_wave.specs.declared.row.Row.{Row}
use Rattle.nb_wave.specs.declared.step.Step.{Step as WaveStep}
use Rattle.nb_wave.specs.declared.step.Step.TheVariants.{Left, Pending}
use Rattle.nb_wave.specs.Rules.{from_option}
use Rattle.nb_wave.specs.Marks.{marked}
use Rattle.nb_wave.specs.Steps.{changed}
use Rattle.nb_wave.specs.Wave.{unput, kept_row, kept_of as kept_in, IsNumber}
use Rattle.nb_history.specs.Needs.{circular, is_used}
use Rattle.nb_history.specs.Reading.{Start, Footing}
use Rattle.nb_history.specs.Rules.{place_of, input_code}
use Rattle.nb_runs.specs.Footings.{footing_of, IsMarked}
use Rattle.nb_runs.specs.Starts.{start_in}
use Rattle.nb_closing.specs.declared.site.Site.{Site}
use Rattle.nb_closing.specs.declared.site.Moment.{Moment}
use Rattle.nb_closing.specs.declared.step.Step.{Step}
use Rattle.nb_closing.specs.declared.step.Step.TheVariants.{Leaves, Starts}
use Rattle.nb_closing.specs.Sites.{site_in, kept_of}
use Rattle.nb_closing.specs.Ties.{Ties}

-- ---- what is told

-- the mark of a variable, by whether it is circular and whether it is a duplicate
abbrev pub mark_of : Ties → ℕ
mark_of t = cond t.is_circular 2 (cond t.is_duplicate 1 0)

-- what v rests on where the variables have these sites
abbrev pub footing_at : Sheet → (ℕ → Site) → ℕ → Footing
footing_at s site v =
    record {
      place = place_of s v;
      is_duplicate = duplicate s v;
      is_circular = circular s v;
      inputs = map input_code (inputs s v);
      starts = cond (circular s v) [] (map (λ u. Site.number (site u)) (direct s v));
      renewals = cond (circular s v) [] (map (λ u. Site.renewal (site u)) (direct s v));
    }

-- v's row says what is so of it where the variables have these sites, and its start rests on this
pub record IsTold (s : Sheet) (disposed : Bool) (site : ℕ → Site) (start : Option Footing) (v : ℕ) (row : Row) : Type 0 where
  pub wanted : row.wanted ≡ (not disposed && is_used s v)
  pub later : row.later ≡ Site.later (site v)
  pub present : footing_of row.present ≡ footing_at s site v
  pub marked : IsMarked row.present
  pub needs : row.needs ≡ direct s v
  pub kept : option_map footing_of row.kept ≡ start
  pub kept_marked : IfSome row.kept IsMarked

-- those of the first k variables are told that are marked, and no other
pub record AreTold (s : Sheet) (starts : List (Option Start)) (moment : Moment) (marks : List Bool) (k : ℕ) (rows : List Row) : Type 0 where
  pub size : length rows ≡ 1025
  pub told : (v : ℕ) (row : Row) → 1 ≤ v → v ≤ k → marked marks v ≡ true → slice_get rows v ≡ Some row → IsTold s moment.disposed (site_in moment.sites.items) (kept_of (start_in starts v)) v row
  pub rest : (v : ℕ) (row : Row) → (v ≡ 0) ⊎ ((k < v) ⊎ (marked marks v ≡ false)) → slice_get rows v ≡ Some row → row ≡ unput

-- a row whose start rests on this, where it has one
abbrev pub keeping : Option Numbered → Row → Row
keeping None row = row
keeping (Some k) row = kept_row k row

-- v's start rests on this, and else the rows are as they were
pub record IsKept (start : Option Footing) (v : ℕ) (old new : List Row) : Type 0 where
  pub kept : Option Numbered
  pub footing : option_map footing_of kept ≡ start
  pub marked : IfSome kept IsMarked
  pub rows : new ≡ changed (keeping kept) v old

-- ---- what is read off when it has closed

-- what v's start rests on, where it has one
abbrev pub resting_in : List Row → ℕ → Numbered
resting_in rows v = from_option (Row.present unput) (λ k. k) (kept_in rows v)

-- a step with what its start rests on
abbrev pub step_in : List Row → WaveStep → Step
step_in rows (Left v) = Leaves v
step_in rows (Pending v) = Starts v (resting_in rows v)

-- what starts is a variable, and isn't idle
abbrev pub StartsIn : List Row → WaveStep → Type 0
StartsIn rows (Left v) = ⊤
StartsIn rows (Pending v) = IsNumber v × IsSome (kept_in rows v)
