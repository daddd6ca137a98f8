-- What a wave holds.
use Rattle.std.specs.Prelude.{ℕ, ◌≡◌, ◌≤◌, ◌⊎◌, Bool, false, List, [], length, replicate, Option, Some, None, slice_get}
use Rattle.nb_wave.specs.declared.footing.Footing.{Footing}
use Rattle.nb_wave.specs.declared.row.Row.{Row}
use Rattle.nb_wave.specs.declared.table.Change.{Change}
use Rattle.nb_wave.specs.Rules.{from_option, NeedsVariables}
use Rattle.nb_wave.specs.Changes.{put_back}

-- the rows of now, and those that an undo gives back
pub record Wave : Type 0 where
  pub rows : List Row
  pub marked : List Row

-- a variable that was never put
abbrev pub unput : Row
unput = record {
  wanted = false;
  later = false;
  present = record { place = 0; mark = 0; inputs = []; starts = []; renewals = [] };
  needs = [];
  kept = None;
}

-- 1,024 of them, after one for the number 0
unfoldable pub no_rows : List Row
no_rows = replicate 1025 unput

-- a row that is put, with the old one's start
abbrev pub put_row : Bool → Bool → Footing → List ℕ → Row → Row
put_row wanted later present needs old = record { wanted = wanted; later = later; present = present; needs = needs; kept = old.kept }

-- a row with a start that rests on this
abbrev pub kept_row : Footing → Row → Row
kept_row f r = record r { kept = Some f }

-- what v's start rests on, none while it is idle
abbrev pub kept_of : List Row → ℕ → Option Footing
kept_of rows v = from_option None (λ (r : Row). r.kept) (slice_get rows v)

-- a variable's number
abbrev pub IsNumber : ℕ → Type 0
IsNumber v = (1 ≤ v) × (v ≤ 1024)

-- as many starts and renewals as needs, or none of both
abbrev pub IsAsMany : Footing → List ℕ → Type 0
IsAsMany f needs =
    ((f.starts ≡ []) × (f.renewals ≡ [])) ⊎ ((length f.starts ≡ length needs) × (length f.renewals ≡ length needs))

-- a row for each variable and for number 0, and each needs variables
pub record IsRows (rows : List Row) : Type 0 where
  pub all : length rows ≡ 1025
  pub needs : NeedsVariables rows

pub record IsWave (rows : List Row) (changes : List Change) : Type 0 where
  pub present : IsRows rows
  pub marked : IsRows (put_back changes rows)
