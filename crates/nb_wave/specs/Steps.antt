-- What a `left` or a `pending` changes, and the steps in their order.
use Rattle.std.specs.Prelude.{ℕ, zero, suc, ◌+◌, ◌≡◌, ◌≤◌, Bool, false, cond, ◌&&◌, ◌==◌, nat_lt, get_or, length, List, [], ◌∷◌, map, Option, Some, None}
use Rattle.nb_wave.specs.declared.footing.Footing.{Footing}
use Rattle.nb_wave.specs.declared.row.Row.{Row}
use Rattle.nb_wave.specs.declared.step.Step.{Step}
use Rattle.nb_wave.specs.declared.step.Step.TheVariants.{Left, Pending}
use Rattle.nb_wave.specs.Rules.{leaving, due, may_start, least}

-- of numbers that belong to these variables, those of v become n
abbrev pub renumbered : ℕ → ℕ → List ℕ → List ℕ → List ℕ
renumbered v n [] xs = xs
renumbered v n (u ∷ us) [] = []
renumbered v n (u ∷ us) (x ∷ xs) = cond (u == v) n x ∷ renumbered v n us xs

-- v stands at i
abbrev pub is_at : List ℕ → ℕ → ℕ → Bool
is_at us v i = nat_lt i (length us) && (get_or us i 0 == v)

-- what a row rests on where v's start number and renewal become n
abbrev pub resting : ℕ → ℕ → Row → Footing
resting v n r =
    let f = r.present in
    record {
      place = f.place;
      mark = f.mark;
      inputs = f.inputs;
      starts = renumbered v n r.needs f.starts;
      renewals = renumbered v n r.needs f.renewals;
    }

abbrev pub rested : ℕ → ℕ → Row → Row
rested v n r = record r { present = resting v n r }

-- idle
abbrev pub ended : Row → Row
ended r = record r { later = false; kept = None }

-- with a new start, which keeps the footing of now
abbrev pub begun : Row → Row
begun r = record r { later = false; kept = Some r.present }

-- the rows with that of v changed
abbrev pub changed : (Row → Row) → ℕ → List Row → List Row
changed f v [] = []
changed f zero (r ∷ rows) = f r ∷ rows
changed f (suc v) (r ∷ rows) = r ∷ changed f v rows

-- v is changed, and then its start number and renewal are n for all that need it
abbrev pub stepped : (Row → Row) → ℕ → ℕ → List Row → List Row
stepped f v n rows = map (rested v n) (changed f v rows)

abbrev pub after : List Row → ℕ → Step → List Row
after rows place (Left v) = stepped ended v 0 rows
after rows place (Pending v) = stepped begun v place rows

-- ---- their order

-- the least that may have a `left`, and else the least that may have a `pending`
abbrev pub next_pending : Option ℕ → Option Step
next_pending None = None
next_pending (Some v) = Some (Pending v)

abbrev pub next_of : Option ℕ → Option ℕ → Option Step
next_of None due = next_pending due
next_of (Some v) due = Some (Left v)

abbrev pub next_step : List Row → Option Step
next_step rows = next_of (least leaving rows) (least may_start rows)

-- each step is the next one, and leaves these rows; their places count up
abbrev pub Runs : List Row → ℕ → List Step → List Row → Type 0
Runs rows place [] new = rows ≡ new
Runs rows place (s ∷ steps) new = (next_step rows ≡ Some s) × Runs (after rows place s) (place + 1) steps new

-- v's `pending`
abbrev pub starts : ℕ → Step → Bool
starts v (Left u) = false
starts v (Pending u) = u == v

-- how often v starts
abbrev pub pending_count : ℕ → List Step → ℕ
pending_count v [] = 0
pending_count v (s ∷ steps) = cond (starts v s) 1 0 + pending_count v steps

-- the steps in their order, until nothing is leaving or due, and the rows then. Each variable starts at most once
pub record Closes (rows : List Row) (place : ℕ) (steps : List Step) (new : List Row) : Type 0 where
  pub runs : Runs rows place steps new
  pub ends : next_step new ≡ None
  pub quiet : (v : ℕ) → 1 ≤ v → (leaving new v ≡ false) × (due new v ≡ false)
  pub once : (v : ℕ) → pending_count v steps ≤ 1
