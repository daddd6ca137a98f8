-- What the machine keeps is the reading of its log.
use Rattle.std.specs.Prelude.{ℕ, ◌≡◌, ◌-◌, min, Bool, List, length, Option}
use Rattle.nb_sheet.specs.Sheet.{Sheet}
use Rattle.nb_log.specs.Size.{total_size}
use Rattle.nb_log.specs.declared.entry.Entry.{Entry}
use Rattle.nb_history.specs.Reading.{Reading, Start, Ticket, start_of}
use Rattle.nb_history.specs.History.{History}
use Rattle.nb_history.specs.Log.{reading}
use Rattle.nb_runs.specs.Starts.{start_in}

-- a history, with how many entries more it takes without more memory, whatever they are
pub record Kept : Type 0 where
  pub history : History
  pub room : ℕ

-- an entry takes room in the log, and one that asks has a ticket too, among so many of which so many are used
abbrev pub room_of : ℕ → ℕ → ℕ → ℕ
room_of log capacity tickets = min log (capacity - tickets)

-- these parts, after this log
abbrev pub leaves : Sheet → List (Option Start) → Bool → List Ticket → List Entry → Reading
leaves sheet starts disposed tickets log =
    record { sheet = sheet; starts = starts; disposed = disposed; tickets = tickets; entries = length log; size = total_size log }

-- the reading of the log is what these parts stand for
abbrev pub Stands : Sheet → List (Option Start) → Bool → List Ticket → List Entry → Type 0
Stands sheet starts disposed tickets log = reading sheet.builtins log ≡ leaves sheet starts disposed tickets log

-- a reading of so many entries has this sheet and a place for the start of each variable: these starts, and none past them
pub record HasParts (r : Reading) (s : Sheet) (xs : List (Option Start)) (is_disposed : Bool) (n : ℕ) : Type 0 where
  pub sheet : r.sheet ≡ s
  pub shaped : length r.starts ≡ length r.sheet.rows
  pub starts : (v : ℕ) → start_of r v ≡ start_in xs v
  pub disposed : r.disposed ≡ is_disposed
  pub entries : r.entries ≡ n
