-- Tickets, and what settles them.
use Rattle.std.specs.Prelude.{ℕ, ◌≡◌, ◌==◌, ◌&&◌, Bool, true, false, nat_le, List, Option, ◌⊎◌}
use Rattle.std.specs.Str.{bytes_eq}
use Rattle.nb_value.specs.declared.outcome.Answer.{Answer}
use Rattle.nb_log.specs.declared.entry.Entry.{Entry}
use Rattle.nb_log.specs.declared.entry.Entry.TheVariants.{Settled, Loaded}
use Rattle.nb_sheet.specs.Lists.{nth, put, numbers, Name, from_option, option_then}
use Rattle.nb_history.specs.Lists.{first_where}
use Rattle.nb_history.specs.Reading.{Start, Ticket}
use Rattle.nb_runs.specs.Starts.{start_in}

abbrev pub var_of : List Ticket → ℕ → ℕ
var_of tickets t = from_option 0 (λ (k : Ticket). k.var) (nth tickets t)

abbrev pub settled_one : Ticket → Ticket
settled_one k = record k { settled = true }

abbrev pub settled_at : List Ticket → ℕ → List Ticket
settled_at tickets t = from_option tickets (λ (k : Ticket). put tickets t (settled_one k)) (nth tickets t)

-- an entry that gives a ticket's start this answer
abbrev pub IsAnswer : ℕ → Answer → Entry → Type 0
IsAnswer t a e = ((editor : ℕ) × (e ≡ Settled editor t a)) ⊎ (e ≡ Loaded t a)

-- the start of its variable waits for it
abbrev pub live_in : List (Option Start) → List Ticket → ℕ → Bool
live_in starts tickets t = from_option false (λ n. n == t) (option_then (start_in starts (var_of tickets t)) (λ s. s.ticket))

-- the least live ticket of the key
abbrev pub live_of_key_in : List (Option Start) → List Ticket → Name → Option ℕ
live_of_key_in starts tickets key =
    first_where (λ t. live_in starts tickets t && from_option false (λ (k : Ticket). bytes_eq k.key key) (nth tickets t)) (numbers tickets)

-- the least live ticket that isn't below n
abbrev pub live_from_in : List (Option Start) → List Ticket → ℕ → Option ℕ
live_from_in starts tickets n = first_where (λ t. nat_le n t && live_in starts tickets t) (numbers tickets)
