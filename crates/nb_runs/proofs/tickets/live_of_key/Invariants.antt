use Rattle.std.proofs.Common.{◌≡◌, None, ◌&&◌, false}
use Rattle.std.specs.List.{range_with_len}
use Rattle.std.specs.Str.{bytes_eq}
use Rattle.nb_sheet.specs.Lists.{nth, from_option}
use Rattle.nb_history.specs.Lists.{first_where}
use Rattle.nb_history.specs.Reading.{Ticket}
use Rattle.nb_runs.specs.Tickets.{live_in}
use Rattle.nb_runs.proofs.tickets.live_of_key.Given as goal

abbrev pub invariant-loop-k : goal.invariant-loop-k
invariant-loop-k l =
    first_where (λ t. live_in l.starts.items l.tickets.items t && from_option false (λ (k : Ticket). bytes_eq k.key l.key) (nth l.tickets.items t)) (range_with_len 1 l.k) ≡ None
