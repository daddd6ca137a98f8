use Rattle.std.proofs.Common.{◌+◌, ◌-◌}
use Rattle.nb_history.specs.History.{standing}
use Rattle.nb_history.specs.Loaders.{keys_of}
use Rattle.nb_loader.specs.Loads.{as_loaders}
use Rattle.nb_loader.proofs.Tickets.{NoneBelow}
use Rattle.nb_loader.proofs.ticket.loader_ticket.Given as goal

abbrev pub invariant-loop-at_least : goal.invariant-loop-at_least
invariant-loop-at_least l = NoneBelow (keys_of (as_loaders l.loaders)) (standing l.core) l.at_least

-- tickets that may be there yet
abbrev pub decreases-loop-at_least : goal.decreases-loop-at_least
decreases-loop-at_least l = l.entries + 1 - l.at_least
