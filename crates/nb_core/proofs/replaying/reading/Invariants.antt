use Rattle.std.proofs.Common.{drop}
use Rattle.nb_core.proofs.Replays.{IsReplayed}
use Rattle.nb_core.proofs.replaying.reading.Given as goal

abbrev pub invariant-loop-entry : goal.invariant-loop-entry
invariant-loop-entry l = IsReplayed l.fn.builtins l.fn.log.entries (drop l.entry-index l.entry-items) l.machine.history l.ties.items
