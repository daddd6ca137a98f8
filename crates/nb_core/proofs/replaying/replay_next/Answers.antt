use Rattle.std.proofs.Common.{◌∙◌, sym}
use Rattle.nb_core.proofs.Replays.{ties_stay}
use Rattle.nb_core.proofs.replaying.replay_next.Goals as goal

pub returns-else-is_edit-clause-ties : goal.returns-else-is_edit-clause-ties
returns-else-is_edit-clause-ties c =
    ties_stay c.args.machine.now.history c.replay.new.machine.history c.args.entry.now c.args.ties.now.items c.in_ok-replay.ensures (sym c.is_edit.ensures ∙ c.if-is_edit.false) c.requires.ties
