use Rattle.std.proofs.Common.{◌<◌, ◌+◌, ◌^◌, length, subst, sym}
use Rattle.nb_history.specs.History.{History}
use Rattle.nb_core.proofs.Replays.{frame_few}
use Rattle.nb_core.proofs.replaying.replay_frame.Goals as goal

pub frame-requires-clause-few : goal.frame-requires-clause-few
frame-requires-clause-few c =
    subst (λ (h : History). length h.log + 1 < 2 ^ 32) (sym c.reserve.ensures.same) (frame_few c.args.machine.now.history c.args.editor c.requires)
