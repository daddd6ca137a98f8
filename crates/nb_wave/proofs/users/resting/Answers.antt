use Rattle.std.proofs.Common.{sym, subst, length}
use Rattle.nb_wave.specs.Users.{AreMarked}
use Rattle.nb_wave.proofs.Reversed.{resting_marks}
use Rattle.nb_wave.proofs.users.resting.Goals as goal

pub returns-clause-marks : goal.returns-clause-marks
returns-clause-marks c =
    resting_marks c.args.rows.now c.requires.needs c.args.users.now c.requires.users c.args.marks.now c.in_ok-new.new.items c.deref.result.now c.requires.size
    (subst (AreMarked c.args.marks.now (length c.args.marks.now)) (sym c.deref.ensures.value) c.in_ok-roots.ensures) c.in_ok-new.ensures
