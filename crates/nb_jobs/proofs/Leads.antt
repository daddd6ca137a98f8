-- At how many charges an evaluation goes on that is taken up.
use Rattle.std.proofs.Common.{◌≡◌}
use Rattle.nb_value.specs.declared.outcome.Answer.{Answer}
use Rattle.nb_machine.specs.declared.machine.Machine.{Machine}
use Rattle.nb_machine.specs.declared.parked.Parked.{Parked}
use Rattle.nb_machine.specs.declared.parked.Parked.TheVariants as parked
use Rattle.nb_machine.specs.Parked.{GoesOnWith, GoesOnPulled}
use Rattle.nb_jobs.specs.Jobs.{GoesOn, made_by}

pub goes_on_with : (a : Answer) (p : Parked) (m : Machine) → GoesOnWith a p m → GoesOn (made_by p) m
goes_on_with a (parked.Needs s) m goes = (goes.1, goes.2)
goes_on_with a (parked.Paused s) m goes = absurd goes
goes_on_with a parked.Over m goes = absurd goes

pub goes_on_pulled : (p : Parked) (m : Machine) → GoesOnPulled p m → GoesOn (made_by p) m
goes_on_pulled (parked.Needs s) m goes = absurd goes
goes_on_pulled (parked.Paused s) m goes = (goes.1, goes.2)
goes_on_pulled parked.Over m goes = absurd goes
