use Rattle.std.proofs.Common.{◌≡◌, ◌+◌, ℕ, length}
use Rattle.nb_history.specs.History.{standing}
use Rattle.nb_history.specs.Log.{admit}
use Rattle.nb_core.specs.Core.{Gains}
use Rattle.nb_main.proofs.RunLemmas.{gains_of}
use Rattle.nb_main.proofs.history.add_line.Goals as goal

pub event-requires-clause-rest : goal.event-requires-clause-rest
event-requires-clause-rest c = λ _. c.requires.rest

pub returns : goal.returns
returns c =
    gains_of c.taken.result c.event.result (λ (place : ℕ). place ≡ length c.args.core.now.log + 1)
    (Gains c.args.core.now (admit (standing c.args.core.now) c.args.line.editor c.args.line.event) c.event.new.self) c.taken.ensures c.event.ensures.ok
