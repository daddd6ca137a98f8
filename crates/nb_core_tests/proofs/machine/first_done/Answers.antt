use Rattle.std.proofs.Common.{◌≡◌, ◌∙◌, sym}
use Rattle.nb_history.specs.History.{standing}
use Rattle.nb_core.proofs.Runs.{first_ready}
use Rattle.nb_core_tests.proofs.machine.first_done.Goals as goal

pub segment-requires : goal.segment-requires
segment-requires c = first_ready (standing c.args.core.now) c.in-Some.var (sym c.next_ready.ensures.found ∙ c.in-Some.is)
