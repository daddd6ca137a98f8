use Rattle.nb_core.proofs.Looks.{wanted_from, not_wanted}
use Rattle.nb_core.proofs.calls.Core.wanted.Goals as goal

pub returns-then-not-is_disposed : goal.returns-then-not-is_disposed
returns-then-not-is_disposed c =
    wanted_from c.self.inside.machine.history c.args.self.now c.self.view_is c.args.var c.is_disposed.result c.uses.result c.ties.result.now.items c.self.inside.closer
    c.is_disposed.ensures c.uses.ensures c.ties.ensures c.self.invariant.1 c.if-not-is_disposed.true

pub returns-else-not-is_disposed : goal.returns-else-not-is_disposed
returns-else-not-is_disposed c =
    not_wanted c.self.inside.machine.history c.args.self.now c.self.view_is c.args.var c.is_disposed.result c.is_disposed.ensures c.if-not-is_disposed.false
