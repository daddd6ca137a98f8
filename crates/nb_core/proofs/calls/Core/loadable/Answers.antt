use Rattle.std.proofs.Common.{sym, ◌∙◌}
use Rattle.std.proofs.lemmas.Bool.{false≢true}
use Rattle.nb_core.proofs.Loads.{may_from, none_from, gate_from, none_of, none_is}
use Rattle.nb_core.proofs.calls.Core.loadable.Goals as goal

pub returns-then-is_none : goal.returns-then-is_none
returns-then-is_none c = (
  λ open_now. may_from c.self.inside.machine.history c.args.self.now c.self.view_is c.next_ready.result c.next_ready.ensures.found c.gate.result c.gate.ensures
      (none_of c.next_ready.result c.is_none.result c.is_none.ensures c.if-is_none.true) (none_of c.gate.result c.is_none-then-is_none.result c.is_none-then-is_none.ensures open_now),
  λ may. none_is c.gate.result c.is_none-then-is_none.result c.is_none-then-is_none.ensures
      (gate_from c.self.inside.machine.history c.args.self.now c.self.view_is c.next_ready.result c.next_ready.ensures.found c.gate.result c.gate.ensures may),
)

pub returns-else-is_none : goal.returns-else-is_none
returns-else-is_none c = (
  λ t. absurd (false≢true (sym c.if-is_none.false ∙ t)),
  λ may. none_is c.next_ready.result c.is_none.result c.is_none.ensures (none_from c.args.self.now c.next_ready.result c.next_ready.ensures.found may),
)
