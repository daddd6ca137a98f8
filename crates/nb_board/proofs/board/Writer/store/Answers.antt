use Rattle.std.proofs.Common.{rules, ap, arith, length}
use Rattle.nb_board.proofs.Keeps.{stores}
use Rattle.nb_board.proofs.board.Writer.store.Goals as goal

pub store-requires : goal.store-requires
store-requires c = (search rules, (let e = ap (λ t. t.shared.table_id.words) c.deref.ensures in let v = ap length c.self.view_is in omega (arith, e, v, c.self.invariant.2, c.requires)), stores _ _ _ _ _ c.self.invariant.1)
