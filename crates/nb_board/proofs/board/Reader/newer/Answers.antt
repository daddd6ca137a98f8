use Rattle.std.proofs.Common.{rules, ap, arith}
use Rattle.nb_board.proofs.Keeps.{reads}
use Rattle.nb_board.proofs.board.Reader.newer.Goals as goal

pub load-found-requires : goal.load-found-requires
load-found-requires c = (search rules, (let e = ap (λ t. t.shared.table_id.words) c.deref.ensures in let v = ap (λ r. r.size) c.self.view_is in omega (arith, e, v, c.requires)), reads _ _ _ _ c.self.invariant.1)
