use Rattle.std.proofs.Common.{rules, ap, arith}
use Rattle.nb_board.proofs.Keeps.{splits}
use Rattle.nb_board.proofs.board.Writer.reader.Goals as goal

pub split_seat-seat-requires : goal.split_seat-seat-requires
split_seat-seat-requires c = (search rules, (let e = ap (λ t. t.shared.table_id.words) c.deref.ensures in omega (arith, e, c.self.invariant.2, c.self.invariant.3)), splits _ _)
