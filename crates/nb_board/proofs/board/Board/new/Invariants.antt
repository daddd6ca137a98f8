use Rattle.std.proofs.Common.{◌≡◌, ◌≤◌, replicate}
use Rattle.nb_board.proofs.board.Board.new.Given as goal

abbrev pub invariant-loop : goal.invariant-loop
invariant-loop l = (l.words.items ≡ replicate l.counter 0) × (l.counter ≤ l.n)
