-- What is left, from here, is the whole from the start; a bracket takes room, and within it the levels go down.
use Rattle.std.proofs.Common.{◌≡◌, ◌+◌, ◌*◌, length, [], ◌∷◌}
use Rattle.nb_grammar.specs.Reading.{rounds, else_if, next_stmt, inside_of}
use Rattle.nb_parser.proofs.statements.+statements.Given as goal

abbrev pub decreases-stmts : goal.decreases-stmts
decreases-stmts l = 8 * l.room + 8

abbrev pub decreases-next_stmt : goal.decreases-next_stmt
decreases-next_stmt l = 8 * l.room + 7

abbrev pub decreases-if_stmt : goal.decreases-if_stmt
decreases-if_stmt l = 8 * l.room + 6

abbrev pub decreases-while_stmt : goal.decreases-while_stmt
decreases-while_stmt l = 8 * l.room + 6

abbrev pub decreases-for_stmt : goal.decreases-for_stmt
decreases-for_stmt l = 8 * l.room + 6

abbrev pub decreases-arms : goal.decreases-arms
decreases-arms l = 8 * l.room + 5

abbrev pub decreases-else_if : goal.decreases-else_if
decreases-else_if l = 8 * l.room + 4

abbrev pub decreases-otherwise : goal.decreases-otherwise
decreases-otherwise l = 8 * l.room + 3

abbrev pub decreases-arm : goal.decreases-arm
decreases-arm l = 8 * l.room + 3

abbrev pub decreases-block : goal.decreases-block
decreases-block l = 8 * l.room + 2

abbrev pub invariant-stmts-turns : goal.invariant-stmts-turns
invariant-stmts-turns l = record {
  same : rounds (next_stmt (inside_of l.room)) l.stmts l.rest ≡ rounds (next_stmt (inside_of l.room)) [] l.words;
}

abbrev pub decreases-stmts-turns : goal.decreases-stmts-turns
decreases-stmts-turns l = length l.rest

abbrev pub invariant-arms-turns : goal.invariant-arms-turns
invariant-arms-turns l = record {
  same : rounds (else_if (inside_of l.room)) l.arms l.rest ≡ rounds (else_if (inside_of l.room)) (l.fn.first ∷ []) l.words;
}

abbrev pub decreases-arms-turns : goal.decreases-arms-turns
decreases-arms-turns l = length l.rest
