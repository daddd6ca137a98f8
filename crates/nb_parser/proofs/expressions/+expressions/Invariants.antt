-- What is left, from here, is the whole from the start; a bracket takes room, and within it the levels go down.
use Rattle.std.proofs.Common.{◌≡◌, length, [], ◌∷◌, Ok, ◌+◌, ◌-◌, ◌*◌}
use Rattle.nb_value.specs.Function.{arity}
use Rattle.nb_syntax.specs.declared.tree.Expr.TheVariants as tree
use Rattle.nb_grammar.specs.Words.{product_sign, sum_sign}
use Rattle.nb_grammar.specs.Reading.{◌>>=◌, rounds, arguments, operand, inside_of, expr, or_part, and_part, product, unary, step, call, item, items, next_pair, pairs, close_round, close_square, close_curly}
use Rattle.nb_parser.proofs.Turns.{Left}
use Rattle.nb_parser.proofs.expressions.+expressions.Given as goal

abbrev pub decreases-pairs : goal.decreases-pairs
decreases-pairs l = 32 * l.room + 25

abbrev pub decreases-pair : goal.decreases-pair
decreases-pair l = 32 * l.room + 24

abbrev pub decreases-items : goal.decreases-items
decreases-items l = 32 * l.room + 24

abbrev pub decreases-call : goal.decreases-call
decreases-call l = 32 * l.room + 24

abbrev pub decreases-expr : goal.decreases-expr
decreases-expr l = 32 * l.room + 23

abbrev pub decreases-choice : goal.decreases-choice
decreases-choice l = 32 * l.room + 22

abbrev pub decreases-or : goal.decreases-or
decreases-or l = 32 * l.room + 21

abbrev pub decreases-or_parts : goal.decreases-or_parts
decreases-or_parts l = 32 * l.room + 20

abbrev pub decreases-and : goal.decreases-and
decreases-and l = 32 * l.room + 19

abbrev pub decreases-and_parts : goal.decreases-and_parts
decreases-and_parts l = 32 * l.room + 18

abbrev pub decreases-comparison : goal.decreases-comparison
decreases-comparison l = 32 * l.room + 17

abbrev pub decreases-sum : goal.decreases-sum
decreases-sum l = 32 * l.room + 16

abbrev pub decreases-summands : goal.decreases-summands
decreases-summands l = 32 * l.room + 15

abbrev pub decreases-product : goal.decreases-product
decreases-product l = 32 * l.room + 14

abbrev pub decreases-factors : goal.decreases-factors
decreases-factors l = 32 * l.room + 13

abbrev pub decreases-unary : goal.decreases-unary
decreases-unary l = 32 * l.room + 12

abbrev pub decreases-postfix : goal.decreases-postfix
decreases-postfix l = 32 * l.room + 10

abbrev pub decreases-path_steps : goal.decreases-path_steps
decreases-path_steps l = 32 * l.room + 9

abbrev pub decreases-step : goal.decreases-step
decreases-step l = 32 * l.room + 8

abbrev pub decreases-primary : goal.decreases-primary
decreases-primary l = 32 * l.room + 8

abbrev pub decreases-named : goal.decreases-named
decreases-named l = 32 * l.room + 6

abbrev pub decreases-bracketed : goal.decreases-bracketed
decreases-bracketed l = 32 * l.room + 6

abbrev pub invariant-or_parts-parts : goal.invariant-or_parts-parts
invariant-or_parts-parts l = record {
  same : rounds (or_part (inside_of l.room)) l.more l.rest ≡ rounds (or_part (inside_of l.room)) [] l.words;
}

abbrev pub decreases-or_parts-parts : goal.decreases-or_parts-parts
decreases-or_parts-parts l = length l.rest

abbrev pub invariant-and_parts-parts : goal.invariant-and_parts-parts
invariant-and_parts-parts l = record {
  same : rounds (and_part (inside_of l.room)) l.more l.rest ≡ rounds (and_part (inside_of l.room)) [] l.words;
}

abbrev pub decreases-and_parts-parts : goal.decreases-and_parts-parts
decreases-and_parts-parts l = length l.rest

abbrev pub invariant-summands-operands : goal.invariant-summands-operands
invariant-summands-operands l = record {
  same : rounds (operand sum_sign (product (inside_of l.room))) l.more l.rest ≡ rounds (operand sum_sign (product (inside_of l.room))) [] l.words;
}

abbrev pub decreases-summands-operands : goal.decreases-summands-operands
decreases-summands-operands l = length l.rest

abbrev pub invariant-factors-operands : goal.invariant-factors-operands
invariant-factors-operands l = record {
  same : rounds (operand product_sign (unary (inside_of l.room))) l.more l.rest ≡ rounds (operand product_sign (unary (inside_of l.room))) [] l.words;
}

abbrev pub decreases-factors-operands : goal.decreases-factors-operands
decreases-factors-operands l = length l.rest

abbrev pub invariant-path_steps-turns : goal.invariant-path_steps-turns
invariant-path_steps-turns l = record {
  same : rounds (step (inside_of l.room)) l.steps l.rest ≡ rounds (step (inside_of l.room)) [] l.words;
}

abbrev pub decreases-path_steps-turns : goal.decreases-path_steps-turns
decreases-path_steps-turns l = length l.rest

abbrev pub invariant-items-more : goal.invariant-items-more
invariant-items-more l = record {
  left : Left (item (expr (inside_of l.room))) (λ m. close_square m.1 >>= (λ rest. Ok (tree.List m.0, rest))) l.items l.rest (items (expr (inside_of l.room)) l.words);
}

abbrev pub decreases-items-more : goal.decreases-items-more
decreases-items-more l = length l.rest

abbrev pub invariant-pairs-more : goal.invariant-pairs-more
invariant-pairs-more l = record {
  left : Left (next_pair (expr (inside_of l.room))) (λ m. close_curly m.1 >>= (λ rest. Ok (tree.Rec m.0, rest))) l.pairs l.rest (pairs (expr (inside_of l.room)) l.words);
}

abbrev pub decreases-pairs-more : goal.decreases-pairs-more
decreases-pairs-more l = length l.rest

abbrev pub invariant-call-loop : goal.invariant-call-loop
invariant-call-loop l = record {
  same : arguments (expr (inside_of l.room)) (l.end - l.counter) l.args l.rest
      >>= (λ m. close_round m.1 >>= (λ rest. Ok (tree.Call l.function m.0, rest)))
      ≡ call (expr (inside_of l.room)) l.function l.words;
}
