-- The token's text may be cut out.
use Rattle.std.proofs.Common.{arith}
use Rattle.nb_parser.proofs.Places.{left_span}
use Rattle.nb_parser.proofs.parse.placed.Goals as goal

pub range-requires-clause-start_le_end : goal.range-requires-clause-start_le_end
range-requires-clause-start_le_end c =
    let span = left_span c.args.text.now c.args.tokens.now c.in-Unexpected.left c.token_with-token.result.now c.requires.spans c.token_with-token.ensures in
    omega (arith, span.order)

pub range-requires-clause-start_boundary : goal.range-requires-clause-start_boundary
range-requires-clause-start_boundary c some =
    (left_span c.args.text.now c.args.tokens.now c.in-Unexpected.left c.token_with-token.result.now c.requires.spans c.token_with-token.ensures).start_cut

pub range-requires-clause-end_boundary : goal.range-requires-clause-end_boundary
range-requires-clause-end_boundary c =
    (left_span c.args.text.now c.args.tokens.now c.in-Unexpected.left c.token_with-token.result.now c.requires.spans c.token_with-token.ensures).end_cut
