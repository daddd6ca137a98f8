-- The fault of the words, in its place.
use Rattle.std.proofs.Common.{subst}
use Rattle.nb_parser.specs.Parse.{Places}
use Rattle.nb_parser.proofs.Places.{stop_is, placed_refuses}
use Rattle.nb_parser.proofs.parse.read.Goals as goal

pub returns-clause-refused : goal.returns-clause-refused
returns-clause-refused c =
    placed_refuses c.args.text.now c.in_ok-tokens.tokens c.in_ok-words.words c.in-Err-Fault.fault c.in_ok-placed-in-Err-Fault.field-0 c.in_ok-words.ensures
    (stop_is c.in_ok-words.words c.as_slice.result.now c.in-Err-Fault.field-0 c.in-Err-Fault.fault c.as_slice.ensures c.in-Err-Fault.field-0-is c.in-Err-Fault.ensures.comes)
    (subst (λ ts. Places c.args.text.now ts c.in-Err-Fault.fault c.in_ok-placed-in-Err-Fault.field-0) c.as_slice-in-Err-Fault.ensures c.in_ok-placed-in-Err-Fault.ensures)
