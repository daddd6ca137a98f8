-- One turn of the loop.
use Rattle.std.proofs.Common.{arith}
use Rattle.nb_lexer.proofs.QuotedLemmas.{part_put}
use Rattle.nb_lexer.proofs.quoted.value_at.Goals as goal

pub parts-preserved : goal.parts-preserved
parts-preserved c = record {
  same = part_put _ c.parts.at _ _ c.parts.value.items _ c.parts.rest.now _ _ _ c.in_ok-byte.ensures.value c.in-Some.is c.split_at.ensures.back c.in_ok-push.ensures.items c.parts.invariant.same;
  room = let further = rw c.in-Some.is at c.in_ok-byte.ensures.further in let within = rw c.in-Some.is at c.in_ok-byte.ensures.within in omega (arith, further, within);
}
