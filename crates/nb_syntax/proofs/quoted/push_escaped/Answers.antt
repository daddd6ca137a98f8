use Rattle.std.proofs.Common.{append_assoc}
use Rattle.std.specs.Prelude.{encode_utf8}
use Rattle.std.specs.Str.Iter.{chars_rest}
use Rattle.nb_syntax.proofs.Escapes.{escaped-append}
use Rattle.nb_syntax.proofs.quoted.push_escaped.Goals as goal

pub loop-c-preserved : goal.loop-c-preserved
loop-c-preserved c =
    let here = c.in-Some.ensures.steps.0 in
    let parts = escaped-append (encode_utf8 c.in-Some.c) (chars_rest c.next.new.self) in
    rw (c.in_ok-push_char.ensures, append_assoc, ← parts, ← here) c.loop-c.invariant
