-- What is written, with what is left, is the whole.
use Rattle.std.proofs.Common.{◌≡◌, ◌++◌}
use Rattle.std.specs.Str.Iter.{chars_rest}
use Rattle.nb_syntax.specs.Print.{escaped}
use Rattle.nb_syntax.proofs.quoted.push_escaped.Given as goal

abbrev pub invariant-loop-c : goal.invariant-loop-c
invariant-loop-c l = l.out ++ escaped (chars_rest l.c-iterator) ≡ l.fn.out ++ escaped l.text
