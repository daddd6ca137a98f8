use Rattle.std.proofs.Common.{◌≡◌, ◌++◌, drop, encode_utf8_all, string_bytes}
use Rattle.nb_builtins.proofs.slices.text_of_chars.Given as goal

abbrev pub invariant-loop-c : goal.invariant-loop-c
invariant-loop-c l = string_bytes l.string ++ encode_utf8_all (drop l.c-index l.characters) ≡ encode_utf8_all l.characters
