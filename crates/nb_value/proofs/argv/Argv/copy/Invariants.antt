use Rattle.std.proofs.Common.{◌≡◌, take}
use Rattle.nb_value.proofs.argv.Argv.copy.Given as goal

abbrev pub invariant-loop-word : goal.invariant-loop-word
invariant-loop-word l = l.items.items ≡ take l.word-index l.word-items
