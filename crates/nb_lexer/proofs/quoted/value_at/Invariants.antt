use Rattle.std.proofs.Common.{◌≡◌, ◌+◌, length, false}
use Rattle.nb_lexer.specs.Scan.{inside, with_front}
use Rattle.nb_lexer.proofs.quoted.value_at.Given as goal

abbrev pub invariant-parts : goal.invariant-parts
invariant-parts l = record {
  same : with_front l.value.items (inside l.quote false l.at l.rest) ≡ inside l.quote false (l.quote + 1) l.text;
  room : l.at + length l.rest ≡ l.quote + 1 + length l.text;
}

abbrev pub decreases-parts : goal.decreases-parts
decreases-parts l = length l.rest
