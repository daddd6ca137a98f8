use Rattle.std.proofs.Common.{◌≡◌, ◌+◌, ◌-◌, ◌^◌, ◌<◌, min, length, map, drop}
use Rattle.nb_builtins.specs.Parts.{joined, behind}
use Rattle.nb_builtins.proofs.join.joined_len.Given as goal

abbrev pub invariant-loop-text : goal.invariant-loop-text
invariant-loop-text l = record {
  small : l.total < 2 ^ 64;
  rest : min (l.total + length (behind l.separator (map (λ t. t.now) (drop l.text-index l.others)))) (2 ^ 64 - 1) ≡ min (length (joined l.separator (map (λ t. t.now) l.texts))) (2 ^ 64 - 1);
}
