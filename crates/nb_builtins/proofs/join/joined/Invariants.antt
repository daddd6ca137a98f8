use Rattle.std.proofs.Common.{◌≡◌, ◌++◌, map, drop, string_bytes}
use Rattle.nb_builtins.specs.Parts.{joined, behind}
use Rattle.nb_builtins.proofs.join.joined.Given as goal

abbrev pub invariant-loop-text : goal.invariant-loop-text
invariant-loop-text l = string_bytes l.string ++ behind l.separator (map (λ t. t.now) (drop l.text-index l.others)) ≡ joined l.separator (map (λ t. t.now) l.texts)
