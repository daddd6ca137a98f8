use Rattle.std.proofs.Common.{◌≡◌, ◌++◌, map, drop, Ok}
use Rattle.nb_builtins.specs.Calls.{and_then}
use Rattle.nb_builtins.specs.Parts.{texts_of}
use Rattle.nb_builtins.proofs.join.texts.Given as goal

abbrev pub invariant-loop-item : goal.invariant-loop-item
invariant-loop-item l = texts_of l.items ≡ and_then (texts_of (drop l.item-index l.items)) (λ ts. Ok (map (λ t. t.now) l.texts.items ++ ts))
