use Rattle.std.proofs.Common.{◌≡◌, map, take}
use Rattle.nb_resolve.specs.Names.{resolve}
use Rattle.nb_closing.proofs.inputs.inputs_named.Given as goal

abbrev pub invariant-loop-name : goal.invariant-loop-name
invariant-loop-name l = l.inputs.items ≡ map (λ n. (n, resolve l.names l.within n)) (take l.name-index l.list)
