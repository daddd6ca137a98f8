use Rattle.std.proofs.Common.{◌≡◌, drop}
use Rattle.nb_history.specs.Loaders.{argv_of as argv_of_key}
use Rattle.nb_loader.specs.Loads.{as_loaders}
use Rattle.nb_loader.proofs.ticket.argv_of.Given as goal

-- no loader so far has the key
abbrev pub invariant-loop-loader : goal.invariant-loop-loader
invariant-loop-loader l = argv_of_key (as_loaders l.loader-items) l.key ≡ argv_of_key (as_loaders (drop l.loader-index l.loader-items)) l.key
