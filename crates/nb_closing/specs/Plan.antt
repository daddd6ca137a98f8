-- What closes, worked out before anything changes.
use Rattle.std.specs.Prelude.{⊤, ◌≡◌, List, [], ◌∷◌, Some, None}
use Rattle.nb_log.specs.declared.entry.Entry.{Entry}
use Rattle.nb_log.specs.declared.entry.Entry.TheVariants.{Pending, Left}
use Rattle.nb_history.specs.Reading.{Reading, owed}
use Rattle.nb_history.specs.Rules.{footing}
use Rattle.nb_history.specs.Log.{after}
use Rattle.nb_history.specs.Serial.{closing}
use Rattle.nb_runs.specs.Footings.{footing_of, IsMarked}
use Rattle.nb_closing.specs.declared.step.Step.{Step}
use Rattle.nb_closing.specs.declared.step.Step.TheVariants.{Leaves, Starts}

-- a step's entry, with the cleanups that are owed then
abbrev pub entry_of : Reading → Step → Entry
entry_of r (Leaves v) = Left v (owed r v)
entry_of r (Starts v k) = Pending v (owed r v)

-- what starts rests on what its variable rests on then
abbrev pub RestsRight : Reading → Step → Type 0
RestsRight r (Leaves v) = ⊤
RestsRight r (Starts v k) = (footing_of k ≡ footing r v) × IsMarked k

-- the steps by which it closes
abbrev pub Plans : Reading → List Step → Type 0
Plans r [] = closing r ≡ None
Plans r (s ∷ more) = (closing r ≡ Some (entry_of r s)) × RestsRight r s × Plans (after r (entry_of r s)) more

-- and their entries
abbrev pub planned : Reading → List Step → List Entry
planned r [] = []
planned r (s ∷ more) = entry_of r s ∷ planned (after r (entry_of r s)) more
