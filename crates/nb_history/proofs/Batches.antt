-- What holds of pulling and held variables after every legal log.
use Rattle.nb_history.specs.Reading.{Reading}
use Rattle.nb_history.specs.Log.{reading}
use Rattle.nb_history.specs.Batches.{PullingIsReady, RestHoldsNothing, DueNeedsNothingHeld, DueWhereBehind}
use Rattle.nb_history.proofs.Held.{due_needs_free, free_from, due_where_behind}
use Rattle.nb_history.proofs.Shapes.{sound_reading}
use Rattle.nb_history.proofs.Lawful.{Lawful, lawful_log, pulling_ready, rest_pulls_nothing, rest_none_behind}
use Rattle.nb_history.proofs.Between.{pulls_nothing}

pub pulling_is_ready : PullingIsReady
pulling_is_ready builtins log legal = pulling_ready (reading builtins log) (lawful_log builtins log legal)

pub rest_holds_nothing : RestHoldsNothing
rest_holds_nothing builtins log legal rests v =
    let r : Reading = reading builtins log in
    let law : Lawful r = lawful_log builtins log legal in
    (pulls_nothing r law.sound (rest_pulls_nothing r law rests) v, free_from r (rest_pulls_nothing r law rests) v, rest_none_behind r law rests v)

pub due_needs_nothing_held : DueNeedsNothingHeld
due_needs_nothing_held builtins log v w = due_needs_free (reading builtins log) v w

pub due_is_behind : DueWhereBehind
due_is_behind builtins log v w = due_where_behind (reading builtins log) (sound_reading builtins log).named v w
