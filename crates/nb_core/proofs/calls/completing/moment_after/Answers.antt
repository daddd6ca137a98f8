use Rattle.std.proofs.Common.{refl}
use Rattle.nb_core.proofs.Scenes.{scene_here}
use Rattle.nb_core.proofs.calls.completing.moment_after.Goals as goal

pub returns-clause-scene : goal.returns-clause-scene
returns-clause-scene c =
    scene_here c.args.machine.now.history c.args.var c.args.entry.now _ c.starts.result.now.items c.in_ok-sites.sites.items c.shows_outcome.result c.len-place.result c.requires.ready c.requires.next
    c.starts.ensures c.in_ok-sites.ensures c.shows_outcome.ensures c.len-place.ensures.value c.stop_at.ensures c.is_disposed.ensures refl
