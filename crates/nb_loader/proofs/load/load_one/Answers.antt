use Rattle.std.proofs.Common.{refl}
use Rattle.nb_history.specs.History.{standing}
use Rattle.nb_history.specs.Loaders.{keys_of}
use Rattle.nb_history.proofs.Loading.{may_be_loaded}
use Rattle.nb_loader.specs.Loads.{as_loaders}
use Rattle.nb_loader.proofs.Keys.{ticket_words}
use Rattle.nb_loader.proofs.Spawns.{none_came, answer_came}
use Rattle.nb_loader.proofs.load.load_one.Goals as goal

pub answer_of-requires : goal.answer_of-requires
answer_of-requires g c = ticket_words c.args.loaders.now (standing c.args.core.now) c.in-Some.ticket c.in-Some.argv.now c.requires c.in-Some.ensures.1

pub returns-in_err-answer-clause-spawn : goal.returns-in_err-answer-clause-spawn
returns-in_err-answer-clause-spawn g c = none_came c.args.core.now c.args.core.now _ _ refl

pub loaded-requires-clause-live : goal.loaded-requires-clause-live
loaded-requires-clause-live g c = (may_be_loaded (keys_of (as_loaders c.args.loaders.now)) (standing c.args.core.now) c.in-Some.ticket c.in-Some.ensures.0.first).live

pub returns-in-Ok-clause-spawn : goal.returns-in-Ok-clause-spawn
returns-in-Ok-clause-spawn g c = answer_came c.args.core.now c.loaded.new.self _ _ c.in-Some.ticket c.in_ok-answer.answer c.in-Ok.ensures.ok.1 c.in_ok-answer.ensures.spawn

pub returns-in-Err-clause-spawn : goal.returns-in-Err-clause-spawn
returns-in-Err-clause-spawn g c = none_came c.args.core.now c.loaded.new.self _ _ c.in-Err.ensures.err.1
