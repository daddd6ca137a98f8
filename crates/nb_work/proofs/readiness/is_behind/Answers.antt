use Rattle.nb_work.proofs.Readies.{started_behind}
use Rattle.nb_work.proofs.readiness.is_behind.Goals as goal

pub returns-in-Some : goal.returns-in-Some
returns-in-Some c = λ r h. started_behind r c.args.sheet.now.sheet c.args.starts.now.items c.args.v h c.args.ties.now.items c.requires.ties c.in-Some.start.now c.in-Some.ensures c.rests.result c.rests.ensures
