use Rattle.nb_runs.proofs.starts.pull_at.Goals as goal

pub pull-requires : goal.pull-requires
pull-requires c = c.requires c.in-Some.start c.in-Some.is
