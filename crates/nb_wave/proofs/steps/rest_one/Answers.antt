use Rattle.std.proofs.Common.{◌∙◌, arith}
use Rattle.nb_wave.specs.Steps.{rested}
use Rattle.nb_wave.proofs.Rows.{set_changed}
use Rattle.nb_wave.proofs.steps.rest_one.Goals as goal

pub returns-clause-ok : goal.returns-clause-ok
returns-clause-ok c =
    c.in_ok-replace.ensures.ok
    ∙ set_changed (rested c.args.v c.args.n) c.args.rows.now.items c.args.u c.index.result.now c.in_ok-row.row (omega arith) c.index.ensures c.in_ok-row.ensures
