use Rattle.std.proofs.Common.{◌∙◌}
use Rattle.std.specs.Option.{option_copied}
use Rattle.nb_core.proofs.Looks.{shown_now, rests_now}
use Rattle.nb_core.proofs.calls.Core.shown.Goals as goal

pub returns-clause-value : goal.returns-clause-value
returns-clause-value c =
    shown_now c.self.inside.machine.history c.args.self.now c.self.view_is c.starts.result.now.items c.starts.ensures c.args.var (option_copied c.start_at.result) c.shown_by.result c.start_at.ensures c.shown_by.ensures

pub returns-clause-rest : goal.returns-clause-rest
returns-clause-rest c =
    let told = shown_now c.self.inside.machine.history c.args.self.now c.self.view_is c.starts.result.now.items c.starts.ensures c.args.var (option_copied c.start_at.result) c.shown_by.result c.start_at.ensures c.shown_by.ensures in
    λ rests is_wanted. told.outcome ∙ rests_now c.self.inside.machine.history c.args.self.now c.self.view_is c.self.invariant.0 rests c.args.var is_wanted
