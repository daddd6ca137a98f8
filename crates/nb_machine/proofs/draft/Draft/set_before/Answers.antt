use Rattle.std.proofs.Common.{◌∙◌}
use Rattle.nb_machine.proofs.Written.{set_from_end}
use Rattle.nb_machine.proofs.draft.Draft.set_before.Goals as goal

pub returns : goal.returns
returns c front rest x e h = set_from_end c.self.inside.reversed.items c.args.after c.args.instr front rest x (c.self.view_is ∙ e) h
