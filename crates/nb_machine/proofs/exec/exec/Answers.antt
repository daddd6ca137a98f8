use Rattle.std.proofs.Common.{◌≡◌, ◌∙◌}
use Rattle.nb_machine.proofs.Execs.{known, settles, at_place, no_stay}
use Rattle.nb_machine.proofs.exec.exec.Goals as goal

pub returns-in_default-instr : goal.returns-in_default-instr
returns-in_default-instr c =
    let p = c.args.spot.now in
    let code = c.args.code.now in
    let instr = c.in-Some.instr.now in
    let is = at_place code p.pc instr c.in-Some.ensures.lookup.3.0 c.in-Some.ensures.lookup.3.1 in
    record {
      gives = λ other. known c.args.given.now code p c.args.held.now instr is ∙ settles _ c.with_values.result c.ending.result p c.with_values.new.spot c.with_values.new.held c.with_values.ensures c.ending.ensures.same c.ending.ensures.ends other;
      stays = λ x e on. absurd (no_stay c.ending.result x c.ending.ensures.ends e on);
    }
