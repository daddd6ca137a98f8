use Rattle.std.proofs.Common.{◌≢◌, ◌∙◌, List, Ok, ap, sym, length, slice_set}
use Rattle.nb_value.specs.declared.pairs.Field.{Field}
use Rattle.nb_value.specs.declared.value.Value.{Value}
use Rattle.nb_eval.specs.Locals.{name_value, place}
use Rattle.nb_eval.specs.Run.{Out}
use Rattle.nb_eval.proofs.IndexLemmas.{the_next, next_place, set_last}
use Rattle.nb_eval.proofs.names.keep_at.Goals as goal

pub set-requires : goal.set-requires
set-requires c =
    let ls = c.args.state.now.locals in
    let other : length ls ≢ c.args.at = λ e. c.if-len-at.false (c.len.ensures ∙ e) in
    let h = the_next c.args.name.now c.args.at ls c.requires other in
    ap (λ n. place n ls) c.as_str.ensures.value ∙ next_place c.args.name.now ls c.args.at h.0 h.1

pub returns-clause-gives : goal.returns-clause-gives
returns-clause-gives c = λ _.
    let ls = c.args.state.now.locals in
    let other : length ls ≢ c.args.at = λ e. c.if-len-at.false (c.len.ensures ∙ e) in
    let h = the_next c.args.name.now c.args.at ls c.requires other in
    let out : List (Field Value) → Out (Unit {0}) = λ new. (Ok tt, record c.args.state.now { locals = new }) in
    ap out (sym (set_last (name_value c.args.name.now c.args.value) ls c.args.at h.0) ∙ ap (λ n. slice_set ls c.args.at (name_value n c.args.value)) (sym c.as_str.ensures.value) ∙ sym c.set.ensures)
