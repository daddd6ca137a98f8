use Rattle.std.proofs.Common.{ℕ, ◌≡◌, ◌<◌, ◌∙◌, ap, true, length, get_or, arith}
use Rattle.nb_graph.proofs.Lists.{index_has}
use Rattle.nb_wave.specs.declared.row.Row.{Row}
use Rattle.nb_wave.specs.Rules.{is_wanted, passes}
use Rattle.nb_wave.proofs.Places.{passes_read}
use Rattle.nb_wave.proofs.QuickLoops.{each_more}
use Rattle.nb_wave.proofs.quick.all_wanted.Goals as goal

pub bounds-rows-u : goal.bounds-rows-u
bounds-rows-u c =
    let inside : c.loop-u.u-index < length c.args.vars.now = omega arith in
    c.requires (get_or c.args.vars.now c.loop-u.u-index 0) (index_has c.args.vars.now c.loop-u.u-index inside)

pub bounds-rows-u-in-loop-u : goal.bounds-rows-u-in-loop-u
bounds-rows-u-in-loop-u c =
    let inside : c.loop-u.u-index < length c.args.vars.now = omega arith in
    c.requires (get_or c.args.vars.now c.loop-u.u-index 0) (index_has c.args.vars.now c.loop-u.u-index inside)

pub loop-u-preserved : goal.loop-u-preserved
loop-u-preserved c =
    let us = c.args.vars.now in
    let i = c.loop-u.u-index in
    let rows = c.args.rows.now in
    let inside : i < length us = omega arith in
    let low : get_or us i 0 < length rows = c.requires (get_or us i 0) (index_has us i inside) in
    each_more (λ (x : ℕ). passes is_wanted rows x ≡ true) us i inside
    (passes_read is_wanted rows (get_or us i 0) c.index-rows-u.result low c.index-rows-u.is ∙ ap (λ (r : Row). r.wanted) c.index-rows-u.is ∙ c.if-not-rows-u.false) c.loop-u.invariant
