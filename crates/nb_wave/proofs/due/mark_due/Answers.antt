use Rattle.std.proofs.Common.{◌∙◌, ap, sym, Bool, not, ◌&&◌, arith, length-set}
use Rattle.nb_wave.specs.Rules.{wants_start, passes, due}
use Rattle.nb_wave.specs.Marks.{marked}
use Rattle.nb_wave.proofs.Places.{passes_read}
use Rattle.nb_wave.proofs.Spreads.{marks_more}
use Rattle.nb_wave.proofs.due.mark_due.Goals as goal

pub loop-v-preserved : goal.loop-v-preserved
loop-v-preserved c =
    let rows = c.args.rows.now in
    let i = c.loop-v.v in
    record {
      size = omega (arith, length-set c.loop-v.marks i c.is_due.result, c.loop-v.invariant.size);
      below =
          marks_more (due rows) c.loop-v.marks i c.is_due.result (omega (arith, c.loop-v.invariant.size))
          (c.is_due.ensures
          ∙ ap (λ (b : Bool). b && not (marked c.args.held.now i)) (sym (passes_read wants_start rows i c.index-rows-v.result (omega arith) c.index-rows-v.is))
          ∙ ap (λ (b : Bool). passes wants_start rows i && not b) (c.requires.held i (omega arith)))
          c.loop-v.invariant.below;
    }
