use Rattle.std.proofs.Common.{ℕ, ◌≡◌, ◌+◌, ◌∙◌, ap, sym, Bool, not, ◌&&◌, List, [], ◌∷◌, ◌++◌, length, arith}
use Rattle.std.proofs.lemmas.List.{length_push}
use Rattle.nb_wave.specs.Rules.{wants_start, passes, due}
use Rattle.nb_wave.specs.Marks.{marked}
use Rattle.nb_wave.proofs.Places.{passes_read}
use Rattle.nb_wave.proofs.Reversed.{marks_push}
use Rattle.nb_wave.proofs.users.due.Goals as goal

pub loop-v-preserved : goal.loop-v-preserved
loop-v-preserved c =
    let rows = c.args.rows.now in
    let i = c.loop-v.v in
    let marks = c.loop-v.marks.items in
    let b = c.is_due.result in
    let new : c.push.new.self.items ≡ marks ++ b ∷ [] = c.in_ok-push.ensures.items in
    record {
      size = ap (λ (l : List Bool). length l) new ∙ length_push marks b ∙ ap (λ (n : ℕ). n + 1) c.loop-v.invariant.size;
      below = λ x less.
          ap (λ (l : List Bool). marked l x) new
          ∙ marks_push (due rows) marks i b c.loop-v.invariant.size
          (c.is_due.ensures
          ∙ ap (λ (b : Bool). b && not (marked c.args.held.now i)) (sym (passes_read wants_start rows i c.index-rows-v.result (omega arith) c.index-rows-v.is))
          ∙ ap (λ (b : Bool). passes wants_start rows i && not b) (c.requires.held i (omega arith)))
          c.loop-v.invariant.below x less;
    }
