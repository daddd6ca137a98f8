use Rattle.std.proofs.Common.{◌∙◌, subst}
use Rattle.std.specs.Str.Iter.{split_text, split_has_more}
use Rattle.std.specs.Str.Pattern.{FindsText, IsSplitAtFirstMatch}
use Rattle.nb_builtins.proofs.PartLemmas.{next_part, parts_step}
use Rattle.nb_builtins.proofs.parts.parts.Goals as goal

pub loop-part-preserved : goal.loop-part-preserved
loop-part-preserved c =
    let step = c.in-Some.ensures.steps in
    let same = c.loop-part.invariant.same in
    let cut : IsSplitAtFirstMatch (FindsText c.args.separator.now) (split_text c.loop-part.part-iterator) c.in-Some.part.now (split_has_more c.next.new.self) (split_text c.next.new.self) =
    subst (λ s. IsSplitAtFirstMatch (FindsText s) (split_text c.loop-part.part-iterator) c.in-Some.part.now (split_has_more c.next.new.self) (split_text c.next.new.self)) same step.1.1 in
    record {
      same = step.1.0 ∙ same;
      rest = rw (c.in_ok-push.ensures.ok, c.in_ok-from_str.ensures) (parts_step _ _ _ _ _ _ _ _ step.0 (next_part _ _ _ _ _ c.requires cut) c.loop-part.invariant.rest);
    }
