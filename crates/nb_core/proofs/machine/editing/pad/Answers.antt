use Rattle.std.proofs.Common.{◌≡◌, ◌∙◌, ap, arith, List, [], ◌∷◌, ◌++◌, Option, None, replicate, append_assoc}
use Rattle.std.proofs.lemmas.List.{replicate_more}
use Rattle.nb_history.specs.Reading.{Start}
use Rattle.nb_core.proofs.machine.editing.pad.Goals as goal

pub loop-preserved : goal.loop-preserved
loop-preserved c = record {
  items =
      c.push_reserved.ensures.items
      ∙ ap (λ (xs : List (Option Start)). xs ++ None ∷ []) c.loop.invariant.items
      ∙ append_assoc c.args.starts.now.items (replicate c.loop.counter None) (None ∷ [])
      ∙ ap (λ (xs : List (Option Start)). c.args.starts.now.items ++ xs) (replicate_more c.loop.counter None);
  len = omega (arith, c.push_reserved.ensures.len, c.loop.invariant.len);
  capacity = c.push_reserved.ensures.capacity ∙ c.loop.invariant.capacity;
}
