-- The locals up to here, whose names still stand at their places.
use Rattle.std.proofs.Common.{◌≡◌, ℕ, List, Option, length, map, take}
use Rattle.nb_value.specs.Fields.{names}
use Rattle.nb_eval.specs.LocalsIndex.{IsIndexed}
use Rattle.nb_eval.proofs.locals.cut.Given as goal

abbrev pub invariant-loop-list : goal.invariant-loop-list
invariant-loop-list l = record {
  indexed : (number : List ℕ → Option ℕ) → IsIndexed (names (map (λ l. l.field) l.fn.list.items)) (map (λ l. l.number) l.fn.list.items) (map (λ l. l.outer) l.fn.list.items) number l.fn.tops.items → IsIndexed (names (map (λ l. l.field) l.list.items)) (map (λ l. l.number) l.list.items) (map (λ l. l.outer) l.list.items) number l.tops.items;
  front : take l.len l.list.items ≡ take l.len l.fn.list.items;
}

abbrev pub decreases-loop-list : goal.decreases-loop-list
decreases-loop-list l = length l.list.items
