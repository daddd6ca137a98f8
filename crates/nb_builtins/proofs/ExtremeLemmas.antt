-- What the best of some values is.
use Rattle.std.proofs.Common.{◌≡◌, List, ◌∷◌, get_or, ap, ◌∙◌, sym, Bool, Ordering, Less, Equal, Greater}
use Rattle.std.specs.List.{best_of}
use Rattle.std.specs.Ordering.{is_lt, is_gt, ordering_reverse}
use Rattle.std.specs.Cmp.{IsStrictWeakOrder}
use Rattle.std.proofs.lemmas.List.MinMax.{IsFirstBest-from_best_of, ranks_by}
use Rattle.std.proofs.lemmas.List.{get_or_default}
use Rattle.nb_value.specs.declared.value.Value.{Value}
use Rattle.nb_value.specs.Value.{value_cmp}
use Rattle.nb_value.specs.ValueOrder.{value_cmp_total}
use Rattle.nb_builtins.specs.Extremes.{is_below, is_above, IsExtreme}

ranks_below : IsStrictWeakOrder is_below
ranks_below = ranks_by value_cmp_total (λ v. v)

turned : (o p : Ordering) → o ≡ ordering_reverse p → is_gt o ≡ is_lt p
turned o Less e = ap is_gt e
turned o Equal e = ap is_gt e
turned o Greater e = ap is_gt e

above_is : (v w : Value) → is_above v w ≡ is_below w v
above_is v w = turned (value_cmp v w) (value_cmp w v) (value_cmp_total.antisymm v w)

ranks_above : IsStrictWeakOrder is_above
ranks_above = record {
  one_way = λ x y e. above_is y x ∙ ranks_below.one_way y x (sym (above_is x y) ∙ e);
  chain = λ x y z e f. above_is x z ∙ ranks_below.chain z y x (sym (above_is y z) ∙ f) (sym (above_is x y) ∙ e);
}

best : (beats : Value → Value → Bool) → IsStrictWeakOrder beats → (v : Value) (vs : List Value) → IsExtreme beats (v ∷ vs) (best_of beats v vs)
best beats o v vs =
    let found = IsFirstBest-from_best_of o v vs in
    let at = found.1 in
    let b = found.0 in
    let is : get_or (v ∷ vs) b v ≡ best_of beats v vs = found.2 in (
      (b, at.0, get_or_default (v ∷ vs) b (best_of beats v vs) v at.0 ∙ is),
      λ k d h. ap (beats (get_or (v ∷ vs) k d)) (sym (get_or_default (v ∷ vs) b d v at.0 ∙ is)) ∙ at.1 k d h,
    )

pub least_is : (v r : Value) (vs : List Value) → r ≡ best_of is_below v vs → IsExtreme is_below (v ∷ vs) r
least_is v r vs e = rw e (best is_below ranks_below v vs)

pub greatest_is : (v r : Value) (vs : List Value) → r ≡ best_of is_above v vs → IsExtreme is_above (v ∷ vs) r
greatest_is v r vs e = rw e (best is_above ranks_above v vs)
