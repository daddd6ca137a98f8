-- The last of a list.
use Rattle.std.proofs.Common.{◌≡◌, suc, ◌-◌, List, [], ◌∷◌, length, refl, arith}
use Rattle.std.specs.Prelude.{slice_get}
use Rattle.nb_value.specs.declared.value.Value.{Value}
use Rattle.nb_eval.specs.Evaluation.{last_of}

pub last_is : (vs : List Value) → slice_get vs (length vs - 1) ≡ last_of vs
last_is [] = refl
last_is (v ∷ []) = refl
last_is (v ∷ w ∷ vs) =
    let e : length (v ∷ w ∷ vs) - 1 ≡ suc (length (w ∷ vs) - 1) = omega arith in
    rw e (last_is (w ∷ vs))
