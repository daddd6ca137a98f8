-- The numbers from one up to below another, one after another.
use Rattle.std.proofs.Common.{◌≡◌, suc, ◌-◌, List, [], ◌∷◌, ◌++◌, ap, ◌∙◌, sym, true, false, arith, ℤ, pos, negsuc, ◌+ℤ◌, append_assoc}
use lib.Signed.{lt_z}
use borrow.Author.Differences.{up, down}
use Rattle.std.proofs.lemmas.Int.{ints}
use Rattle.nb_value.specs.declared.value.Value.{Value}
use Rattle.nb_value.specs.declared.value.Value.TheVariants as V
use Rattle.nb_builtins.specs.Ranges.{ints_from, at_least_zero, count_between}

at_least_zero-is : (z : ℤ) → at_least_zero z ≡ up z - down z
at_least_zero-is (pos n) = omega arith
at_least_zero-is (negsuc n) = omega arith

count_more : (a b : ℤ) → lt_z a b ≡ true → count_between a b ≡ suc (count_between (a +ℤ pos 1) b)
count_more a b h = grind (arith, ints, at_least_zero-is)

count_none : (a b : ℤ) → lt_z a b ≡ false → count_between a b ≡ 0
count_none a b h = grind (arith, ints, at_least_zero-is)

ints_more : (a b : ℤ) → lt_z a b ≡ true → ints_from a (count_between a b) ≡ V.Int a ∷ ints_from (a +ℤ pos 1) (count_between (a +ℤ pos 1) b)
unfolding ints_from
ints_more a b h = ap (ints_from a) (count_more a b h)

pub ints_none : (a b : ℤ) → lt_z a b ≡ false → ints_from a (count_between a b) ≡ []
unfolding ints_from
ints_none a b h = ap (ints_from a) (count_none a b h)

-- a number more behind those that are made
pub ints_step : (items whole : List Value) (n end : ℤ) → lt_z n end ≡ true → items ++ ints_from n (count_between n end) ≡ whole → (items ++ V.Int n ∷ []) ++ ints_from (n +ℤ pos 1) (count_between (n +ℤ pos 1) end) ≡ whole
ints_step items whole n end h e = append_assoc items (V.Int n ∷ []) (ints_from (n +ℤ pos 1) (count_between (n +ℤ pos 1) end)) ∙ ap (λ xs. items ++ xs) (sym (ints_more n end h)) ∙ e
