-- The size of texts and lists, in terms of what is inside, and what fuel pays for it.
use Rattle.std.proofs.Common.{◌≡◌, ℕ, suc, ◌+◌, List, [], ◌∙◌, refl, sym, ap, length, sum_by, zero, ℤ, pos, ◌+ℤ◌, arith}
use Rattle.std.proofs.lemmas.List.Sums.{sum-map, sum_by-cons}
use Rattle.nb_value.specs.declared.value.Value.{Value}
use Rattle.nb_value.specs.declared.value.Value.TheViews.{roll-Value, rolls-List}
use Rattle.nb_value.specs.declared.value.Value.TheFolds.{fold-roll-Value}
use Rattle.nb_value.specs.declared.value.Value.TheOpen.{Value-F}
use Rattle.nb_value.specs.declared.value.Value.TheVariants as V
use Rattle.nb_value.specs.Value.{size, size_step}
use Rattle.std.specs.Prelude.{nat_lt, if◌then◌else◌, Ok}
use Rattle.nb_value.specs.declared.outcome.ErrorKind.TheVariants.{OutOfFuel}
use Rattle.nb_builtins.specs.Calls.{failed}
use Rattle.nb_builtins.specs.Apply.{afforded}
use Rattle.nb_builtins.specs.Ranges.{ints_from}

size-Int : (n : ℤ) → size (V.Int n) ≡ 1
unfolding roll-Value denote.Hole.Carrier.roll
size-Int n = fold-roll-Value ℕ size_step (Value-F.Int n)

pub size-Text : (t : List ℕ) → size (V.Text t) ≡ 1 + length t
unfolding roll-Value denote.Hole.Carrier.roll
size-Text t = fold-roll-Value ℕ size_step (Value-F.Text t)

pub size-List : (vs : List Value) → size (V.List vs) ≡ 1 + sum_by size vs
size-List vs = ap size (sym (rolls-List vs)) ∙ fold-roll-Value ℕ size_step (Value-F.List vs) ∙ ap (λ n. 1 + n) (sum-map size vs)

sizes-ints_from : (first : ℤ) (n : ℕ) → sum_by size (ints_from first n) ≡ n
unfolding ints_from
sizes-ints_from first zero = refl
sizes-ints_from first (suc n) =
    let one : size (V.Int first) ≡ 1 = size-Int first in
    let more : sum_by size (ints_from (first +ℤ pos 1) n) ≡ n = sizes-ints_from (first +ℤ pos 1) n in
    sum_by-cons size (V.Int first) (ints_from (first +ℤ pos 1) n) ∙ omega arith

-- a list of numbers has the size 1 and 1 for each
pub size-ints_from : (first : ℤ) (n : ℕ) → size (V.List (ints_from first n)) ≡ 1 + n
size-ints_from first n = size-List (ints_from first n) ∙ ap (λ m. 1 + m) (sizes-ints_from first n)

-- ---- what the fuel pays for

pub afforded_at : (fuel : ℕ) (v : Value) (n : ℕ) → size v ≡ 1 + n → afforded fuel v ≡ if nat_lt fuel (2 + n) then failed OutOfFuel [] else Ok v
afforded_at fuel v n e = grind (arith, e)

pub paid_range : (fuel : ℕ) (first : ℤ) (n : ℕ) → afforded fuel (V.List (ints_from first n)) ≡ if nat_lt fuel (2 + n) then failed OutOfFuel [] else Ok (V.List (ints_from first n))
paid_range fuel first n = afforded_at fuel (V.List (ints_from first n)) n (size-ints_from first n)

pub paid_join : (fuel : ℕ) (t : List ℕ) → afforded fuel (V.Text t) ≡ if nat_lt fuel (2 + length t) then failed OutOfFuel [] else Ok (V.Text t)
paid_join fuel t = afforded_at fuel (V.Text t) (length t) (size-Text t)
