-- The size of each kind of value, in terms of the values inside it.
use Rattle.std.proofs.Common.{◌≡◌, ℕ, ◌+◌, List, [], ◌∷◌, ◌∙◌, refl, sym, ap, map, length, sum_by, Bool, ℤ}
use Rattle.std.proofs.lemmas.List.Sums.{sum-map, sum_by-cons}
use Rattle.nb_value.specs.declared.value.Value.{Value}
use Rattle.nb_value.specs.declared.value.Value.TheViews.{roll-Value, rolls-List, rolls-Rec}
use Rattle.nb_value.specs.declared.value.Value.TheFolds.{fold-roll-Value}
use Rattle.nb_value.specs.declared.value.Value.TheOpen.{Value-F}
use Rattle.nb_value.specs.declared.value.Value.TheVariants as V
use Rattle.nb_value.specs.declared.pairs.Field.{Field}
use Rattle.nb_value.specs.Value.{size, size_step}
use Rattle.nb_log.specs.Size.{field_size}

sum_by-map : {X Y : Type 0} (f : Y → ℕ) (g : X → Y) (xs : List X) → sum_by f (map g xs) ≡ sum_by (λ x. f (g x)) xs
sum_by-map f g [] = refl
sum_by-map f g (x ∷ xs) = sum_by-cons f (g x) (map g xs) ∙ ap (λ n. f (g x) + n) (sum_by-map f g xs) ∙ sym (sum_by-cons (λ x. f (g x)) x xs)

pub size-Null : size V.Null ≡ 1
unfolding roll-Value denote.Hole.Carrier.roll
size-Null = fold-roll-Value ℕ size_step Value-F.Null

pub size-Bool : (b : Bool) → size (V.Bool b) ≡ 1
unfolding roll-Value denote.Hole.Carrier.roll
size-Bool b = fold-roll-Value ℕ size_step (Value-F.Bool b)

pub size-Int : (n : ℤ) → size (V.Int n) ≡ 1
unfolding roll-Value denote.Hole.Carrier.roll
size-Int n = fold-roll-Value ℕ size_step (Value-F.Int n)

pub size-Text : (t : List ℕ) → size (V.Text t) ≡ 1 + length t
unfolding roll-Value denote.Hole.Carrier.roll
size-Text t = fold-roll-Value ℕ size_step (Value-F.Text t)

pub size-List : (vs : List Value) → size (V.List vs) ≡ 1 + sum_by size vs
size-List vs = ap size (sym (rolls-List vs)) ∙ fold-roll-Value ℕ size_step (Value-F.List vs) ∙ ap (λ n. 1 + n) (sum-map size vs)

pub size-Rec : (fs : List (Field Value)) → size (V.Rec fs) ≡ 1 + sum_by field_size fs
size-Rec fs = ap size (sym (rolls-Rec fs)) ∙ fold-roll-Value ℕ size_step (Value-F.Rec fs)
    ∙ ap (λ n. 1 + n) (sum_by-map (λ f. 1 + length f.name + f.value) (λ (f : Field Value). record { name = f.name; value = size f.value }) fs)

pub ruleset sizes = (size-Null, size-Bool, size-Int, size-Text, size-List, size-Rec, sum_by-cons)
