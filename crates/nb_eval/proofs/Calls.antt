-- Calls with their fuel: a call's own errors are never want of fuel, so want of fuel is the charge that fails.
use Rattle.std.proofs.Common.{◌≡◌, ◌≢◌, ℕ, ◌+◌, Bool, true, false, List, [], ◌∷◌, length, Ok, Err, refl, sym, ap, ◌∙◌, ℤ, Option, Some, None}
use Rattle.std.specs.Prelude.{nat_lt, if◌then◌else◌, ◌==◌, pos, nat_abs, ◌+ℤ◌}
use Rattle.nb_value.specs.declared.value.Value.{Value, out-Value}
use Rattle.nb_value.specs.declared.value.Value.TheOpen.{Value-F}
use Rattle.nb_value.specs.declared.value.Value.TheVariants as V
use Rattle.nb_value.specs.declared.function.Function.{Function}
use Rattle.nb_value.specs.declared.function.Function.TheVariants as f
use Rattle.nb_value.specs.declared.outcome.CellError.{CellError}
use Rattle.nb_value.specs.declared.outcome.ErrorKind.{ErrorKind}
use Rattle.nb_value.specs.declared.outcome.ErrorKind.TheVariants.{WrongKind, OutOfFuel}
use Rattle.nb_value.specs.Function.{arity, function_name}
use Rattle.nb_value.specs.Value.{size}
use Rattle.nb_builtins.specs.Calls.{Called, and_then, failed, wrong_kind, out_of_range}
use Rattle.nb_builtins.specs.Lengths.{len_in}
use Rattle.nb_builtins.specs.Sums.{in_range, whole, with_item, sum_from, int_value, sum_in, abs_in, int_of}
use Rattle.nb_builtins.specs.Extremes.{are_alike, extreme_of, extreme_in, is_below, is_above}
use Rattle.nb_builtins.specs.Ranges.{range_in}
use Rattle.nb_builtins.specs.Slices.{sliced, slice_in, reverse_in, text_of_chars, part_of}
use Rattle.nb_builtins.specs.Orders.{sort_in}
use Rattle.nb_builtins.specs.Records.{keys_in, values_in, has_in}
use Rattle.nb_builtins.specs.Numerals as numerals
use Rattle.nb_builtins.specs.Parts.{split_in, join_in, parts, texts_value, text_in, texts_of, joined}
use Rattle.nb_builtins.specs.Apply.{called, afforded, applied}
use Rattle.nb_eval.specs.declared.state.State.{State}
use Rattle.nb_eval.specs.declared.stop.Stop.TheVariants.{Failed}
use Rattle.nb_eval.specs.Run.{◌>>=◌, lift, done, error}
use Rattle.nb_eval.specs.Evaluation.{call, unpaid}

abbrev pub NotFuel : {X : Type 0} → Called X → Type 0
NotFuel (Ok x) = Unit {0}
NotFuel (Err e) = e.kind ≢ OutOfFuel

if_not : (X : Type 0) (b : Bool) (x y : Called X) → NotFuel x → NotFuel y → NotFuel (if b then x else y)
if_not X true x y hx hy = hx
if_not X false x y hx hy = hy

then_not : (X Y : Type 0) (x : Called X) (g : X → Called Y) → NotFuel x → ((a : X) → NotFuel (g a)) → NotFuel (and_then x g)
then_not X Y (Ok a) g hx hg = hg a
then_not X Y (Err e) g hx hg = hx

wrong_not : (X : Type 0) (function : Function) → NotFuel {X = X} (wrong_kind function)
wrong_not X function = λ e. cc

range_not : (X : Type 0) (function : Function) → NotFuel {X = X} (out_of_range function)
range_not X function = λ e. cc

whole_not : (function : Function) (n : ℤ) → NotFuel (whole function n)
whole_not function n = if_not ℤ (in_range n) _ _ tt (λ e. cc)

len_not : (x : Value-F Value) → NotFuel (len_in x)
len_not (Value-F.Text t) = tt
len_not (Value-F.List vs) = tt
len_not (Value-F.Rec fs) = tt
len_not x = wrong_not Value f.Len

item_not : (total : ℤ) (n : Option ℤ) → NotFuel (with_item total n)
item_not total None = wrong_not ℤ f.Sum
item_not total (Some n) = whole_not f.Sum (total +ℤ n)

sum_from_not : (total : ℤ) (vs : List Value) → NotFuel (sum_from total vs)
sum_from_not total [] = tt
sum_from_not total (v ∷ vs) = then_not ℤ ℤ (with_item total (int_of v)) (λ t. sum_from t vs) (item_not total (int_of v)) (λ t. sum_from_not t vs)

int_value_not : (n : Called ℤ) → NotFuel n → NotFuel (int_value n)
int_value_not (Ok n) h = tt
int_value_not (Err e) h = h

sum_not : (x : Value-F Value) → NotFuel (sum_in x)
sum_not (Value-F.List vs) = int_value_not (sum_from (pos 0) vs) (sum_from_not (pos 0) vs)
sum_not x = wrong_not Value f.Sum

abs_not : (x : Value-F Value) → NotFuel (abs_in x)
abs_not (Value-F.Int n) = int_value_not (whole f.Abs (pos (nat_abs n))) (whole_not f.Abs (pos (nat_abs n)))
abs_not x = wrong_not Value f.Abs

extreme_of_not : (function : Function) (beats : Value → Value → Bool) (vs : List Value) → NotFuel (extreme_of function beats vs)
extreme_of_not function beats [] = range_not Value function
extreme_of_not function beats (v ∷ vs) = if_not Value (are_alike (v ∷ vs)) _ _ tt (wrong_not Value function)

extreme_not : (function : Function) (beats : Value → Value → Bool) (x : Value-F Value) → NotFuel (extreme_in function beats x)
extreme_not function beats (Value-F.List vs) = extreme_of_not function beats vs
extreme_not function beats x = wrong_not Value function

range_of_not : (x y : Value-F Value) → NotFuel (range_in x y)
range_of_not (Value-F.Int a) (Value-F.Int b) = tt
range_of_not x y = wrong_not Value f.Range

sliced_not : (X : Type 0) (make : List X → Value) (xs : Option (List X)) → NotFuel (sliced make xs)
sliced_not X make None = range_not Value f.Slice
sliced_not X make (Some xs) = tt

slice_not : (x y z : Value-F Value) → NotFuel (slice_in x y z)
slice_not (Value-F.Text t) (Value-F.Int a) (Value-F.Int b) = sliced_not ℕ text_of_chars (part_of _ a b)
slice_not (Value-F.List vs) (Value-F.Int a) (Value-F.Int b) = sliced_not Value _ (part_of vs a b)
slice_not x y z = wrong_not Value f.Slice

reverse_not : (x : Value-F Value) → NotFuel (reverse_in x)
reverse_not (Value-F.Text t) = tt
reverse_not (Value-F.List vs) = tt
reverse_not x = wrong_not Value f.Reverse

sort_not : (x : Value-F Value) → NotFuel (sort_in x)
sort_not (Value-F.List vs) = tt
sort_not x = wrong_not Value f.Sort

keys_not : (x : Value-F Value) → NotFuel (keys_in x)
keys_not (Value-F.Rec fs) = tt
keys_not x = wrong_not Value f.Keys

values_not : (x : Value-F Value) → NotFuel (values_in x)
values_not (Value-F.Rec fs) = tt
values_not x = wrong_not Value f.Values

has_not : (x y : Value-F Value) → NotFuel (has_in x y)
has_not (Value-F.Rec fs) (Value-F.Text t) = tt
has_not x y = wrong_not Value f.Has

numeral_not : (n : Option ℤ) → NotFuel (numerals.int_value n)
numeral_not None = range_not Value f.Int
numeral_not (Some n) = tt

int_not : (x : Value-F Value) → NotFuel (numerals.int_in_text x)
int_not (Value-F.Text t) = numeral_not (numerals.int_within (numerals.spelled t))
int_not x = wrong_not Value f.Int

split_not : (x y : Value-F Value) → NotFuel (split_in x y)
split_not (Value-F.Text t) (Value-F.Text u) = if_not Value (length u == 0) (out_of_range f.Split) (Ok (texts_value (parts u t))) (range_not Value f.Split) tt
split_not x y = wrong_not Value f.Split

text_not : (x : Value-F Value) → NotFuel (text_in x)
text_not (Value-F.Text t) = tt
text_not x = wrong_not (List ℕ) f.Join

texts_not : (vs : List Value) → NotFuel (texts_of vs)
texts_not [] = tt
texts_not (v ∷ vs) =
    then_not (List ℕ) (List (List ℕ)) (text_in (out-Value v)) (λ t. and_then (texts_of vs) (λ ts. Ok (t ∷ ts))) (text_not (out-Value v))
    (λ t. then_not (List (List ℕ)) (List (List ℕ)) (texts_of vs) (λ ts. Ok (t ∷ ts)) (texts_not vs) (λ ts. tt))

join_not : (x y : Value-F Value) → NotFuel (join_in x y)
join_not (Value-F.List vs) (Value-F.Text separator) = then_not (List (List ℕ)) Value (texts_of vs) (λ ts. Ok (V.Text (joined separator ts))) (texts_not vs) (λ ts. tt)
join_not x y = wrong_not Value f.Join

-- the error of a call isn't want of fuel
pub called_not : (function : Function) (vs : List Value) → NotFuel (called function vs)
unfolding called
called_not f.Len (v ∷ []) = len_not (out-Value v)
called_not f.Sum (v ∷ []) = sum_not (out-Value v)
called_not f.Min (v ∷ []) = extreme_not f.Min is_below (out-Value v)
called_not f.Max (v ∷ []) = extreme_not f.Max is_above (out-Value v)
called_not f.Abs (v ∷ []) = abs_not (out-Value v)
called_not f.Range (v ∷ w ∷ []) = range_of_not (out-Value v) (out-Value w)
called_not f.Slice (v ∷ w ∷ u ∷ []) = slice_not (out-Value v) (out-Value w) (out-Value u)
called_not f.Reverse (v ∷ []) = reverse_not (out-Value v)
called_not f.Sort (v ∷ []) = sort_not (out-Value v)
called_not f.Keys (v ∷ []) = keys_not (out-Value v)
called_not f.Values (v ∷ []) = values_not (out-Value v)
called_not f.Has (v ∷ w ∷ []) = has_not (out-Value v) (out-Value w)
called_not f.Text (v ∷ []) = tt
called_not f.Int (v ∷ []) = int_not (out-Value v)
called_not f.Split (v ∷ w ∷ []) = split_not (out-Value v) (out-Value w)
called_not f.Join (v ∷ w ∷ []) = join_not (out-Value v) (out-Value w)
called_not function vs = wrong_not Value function

-- a call with another number of arguments than the function has
pub wrong_count : (function : Function) (vs : List Value) → (length vs ≢ arity function) → called function vs ≡ wrong_kind function
unfolding called
wrong_count f.Len (v ∷ []) h = absurd (h refl)
wrong_count f.Sum (v ∷ []) h = absurd (h refl)
wrong_count f.Min (v ∷ []) h = absurd (h refl)
wrong_count f.Max (v ∷ []) h = absurd (h refl)
wrong_count f.Abs (v ∷ []) h = absurd (h refl)
wrong_count f.Range (v ∷ w ∷ []) h = absurd (h refl)
wrong_count f.Slice (v ∷ w ∷ u ∷ []) h = absurd (h refl)
wrong_count f.Reverse (v ∷ []) h = absurd (h refl)
wrong_count f.Sort (v ∷ []) h = absurd (h refl)
wrong_count f.Keys (v ∷ []) h = absurd (h refl)
wrong_count f.Values (v ∷ []) h = absurd (h refl)
wrong_count f.Has (v ∷ w ∷ []) h = absurd (h refl)
wrong_count f.Text (v ∷ []) h = absurd (h refl)
wrong_count f.Int (v ∷ []) h = absurd (h refl)
wrong_count f.Split (v ∷ w ∷ []) h = absurd (h refl)
wrong_count f.Join (v ∷ w ∷ []) h = absurd (h refl)
wrong_count function vs h = refl

-- ---- calls with their charge

abbrev err_of : {X : Type 0} → CellError → Called X → CellError
err_of other (Ok x) = other
err_of other (Err e) = e

unpaid_other : (k : ErrorKind) (s : State) → k ≢ OutOfFuel → unpaid k s ≡ s
unpaid_other OutOfFuel s h = absurd (h refl)
unpaid_other k s h = refl

module _ (s : State) (e : CellError) where
  at_charge : (v : Value) (b : Bool) → nat_lt s.fuel (1 + size v) ≡ b → (if b then failed OutOfFuel [] else Ok v) ≡ Err e → done v s ≡ (Err (Failed e), unpaid e.kind s)
  at_charge v true eq q =
      let is : error OutOfFuel [] ≡ e = ap (λ r. err_of e r) q in
      rw eq (ap (λ (x : CellError). (Err (Failed x), unpaid x.kind s)) is)
  at_charge v false eq q = absurd (cc)

  of_called : (r : Called Value) → NotFuel r → and_then r (afforded s.fuel) ≡ Err e → (lift r >>= done) s ≡ (Err (Failed e), unpaid e.kind s)
  of_called (Ok v) h q = at_charge v (nat_lt s.fuel (1 + size v)) refl q
  of_called (Err d) h q =
      let is : d ≡ e = ap (λ r. err_of e r) q in
      ap (λ (x : State). (Err (Failed d), x)) (sym (unpaid_other d.kind s h)) ∙ ap (λ (x : CellError). (Err (Failed x), unpaid x.kind s)) is

-- an error, and where it is want of fuel the charge that failed
pub call_stops : (function : Function) (vs : List Value) (s : State) (e : CellError) → applied function vs s.fuel ≡ Err e → call function vs s ≡ (Err (Failed e), unpaid e.kind s)
call_stops function vs s e q = of_called s e (called function vs) (called_not function vs) q

pub call_wrong : (function : Function) (vs : List Value) (s : State) → length vs ≢ arity function → call function vs s ≡ (Err (Failed (error WrongKind (function_name function))), s)
call_wrong function vs s h = ap (λ (r : Called Value). (lift r >>= done) s) (wrong_count function vs h)
