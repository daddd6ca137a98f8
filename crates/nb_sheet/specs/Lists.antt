-- Words on lists whose places are counted from 1, and on what may be there or not.
use Rattle.std.specs.Prelude.{ℕ, zero, suc, ◌+◌, Bool, false, cond, List, [], ◌∷◌, length, Option, Some, None, slice_get, set}
use Rattle.std.specs.List.{range_with_len}
use Rattle.std.specs.Str.{bytes_eq}

-- the v-th, if there is one
abbrev pub nth : {A : Type 0} → List A → ℕ → Option A
nth xs zero = None
nth xs (suc i) = slice_get xs i

-- the list with another v-th element
abbrev pub put : {A : Type 0} → List A → ℕ → A → List A
put xs zero y = xs
put xs (suc i) y = set xs i y

-- the numbers of the elements
abbrev pub numbers : {A : Type 0} → List A → List ℕ
numbers xs = range_with_len 1 (length xs)

-- the numbers of the elements that pass the test
abbrev pub numbers_from : {A : Type 0} → ℕ → (A → Bool) → List A → List ℕ
numbers_from n test [] = []
numbers_from n test (x ∷ xs) = cond (test x) (n ∷ numbers_from (n + 1) test xs) (numbers_from (n + 1) test xs)

abbrev pub numbers_where : {A : Type 0} → (A → Bool) → List A → List ℕ
numbers_where test xs = numbers_from 1 test xs

-- the first of two that is there
abbrev pub or_else : {A : Type 0} → Option A → Option A → Option A
or_else None o = o
or_else (Some x) o = Some x

abbrev pub option_then : {A B : Type 0} → Option A → (A → Option B) → Option B
option_then None f = None
option_then (Some x) f = f x

abbrev pub from_option : {A B : Type 0} → B → (A → B) → Option A → B
from_option y f None = y
from_option y f (Some x) = f x

-- names are texts, as their bytes
abbrev pub Name : Type 0
Name = List ℕ

abbrev pub is_name : Option Name → Name → Bool
is_name None n = false
is_name (Some m) n = bytes_eq m n
