-- The characters of tokens, by their bytes. All of them are ASCII.
use Rattle.std.specs.Prelude.{ℕ, ◌==◌, Bool, false, ◌&&◌, ◌||◌, List, [], ◌∷◌, nat_lt}

abbrev pub is_digit : ℕ → Bool
is_digit b = nat_lt 47 b && nat_lt b 58

-- an ASCII letter, `_` or `$`
abbrev pub is_letter : ℕ → Bool
is_letter b = (nat_lt 96 b && nat_lt b 123) || (nat_lt 64 b && nat_lt b 91) || (b == 95) || (b == 36)

abbrev pub is_in_name : ℕ → Bool
is_in_name b = is_letter b || is_digit b

abbrev pub is_quote : ℕ → Bool
is_quote b = b == 34

-- a space, a tab, a line feed or a carriage return
abbrev pub is_gap : ℕ → Bool
is_gap b = (b == 32) || (b == 9) || (b == 10) || (b == 13)

-- whether the first byte is such a one
abbrev pub begins : (ℕ → Bool) → List ℕ → Bool
begins p [] = false
begins p (b ∷ bs) = p b
