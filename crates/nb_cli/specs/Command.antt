-- The words that are a command.
use Rattle.std.specs.Prelude.{◌≡◌, ℕ, ◌==◌, ◌&&◌, ◌||◌, Bool, true, false, not, nat_le, List, [], ◌∷◌, codes, Option, Some, None}
use Rattle.std.specs.Prelude.{Result, Ok, Err, if◌then◌else◌, option_map, option_and_then}
use Rattle.std.specs.List.{list_all}
use Rattle.std.specs.Char.{is_ascii_digit}
use Rattle.std.specs.Str.{bytes_eq}
use Rattle.std.specs.Str.Parse.{digits_value}
use Rattle.nb_cli.specs.declared.command.Command.{Command}
use Rattle.nb_cli.specs.declared.command.Command.TheVariants.{Run, Workers, Make, Upgrade}
use Rattle.nb_cli.specs.declared.command.WordsFail.{WordsFail}
use Rattle.nb_cli.specs.declared.command.WordsFail.TheVariants.{Usage, Memory}

abbrev pub Text : Type 0
Text = List ℕ

-- the text is no word where it is empty or begins with a hyphen (45)
abbrev pub is_word : Text → Bool
is_word [] = false
is_word (byte ∷ bytes) = not (byte == 45)

-- a digit 1 to 9 (49 to 57) and digits after it
abbrev pub is_positive : Text → Bool
is_positive [] = false
is_positive (digit ∷ digits) = nat_le 49 digit && nat_le digit 57 && list_all is_ascii_digit digits

-- `0`, or such digits
abbrev pub is_number : Text → Bool
is_number text = bytes_eq text (codes "0") || is_positive text

-- a number from least to most
abbrev pub within : ℕ → ℕ → Option ℕ → Option ℕ
within least most None = None
within least most (Some value) = if nat_le least value && nat_le value most then Some value else None

-- the number that the text is, where it is one from least to most
abbrev pub number : ℕ → ℕ → Text → Option ℕ
number least most text =
    let value = digits_value 10 text in
    if is_number text && (nat_le least value && nat_le value most) then Some value else None

-- the command of the words behind each name

abbrev pub run : List Text → Option Command
run [] = Some (Run None)
run (file ∷ []) = Some (Run (Some file))
run _ = None

-- 1 to 16 workers, and a file or none
abbrev pub workers : List Text → Option Command
workers (count ∷ []) = option_map (λ n. Workers n None) (number 1 16 count)
workers (count ∷ file ∷ []) = option_map (λ n. Workers n (Some file)) (number 1 16 count)
workers _ = None

-- a count of 1 to 1,000 and any seed below 2 ^ 32
abbrev pub make : List Text → Option Command
make (count ∷ seed ∷ []) = option_and_then (λ n. option_map (Make n) (number 0 4294967295 seed)) (number 1 1000 count)
make _ = None

abbrev pub upgrade : List Text → Option Command
upgrade (file ∷ []) = Some (Upgrade file)
upgrade _ = None

abbrev pub named : List Text → Option Command
named [] = None
named (name ∷ rest) =
    if bytes_eq name (codes "run") then run rest
    else if bytes_eq name (codes "workers") then workers rest
    else if bytes_eq name (codes "make") then make rest
    else if bytes_eq name (codes "upgrade") then upgrade rest
    else None

-- the command of the words after the program's name, or none
abbrev pub command : List Text → Option Command
command words = if list_all is_word words then named words else None

-- the words were read, up to want of memory
abbrev pub Reads : Option Command → Result Command WordsFail → Type 0
Reads wanted (Ok found) = wanted ≡ Some found
Reads wanted (Err Usage) = wanted ≡ None
Reads wanted (Err Memory) = Unit {0}
