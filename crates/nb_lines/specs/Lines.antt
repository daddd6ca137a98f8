-- The input: its lines, the first one that is bad, and what the lines say where none is.
use Rattle.std.specs.Prelude.{◌≡◌, ℕ, ◌-◌, ◌==◌, Bool, not, ◌||◌, List, [], ◌∷◌, ◌++◌, length, map, filter, take, get_or, Option, Some, None, option_map, Result, Ok, Err, if◌then◌else◌, ⊤}
use Rattle.std.specs.List.{slice_split, enumerate_from, filter_map, list_all}
use Rattle.nb_log.specs.declared.event.Event.{Event}
use Rattle.nb_lines.specs.declared.script.ScriptLine.{ScriptLine}
use Rattle.nb_lines.specs.declared.script.BadReason.{BadReason}
use Rattle.nb_lines.specs.declared.script.LineFail.{LineFail}
use Rattle.nb_lines.specs.declared.script.LineFail.TheVariants.{Bad, Memory}
use Rattle.nb_lines.specs.Reasons.{Fault, Tells, first_of, as_plain, too_many_lines, too_long, line_fault}
use Rattle.nb_lines.specs.Says.{script_of}

-- a text, cut at its line feeds
abbrev pub lines : List ℕ → List (List ℕ)
lines bytes = slice_split (λ b. b == 10) bytes

-- a line feed at the very end opens no further line
abbrev pub without_last_feed : List ℕ → List ℕ
without_last_feed bytes = if get_or bytes (length bytes - 1) 0 == 10 then take (length bytes - 1) bytes else bytes

-- the lines from this one on, which has the number n
abbrev pub numbered : ℕ → List (List ℕ) → List (ℕ × List ℕ)
numbered n ls = enumerate_from n ls

abbrev pub input_lines : List ℕ → List (ℕ × List ℕ)
input_lines bytes = numbered 1 (lines (without_last_feed bytes))

-- spaces, tabs and carriage returns alone
abbrev pub is_blank : List ℕ → Bool
is_blank line = list_all (λ b. (b == 32) || (b == 9) || (b == 13)) line

-- a blank line has no fault of its own, but the limits of the input hold for it
abbrev pub own_fault : List ℕ → Option Fault
own_fault line = if is_blank line then None else line_fault line

-- why a line with this number is bad, if it is
unfoldable pub fault_of : ℕ × List ℕ → Option Fault
fault_of p = first_of (as_plain (too_many_lines p.0) ∷ as_plain (too_long p.1) ∷ own_fault p.1 ∷ [])

-- a fault with its line's number
abbrev pub placed_fault : ℕ × List ℕ → Option (ℕ × Fault)
placed_fault p = option_map (λ f. (p.0, f)) (fault_of p)

-- the first bad line, and its first fault
abbrev pub first_among : List (ℕ × List ℕ) → Option (ℕ × Fault)
first_among ls = first_of (map placed_fault ls)

-- what a line says: nothing, where it is blank
unfoldable pub line_script : List ℕ → Option ScriptLine
line_script line = if is_blank line then None else script_of line

abbrev pub said : List (ℕ × List ℕ) → List ScriptLine
said ls = filter_map (λ p. line_script p.1) ls

-- the first bad line of an input, with its first fault
unfoldable pub first_bad : List ℕ → Option (ℕ × Fault)
first_bad bytes = first_among (input_lines bytes)

-- what the lines of an input say, in their order
unfoldable pub scripts : List ℕ → List ScriptLine
scripts bytes = said (input_lines bytes)

-- this line is the first bad one, for this reason
abbrev pub IsBad : Option (ℕ × Fault) → ℕ → BadReason → Type 0
IsBad bad line reason = (f : Fault) × (bad ≡ Some (line, f)) × Tells f reason

-- what is read is all that the lines say, where none is bad; else the first bad line comes, with its first reason; memory may run out
abbrev pub Reads : Option (ℕ × Fault) → List ScriptLine → Result (List ScriptLine) LineFail → Type 0
Reads bad all (Ok s) = (bad ≡ None) × (s ≡ all)
Reads bad all (Err (Bad line reason)) = IsBad bad line reason
Reads bad all (Err Memory) = ⊤

abbrev pub ReadsLines : List ℕ → Result (List ScriptLine) LineFail → Type 0
ReadsLines bytes result = Reads (first_bad bytes) (scripts bytes) result

-- what holds of a call's answer, unless memory ran out
abbrev pub UnlessMemory : {X : Type 0} → Result X LineFail → Type 0 → Type 0
UnlessMemory (Err Memory) claim = ⊤
UnlessMemory _ claim = claim

-- each line's editor and event
abbrev pub script_lines : List ScriptLine → List (ℕ × Event)
script_lines = map (λ s. (s.editor, s.event))

-- the numbers of the lines that aren't blank
abbrev pub numbers : List (ℕ × List ℕ) → List ℕ
numbers ls = map (λ p. p.0) (filter (λ p. not (is_blank p.1)) ls)

-- the number of the line that is the script at this place, where the first is at 0
unfoldable pub line_number : List ℕ → ℕ → ℕ
line_number bytes place = get_or (numbers (input_lines bytes)) place 0

-- what a line adds that has the number n
abbrev pub AddsLine : ℕ → List ℕ → List ScriptLine → List ScriptLine → Result ⊤ LineFail → Type 0
AddsLine n line old new (Ok _) = (placed_fault (n, line) ≡ None) × (new ≡ old ++ said ((n, line) ∷ []))
AddsLine n line old new (Err (Bad k reason)) = IsBad (placed_fault (n, line)) k reason
AddsLine n line old new (Err Memory) = ⊤
