-- Runs of `left` and `pending` entries, and how often a variable starts: in such a run, and between two external entries.
use Rattle.std.specs.Prelude.{ℕ, ⊤, ◌+◌, ◌≡◌, ◌≤◌, Bool, true, false, cond, ◌==◌, List, [], ◌∷◌, ◌++◌, length}
use Rattle.nb_value.specs.declared.value.Value.{Value}
use Rattle.nb_value.specs.declared.pairs.Field.{Field}
use Rattle.nb_value.specs.declared.outcome.Answer.{Answer}
use Rattle.nb_log.specs.declared.event.Event.{Event}
use Rattle.nb_log.specs.declared.entry.Entry.{Entry}
use Rattle.nb_log.specs.declared.entry.Entry.TheVariants.{Pending, Fulfilled, Rejected, Asked, Ended, Left}
use Rattle.nb_sheet.specs.Lists.{Name}
use Rattle.nb_history.specs.Reading.{Reading}
use Rattle.nb_history.specs.Rules.{pulls_on, due, may_start}
use Rattle.nb_history.specs.Log.{reading, IsLegal, LegalFrom}
use Rattle.nb_history.specs.Serial.{Closes, AreEditors, IsSerial}

-- a `left` or a `pending`
abbrev pub is_closing : Entry → Bool
is_closing (Left v d) = true
is_closing (Pending v d) = true
is_closing e = false

-- entries that are all `left` or `pending`
abbrev pub AllClosing : List Entry → Type 0
AllClosing [] = ⊤
AllClosing (e ∷ es) = (is_closing e ≡ true) × AllClosing es

-- an entry of a variable; every other one is external
abbrev pub is_of_variable : Entry → Bool
is_of_variable (Pending v d) = true
is_of_variable (Fulfilled v x) = true
is_of_variable (Rejected v e) = true
is_of_variable (Asked v t key) = true
is_of_variable (Ended v) = true
is_of_variable (Left v d) = true
is_of_variable e = false

abbrev pub AllOfVariables : List Entry → Type 0
AllOfVariables [] = ⊤
AllOfVariables (e ∷ es) = (is_of_variable e ≡ true) × AllOfVariables es

-- a notice of v: its `asked`, `fulfilled`, `rejected` or `ended`
abbrev pub is_notice_of : ℕ → Entry → Bool
is_notice_of v (Fulfilled u x) = u == v
is_notice_of v (Rejected u d) = u == v
is_notice_of v (Asked u t key) = u == v
is_notice_of v (Ended u) = u == v
is_notice_of v e = false

-- v's `pending`
abbrev pub starts : ℕ → Entry → Bool
starts v (Pending u d) = u == v
starts v e = false

-- how often v starts
abbrev pub pending_count : ℕ → List Entry → ℕ
pending_count v [] = 0
pending_count v (e ∷ es) = cond (starts v e) 1 0 + pending_count v es

-- in a run of entries that are all `left` or `pending`, after a legal log, each variable has at most one `pending`
abbrev pub StartsOnce : Type 0
StartsOnce =
    (builtins : List (Field Value)) (log es : List Entry) → IsLegal builtins log → AllClosing es → LegalFrom (reading builtins log) es
    → (v : ℕ) → pending_count v es ≤ 1

-- and it has at most as many entries as there are variables
abbrev pub RunsAreShort : Type 0
RunsAreShort =
    (builtins : List (Field Value)) (log es : List Entry) → IsLegal builtins log → AllClosing es → LegalFrom (reading builtins log) es
    → length es ≤ length (reading builtins log).sheet.rows

-- while anything is due, some due variable may have its `pending`
abbrev pub SomeMayStart : Type 0
SomeMayStart =
    (builtins : List (Field Value)) (log : List Entry) (v : ℕ) → due (reading builtins log) v ≡ true
    → (w : ℕ) × (due (reading builtins log) w ≡ true) × (may_start (reading builtins log) w ≡ true)

-- what closes: it isn't longer than the sheet, and starts each variable at most once
pub record Closed (r : Reading) : Type 0 where
  pub es : List Entry
  pub closes : Closes r es
  pub short : length es ≤ length r.sheet.rows
  pub once : (v : ℕ) → pending_count v es ≤ 1

-- what closes after a log is there: an event starts each variable at most once
abbrev pub ClosesSoon : Type 0
ClosesSoon = (builtins : List (Field Value)) (log : List Entry) → Closed (reading builtins log)

-- between an external entry before which nothing is pulling and the next external entry each variable has at most one `pending`
abbrev pub StartsOnceBetween : Type 0
StartsOnceBetween =
    (builtins : List (Field Value)) (log : List Entry) (e : Entry) (es : List Entry) → IsLegal builtins log → LegalFrom (reading builtins log) (e ∷ es)
    → is_of_variable e ≡ false → pulls_on (reading builtins log) ≡ false → AllOfVariables es → (v : ℕ) → pending_count v es ≤ 1

-- in a serial history nothing is pulling before any external entry
abbrev pub SerialPullsNothing : Type 0
SerialPullsNothing =
    (builtins : List (Field Value)) (keys : List Name) (lines : List (ℕ × Event)) (answers : List Answer) (front : List Entry) (e : Entry) (back : List Entry)
    → AreEditors lines → IsSerial builtins keys lines answers (front ++ e ∷ back)
    → is_of_variable e ≡ false → pulls_on (reading builtins front) ≡ false
