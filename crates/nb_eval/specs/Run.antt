-- The steps of which evaluation is made: each hands on the state, or stops.
use Rattle.std.specs.Prelude.{◌≡◌, ◌≢◌, ◌<◌, ◌≤◌, ℕ, ◌+◌, ◌-◌, ◌*◌, Bool, List, [], ◌∷◌, ◌++◌, length, take, nat_lt, slice_get, slice_set, codes, Option, Some, None, Result, Ok, Err, if◌then◌else◌}
use Rattle.std.specs.Fmt.{take_chars}
use Rattle.nb_value.specs.declared.value.Value.{Value, out-Value}
use Rattle.nb_value.specs.declared.value.Value.TheOpen as value
use Rattle.nb_value.specs.declared.value.Value.TheVariants as V
use Rattle.nb_value.specs.declared.pairs.Field.{Field}
use Rattle.nb_value.specs.declared.outcome.Answer.{Answer}
use Rattle.nb_value.specs.declared.outcome.Answer.TheVariants as answer
use Rattle.nb_value.specs.declared.outcome.CellError.{CellError}
use Rattle.nb_value.specs.declared.outcome.ErrorKind.{ErrorKind}
use Rattle.nb_value.specs.declared.outcome.ErrorKind.TheVariants.{WrongKind, Thrown, FetchFailed, OutOfFuel, TooLarge, TooManyFetches, Unassigned}
use Rattle.nb_value.specs.Value.{size, depth}
use Rattle.nb_value.specs.Fields.{value_at}
use Rattle.nb_value.specs.Json.{json_text}
use Rattle.nb_eval.specs.declared.given.Segment.{Segment}
use Rattle.nb_eval.specs.declared.state.State.{State}
use Rattle.nb_eval.specs.declared.stop.Stop.{Stop}
use Rattle.nb_eval.specs.declared.stop.Stop.TheVariants.{Memory, Paused, Needs, Failed}
use Rattle.nb_eval.specs.Locals.{name_value, place, local_of}

abbrev pub Out : Type 0 → Type 0
Out A = Result A Stop × State

abbrev pub Run : Type 0 → Type 0
Run A = State → Out A

abbrev pub after : {A B : Type 0} → Result A Stop → State → (A → Run B) → Out B
after (Ok a) s f = f a s
after (Err e) s f = (Err e, s)

infixl 10 ◌>>=◌
-- one step and then another, which is given the first one's value; a stop ends both
abbrev pub ◌>>=◌ : {A B : Type 0} → Run A → (A → Run B) → Run B
p >>= f = λ s. after (p s).0 (p s).1 f

infixl 10 ◌>>◌
-- one step and then another
abbrev pub ◌>>◌ : {A B : Type 0} → Run A → Run B → Run B
p >> q = p >>= (λ _. q)

abbrev pub pure : {A : Type 0} → A → Run A
pure a s = (Ok a, s)

abbrev pub stop : {A : Type 0} → Stop → Run A
stop e s = (Err e, s)

-- ---- errors

abbrev pub error : ErrorKind → List ℕ → CellError
error kind detail = record { kind = kind; detail = detail; via = None }

-- a value or an error, whatever the state
abbrev pub Called : Type 0 → Type 0
Called A = Result A CellError

-- an error whose detail is a sign, a word or a function
abbrev pub failed : {A : Type 0} → ErrorKind → List ℕ → Called A
failed kind word = Err (error kind word)

-- an error whose detail is a text of any length: its first 200 characters
abbrev pub failed_with : {A : Type 0} → ErrorKind → List ℕ → Called A
failed_with kind text = failed kind (take_chars 200 text)

abbrev pub settled : {A : Type 0} → Called A → Result A Stop
settled (Ok a) = Ok a
settled (Err e) = Err (Failed e)

-- a step that reads nothing of the state and changes nothing
abbrev pub lift : {A : Type 0} → Called A → Run A
lift r s = (settled r, s)

-- ---- fuel

-- the fuel of a pull
abbrev pub full_fuel : ℕ
full_fuel = 1000000

-- a charge of n takes n from the fuel, and fails where that is more than is left
abbrev pub charge : ℕ → Run (Unit {0})
charge n s =
    if nat_lt s.fuel n
    then (Err (Failed (error OutOfFuel [])), record s { charges = s.charges + 1 })
    else (Ok tt, record s { fuel = s.fuel - n; charges = s.charges + 1 })

-- the charge of a statement, and of a turn of a `for`
abbrev pub tick : Run (Unit {0})
tick = charge 1

-- a node is charged 1 and the size of its value, after its parts and its errors
abbrev pub done : Value → Run Value
done v = charge (1 + size v) >> pure v

-- each charge takes some of this
abbrev pub budget : Segment → State → ℕ
budget given s = s.fuel + (given.pulls - length s.yields) * full_fuel

-- no locals, no answers taken, no yields and no cleanups
abbrev pub start_state : State
start_state = record { fuel = full_fuel; charges = 0; locals = []; taken = 0; fetches = 0; yields = []; cleanups = [] }

-- ---- names

abbrev pub value_or : Value → Option Value → Value
value_or v None = v
value_or v (Some w) = w

abbrev pub local_or : Option (Field Value) → Value → Value
local_or None v = v
local_or (Some l) v = l.value

-- the innermost local, or else the input; a segment has one for each free name
abbrev pub read : Segment → List ℕ → Run Value
read given name s = (Ok (local_or (local_of name s.locals) (value_or V.Null (value_at name given.inputs))), s)

abbrev pub keep : List ℕ → Value → Run (Unit {0})
keep name v s = (Ok tt, record s { locals = s.locals ++ name_value name v ∷ [] })

abbrev pub assign_at : Option ℕ → List ℕ → Value → Run (Unit {0})
assign_at None name v = lift (failed_with Unassigned name)
assign_at (Some at) name v = λ s. (Ok tt, record s { locals = slice_set s.locals at (name_value name v) })

abbrev pub assign : List ℕ → Value → Run (Unit {0})
assign name v s = assign_at (place name s.locals) name v s

abbrev pub cut_to : ℕ → Run (Unit {0})
cut_to len s = (Ok tt, record s { locals = take len s.locals })

-- what is let inside ends with it
abbrev pub scoped : Run (Unit {0}) → Run (Unit {0})
scoped p s = (p >> cut_to (length s.locals)) s

-- ---- kinds

abbrev pub truth_in : List ℕ → value.Value-F Value → Called Bool
truth_in word (value.Bool b) = Ok b
truth_in word _ = failed WrongKind word

abbrev pub truth_of : List ℕ → Value → Called Bool
truth_of word v = truth_in word (out-Value v)

abbrev pub as_truth : List ℕ → Value → Run Bool
as_truth word v = lift (truth_of word v)

abbrev pub items_in : List ℕ → value.Value-F Value → Called (List Value)
items_in word (value.List vs) = Ok vs
items_in word _ = failed WrongKind word

abbrev pub items_of : List ℕ → Value → Called (List Value)
items_of word v = items_in word (out-Value v)

-- a list or a record may be 64 levels deep
abbrev pub within_depth : Value → Called Value
within_depth v = if nat_lt 64 (depth v) then failed TooLarge (codes "depth") else Ok v

-- ---- fetches

abbrev pub value_of : Answer → Called Value
value_of (answer.Value v) = Ok v
value_of (answer.Failure text) = failed_with FetchFailed text

abbrev pub answered : Option Answer → List ℕ → Run Value
answered None key = stop (Needs key)
answered (Some a) key = λ s. (settled (value_of a), record s { taken = s.taken + 1 })

-- the next answer that isn't taken
abbrev pub next_answer : Segment → List ℕ → Run Value
next_answer given key s = answered (slice_get given.answers s.taken) key (record s { fetches = s.fetches + 1 })

abbrev pub ask_text : Segment → List ℕ → Run Value
ask_text given key s =
    if nat_lt 1024 (1 + length key) then (settled (failed TooLarge (codes "fetch")), s)
    else (if nat_lt s.fetches 64 then next_answer given key s else (settled (failed TooManyFetches (codes "fetch")), s))

abbrev pub ask_at : Segment → value.Value-F Value → Run Value
ask_at given (value.Text key) = ask_text given key
ask_at given _ = lift (failed WrongKind (codes "fetch"))

abbrev pub ask : Segment → Value → Run Value
ask given v = ask_at given (out-Value v)

-- ---- yields, cleanups and throws

-- the next pull has full fuel and no fetches yet
abbrev pub go_on : Segment → Run (Unit {0})
go_on given s =
    if nat_lt (length s.yields) given.pulls
    then (Ok tt, record s { fuel = full_fuel; fetches = 0 })
    else (Err Paused, s)

abbrev pub yielded : Segment → Value → Run (Unit {0})
yielded given v s =
    if nat_lt 16384 (size v) then (settled (failed TooLarge (codes "value")), s)
    else go_on given (record s { yields = s.yields ++ v ∷ [] })

abbrev pub cleaned : Value → Run (Unit {0})
cleaned v s =
    if nat_lt 1024 (size v) then (settled (failed TooLarge (codes "cleanup")), s)
    else (if nat_lt (length s.cleanups) 16
    then (Ok tt, record s { cleanups = s.cleanups ++ v ∷ [] })
    else (settled (failed TooLarge (codes "cleanup")), s))

abbrev pub text_or : value.Value-F Value → List ℕ → List ℕ
text_or (value.Text t) other = t
text_or _ other = other

-- a text is thrown as it is, another value as its JSON
abbrev pub thrown : Value → Called (Unit {0})
thrown v = failed_with Thrown (text_or (out-Value v) (json_text v))

-- ---- what a call of the evaluator says

-- what came out is what the definition gives, unless memory ran out
abbrev pub Meets : {A : Type 0} → Result A Stop → State → Out A → Type 0
Meets result new out = result ≢ Err Memory → out ≡ (result, new)

-- the same of a value or an error, whatever the state
abbrev pub Gives : {A : Type 0} → Result A Stop → Called A → Type 0
Gives result r = result ≢ Err Memory → settled r ≡ result

-- there is room for as many charges as may come
abbrev pub HasRoom : Segment → State → Type 0
HasRoom given s = s.charges + budget given s < 0x8000_0000_0000_0000

-- the budget pays for each charge
abbrev pub Spends : Segment → State → State → Type 0
Spends given old new = (old.charges < new.charges) × (new.charges + budget given new ≤ old.charges + budget given old)

-- the same of what may make no charge
abbrev pub SpendsAtMost : Segment → State → State → Type 0
SpendsAtMost given old new = (old.charges ≤ new.charges) × (new.charges + budget given new ≤ old.charges + budget given old)

-- nothing is charged or yielded
abbrev pub Quiet : State → State → Type 0
Quiet old new = (new.charges ≡ old.charges) × (new.fuel ≡ old.fuel) × (new.yields ≡ old.yields)
