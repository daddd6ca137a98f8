-- The log as it is printed: each entry is a value, whose compact JSON is its line.
use Rattle.std.specs.Prelude.{ℕ, List, [], ◌∷◌, ◌++◌, map, codes, pos, Option, Some, None}
use Rattle.nb_value.specs.declared.value.Value.{Value}
use Rattle.nb_value.specs.declared.value.Value.TheVariants as V
use Rattle.nb_value.specs.declared.pairs.Field.{Field}
use Rattle.nb_value.specs.declared.outcome.CellError.{CellError}
use Rattle.nb_value.specs.declared.outcome.ErrorKind.{ErrorKind}
use Rattle.nb_value.specs.declared.outcome.ErrorKind.TheVariants as kind
use Rattle.nb_value.specs.declared.outcome.Outcome.{Outcome}
use Rattle.nb_value.specs.declared.outcome.Outcome.TheVariants.{Value as Shows, Error as Fails}
use Rattle.nb_value.specs.declared.outcome.Answer.{Answer}
use Rattle.nb_value.specs.declared.outcome.Answer.TheVariants.{Value as Given, Failure}
use Rattle.nb_value.specs.Value.{size}
use Rattle.nb_value.specs.Json.{json_text}
use Rattle.nb_syntax.specs.Print.{cell_text}
use Rattle.nb_sheet.specs.declared.edit.Edit.{Edit}
use Rattle.nb_sheet.specs.declared.edit.Edit.TheVariants.{AddModule, AddVariable, AddCell, Define, Import, Delete, Redefine, Derive}
use Rattle.nb_sheet.specs.declared.edit.Specifier.{Specifier}
use Rattle.nb_log.specs.declared.event.Target.{Target}
use Rattle.nb_log.specs.declared.event.Target.TheVariants.{Ticket, Key}
use Rattle.nb_log.specs.declared.event.Event.{Event}
use Rattle.nb_log.specs.declared.event.Event.TheVariants as event
use Rattle.nb_log.specs.declared.entry.Refusal.{Refusal}
use Rattle.nb_log.specs.declared.entry.Refusal.TheVariants as refusal
use Rattle.nb_log.specs.declared.entry.Entry.{Entry}
use Rattle.nb_log.specs.declared.entry.Entry.TheVariants.{Edit as EditEntry, Frame, Settled, Late, Loaded, Refused, Rest, Dispose, Pending, Fulfilled, Rejected, Asked, Ended, Left}

abbrev pub Name : Type 0
Name = List ℕ

abbrev pub number : ℕ → Value
number n = V.Int (pos n)

abbrev pub field : Name → Value → Field Value
field name value = record { name = name; value = value }

-- a name, or null
abbrev pub text_or_null : Option Name → Value
text_or_null None = V.Null
text_or_null (Some t) = V.Text t

-- ---- what a line said: its canonical object, the fields in byte order

abbrev pub answer_field : Answer → Field Value
answer_field (Given x) = field (codes "value") x
answer_field (Failure t) = field (codes "error") (V.Text t)

abbrev pub specifier_object : Specifier → Value
specifier_object s = V.Rec (field (codes "alias") (V.Text s.alias) ∷ field (codes "name") (V.Text s.name) ∷ [])

abbrev pub edit_object : Edit → Value
edit_object AddModule = V.Rec (field (codes "do") (V.Text (codes "module")) ∷ [])
edit_object (AddVariable m observed) =
    V.Rec (field (codes "do") (V.Text (codes "variable")) ∷ field (codes "module") (number m) ∷ field (codes "observed") (V.Bool observed) ∷ [])
edit_object (AddCell m cell observed) =
    V.Rec (field (codes "cell") (V.Text (cell_text cell)) ∷ field (codes "do") (V.Text (codes "cell")) ∷ field (codes "module") (number m) ∷ field (codes "observed") (V.Bool observed) ∷ [])
edit_object (Define v cell) =
    V.Rec (field (codes "cell") (V.Text (cell_text cell)) ∷ field (codes "do") (V.Text (codes "define")) ∷ field (codes "variable") (number v) ∷ [])
edit_object (Import v name alias from) =
    V.Rec (field (codes "alias") (V.Text alias) ∷ field (codes "do") (V.Text (codes "import")) ∷ field (codes "from") (number from) ∷ field (codes "name") (V.Text name) ∷ field (codes "variable") (number v) ∷ [])
edit_object (Delete v) = V.Rec (field (codes "do") (V.Text (codes "delete")) ∷ field (codes "variable") (number v) ∷ [])
edit_object (Redefine m cell) =
    V.Rec (field (codes "cell") (V.Text (cell_text cell)) ∷ field (codes "do") (V.Text (codes "redefine")) ∷ field (codes "module") (number m) ∷ [])
edit_object (Derive m specifiers source) =
    V.Rec (field (codes "do") (V.Text (codes "derive")) ∷ field (codes "module") (number m) ∷ field (codes "source") (number source) ∷ field (codes "with") (V.List (map specifier_object specifiers)) ∷ [])

abbrev pub settle_fields : Target → Answer → List (Field Value)
settle_fields (Ticket t) (Given x) = field (codes "do") (V.Text (codes "settle")) ∷ field (codes "ticket") (number t) ∷ field (codes "value") x ∷ []
settle_fields (Ticket t) (Failure e) = field (codes "do") (V.Text (codes "settle")) ∷ field (codes "error") (V.Text e) ∷ field (codes "ticket") (number t) ∷ []
settle_fields (Key k) (Given x) = field (codes "do") (V.Text (codes "settle")) ∷ field (codes "key") (V.Text k) ∷ field (codes "value") x ∷ []
settle_fields (Key k) (Failure e) = field (codes "do") (V.Text (codes "settle")) ∷ field (codes "error") (V.Text e) ∷ field (codes "key") (V.Text k) ∷ []

abbrev pub event_object : Event → Value
event_object (event.Edit edit) = edit_object edit
event_object event.Frame = V.Rec (field (codes "do") (V.Text (codes "frame")) ∷ [])
event_object (event.Settle target answer) = V.Rec (settle_fields target answer)
event_object event.Rest = V.Rec (field (codes "do") (V.Text (codes "rest")) ∷ [])
event_object event.Dispose = V.Rec (field (codes "do") (V.Text (codes "dispose")) ∷ [])

-- ---- names

abbrev pub kind_name : ErrorKind → Name
kind_name kind.NotDefined = codes "NotDefined"
kind_name kind.DefinedTwice = codes "DefinedTwice"
kind_name kind.Circular = codes "Circular"
kind_name kind.WrongKind = codes "WrongKind"
kind_name kind.Overflow = codes "Overflow"
kind_name kind.ZeroDivisor = codes "ZeroDivisor"
kind_name kind.OutOfRange = codes "OutOfRange"
kind_name kind.NoField = codes "NoField"
kind_name kind.Thrown = codes "Thrown"
kind_name kind.FetchFailed = codes "FetchFailed"
kind_name kind.OutOfFuel = codes "OutOfFuel"
kind_name kind.TooLarge = codes "TooLarge"
kind_name kind.TooManyFetches = codes "TooManyFetches"
kind_name kind.Unassigned = codes "Unassigned"

abbrev pub refusal_name : Refusal → Name
refusal_name refusal.NoModule = codes "NoModule"
refusal_name refusal.NoVariable = codes "NoVariable"
refusal_name refusal.TooManyModules = codes "TooManyModules"
refusal_name refusal.TooManyVariables = codes "TooManyVariables"
refusal_name refusal.NotNamed = codes "NotNamed"
refusal_name refusal.NamedTwice = codes "NamedTwice"
refusal_name refusal.Disposed = codes "Disposed"
refusal_name refusal.LogFull = codes "LogFull"
refusal_name refusal.NoTicket = codes "NoTicket"
refusal_name refusal.AlreadySettled = codes "AlreadySettled"
refusal_name refusal.NoAsk = codes "NoAsk"

abbrev pub refusal_number : Refusal → ℕ
refusal_number refusal.NoModule = 1
refusal_number refusal.NoVariable = 2
refusal_number refusal.TooManyModules = 3
refusal_number refusal.TooManyVariables = 4
refusal_number refusal.NotNamed = 5
refusal_number refusal.NamedTwice = 6
refusal_number refusal.Disposed = 20
refusal_number refusal.LogFull = 21
refusal_number refusal.NoTicket = 22
refusal_number refusal.AlreadySettled = 23
refusal_number refusal.NoAsk = 24

-- ---- entries

-- kind, detail, and the input's name or null
abbrev pub error_items : CellError → List Value
error_items e = V.Text (kind_name e.kind) ∷ V.Text e.detail ∷ text_or_null e.via ∷ []

abbrev pub answer_items : Answer → List Value
answer_items (Given x) = V.Text (codes "value") ∷ x ∷ []
answer_items (Failure t) = V.Text (codes "error") ∷ V.Text t ∷ []

-- the array that an entry prints as
abbrev pub entry_value : Entry → Value
entry_value (EditEntry editor edit) = V.List (V.Text (codes "edit") ∷ number editor ∷ edit_object edit ∷ [])
entry_value (Frame editor) = V.List (V.Text (codes "frame") ∷ number editor ∷ [])
entry_value (Settled editor t a) = V.List (V.Text (codes "settled") ∷ number editor ∷ number t ∷ answer_items a)
entry_value (Late editor t) = V.List (V.Text (codes "late") ∷ number editor ∷ number t ∷ [])
entry_value (Loaded t a) = V.List (V.Text (codes "loaded") ∷ number t ∷ answer_items a)
entry_value (Refused editor reason e) =
    V.List (V.Text (codes "refused") ∷ number editor ∷ number (refusal_number reason) ∷ V.Text (refusal_name reason) ∷ event_object e ∷ [])
entry_value (Rest editor) = V.List (V.Text (codes "rest") ∷ number editor ∷ [])
entry_value (Dispose editor) = V.List (V.Text (codes "dispose") ∷ number editor ∷ [])
entry_value (Pending v d) = V.List (V.Text (codes "pending") ∷ number v ∷ V.List d ∷ [])
entry_value (Fulfilled v x) = V.List (V.Text (codes "fulfilled") ∷ number v ∷ x ∷ [])
entry_value (Rejected v e) = V.List (V.Text (codes "rejected") ∷ number v ∷ error_items e)
entry_value (Asked v t key) = V.List (V.Text (codes "asked") ∷ number v ∷ number t ∷ V.Text key ∷ [])
entry_value (Ended v) = V.List (V.Text (codes "ended") ∷ number v ∷ [])
entry_value (Left v d) = V.List (V.Text (codes "left") ∷ number v ∷ V.List d ∷ [])

-- the size of that array
unfoldable pub entry_size : Entry → ℕ
entry_size e = size (entry_value e)

-- a value on a line of its own
abbrev pub line_text : Value → List ℕ
line_text v = json_text v ++ 10 ∷ []

abbrev pub lines_text : List Value → List ℕ
lines_text [] = []
lines_text (v ∷ vs) = line_text v ++ lines_text vs

-- the lines of the entries
abbrev pub entries_text : List Entry → List ℕ
entries_text [] = []
entries_text (e ∷ es) = line_text (entry_value e) ++ entries_text es

-- ---- the table

abbrev pub outcome_items : Option Outcome → List Value
outcome_items (Some (Shows x)) = V.Text (codes "fulfilled") ∷ x ∷ []
outcome_items (Some (Fails e)) = V.Text (codes "rejected") ∷ error_items e
outcome_items None = V.Text (codes "waiting") ∷ []

-- the table line of a variable, with its name and what it shows
abbrev pub table_value : ℕ → Option Name → Option Outcome → Value
table_value v name shown = V.List (V.Text (codes "value") ∷ number v ∷ text_or_null name ∷ outcome_items shown)

-- the last line, with the number of entries
abbrev pub done_value : ℕ → Value
done_value n = V.List (V.Text (codes "done") ∷ number n ∷ [])
