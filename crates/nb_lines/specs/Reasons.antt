-- Why a line is bad: the reasons, each by itself, and their order.
use Rattle.std.specs.Prelude.{◌≡◌, ℕ, Bool, true, false, List, [], ◌∷◌, length, map, Option, Some, None, is_some, is_none, option_map, option_and_then, nat_lt, if◌then◌else◌}
use Rattle.std.specs.Option.{option_or}
use Rattle.std.specs.Str.{is_utf8}
use Rattle.serde_json.specs.Data.{Data}
use Rattle.serde_json.specs.Find.{get, as_object, as_str}
use Rattle.serde_json.specs.Read.{read}
use Rattle.nb_syntax.specs.declared.tree.Cell.{Cell}
use Rattle.nb_parser.specs.declared.error.ParseError.{ParseError}
use Rattle.nb_parser.specs.Text.{cell_of}
use Rattle.nb_parser.specs.Parse.{IsRefused}
use Rattle.nb_lines.specs.declared.form.Form.{Form}
use Rattle.nb_lines.specs.declared.form.Form.TheVariants as form
use Rattle.nb_lines.specs.declared.form.Field.{Field}
use Rattle.nb_lines.specs.declared.form.Field.TheVariants as field
use Rattle.nb_lines.specs.declared.script.BadReason.{BadReason}
use Rattle.nb_lines.specs.declared.script.BadReason.TheVariants.{LineTooLong, TooManyLines, NotJson, NotObject, UnknownDo, UnknownField, MissingField, WrongField, Unnamed, BadCell}
use Rattle.nb_lines.specs.Forms.{whole as whole_kind, editor as editor_kind, text as text_kind, value as value_kind, may, rows, known, form_named, field_name}
use Rattle.nb_lines.specs.Fields.{unknown_key, is_there, text_at, field_reason}

-- Why a line is bad: for a reason that stands by itself, or since this text is no cell.
pub data Fault : Type 0 where
  plain : BadReason → Fault
  no_cell : List ℕ → Fault

-- A fault is told as its reason; where a text is no cell, with what the parser says of the text.
abbrev pub Tells : Fault → BadReason → Type 0
Tells (plain r) reason = reason ≡ r
Tells (no_cell text) reason = (e : ParseError) × (reason ≡ BadCell e) × IsRefused text e

-- the first of several that is there
abbrev pub first_of : {X : Type 0} → List (Option X) → Option X
first_of [] = None
first_of (x ∷ xs) = option_or x (first_of xs)

abbrev pub reason_if : Bool → BadReason → Option BadReason
reason_if b r = if b then Some r else None

-- ---- each reason by itself

abbrev pub most_lines : ℕ
most_lines = 65536

abbrev pub longest_line : ℕ
longest_line = 65536

-- 2
abbrev pub too_many_lines : ℕ → Option BadReason
too_many_lines number = reason_if (nat_lt most_lines number) TooManyLines

-- 1
abbrev pub too_long : List ℕ → Option BadReason
too_long line = reason_if (nat_lt longest_line (length line)) LineTooLong

-- the data that a line is as JSON, if it is UTF-8 and JSON
unfoldable pub line_data : List ℕ → Option Data
line_data line = if is_utf8 line then read line else None

-- 3
abbrev pub not_json : List ℕ → Option BadReason
not_json line = reason_if (is_none (line_data line)) NotJson

-- 4
abbrev pub not_object : Data → Option BadReason
not_object d = reason_if (is_none (as_object d)) NotObject

-- 5, and before it that `do` is missing or no text
abbrev pub do_case : Option Data → Option BadReason
do_case None = Some (MissingField (field_name field.Do))
do_case (Some d) = if is_none (as_str d) then Some (WrongField (field_name field.Do)) else reason_if (is_none (option_and_then form_named (as_str d))) UnknownDo

abbrev pub bad_do : Data → Option BadReason
bad_do d = do_case (get (field_name field.Do) d)

-- 6. The first in byte order of the fields that the form has not.
abbrev pub unknown_field : Form → Data → Option BadReason
unknown_field f d = option_map UnknownField (unknown_key (known f) d)

abbrev pub bad_editor : Data → Option BadReason
bad_editor d = field_reason d (may field.Editor editor_kind)

-- one of two fields is there, and not both
abbrev pub pair_case : Field → Field → Bool → Bool → Option BadReason
pair_case f g false false = Some (MissingField (field_name f))
pair_case f g true true = Some (WrongField (field_name g))
pair_case f g true false = None
pair_case f g false true = None

abbrev pub bad_pair : Field → Field → Data → Option BadReason
bad_pair f g d = pair_case f g (is_there f d) (is_there g d)

-- What stands before the kinds of a settlement's fields: it has a ticket or a key, and a value or an error.
abbrev pub bad_choice : Data → Option BadReason
bad_choice d = first_of (bad_pair field.Ticket field.Key d ∷ bad_pair field.Value field.Error d ∷ [])

abbrev pub form_choice : Form → Data → Option BadReason
form_choice form.Settle d = bad_choice d
form_choice _ d = None

-- the faults of the fields that name a fetch, and of those that settle it
abbrev pub target_reason : Data → Option BadReason
target_reason d = first_of (field_reason d (may field.Ticket whole_kind) ∷ field_reason d (may field.Key text_kind) ∷ [])

abbrev pub answer_reason : Data → Option BadReason
answer_reason d = first_of (field_reason d (may field.Value value_kind) ∷ field_reason d (may field.Error text_kind) ∷ [])

-- 7 and 8, of the form's fields in the table's order
abbrev pub bad_field : Form → Data → Option BadReason
bad_field f d = option_or (form_choice f d) (first_of (map (field_reason d) (rows f)))

-- ---- cells

-- the text of the form's cell
abbrev pub cell_text : Form → Data → Option (List ℕ)
cell_text form.Cell d = text_at field.Cell d
cell_text form.Define d = text_at field.Cell d
cell_text form.Redefine d = text_at field.Cell d
cell_text _ d = None

abbrev pub text_fault : List ℕ → Option Fault
text_fault text = if is_some (cell_of text) then None else Some (no_cell text)

-- 10
abbrev pub bad_cell : Form → Data → Option Fault
bad_cell f d = option_and_then text_fault (cell_text f d)

-- 9
abbrev pub if_unnamed : Cell → Option BadReason
if_unnamed c = if is_some c.name then None else Some Unnamed

abbrev pub unnamed_text : List ℕ → Option BadReason
unnamed_text text = option_and_then if_unnamed (cell_of text)

abbrev pub unnamed : Form → Data → Option BadReason
unnamed form.Redefine d = option_and_then unnamed_text (text_at field.Cell d)
unnamed _ d = None

-- that a text is no cell, and then that its cell has no name
abbrev pub name_fault : List ℕ → Option Fault
name_fault text = first_of (text_fault text ∷ option_map plain (unnamed_text text) ∷ [])

-- ---- the order

abbrev pub as_plain : Option BadReason → Option Fault
as_plain = option_map plain

-- of a line's fields, where its form is known
unfoldable pub event_fault : Form → Data → Option Fault
event_fault f d = first_of (as_plain (bad_field f d) ∷ bad_cell f d ∷ as_plain (unnamed f d) ∷ [])

abbrev pub form_fault : Data → Form → Option Fault
form_fault d f = first_of (as_plain (unknown_field f d) ∷ as_plain (bad_editor d) ∷ event_fault f d ∷ [])

abbrev pub form_of : Data → Option Form
form_of d = option_and_then form_named (text_at field.Do d)

-- of a line that is JSON
unfoldable pub data_fault : Data → Option Fault
data_fault d = first_of (as_plain (not_object d) ∷ as_plain (bad_do d) ∷ option_and_then (form_fault d) (form_of d) ∷ [])

-- of a line within the limits of the input
unfoldable pub line_fault : List ℕ → Option Fault
line_fault line = first_of (as_plain (not_json line) ∷ option_and_then data_fault (line_data line) ∷ [])
