-- What data is as a field of each kind, and the faults of fields.
use Rattle.std.specs.Prelude.{ℕ, Bool, true, not, List, [], ◌∷◌, find, Option, Some, None, is_some, option_map, option_and_then, unwrap_or, nat_le, ◌&&◌, if◌then◌else◌}
use Rattle.std.specs.Option.{option_map_or}
use Rattle.serde_json.specs.Data.{Data, Items, no_items, item, Members, no_members, member}
use Rattle.serde_json.specs.Find.{get, as_array, as_bool, as_number, as_object, as_str, as_u64}
use Rattle.nb_value.specs.declared.value.Value.{Value}
use Rattle.nb_value.specs.Value.{size, depth}
use Rattle.nb_value.specs.Json.{value_of, push_front, max_depth, max_size}
use Rattle.nb_lexer.specs.Spelling.{is_name}
use Rattle.nb_sheet.specs.declared.edit.Specifier.{Specifier}
use Rattle.nb_lines.specs.declared.form.Field.{Field}
use Rattle.nb_lines.specs.declared.form.Field.TheVariants as field
use Rattle.nb_lines.specs.declared.script.BadReason.{BadReason}
use Rattle.nb_lines.specs.declared.script.BadReason.TheVariants.{MissingField, WrongField}
use Rattle.nb_lines.specs.Forms.{Kind, whole, editor, truth, text, name, value, specifiers, Row, field_name, is_among}

-- ---- content

-- up to a greatest number
abbrev pub at_most : ℕ → ℕ → Option ℕ
at_most greatest n = if nat_le n greatest then Some n else None

-- a number that is written as a whole one and isn't negative: not `1.0`, `-0` or `1e0`, which are floats
abbrev pub number_in : Data → Option ℕ
number_in d = option_and_then as_u64 (as_number d)

abbrev pub whole_in : Data → Option ℕ
whole_in d = option_and_then (at_most 4294967295) (number_in d)

abbrev pub editor_in : Data → Option ℕ
editor_in d = option_and_then (at_most 7) (number_in d)

abbrev pub if_name : List ℕ → Option (List ℕ)
if_name t = if is_name t then Some t else None

abbrev pub name_in : Data → Option (List ℕ)
name_in d = option_and_then if_name (as_str d)

abbrev pub if_fits : Value → Option Value
if_fits v = if nat_le (depth v) max_depth && nat_le (size v) max_size then Some v else None

abbrev pub value_in : Data → Option Value
value_in d = option_and_then if_fits (value_of d)

-- the keys of an object, in byte order
abbrev pub member_keys : Members → List (List ℕ)
member_keys no_members = []
member_keys (member k d ms) = k ∷ member_keys ms

abbrev pub keys : Data → List (List ℕ)
keys d = option_map_or member_keys (as_object d) []

-- the first key in byte order that is none of these fields'
abbrev pub unknown_key : List Field → Data → Option (List ℕ)
unknown_key fields d = find (λ k. not (is_among fields k)) (keys d)

-- ---- the specifiers of a derive

-- the alias is the name where there is none
abbrev pub alias_of : Option Data → List ℕ → Option (List ℕ)
alias_of None n = Some n
alias_of (Some d) n = name_in d

abbrev pub specifier : List ℕ → List ℕ → Specifier
specifier n a = record { name = n; alias = a }

abbrev pub named_specifier : Data → List ℕ → Option Specifier
named_specifier d n = option_map (specifier n) (alias_of (get (field_name field.Alias) d) n)

-- an object with a name, perhaps an alias, and nothing else
abbrev pub object_specifier : Data → Option Specifier
object_specifier d =
    if is_some (unknown_key (field.Name ∷ field.Alias ∷ []) d) then None
    else option_and_then (named_specifier d) (option_and_then name_in (get (field_name field.Name) d))

abbrev pub text_specifier : List ℕ → Option Specifier
text_specifier t = option_map (λ n. specifier n n) (if_name t)

abbrev pub specifier_case : Option (List ℕ) → Data → Option Specifier
specifier_case None d = object_specifier d
specifier_case (Some t) d = text_specifier t

-- a name alone stands for itself
unfoldable pub specifier_in : Data → Option Specifier
specifier_in d = specifier_case (as_str d) d

abbrev pub each_specifier : Items → Option (List Specifier)
each_specifier no_items = Some []
each_specifier (item d ds) = option_and_then (λ s. push_front s (each_specifier ds)) (specifier_in d)

abbrev pub specifiers_in : Data → Option (List Specifier)
specifiers_in d = option_and_then each_specifier (as_array d)

-- ---- content by field

abbrev pub is_there : Field → Data → Bool
is_there f d = is_some (get (field_name f) d)

abbrev pub whole_at : Field → Data → Option ℕ
whole_at f d = option_and_then whole_in (get (field_name f) d)

abbrev pub text_at : Field → Data → Option (List ℕ)
text_at f d = option_and_then as_str (get (field_name f) d)

abbrev pub name_at : Field → Data → Option (List ℕ)
name_at f d = option_and_then name_in (get (field_name f) d)

abbrev pub value_at : Field → Data → Option Value
value_at f d = option_and_then value_in (get (field_name f) d)

abbrev pub specifiers_at : Field → Data → Option (List Specifier)
specifiers_at f d = option_and_then specifiers_in (get (field_name f) d)

-- editor 0 where the line names none
abbrev pub editor_of : Data → ℕ
editor_of d = unwrap_or (option_and_then editor_in (get (field_name field.Editor) d)) 0

-- observed where the line doesn't say
abbrev pub observed_of : Data → Bool
observed_of d = unwrap_or (option_and_then as_bool (get (field_name field.Observed) d)) true

-- the name where the line has no alias
abbrev pub alias_or : List ℕ → Data → List ℕ
alias_or n d = unwrap_or (name_at field.Alias d) n

-- ---- faults

abbrev pub has_kind : Kind → Data → Bool
has_kind whole d = is_some (whole_in d)
has_kind editor d = is_some (editor_in d)
has_kind truth d = is_some (as_bool d)
has_kind text d = is_some (as_str d)
has_kind name d = is_some (name_in d)
has_kind value d = is_some (value_in d)
has_kind specifiers d = is_some (specifiers_in d)

-- 7. A field that the line lacks.
abbrev pub missing : Field → Bool → Option BadReason
missing f needed = if needed then Some (MissingField (field_name f)) else None

-- 8. A field of another kind.
abbrev pub wrong : Field → Bool → Option BadReason
wrong f fits = if fits then None else Some (WrongField (field_name f))

abbrev pub field_case : Row → Option Data → Option BadReason
field_case r None = missing r.field r.needed
field_case r (Some d) = wrong r.field (has_kind r.kind d)

-- why a line's field is bad, if it is
unfoldable pub field_reason : Data → Row → Option BadReason
field_reason d r = field_case r (get (field_name r.field) d)
