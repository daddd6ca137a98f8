-- The loaders of a document, and its builtins.
use Rattle.std.specs.Prelude.{ℕ, suc, ◌+◌, ◌<◌, ◌≢◌, ◌&&◌, Bool, List, [], ◌∷◌, ◌++◌, length, All, AllPairs, Option, Some, None, is_some, option_map, option_and_then, unwrap_or, nat_le, if◌then◌else◌}
use Rattle.std.specs.Option.{option_or}
use Rattle.std.specs.List.{list_any}
use Rattle.std.specs.Str.{bytes_eq}
use Rattle.std.specs.Fmt.{decimal}
use Rattle.serde_json.specs.Data.{Data, Items, no_items, item, Members, no_members, member}
use Rattle.serde_json.specs.Find.{get, as_array, as_object, as_str}
use Rattle.nb_value.specs.declared.pairs.Field.{Field as Pair}
use Rattle.nb_value.specs.declared.value.Value.{Value}
use Rattle.nb_value.specs.Json.{fields_of}
use Rattle.nb_lexer.specs.Spelling.{is_name}
use Rattle.nb_lines.specs.Fields.{value_in}
use Rattle.nb_doc.specs.declared.document.Loader.{Loader}
use Rattle.nb_doc.specs.declared.form.Field.TheVariants as field
use Rattle.nb_doc.specs.declared.reason.DocReason.TheVariants.{WrongField, TwoLoaders}
use Rattle.nb_doc.specs.Faults.{Fault, here, in_part, fault_if, wrong_unless}
use Rattle.nb_doc.specs.Forms.{Row, needs, field_name, object_fault}
use Rattle.nb_doc.specs.Items.{count, array_case, each_fault, each_of}

-- ---- the words of a program

-- a text that isn't empty
abbrev pub word_in : Data → Option (List ℕ)
word_in d = option_and_then (λ t. if nat_le 1 (length t) then Some t else None) (as_str d)

abbrev pub word_fault : Data → Option Fault
word_fault d = wrong_unless (is_some (word_in d))

abbrev pub most_words : ℕ
most_words = 16

abbrev pub words_fault : Items → Option Fault
words_fault ds = if nat_le 1 (count ds) && nat_le (count ds) most_words then each_fault word_fault 0 ds else Some (here WrongField)

abbrev pub argv_fault : Data → Option Fault
argv_fault d = array_case words_fault (as_array d)

abbrev pub argv_in : Data → Option (List (List ℕ))
argv_in d = option_and_then (each_of word_in) (as_array d)

-- ---- loaders, beside the keys of those before

abbrev pub has_key : List (List ℕ) → List ℕ → Bool
has_key keys k = list_any (bytes_eq k) keys

abbrev pub key_case : List (List ℕ) → Option (List ℕ) → Option Fault
key_case keys None = Some (here WrongField)
key_case keys (Some k) = fault_if (has_key keys k) TwoLoaders

abbrev pub key_fault : List (List ℕ) → Data → Option Fault
key_fault keys d = key_case keys (as_str d)

abbrev pub loader_rows : List (List ℕ) → List Row
loader_rows keys = needs field.Key (key_fault keys) ∷ needs field.Argv argv_fault ∷ []

unfoldable pub loader_fault : List (List ℕ) → Data → Option Fault
loader_fault keys d = object_fault (loader_rows keys) d

abbrev pub key_at : Data → Option (List ℕ)
key_at d = option_and_then as_str (get (field_name field.Key) d)

abbrev pub argv_at : Data → Option (List (List ℕ))
argv_at d = option_and_then argv_in (get (field_name field.Argv) d)

abbrev pub loader : List ℕ → List (List ℕ) → Loader
loader k words = record { key = k; argv = words }

unfoldable pub loader_of : Data → Option Loader
loader_of d = option_and_then (λ k. option_map (loader k) (argv_at d)) (key_at d)

-- the keys with that of this loader
unfoldable pub with_key : List (List ℕ) → Data → List (List ℕ)
with_key keys d = keys ++ unwrap_or (key_at d) [] ∷ []

abbrev pub loaders_fault_from : List (List ℕ) → ℕ → Items → Option Fault
loaders_fault_from keys k no_items = None
loaders_fault_from keys k (item d ds) = option_or (in_part (decimal k) (loader_fault keys d)) (loaders_fault_from (with_key keys d) (k + 1) ds)

abbrev pub loaders_fault : Data → Option Fault
loaders_fault d = array_case (loaders_fault_from [] 0) (as_array d)

abbrev pub loaders_in : Data → Option (List Loader)
loaders_in d = option_and_then (each_of loader_of) (as_array d)

-- ---- builtins: names with values within the limits

abbrev pub member_fault : List ℕ → Data → Option Fault
member_fault k d = in_part k (wrong_unless (is_name k && is_some (value_in d)))

abbrev pub members_fault : Members → Option Fault
members_fault no_members = None
members_fault (member k d ms) = option_or (member_fault k d) (members_fault ms)

abbrev pub member_count : Members → ℕ
member_count no_members = 0
member_count (member k d ms) = suc (member_count ms)

abbrev pub most_builtins : ℕ
most_builtins = 65536

abbrev pub few_members_fault : Option Members → Option Fault
few_members_fault None = Some (here WrongField)
few_members_fault (Some ms) = if nat_le (member_count ms) most_builtins then members_fault ms else Some (here WrongField)

abbrev pub builtins_fault : Data → Option Fault
builtins_fault d = few_members_fault (as_object d)

abbrev pub builtins_in : Data → Option (List (Pair Value))
builtins_in d = option_and_then fields_of (as_object d)

-- none, where the document has no such field
abbrev pub loaders_of : Data → List Loader
loaders_of d = unwrap_or (option_and_then loaders_in (get (field_name field.Loaders) d)) []

abbrev pub builtins_of : Data → List (Pair Value)
builtins_of d = unwrap_or (option_and_then builtins_in (get (field_name field.Builtins) d)) []

-- ---- what holds of the loaders of a document

-- no two have one key
abbrev pub HasDistinctKeys : List Loader → Type 0
HasDistinctKeys loaders = AllPairs (λ (l m : Loader). l.key ≢ m.key) loaders

-- each program has a word at least, which is its name
abbrev pub HasWords : List Loader → Type 0
HasWords loaders = All (λ (l : Loader). 0 < length l.argv) loaders
