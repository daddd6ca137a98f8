-- A document without a fault has no float: none of what its fields may hold has one.
use Rattle.std.proofs.Common.{◌≡◌, ◌≤◌, ℕ, ◌+◌, List, [], ◌∷◌, ◌&&◌, ◌||◌, Bool, true, false, not, map, find, Option, Some, None, is_some, option_map, option_and_then, nat_le, if◌then◌else◌, bytes_eq, codes, refl, sym, ap, ◌∙◌, subst}
use Rattle.std.specs.Option.{option_or}
use Rattle.std.specs.List.{AllByRecursion}
use Rattle.std.specs.Fmt.{decimal}
use Rattle.std.proofs.lemmas.Bool.{and_parts, or_from, true≢false}
use Rattle.std.proofs.lemmas.Option.{none-some, same_Some}
use Rattle.std.proofs.lemmas.Slice.Eq.{bytes_eq-Decides}
use Rattle.serde_json.specs.Data.{unsigned, negative, float, Data, null, boolean, number, string, array, object, Items, no_items, item, Members, no_members, member}
use Rattle.serde_json.specs.Find.{get, get_member, as_array, as_bool, as_number, as_str, as_u64}
use Rattle.serde_json.specs.Written.{has_float, items_have_float, members_have_float}
use Rattle.nb_value.specs.Json.{value_of, values_of, fields_of}
use Rattle.nb_lexer.specs.Spelling.{is_name}
use Rattle.nb_lines.specs.Fields as lines
use Rattle.nb_lines.specs.Forms as line_forms
use Rattle.nb_lines.specs.declared.form.Field.TheVariants as line_field
use Rattle.nb_lines.specs.Fields.{member_keys, number_in, name_in, value_in, specifier_in, each_specifier, specifiers_in}
use Rattle.nb_lines.specs.Reasons.{line_data}
use Rattle.serde_json.specs.Data.{depth}
use Rattle.serde_json.specs.Read.{read}
use Rattle.serde_json.proofs.Nesting.{depth-read}
use Rattle.std.specs.Str.{is_utf8}
use Rattle.nb_doc.specs.declared.around.Around.{Around}
use Rattle.nb_doc.specs.declared.form.Field.{Field}
use Rattle.nb_doc.specs.declared.form.Field.TheVariants as field
use Rattle.nb_doc.specs.declared.reason.DocReason.TheVariants.{WrongField}
use Rattle.nb_doc.specs.Faults.{Fault, here, in_part, first_of}
use Rattle.nb_doc.specs.Forms.{Row, row_field, field_name, is_among, is_there, head_fault, field_case, field_fault, object_fault}
use Rattle.nb_doc.specs.Contents.{name_fault, truth_fault, cell_case, cell_fault, place_of, below, reference_in, reference_fault, with_fault}
use Rattle.nb_doc.specs.Items.{array_case, each_fault, count, cell_rows, import_rows, item_fault, items_fault}
use Rattle.nb_doc.specs.Modules.{own_name_fault, name_case, name_row, next, derived_rows, plain_rows, known, rows_fault, module_fault, modules_fault_from, few_modules_fault, modules_fault, start}
use Rattle.nb_doc.specs.Loading.{word_in, word_fault, words_fault, argv_fault, key_fault, key_case, loader_rows, loader_fault, with_key, loaders_fault_from, loaders_fault, member_fault, members_fault, member_count, builtins_fault}
use Rattle.nb_doc.specs.Documents.{version_in, named_by, version_fault, is_named, document_rows, data_fault}
use Rattle.nb_doc.proofs.Faultless.{no_first, no_second, no_in_part, not_wrong, no_head, HasNone, each_has_none, fields_have_none}
use Rattle.nb_doc.proofs.Order.{AllMembers, all_both, HasOrder, ItemsHaveOrder, all_found, all_have_order, all_known, read_order}

abbrev Has : {X : Type 0} → Option X → Type 0
Has o = is_some o ≡ true

has_first : {A B : Type 0} (f : A → Option B) (o : Option A) → Has (option_and_then f o) → Has o
has_first f None e = e
has_first f (Some a) e = refl

-- ---- data of a kind

number_has_none : (d : Data) → Has (as_number d) → Has (number_in d) → has_float d ≡ false
number_has_none null a e = refl
number_has_none (boolean b) a e = refl
number_has_none (number (unsigned n)) a e = refl
number_has_none (number (negative z)) a e = refl
number_has_none (number (float x)) a e = absurd (true≢false (sym e))
number_has_none (string s) a e = refl
number_has_none (array ds) a e = absurd (true≢false (sym a))
number_has_none (object ms) a e = absurd (true≢false (sym a))

whole_has_none : (d : Data) → Has (number_in d) → has_float d ≡ false
whole_has_none d e = number_has_none d (has_first as_u64 (as_number d) e) e

text_has_none : (d : Data) → Has (as_str d) → has_float d ≡ false
text_has_none null e = refl
text_has_none (boolean b) e = refl
text_has_none (number n) e = absurd (true≢false (sym e))
text_has_none (string s) e = refl
text_has_none (array ds) e = absurd (true≢false (sym e))
text_has_none (object ms) e = absurd (true≢false (sym e))

truth_has_none : (d : Data) → Has (as_bool d) → has_float d ≡ false
truth_has_none null e = refl
truth_has_none (boolean b) e = refl
truth_has_none (number n) e = absurd (true≢false (sym e))
truth_has_none (string s) e = refl
truth_has_none (array ds) e = absurd (true≢false (sym e))
truth_has_none (object ms) e = absurd (true≢false (sym e))

map_has : {A B : Type 0} (f : A → B) (o : Option A) → Has (option_map f o) → Has o
map_has f None e = e
map_has f (Some a) e = refl

-- where two come one after the other
both_have : {A B C : Type 0} (f : A → B → C) (o : Option A) (p : Option B) → Has (option_and_then (λ a. option_map (f a) p) o) → Has o × Has p
both_have f None p e = absurd (true≢false (sym e))
both_have f (Some a) p e = (refl, map_has (f a) p e)

mutual
  value_has_none : (d : Data) → Has (value_of d) → has_float d ≡ false
  value_has_none null e = refl
  value_has_none (boolean b) e = refl
  value_has_none (number (unsigned n)) e = refl
  value_has_none (number (negative z)) e = refl
  value_has_none (number (float x)) e = absurd (true≢false (sym e))
  value_has_none (string s) e = refl
  value_has_none (array ds) e = values_have_none ds (map_has _ (values_of ds) e)
  value_has_none (object ms) e = fields_have_no_float ms (map_has _ (fields_of ms) e)

  values_have_none : (ds : Items) → Has (values_of ds) → items_have_float ds ≡ false
  values_have_none no_items e = refl
  values_have_none (item d ds) e = let p = both_have _ (value_of d) (values_of ds) e in or_from (has_float d) (items_have_float ds) (value_has_none d p.0) (values_have_none ds p.1)

  fields_have_no_float : (ms : Members) → Has (fields_of ms) → members_have_float ms ≡ false
  fields_have_no_float no_members e = refl
  fields_have_no_float (member k d ms) e = let p = both_have _ (value_of d) (fields_of ms) e in or_from (has_float d) (members_have_float ms) (value_has_none d p.0) (fields_have_no_float ms p.1)

-- ---- objects

abbrev HasNoFloat : List ℕ → Data → Type 0
HasNoFloat k d = has_float d ≡ false

members_have_none : (ms : Members) → AllMembers HasNoFloat ms → members_have_float ms ≡ false
members_have_none no_members h = refl
members_have_none (member k d ms) h = or_from (has_float d) (members_have_float ms) h.0 (members_have_none ms h.1)

-- what a field may hold has no float, where the field finds no fault with it
abbrev pub AllowsNone : (Data → Option Fault) → Type 0
AllowsNone content = (d : Data) → HasOrder d → content d ≡ None → has_float d ≡ false

held_has_none : (content : Data → Option Fault) (r : Row) (d c : Data) → AllowsNone r.content → HasOrder c → get (field_name r.field) d ≡ Some c → HasNone d r → has_float c ≡ false
unfolding field_fault
held_has_none content r d c allows order at none = allows c order (no_in_part (field_name r.field) (r.content c) (subst (λ o. field_case r o ≡ None) at none))

abbrev RowAllowsNone : Row → Type 0
RowAllowsNone r = AllowsNone r.content

one_has_none : (rows : List Row) (d c : Data) (k : List ℕ) → AllByRecursion (HasNone d) rows → AllByRecursion RowAllowsNone rows → HasOrder c → get k d ≡ Some c → is_among (map row_field rows) k ≡ true → has_float c ≡ false
one_has_none [] d c k none allows order at among = absurd (true≢false (sym among))
one_has_none (r ∷ rows) d c k none allows order at among = go (bytes_eq (field_name r.field) k) refl among (one_has_none rows d c k none.1 allows.1 order at)
  where
    go : (b : Bool) → bytes_eq (field_name r.field) k ≡ b → (b || is_among (map row_field rows) k) ≡ true → (is_among (map row_field rows) k ≡ true → has_float c ≡ false) → has_float c ≡ false
    go true is among more = held_has_none r.content r d c allows.0 order (ap (λ n. get n d) ((bytes_eq-Decides (field_name r.field) k).0 is) ∙ at) none.0
    go false is among more = more among

map_none : {A B : Type 0} (f : A → B) (o : Option A) → option_map f o ≡ None → o ≡ None
map_none f None e = refl
map_none f (Some a) e = absurd (none-some (f a) (sym e))

pub known_keys : (fields : List Field) (ms : Members) → head_fault fields (object ms) ≡ None → AllMembers (λ k c. is_among fields k ≡ true) ms
known_keys fields ms head = all_known (is_among fields) ms (map_none _ (find (λ k. not (is_among fields k)) (member_keys ms)) (no_first _ None head))

pub object_has_none : (rows : List Row) (d : Data) → HasOrder d → head_fault (map row_field rows) d ≡ None → AllByRecursion (HasNone d) rows → AllByRecursion RowAllowsNone rows → has_float d ≡ false
object_has_none rows null order head none allows = refl
object_has_none rows (boolean b) order head none allows = refl
object_has_none rows (number n) order head none allows = absurd (cc)
object_has_none rows (string s) order head none allows = refl
object_has_none rows (array ds) order head none allows = absurd (cc)
object_has_none rows (object ms) order head none allows =
    members_have_none ms
    (all_both (λ k c. (HasOrder c) × (get_member k ms ≡ Some c)) (λ k c. is_among (map row_field rows) k ≡ true) HasNoFloat (λ k c both among. one_has_none rows (object ms) c k none allows both.0 both.1 among) ms
    (all_both (λ k c. HasOrder c) (λ k c. get_member k ms ≡ Some c) (λ k c. (HasOrder c) × (get_member k ms ≡ Some c)) (λ k c p q. (p, q)) ms (all_have_order ms order) (all_found ms order))
    (known_keys (map row_field rows) ms head))

faultless_has_none : (rows : List Row) (d : Data) → AllByRecursion RowAllowsNone rows → HasOrder d → object_fault rows d ≡ None → has_float d ≡ false
faultless_has_none rows d allows order e = object_has_none rows d order (no_head rows d e) (fields_have_none rows d e) allows

-- ---- what fields may hold

name_none : AllowsNone name_fault
name_none d order e = text_has_none d (has_first _ (as_str d) (not_wrong (is_some (name_in d)) e))

truth_none : AllowsNone truth_fault
truth_none d order e = truth_has_none d (not_wrong (is_some (as_bool d)) e)

cell_none : AllowsNone cell_fault
cell_none d order e = go (as_str d) refl e
  where
    go : (o : Option (List ℕ)) → as_str d ≡ o → cell_case o ≡ None → has_float d ≡ false
    go None is e = absurd (cc)
    go (Some t) is e = text_has_none d (ap is_some is)

reference_none : (a : Around) → AllowsNone (reference_fault a)
unfolding reference_in
reference_none a d order e = go a.named refl (not_wrong (is_some (reference_in a d)) e)
  where
    go : (b : Bool) → a.named ≡ b → Has (if b then option_and_then (place_of a.names) (as_str d) else option_and_then (below a.modules) (number_in d)) → has_float d ≡ false
    go true is e = text_has_none d (has_first _ (as_str d) e)
    go false is e = whole_has_none d (has_first _ (number_in d) e)

version_none : AllowsNone version_fault
version_none d order e = whole_has_none d (has_first named_by (number_in d) (not_wrong (is_some (version_in d)) e))

array_none : (fault : Items → Option Fault) → ((ds : Items) → ItemsHaveOrder ds → fault ds ≡ None → items_have_float ds ≡ false) → AllowsNone (λ d. array_case fault (as_array d))
array_none fault each null order e = absurd (cc)
array_none fault each (boolean b) order e = absurd (cc)
array_none fault each (number n) order e = absurd (cc)
array_none fault each (string s) order e = absurd (cc)
array_none fault each (array ds) order e = each ds order e
array_none fault each (object ms) order e = absurd (cc)

each_none : (fault : Data → Option Fault) → AllowsNone fault → (k : ℕ) (ds : Items) → ItemsHaveOrder ds → each_fault fault k ds ≡ None → items_have_float ds ≡ false
each_none fault allows k no_items order e = refl
each_none fault allows k (item d ds) order e =
    let first = no_in_part (decimal k) (fault d) (no_first (in_part (decimal k) (fault d)) (each_fault fault (k + 1) ds) e) in
    or_from (has_float d) (items_have_float ds) (allows d order.0 first) (each_none fault allows (k + 1) ds order.1 (no_second (in_part (decimal k) (fault d)) (each_fault fault (k + 1) ds) e))

-- ---- loaders and builtins

key_none : (keys : List (List ℕ)) → AllowsNone (key_fault keys)
key_none keys d order e = go (as_str d) refl e
  where
    go : (o : Option (List ℕ)) → as_str d ≡ o → key_case keys o ≡ None → has_float d ≡ false
    go None is e = absurd (cc)
    go (Some t) is e = text_has_none d (ap is_some is)

word_none : AllowsNone word_fault
word_none d order e = text_has_none d (has_first _ (as_str d) (not_wrong (is_some (word_in d)) e))

argv_none : AllowsNone argv_fault
argv_none = array_none words_fault (λ ds order e. go (nat_le 1 (count ds) && nat_le (count ds) 16) ds order e)
  where
    go : (b : Bool) (ds : Items) → ItemsHaveOrder ds → (if b then each_fault word_fault 0 ds else Some (here WrongField)) ≡ None → items_have_float ds ≡ false
    go true ds order e = each_none word_fault word_none 0 ds order e
    go false ds order e = absurd (cc)

loader_none : (keys : List (List ℕ)) → AllowsNone (loader_fault keys)
unfolding loader_fault
loader_none keys d order e = faultless_has_none (loader_rows keys) d (key_none keys, (argv_none, tt)) order e

loaders_from_none : (keys : List (List ℕ)) (k : ℕ) (ds : Items) → ItemsHaveOrder ds → loaders_fault_from keys k ds ≡ None → items_have_float ds ≡ false
loaders_from_none keys k no_items order e = refl
loaders_from_none keys k (item d ds) order e =
    let rest = loaders_fault_from (with_key keys d) (k + 1) ds in
    let first = no_in_part (decimal k) (loader_fault keys d) (no_first (in_part (decimal k) (loader_fault keys d)) rest e) in
    or_from (has_float d) (items_have_float ds) (loader_none keys d order.0 first) (loaders_from_none (with_key keys d) (k + 1) ds order.1 (no_second (in_part (decimal k) (loader_fault keys d)) rest e))

loaders_none : AllowsNone loaders_fault
loaders_none = array_none (loaders_fault_from [] 0) (loaders_from_none [] 0)

members_none : (ms : Members) → members_fault ms ≡ None → members_have_float ms ≡ false
members_none no_members e = refl
members_none (member k d ms) e =
    let good = not_wrong (is_name k && is_some (value_in d)) (no_in_part k _ (no_first (member_fault k d) (members_fault ms) e)) in
    or_from (has_float d) (members_have_float ms) (value_has_none d (has_first _ (value_of d) (and_parts (is_name k) (is_some (value_in d)) good).1)) (members_none ms (no_second (member_fault k d) (members_fault ms) e))

builtins_none : AllowsNone builtins_fault
builtins_none null order e = absurd (cc)
builtins_none (boolean b) order e = absurd (cc)
builtins_none (number n) order e = absurd (cc)
builtins_none (string s) order e = absurd (cc)
builtins_none (array ds) order e = absurd (cc)
builtins_none (object ms) order e = go (nat_le (member_count ms) 65536) e
  where
    go : (b : Bool) → (if b then members_fault ms else Some (here WrongField)) ≡ None → members_have_float ms ≡ false
    go true e = members_none ms e
    go false e = absurd (cc)

-- ---- items and modules

item_none : (a : Around) → AllowsNone (item_fault a)
unfolding item_fault
item_none a d order e = go (is_there field.Import d) e
  where
    go : (b : Bool) → (if b then object_fault (import_rows a) d else object_fault cell_rows d) ≡ None → has_float d ≡ false
    go true e = faultless_has_none (import_rows a) d (name_none, (name_none, (reference_none a, (truth_none, tt)))) order e
    go false e = faultless_has_none cell_rows d (cell_none, (truth_none, tt)) order e

items_none : (a : Around) → AllowsNone (items_fault a)
items_none a = array_none (each_fault (item_fault a) 0) (each_none (item_fault a) (item_none a) 0)

-- ---- specifiers

alias_or_name : (o : Option Data) (n : List ℕ) → Has (lines.alias_of o n) → (c : Data) → o ≡ Some c → has_float c ≡ false
alias_or_name o n e c is = text_has_none c (has_first _ (as_str c) (ap (λ p. is_some (lines.alias_of p n)) (sym is) ∙ e))

-- an object has a name, perhaps an alias, and nothing else
record IsSpecifier (d : Data) : Type 0 where
  known : find (λ k. not (line_forms.is_among (line_field.Name ∷ line_field.Alias ∷ []) k)) (lines.keys d) ≡ None
  name : (c : Data) → get (codes "name") d ≡ Some c → has_float c ≡ false
  alias : (c : Data) → get (codes "alias") d ≡ Some c → has_float c ≡ false

is_specifier : (d : Data) → Has (lines.object_specifier d) → IsSpecifier d
is_specifier d e = go (lines.unknown_key (line_field.Name ∷ line_field.Alias ∷ []) d) refl e
  where
    named : (o : Option Data) (n : Option (List ℕ)) → get (codes "name") d ≡ o → option_and_then name_in o ≡ n → Has (option_and_then (lines.named_specifier d) n)
        → lines.unknown_key (line_field.Name ∷ line_field.Alias ∷ []) d ≡ None → IsSpecifier d
    named None n at is e none = absurd (true≢false (sym e ∙ ap (λ m. is_some (option_and_then (lines.named_specifier d) m)) (sym is)))
    named (Some c) None at is e none = absurd (true≢false (sym e))
    named (Some c) (Some n) at is e none = record {
      known = none;
      name = λ x there. let same = same_Some x c (sym there ∙ at) in subst (λ y. has_float y ≡ false) (sym same) (text_has_none c (has_first _ (as_str c) (ap is_some is)));
      alias = alias_or_name (get (codes "alias") d) n (map_has _ (lines.alias_of (get (codes "alias") d) n) e);
    }

    go : (o : Option (List ℕ)) → lines.unknown_key (line_field.Name ∷ line_field.Alias ∷ []) d ≡ o → Has (if is_some o then None else option_and_then (lines.named_specifier d) (option_and_then name_in (get (codes "name") d))) → IsSpecifier d
    go None is e = named (get (codes "name") d) (option_and_then name_in (get (codes "name") d)) refl refl e is
    go (Some k) is e = absurd (true≢false (sym e))

specifier_member : (d c : Data) (k : List ℕ) → IsSpecifier d → get k d ≡ Some c → line_forms.is_among (line_field.Name ∷ line_field.Alias ∷ []) k ≡ true → has_float c ≡ false
specifier_member d c k s at among = go (bytes_eq (codes "name") k) (bytes_eq (codes "alias") k) refl refl among
  where
    go : (a b : Bool) → bytes_eq (codes "name") k ≡ a → bytes_eq (codes "alias") k ≡ b → (a || (b || false)) ≡ true → has_float c ≡ false
    go true b is alias among = s.name c (ap (λ n. get n d) ((bytes_eq-Decides (codes "name") k).0 is) ∙ at)
    go false true is alias among = s.alias c (ap (λ n. get n d) ((bytes_eq-Decides (codes "alias") k).0 alias) ∙ at)
    go false false is alias among = absurd (true≢false (sym among))

specifier_none : (d : Data) → HasOrder d → Has (specifier_in d) → has_float d ≡ false
unfolding specifier_in
specifier_none null order e = refl
specifier_none (boolean b) order e = refl
specifier_none (number n) order e = absurd (true≢false (sym e))
specifier_none (string s) order e = refl
specifier_none (array ds) order e = absurd (true≢false (sym e))
specifier_none (object ms) order e =
    let s = is_specifier (object ms) e in
    members_have_none ms
    (all_both (λ k c. get_member k ms ≡ Some c) (λ k c. line_forms.is_among (line_field.Name ∷ line_field.Alias ∷ []) k ≡ true) HasNoFloat (λ k c at among. specifier_member (object ms) c k s at among) ms
    (all_found ms order) (all_known (line_forms.is_among (line_field.Name ∷ line_field.Alias ∷ [])) ms s.known))

specifiers_none : (ds : Items) → ItemsHaveOrder ds → Has (each_specifier ds) → items_have_float ds ≡ false
specifiers_none no_items order e = refl
specifiers_none (item d ds) order e = let p = both_have _ (specifier_in d) (each_specifier ds) e in or_from (has_float d) (items_have_float ds) (specifier_none d order.0 p.0) (specifiers_none ds order.1 p.1)

with_none : AllowsNone with_fault
with_none null order e = absurd (cc)
with_none (boolean b) order e = absurd (cc)
with_none (number n) order e = absurd (cc)
with_none (string s) order e = absurd (cc)
with_none (array ds) order e = specifiers_none ds order (not_wrong (is_some (each_specifier ds)) e)
with_none (object ms) order e = absurd (cc)

-- ---- modules

-- where modules have names, that of a module stands before its other fields
abbrev pub all_rows : Bool → Around → List Row → List Row
all_rows named a rows = if named then name_row a ∷ rows else rows

own_name_none : (a : Around) → AllowsNone (own_name_fault a)
own_name_none a d order e = go (name_in d) refl e
  where
    go : (o : Option (List ℕ)) → name_in d ≡ o → name_case a o ≡ None → has_float d ≡ false
    go None is e = absurd (cc)
    go (Some n) is e = text_has_none d (has_first _ (as_str d) (ap is_some is))

pub record AreFine (named : Bool) (a : Around) (rows : List Row) (d : Data) : Type 0 where
  pub head : head_fault (map row_field (all_rows named a rows)) d ≡ None
  pub fields : AllByRecursion (HasNone d) (all_rows named a rows)

pub are_fine : (a : Around) (rows : List Row) (d : Data) → rows_fault a rows d ≡ None → AreFine a.named a rows d
unfolding rows_fault
are_fine a rows d e = go (first_of (map (field_fault d) rows)) (each_has_none d rows) a.named e
  where
    go : (others : Option Fault) → (others ≡ None → AllByRecursion (HasNone d) rows) → (b : Bool) → first_of (head_fault (known b (map row_field rows)) d ∷ (if b then field_fault d (name_row a) else None) ∷ others ∷ []) ≡ None → AreFine b a rows d
    go others each true e =
        let head = head_fault (known true (map row_field rows)) d in
        let rest = no_second head (option_or (field_fault d (name_row a)) (option_or others None)) e in
        record {
          head = no_first head (option_or (field_fault d (name_row a)) (option_or others None)) e;
          fields = (no_first (field_fault d (name_row a)) (option_or others None) rest, each (no_first others None (no_second (field_fault d (name_row a)) (option_or others None) rest)));
        }
    go others each false e =
        let head = head_fault (known false (map row_field rows)) d in
        record { head = no_first head (option_or others None) e; fields = each (no_first others None (no_second head (option_or others None) e)) }

rows_allow_none : (named : Bool) (a : Around) (rows : List Row) → AllByRecursion RowAllowsNone rows → AllByRecursion RowAllowsNone (all_rows named a rows)
rows_allow_none true a rows allow = (own_name_none a, allow)
rows_allow_none false a rows allow = allow

rows_none : (a : Around) (rows : List Row) (d : Data) → AllByRecursion RowAllowsNone rows → HasOrder d → rows_fault a rows d ≡ None → has_float d ≡ false
rows_none a rows d allow order e = let f = are_fine a rows d e in object_has_none (all_rows a.named a rows) d order f.head f.fields (rows_allow_none a.named a rows allow)

module_none : (a : Around) → AllowsNone (module_fault a)
unfolding module_fault
module_none a d order e = go (is_there field.Derive d) e
  where
    go : (b : Bool) → (if b then rows_fault a (derived_rows a) d else rows_fault a (plain_rows a d) d) ≡ None → has_float d ≡ false
    go true e = rows_none a (derived_rows a) d (reference_none a, (with_none, (reference_none a, tt))) order e
    go false e = rows_none a (plain_rows a d) d (items_none (next a d), tt) order e

modules_from_none : (a : Around) (ds : Items) → ItemsHaveOrder ds → modules_fault_from a ds ≡ None → items_have_float ds ≡ false
modules_from_none a no_items order e = refl
modules_from_none a (item d ds) order e =
    let rest = modules_fault_from (next a d) ds in
    let first = no_in_part (decimal a.modules) (module_fault a d) (no_first (in_part (decimal a.modules) (module_fault a d)) rest e) in
    or_from (has_float d) (items_have_float ds) (module_none a d order.0 first) (modules_from_none (next a d) ds order.1 (no_second (in_part (decimal a.modules) (module_fault a d)) rest e))

modules_none : (named : Bool) → AllowsNone (modules_fault named)
modules_none named = array_none (few_modules_fault named) (λ ds order e. go (nat_le (count ds) 64) ds order e)
  where
    go : (b : Bool) (ds : Items) → ItemsHaveOrder ds → (if b then modules_fault_from (start named) ds else Some (here WrongField)) ≡ None → items_have_float ds ≡ false
    go true ds order e = modules_from_none (start named) ds order e
    go false ds order e = absurd (cc)

-- ---- the whole

pub document_has_none : (d : Data) → HasOrder d → data_fault d ≡ None → has_float d ≡ false
unfolding data_fault
document_has_none d order e = faultless_has_none (document_rows (is_named d)) d (version_none, (builtins_none, (modules_none (is_named d), (loaders_none, tt)))) order e

line_read : (bytes : List ℕ) (d : Data) → line_data bytes ≡ Some d → read bytes ≡ Some d
unfolding line_data
line_read bytes d e = go (is_utf8 bytes) e
  where
    go : (b : Bool) → (if b then read bytes else None) ≡ Some d → read bytes ≡ Some d
    go true e = e
    go false e = absurd (none-some d e)

-- what was read without a fault has no float, and isn't too deep to be written and read again
pub fits_limits : (bytes : List ℕ) (d : Data) → line_data bytes ≡ Some d → data_fault d ≡ None → (has_float d ≡ false) × (depth d ≤ 127)
fits_limits bytes d is e = let read = line_read bytes d is in (document_has_none d (read_order bytes d read) e, depth-read bytes d read)
