-- The builtins and the loaders of a document without a fault.
use Rattle.std.proofs.Common.{◌≡◌, ◌≢◌, ◌⊎◌, inl, inr, ℕ, suc, ◌+◌, ◌<◌, ◌≤◌, ◌||◌, ◌&&◌, List, [], ◌∷◌, ◌++◌, Bool, true, false, true≢false, length, All, Option, Some, None, option_map, option_and_then, unwrap_or, nat_le, if◌then◌else◌, Result, Ok, Err, IfOk, refl, sym, ap, ◌∙◌, subst, arith}
use Rattle.std.specs.Bool.{⊤}
use Rattle.std.specs.List.{AllByRecursion}
use Rattle.std.specs.Str.{bytes_eq}
use Rattle.std.specs.Fmt.{decimal}
use Rattle.std.proofs.lemmas.Option.{none-some, same_Some}
use Rattle.std.proofs.lemmas.List.Folds.{list_any-append}
use Rattle.std.proofs.lemmas.List.Elements.{All-nil, All-cons}
use Rattle.std.proofs.lemmas.List.Kept.{AllPairs-cons}
use Rattle.std.proofs.lemmas.Slice.Eq.{bytes_eq-Decides}
use Rattle.serde_json.specs.Data.{Data, Items, no_items, item, Members, no_members, member}
use Rattle.serde_json.specs.Find.{get, as_array, as_object, as_str}
use Rattle.nb_value.specs.declared.pairs.Field.{Field as Pair}
use Rattle.nb_value.specs.declared.value.Value.{Value}
use Rattle.nb_value.specs.Json.{push_front, value_of, fields_of}
use Rattle.nb_doc.specs.declared.document.Document.{Document}
use Rattle.nb_doc.specs.declared.document.Loader.{Loader}
use Rattle.nb_doc.specs.declared.form.Field.TheVariants as field
use Rattle.nb_doc.specs.declared.module.Module.{Module}
use Rattle.nb_doc.specs.declared.reason.DocReason.TheVariants.{WrongField, TwoLoaders}
use Rattle.nb_doc.specs.declared.reason.DocFail.{DocFail}
use Rattle.nb_doc.specs.Faults.{here, in_part, fault_if}
use Rattle.nb_doc.specs.Forms.{field_name}
use Rattle.nb_doc.specs.Items.{count, array_case, each_fault, each_of}
use Rattle.nb_doc.specs.Modules.{modules_at}
use Rattle.nb_doc.specs.Loading.{word_in, word_fault, words_fault, argv_fault, argv_in, argv_at, has_key, key_case, key_fault, key_at, loader, loader_rows, loader_fault, loader_of, with_key, loaders_fault_from, loaders_fault, loaders_in, loaders_of, members_fault, member_count, few_members_fault, builtins_fault, builtins_in, builtins_of, HasDistinctKeys, HasWords}
use Rattle.nb_lines.specs.Reasons.{line_data}
use Rattle.nb_doc.specs.Documents.{is_named, document_rows, data_fault, document_by, data_document, fault_case, first_fault, document_of, ReadsDocument}
use Rattle.nb_doc.proofs.Faultless.{IsGood, no_first, no_second, no_in_part, HasNone, fields_have_none, needed_is_good, may_is_good}

-- ---- so many elements say so many things

pub each_of-count : {X : Type 0} (of : Data → Option X) (ds : Items) (xs : List X) → each_of of ds ≡ Some xs → length xs ≡ count ds
each_of-count of no_items xs e = ap length (sym (same_Some [] xs e))
each_of-count {X} of (item d ds) xs e = first (of d) (each_of of ds) (each_of-count of ds) e
  where
    first : (x : Option X) (rest : Option (List X)) → ((ys : List X) → rest ≡ Some ys → length ys ≡ count ds) → option_and_then (λ y. push_front y rest) x ≡ Some xs → length xs ≡ suc (count ds)
    first None rest more h = absurd (none-some xs h)
    first (Some x) None more h = absurd (none-some xs h)
    first (Some x) (Some ys) more h = ap length (sym (same_Some (x ∷ ys) xs h)) ∙ ap suc (more ys refl)

pub fields_of-count : (ms : Members) (fs : List (Pair Value)) → fields_of ms ≡ Some fs → length fs ≡ member_count ms
fields_of-count no_members fs e = ap length (sym (same_Some [] fs e))
fields_of-count (member k d ms) fs e = first (value_of d) (fields_of ms) (fields_of-count ms) e
  where
    first : (x : Option Value) (rest : Option (List (Pair Value))) → ((ys : List (Pair Value)) → rest ≡ Some ys → length ys ≡ member_count ms) → option_and_then (λ v. push_front (record { name = k; value = v }) rest) x ≡ Some fs → length fs ≡ suc (member_count ms)
    first None rest more h = absurd (none-some fs h)
    first (Some x) None more h = absurd (none-some fs h)
    first (Some x) (Some ys) more h = ap length (sym (same_Some (record { name = k; value = x } ∷ ys) fs h)) ∙ ap suc (more ys refl)

-- ---- builtins

few_fields : (ms : Members) → few_members_fault (Some ms) ≡ None → member_count ms ≤ 65536
few_fields ms e = go (nat_le (member_count ms) 65536) refl e
  where
    go : (b : Bool) → nat_le (member_count ms) 65536 ≡ b → (if b then members_fault ms else Some (here WrongField)) ≡ None → member_count ms ≤ 65536
    go true is e = grind (arith, is)
    go false is e = absurd (cc)

few_in : (d : Data) → builtins_fault d ≡ None → length (unwrap_or (builtins_in d) []) ≤ 65536
few_in d e = object_of (as_object d) e
  where
    fields : (ms : Members) (o : Option (List (Pair Value))) → member_count ms ≤ 65536 → fields_of ms ≡ o → length (unwrap_or o []) ≤ 65536
    fields ms None few is = omega arith
    fields ms (Some fs) few is = omega (arith, few, fields_of-count ms fs is)

    object_of : (o : Option Members) → few_members_fault o ≡ None → length (unwrap_or (option_and_then fields_of o) []) ≤ 65536
    object_of None e = absurd (cc)
    object_of (Some ms) e = fields ms (fields_of ms) (few_fields ms e) refl

few_at : (d : Data) → (get (field_name field.Builtins) d ≡ None) ⊎ IsGood field.Builtins builtins_fault d → length (builtins_of d) ≤ 65536
few_at d (inl none) = rw none (omega arith)
few_at d (inr good) = rw good.there (few_in good.held good.good)

-- ---- loaders

-- none of them has one of these keys, or one of an earlier loader
abbrev AreNew : List (List ℕ) → List Loader → Type 0
AreNew keys [] = ⊤
AreNew keys (l ∷ ls) = (has_key keys l.key ≡ false) × AreNew (keys ++ l.key ∷ []) ls

has_later : (keys : List (List ℕ)) (k n : List ℕ) → has_key keys k ≡ true → has_key (keys ++ n ∷ []) k ≡ true
has_later keys k n e = list_any-append (bytes_eq k) keys (n ∷ []) ∙ ap (λ b. b || has_key (n ∷ []) k) e

has_last : (keys : List (List ℕ)) (k : List ℕ) → has_key (keys ++ k ∷ []) k ≡ true
has_last keys k = list_any-append (bytes_eq k) keys (k ∷ []) ∙ go (has_key keys k) (bytes_eq k k) ((bytes_eq-Decides k k).1 refl)
  where
    go : (a b : Bool) → b ≡ true → (a || (b || false)) ≡ true
    go true b e = refl
    go false b e = rw e refl

others : (keys : List (List ℕ)) (k : List ℕ) (ls : List Loader) → has_key keys k ≡ true → AreNew keys ls → All (λ (m : Loader). k ≢ m.key) ls
others keys k [] has new = All-nil (λ (m : Loader). k ≢ m.key)
others keys k (l ∷ ls) has new =
    All-cons (λ (m : Loader). k ≢ m.key) l ls (λ e. true≢false (sym has ∙ ap (has_key keys) e ∙ new.0)) (others (keys ++ l.key ∷ []) k ls (has_later keys k l.key has) new.1)

new_are_distinct : (keys : List (List ℕ)) (ls : List Loader) → AreNew keys ls → HasDistinctKeys ls
new_are_distinct keys [] new = λ i j d lt within. absurd (omega arith)
new_are_distinct keys (l ∷ ls) new =
    AllPairs-cons (λ (l m : Loader). l.key ≢ m.key) l ls (others (keys ++ l.key ∷ []) l.key ls (has_last keys l.key) new.1) (new_are_distinct (keys ++ l.key ∷ []) ls new.1)

-- one loader
good_key : (keys : List (List ℕ)) (d : Data) → loader_fault keys d ≡ None → IsGood field.Key (key_fault keys) d
unfolding loader_fault
good_key keys d e = needed_is_good field.Key (key_fault keys) d (fields_have_none (loader_rows keys) d e).0

good_argv : (keys : List (List ℕ)) (d : Data) → loader_fault keys d ≡ None → IsGood field.Argv argv_fault d
unfolding loader_fault
good_argv keys d e = needed_is_good field.Argv argv_fault d (fields_have_none (loader_rows keys) d e).1.0

key_is_new : (keys : List (List ℕ)) (d : Data) (k : List ℕ) → key_fault keys d ≡ None → as_str d ≡ Some k → has_key keys k ≡ false
key_is_new keys d k e is = go (has_key keys k) (subst (λ o. key_case keys o ≡ None) is e)
  where
    go : (b : Bool) → fault_if b TwoLoaders ≡ None → b ≡ false
    go true e = absurd (cc)
    go false e = refl

some_words : (ws : Items) (xs : List (List ℕ)) → words_fault ws ≡ None → each_of word_in ws ≡ Some xs → 0 < length xs
some_words ws xs e is = go (nat_le 1 (count ws)) (nat_le (count ws) 16) refl e
  where
    go : (a b : Bool) → nat_le 1 (count ws) ≡ a → (if a && b then each_fault word_fault 0 ws else Some (here WrongField)) ≡ None → 0 < length xs
    go true b at e = grind (arith, at, each_of-count word_in ws xs is)
    go false b at e = absurd (cc)

argv_has_words : (d : Data) (xs : List (List ℕ)) → argv_fault d ≡ None → argv_in d ≡ Some xs → 0 < length xs
argv_has_words d xs e is = go (as_array d) e is
  where
    go : (o : Option Items) → array_case words_fault o ≡ None → option_and_then (each_of word_in) o ≡ Some xs → 0 < length xs
    go None e is = absurd (cc)
    go (Some ws) e is = some_words ws xs e is

-- a loader without a fault has a new key and a word
record IsLoader (keys : List (List ℕ)) (d : Data) (l : Loader) : Type 0 where
  key : key_at d ≡ Some l.key
  is_new : has_key keys l.key ≡ false
  words : 0 < length l.argv

is_loader : (keys : List (List ℕ)) (d : Data) (l : Loader) → loader_fault keys d ≡ None → loader_of d ≡ Some l → IsLoader keys d l
unfolding loader_of
is_loader keys d l e is = go (good_key keys d e) (good_argv keys d e) (key_at d) (argv_at d) refl refl is
  where
    go : (g : IsGood field.Key (key_fault keys) d) (h : IsGood field.Argv argv_fault d) (k : Option (List ℕ)) (a : Option (List (List ℕ))) → key_at d ≡ k → argv_at d ≡ a → option_and_then (λ n. option_map (loader n) a) k ≡ Some l → IsLoader keys d l
    go g h None a key argv is = absurd (cc)
    go g h (Some k) None key argv is = absurd (cc)
    go g h (Some k) (Some a) key argv is =
        let same = same_Some (loader k a) l is in
        record {
          key = key ∙ ap (λ (m : Loader). Some m.key) same;
          is_new = ap (λ (m : Loader). has_key keys m.key) (sym same) ∙ key_is_new keys g.held k g.good (ap (option_and_then as_str) (sym g.there) ∙ key);
          words = subst (λ (m : Loader). 0 < length m.argv) same (argv_has_words h.held a h.good (ap (option_and_then argv_in) (sym h.there) ∙ argv));
        }

-- all loaders
record AreGood (keys : List (List ℕ)) (ls : List Loader) : Type 0 where
  are_new : AreNew keys ls
  have_words : HasWords ls

with_one : (keys : List (List ℕ)) (d : Data) (l : Loader) → IsLoader keys d l → with_key keys d ≡ keys ++ l.key ∷ []
unfolding with_key
with_one keys d l is = ap (λ o. keys ++ unwrap_or o [] ∷ []) is.key

are_good : (keys : List (List ℕ)) (k : ℕ) (ds : Items) (ls : List Loader) → loaders_fault_from keys k ds ≡ None → each_of loader_of ds ≡ Some ls → AreGood keys ls
are_good keys k no_items ls e is = subst (AreGood keys) (same_Some [] ls is) (record { are_new = tt; have_words = All-nil (λ (l : Loader). 0 < length l.argv) })
are_good keys k (item d ds) ls e is =
    let none = no_in_part (decimal k) (loader_fault keys d) (no_first (in_part (decimal k) (loader_fault keys d)) (loaders_fault_from (with_key keys d) (k + 1) ds) e) in
    let rest = no_second (in_part (decimal k) (loader_fault keys d)) (loaders_fault_from (with_key keys d) (k + 1) ds) e in
    go (λ l one. is_loader keys d l none one) (λ keys ms new more. are_good keys (k + 1) ds ms (subst (λ ks. loaders_fault_from ks (k + 1) ds ≡ None) new rest) more) (loader_of d) (each_of loader_of ds) refl refl is
  where
    go : ((l : Loader) → loader_of d ≡ Some l → IsLoader keys d l) → ((new : List (List ℕ)) (ms : List Loader) → with_key keys d ≡ new → each_of loader_of ds ≡ Some ms → AreGood new ms)
        → (o : Option Loader) (rest : Option (List Loader)) → loader_of d ≡ o → each_of loader_of ds ≡ rest → option_and_then (λ y. push_front y rest) o ≡ Some ls → AreGood keys ls
    go first others None rest one more is = absurd (cc)
    go first others (Some l) None one more is = absurd (cc)
    go first others (Some l) (Some ms) one more is =
        let here = first l one in
        let later = others (keys ++ l.key ∷ []) ms (with_one keys d l here) more in
        subst (AreGood keys) (same_Some (l ∷ ms) ls is) (record {
          are_new = (here.is_new, later.are_new);
          have_words = All-cons (λ (m : Loader). 0 < length m.argv) l ms here.words later.have_words;
        })

good_in : (d : Data) → loaders_fault d ≡ None → AreGood [] (unwrap_or (loaders_in d) [])
good_in d e = go (as_array d) e
  where
    each : (ds : Items) (o : Option (List Loader)) → loaders_fault_from [] 0 ds ≡ None → each_of loader_of ds ≡ o → AreGood [] (unwrap_or o [])
    each ds None e is = record { are_new = tt; have_words = All-nil (λ (l : Loader). 0 < length l.argv) }
    each ds (Some ls) e is = are_good [] 0 ds ls e is

    go : (o : Option Items) → array_case (loaders_fault_from [] 0) o ≡ None → AreGood [] (unwrap_or (option_and_then (each_of loader_of) o) [])
    go None e = absurd (cc)
    go (Some ds) e = each ds (each_of loader_of ds) e refl

good_at : (d : Data) → (get (field_name field.Loaders) d ≡ None) ⊎ IsGood field.Loaders loaders_fault d → AreGood [] (loaders_of d)
good_at d (inl none) = rw none (record { are_new = tt; have_words = All-nil (λ (l : Loader). 0 < length l.argv) })
good_at d (inr good) = rw good.there (good_in good.held good.good)

-- ---- the whole

pub rows_have_none : (d : Data) → data_fault d ≡ None → AllByRecursion (HasNone d) (document_rows (is_named d))
unfolding data_fault
rows_have_none d e = fields_have_none (document_rows (is_named d)) d e

pub builtins_may : (d : Data) → data_fault d ≡ None → (get (field_name field.Builtins) d ≡ None) ⊎ IsGood field.Builtins builtins_fault d
builtins_may d e = may_is_good field.Builtins builtins_fault d (rows_have_none d e).1.0

pub loaders_may : (d : Data) → data_fault d ≡ None → (get (field_name field.Loaders) d ≡ None) ⊎ IsGood field.Loaders loaders_fault d
loaders_may d e = may_is_good field.Loaders loaders_fault d (rows_have_none d e).1.1.1.0

-- a document that was read from data without a fault
pub record IsFrom (d : Data) (doc : Document) : Type 0 where
  pub faultless : data_fault d ≡ None
  pub says : data_document d ≡ Some doc

says_builtins : (d : Data) (doc : Document) → data_document d ≡ Some doc → builtins_of d ≡ doc.builtins
unfolding data_document
says_builtins d doc is = go (modules_at (is_named d) d) is
  where
    go : (o : Option (List Module)) → option_map (document_by d) o ≡ Some doc → builtins_of d ≡ doc.builtins
    go None is = absurd (cc)
    go (Some ms) is = ap (λ (x : Document). x.builtins) (same_Some (document_by d ms) doc is)

says_loaders : (d : Data) (doc : Document) → data_document d ≡ Some doc → loaders_of d ≡ doc.loaders
unfolding data_document
says_loaders d doc is = go (modules_at (is_named d) d) is
  where
    go : (o : Option (List Module)) → option_map (document_by d) o ≡ Some doc → loaders_of d ≡ doc.loaders
    go None is = absurd (cc)
    go (Some ms) is = ap (λ (x : Document). x.loaders) (same_Some (document_by d ms) doc is)

pub from_bytes : (bytes : List ℕ) (doc : Document) → first_fault bytes ≡ None → document_of bytes ≡ Some doc → (d : Data) × (line_data bytes ≡ Some d) × IsFrom d doc
unfolding first_fault document_of
from_bytes bytes doc e is = go (line_data bytes) refl e is
  where
    go : (o : Option Data) → line_data bytes ≡ o → fault_case o ≡ None → option_and_then data_document o ≡ Some doc → (d : Data) × (line_data bytes ≡ Some d) × IsFrom d doc
    go None at e is = absurd (cc)
    go (Some d) at e is = (d, at, record { faultless = e; says = is })

pub few_builtins : (bytes : List ℕ) (r : Result Document DocFail) → ReadsDocument bytes r → IfOk r (λ (doc : Document). length doc.builtins ≤ 65536)
few_builtins bytes (Ok doc) reads =
    let f = from_bytes bytes doc reads.0 reads.1 in
    subst (λ (b : List (Pair Value)). length b ≤ 65536) (says_builtins f.0 doc f.2.says) (few_at f.0 (builtins_may f.0 f.2.faultless))
few_builtins bytes (Err e) reads = tt

good_loaders : (bytes : List ℕ) (doc : Document) → first_fault bytes ≡ None → document_of bytes ≡ Some doc → AreGood [] doc.loaders
good_loaders bytes doc e is =
    let f = from_bytes bytes doc e is in
    subst (AreGood []) (says_loaders f.0 doc f.2.says) (good_at f.0 (loaders_may f.0 f.2.faultless))

pub distinct_keys : (bytes : List ℕ) (r : Result Document DocFail) → ReadsDocument bytes r → IfOk r (λ (doc : Document). HasDistinctKeys doc.loaders)
distinct_keys bytes (Ok doc) reads = new_are_distinct [] doc.loaders (good_loaders bytes doc reads.0 reads.1).are_new
distinct_keys bytes (Err e) reads = tt

pub all_have_words : (bytes : List ℕ) (r : Result Document DocFail) → ReadsDocument bytes r → IfOk r (λ (doc : Document). HasWords doc.loaders)
all_have_words bytes (Ok doc) reads = (good_loaders bytes doc reads.0 reads.1).have_words
all_have_words bytes (Err e) reads = tt
