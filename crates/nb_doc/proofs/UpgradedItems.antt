-- An item that imports by name has no fault, and is the item that it was.
use Rattle.std.proofs.Common.{◌≡◌, ℕ, ◌+◌, ◌<◌, List, [], ◌∷◌, Bool, true, false, Option, Some, None, is_some, option_map, option_and_then, unwrap_or, nat_lt, if◌then◌else◌, refl, sym, ap, ap₂, ◌∙◌, subst, arith, lt-ltb}
use Rattle.std.specs.Option.{option_or}
use Rattle.std.specs.Fmt.{decimal}
use Rattle.std.proofs.lemmas.Bool.{true≢false}
use Rattle.serde_json.specs.Data.{Data, null, boolean, number, string, array, object, Items, no_items, item, Members}
use Rattle.serde_json.specs.Find.{get, as_bool}
use Rattle.nb_value.specs.Json.{push_front}
use Rattle.nb_lines.specs.Fields.{number_in, name_in}
use Rattle.nb_doc.specs.declared.item.Item.{Item}
use Rattle.nb_doc.specs.declared.item.Item.TheVariants.{Import}
use Rattle.nb_doc.specs.declared.around.Around.{Around}
use Rattle.nb_doc.specs.declared.form.Field.TheVariants as field
use Rattle.nb_doc.specs.Faults.{in_part, wrong_unless}
use Rattle.nb_doc.specs.Forms.{needs, may, field_name, is_there, object_fault}
use Rattle.nb_doc.specs.Contents.{below, truth_fault, name_fault, reference_in, reference_fault, reference_at}
use Rattle.nb_doc.specs.Items.{each_fault, each_of, cell_rows, import_rows, item_fault, cell_item, import_item, item_of}
use Rattle.nb_doc.specs.Modules.{around}
use Rattle.nb_doc.specs.Upgraded.{module_name, by_name, items_by_name}
use Rattle.nb_doc.proofs.Faultless.{no_first, no_second, no_in_part, not_wrong, no_head, fields_have_none, needed_is_good}
use Rattle.nb_doc.proofs.Floats.{known_keys}
use Rattle.nb_doc.proofs.ModuleNames.{Knows, found_at}
use Rattle.nb_doc.proofs.SetFields.{set, get_set, get_other, by_name_is, by_name_not, known_set, not_there, set_has_none, same_has_none, object_is_faultless}

-- ---- a module that is meant, by its position and by its name

-- one that may be meant
pub record IsPosition (k : ℕ) (d : Data) : Type 0 where
  pub place : ℕ
  pub number : number_in d ≡ Some place
  pub less : place < k

pub position_of : (ns : List (List ℕ)) (k : ℕ) (d : Data) → reference_fault (around false ns k) d ≡ None → IsPosition k d
unfolding reference_in
position_of ns k d e = go (number_in d) refl (not_wrong (is_some (option_and_then (below k) (number_in d))) e)
  where
    small : (n : ℕ) (b : Bool) → nat_lt n k ≡ b → number_in d ≡ Some n → is_some (if b then Some n else None) ≡ true → IsPosition k d
    small n true is at e = record { place = n; number = at; less = grind (arith, is) }
    small n false is at e = absurd (true≢false (sym e))

    go : (o : Option ℕ) → number_in d ≡ o → is_some (option_and_then (below k) o) ≡ true → IsPosition k d
    go None at e = absurd (true≢false (sym e))
    go (Some n) at e = small n (nat_lt n k) refl at e

pub by_position : (ns : List (List ℕ)) (k : ℕ) (d : Data) (p : IsPosition k d) → reference_in (around false ns k) d ≡ Some p.place
unfolding reference_in
by_position ns k d p = ap (option_and_then (below k)) p.number ∙ ap (λ b. if b then Some p.place else None) (lt-ltb p.place k p.less)

pub by_its_name : (names : List (List ℕ)) (k n : ℕ) → Knows k names → n < k → reference_in (around true names k) (string (module_name n)) ≡ Some n
unfolding reference_in
by_its_name names k n known less = found_at k names n known less

pub name_is_faultless : (names : List (List ℕ)) (k n : ℕ) → Knows k names → n < k → reference_fault (around true names k) (string (module_name n)) ≡ None
name_is_faultless names k n known less = ap (λ o. wrong_unless (is_some o)) (by_its_name names k n known less)

-- ---- one item

pub record ItemStays (a b : Around) (d e : Data) : Type 0 where
  pub faultless : item_fault b e ≡ None
  pub says : item_of b e ≡ item_of a d

-- what an import is, by its fields
importing : Option Data → Option Data → Option ℕ → Option Data → Option Item
importing name alias from observed =
    option_and_then (λ n. option_map (λ k. Import n (unwrap_or (option_and_then name_in alias) n) k (unwrap_or (option_and_then as_bool observed) false)) from) (option_and_then name_in name)

same_import : (n m a b : Option Data) (f g : Option ℕ) (o p : Option Data) → n ≡ m → a ≡ b → f ≡ g → o ≡ p → importing n a f o ≡ importing m b g p
same_import n m a b f g o p e1 e2 e3 e4 = rw (e1, e2, e3, e4) refl

module _ (ns names : List (List ℕ)) (k : ℕ) (known : Knows k names) where
  -- where modules are meant by their positions, and where by their names
  abbrev pub before : Around
  before = around false ns k

  abbrev pub after : Around
  after = around true names k

  import_stays : (ms : Members) → object_fault (import_rows before) (object ms) ≡ None → is_there field.Import (object ms) ≡ true → ItemStays before after (object ms) (by_name field.From (object ms))
  unfolding item_fault item_of importing
  import_stays ms e import =
      let d = object ms in
      let keys = known_keys (field.Import ∷ field.Alias ∷ field.From ∷ field.Observed ∷ []) ms (no_head (import_rows before) d e) in
      let good = fields_have_none (import_rows before) d e in
      let from = needed_is_good field.From (reference_fault before) d good.1.1.0 in
      let p = position_of ns k from.held from.good in
      let n = p.place in
      let new = set field.From (string (module_name n)) ms in
      let name = get_other field.Import field.From (string (module_name n)) ms refl in
      let alias = get_other field.Alias field.From (string (module_name n)) ms refl in
      let observed = get_other field.Observed field.From (string (module_name n)) ms refl in
      let there : get (field_name field.From) (object new) ≡ Some (string (module_name n)) = get_set field.From (string (module_name n)) ms in
      let still : is_there field.Import (object new) ≡ true = ap is_some name ∙ import in
      let faultless : object_fault (import_rows after) (object new) ≡ None =
      object_is_faultless (import_rows after) new (known_set (field.Import ∷ field.Alias ∷ field.From ∷ field.Observed ∷ []) field.From (string (module_name n)) ms refl keys) (
        same_has_none (needs field.Import name_fault) d (object new) name good.0,
        (
          same_has_none (may field.Alias name_fault) d (object new) alias good.1.0,
          (set_has_none field.From (reference_fault after) (object new) (string (module_name n)) there (name_is_faultless names k n known p.less), (same_has_none (may field.Observed truth_fault) d (object new) observed good.1.1.1.0, tt)),
        ),
      ) in
      let meant : reference_at after field.From (object new) ≡ reference_at before field.From d =
      ap (option_and_then (reference_in after)) there ∙ by_its_name names k n known p.less ∙ sym (ap (option_and_then (reference_in before)) from.there ∙ by_position ns k from.held p) in
      let stays : ItemStays before after d (object new) = record {
        faultless = ap (λ c. if c then object_fault (import_rows after) (object new) else object_fault cell_rows (object new)) still ∙ faultless;
        says =
            ap (λ c. if c then import_item after (object new) else cell_item (object new)) still
            ∙ same_import (get (field_name field.Import) (object new)) (get (field_name field.Import) d) (get (field_name field.Alias) (object new)) (get (field_name field.Alias) d) (reference_at after field.From (object new))
            (reference_at before field.From d) (get (field_name field.Observed) (object new)) (get (field_name field.Observed) d) name alias meant observed
            ∙ sym (ap (λ c. if c then import_item before d else cell_item d) import);
      } in
      subst (ItemStays before after d) (sym (by_name_is field.From ms n (ap (option_and_then number_in) from.there ∙ p.number))) stays

  cell_stays : (ms : Members) → object_fault cell_rows (object ms) ≡ None → is_there field.Import (object ms) ≡ false → ItemStays before after (object ms) (by_name field.From (object ms))
  unfolding item_fault item_of
  cell_stays ms e import =
      let d = object ms in
      let keys = known_keys (field.Cell ∷ field.Observed ∷ []) ms (no_head cell_rows d e) in
      let stays : ItemStays before after d d = record {
        faultless = ap (λ c. if c then object_fault (import_rows after) d else object_fault cell_rows d) import ∙ e;
        says = ap (λ c. if c then import_item after d else cell_item d) import ∙ sym (ap (λ c. if c then import_item before d else cell_item d) import);
      } in
      subst (ItemStays before after d) (sym (by_name_not field.From d (ap (option_and_then number_in) (not_there (field.Cell ∷ field.Observed ∷ []) field.From ms keys refl)))) stays

  pub item_stays : (d : Data) → item_fault before d ≡ None → ItemStays before after d (by_name field.From d)
  unfolding item_fault object_fault
  item_stays null e = absurd (cc)
  item_stays (boolean x) e = absurd (cc)
  item_stays (number x) e = absurd (cc)
  item_stays (string x) e = absurd (cc)
  item_stays (array x) e = absurd (cc)
  item_stays (object ms) e = go (is_there field.Import (object ms)) refl e
    where
      go : (c : Bool) → is_there field.Import (object ms) ≡ c → (if c then object_fault (import_rows before) (object ms) else object_fault cell_rows (object ms)) ≡ None → ItemStays before after (object ms) (by_name field.From (object ms))
      go true import e = import_stays ms e import
      go false import e = cell_stays ms e import

  -- all items of before module
  pub items_have_none : (j : ℕ) (ds : Items) → each_fault (item_fault before) j ds ≡ None → each_fault (item_fault after) j (items_by_name ds) ≡ None
  items_have_none j no_items e = refl
  items_have_none j (item d ds) e =
      let rest = each_fault (item_fault before) (j + 1) ds in
      let one = item_stays d (no_in_part (decimal j) (item_fault before d) (no_first (in_part (decimal j) (item_fault before d)) rest e)) in
      ap₂ (λ o p. option_or (in_part (decimal j) o) p) one.faultless (items_have_none (j + 1) ds (no_second (in_part (decimal j) (item_fault before d)) rest e))

  pub items_say : (j : ℕ) (ds : Items) → each_fault (item_fault before) j ds ≡ None → each_of (item_of after) (items_by_name ds) ≡ each_of (item_of before) ds
  items_say j no_items e = refl
  items_say j (item d ds) e =
      let rest = each_fault (item_fault before) (j + 1) ds in
      let one = item_stays d (no_in_part (decimal j) (item_fault before d) (no_first (in_part (decimal j) (item_fault before d)) rest e)) in
      ap₂ (λ o p. option_and_then (λ x. push_front x p) o) one.says (items_say (j + 1) ds (no_second (in_part (decimal j) (item_fault before d)) rest e))
