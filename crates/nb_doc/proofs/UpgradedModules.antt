-- A module that has a name, and means others by theirs, has no fault, and is the module that it was.
use Rattle.std.proofs.Common.{◌≡◌, ℕ, suc, ◌+◌, ◌<◌, ◌≤◌, ◌^◌, List, [], ◌∷◌, ◌++◌, Bool, true, false, map, Option, Some, None, is_some, option_map, option_and_then, if◌then◌else◌, refl, sym, ap, ap₂, ◌∙◌, subst, arith}
use Rattle.std.specs.Option.{option_or, option_map_or}
use Rattle.std.specs.Fmt.{decimal}
use Rattle.std.specs.List.{AllByRecursion}
use Rattle.serde_json.specs.Data.{Data, null, boolean, number, string, array, object, Items, no_items, item, Members}
use Rattle.serde_json.specs.Find.{get, as_array}
use Rattle.nb_value.specs.Json.{push_front}
use Rattle.nb_sheet.specs.declared.edit.Specifier.{Specifier}
use Rattle.nb_lines.specs.Fields.{number_in, name_in, specifiers_in}
use Rattle.nb_doc.specs.declared.around.Around.{Around}
use Rattle.nb_doc.specs.declared.module.Module.{Module}
use Rattle.nb_doc.specs.declared.module.Module.TheVariants.{Plain, Derived}
use Rattle.nb_doc.specs.declared.form.Field.TheVariants as field
use Rattle.nb_doc.specs.declared.reason.DocReason.TheVariants.{TwoModules}
use Rattle.nb_doc.specs.Faults.{in_part, fault_if, first_of}
use Rattle.nb_doc.specs.Forms.{Row, row_field, needs, field_name, is_there, field_fault}
use Rattle.nb_doc.specs.Contents.{name_at, with_fault, with_at, reference_in, reference_fault, reference_at}
use Rattle.nb_doc.specs.Items.{count, array_case, each_fault, each_of, item_fault, item_of, items_fault, items_in, items_at}
use Rattle.nb_doc.specs.Modules.{around, listed, name_case, own_name_fault, next, name_row, derived_rows, plain_rows, rows_fault, module_fault, derived_module, plain_module, module_of, modules_fault_from, modules_from}
use Rattle.nb_doc.specs.Upgraded.{with_field, array_at, module_name, by_name, items_by_name, with_items, named_module, named_modules}
use Rattle.nb_doc.proofs.Faultless.{HasNone, no_first, no_second, no_in_part, needed_is_good}
use Rattle.nb_doc.proofs.Floats.{are_fine, known_keys}
use Rattle.nb_doc.proofs.ModuleNames.{Knows, knows_more, not_found, module_name_is_name}
use Rattle.nb_doc.proofs.SetFields.{set, get_set, get_other, with_field_is, by_name_is, by_name_not, Knowns, known_set, known_more, no_head_fault, not_there, set_has_none, same_has_none, no_field_fault}
use Rattle.nb_doc.proofs.UpgradedItems.{position_of, by_position, by_its_name, name_is_faultless, items_have_none, items_say}

-- what the module after this one is among
next_unnamed : (ns : List (List ℕ)) (k : ℕ) (d : Data) → next (around false ns k) d ≡ around false (ns ++ []) (k + 1)
unfolding next
next_unnamed ns k d = refl

next_named : (names : List (List ℕ)) (k : ℕ) (d : Data) (n : List ℕ) → name_at field.Name d ≡ Some n → next (around true names k) d ≡ around true (names ++ n ∷ []) (k + 1)
unfolding next
next_named names k d n e = ap (λ o. around true (names ++ listed o) (k + 1)) e

-- the items of an array in a field
with_items_is : (ms : Members) (ds : Items) → array_at field.Items (object ms) ≡ Some ds → with_items (object ms) ≡ object (set field.Items (array (items_by_name ds)) ms)
unfolding with_items
with_items_is ms ds e = ap (λ o. option_map_or (λ es. with_field field.Items (array (items_by_name es)) (object ms)) o (object ms)) e ∙ with_field_is field.Items (array (items_by_name ds)) ms

with_items_not : (d : Data) → array_at field.Items d ≡ None → with_items d ≡ d
unfolding with_items
with_items_not d e = ap (λ o. option_map_or (λ es. with_field field.Items (array (items_by_name es)) d) o d) e

-- ---- a module's own name

own_name_is : (n : ℕ) → n < 2 ^ 64 → name_in (string (module_name n)) ≡ Some (module_name n)
own_name_is n small = ap (λ b. if b then Some (module_name n) else None) (module_name_is_name n small)

own_name_has_none : (names : List (List ℕ)) (k : ℕ) → k < 2 ^ 64 → Knows k names → own_name_fault (around true names k) (string (module_name k)) ≡ None
own_name_has_none names k small known = ap (name_case (around true names k)) (own_name_is k small) ∙ ap (λ o. fault_if (is_some o) TwoModules) (not_found k names small known)

-- where modules have names, these hold of all rows
named_rows_have_none : (names : List (List ℕ)) (k : ℕ) (rows : List Row) (ms : Members) → Knowns (field.Name ∷ map row_field rows) ms → HasNone (object ms) (name_row (around true names k)) → AllByRecursion (HasNone (object ms)) rows
    → rows_fault (around true names k) rows (object ms) ≡ None
unfolding rows_fault
named_rows_have_none names k rows ms known name none =
    ap (λ o. option_or o (option_or (field_fault (object ms) (name_row (around true names k))) (option_or (first_of (map (field_fault (object ms)) rows)) None))) (no_head_fault (field.Name ∷ map row_field rows) ms known)
    ∙ ap₂ (λ o p. option_or o (option_or p None)) name (no_field_fault (object ms) rows none)

-- ---- one module

pub record ModuleStays (ns names : List (List ℕ)) (k : ℕ) (d e : Data) : Type 0 where
  pub faultless : module_fault (around true names k) e ≡ None
  pub says : module_of (around true names k) e ≡ module_of (around false ns k) d
  pub name : name_at field.Name e ≡ Some (module_name k)

-- what a derived module is, by its fields
derived_by : Option ℕ → Option (List Specifier) → Option ℕ → Option Module
derived_by derive specifiers source = option_and_then (λ m. option_and_then (λ s. option_map (Derived m s) source) specifiers) derive

same_derived : (m n : Option ℕ) (s t : Option (List Specifier)) (o p : Option ℕ) → m ≡ n → s ≡ t → o ≡ p → derived_by m s o ≡ derived_by n t p
same_derived m n s t o p e1 e2 e3 = rw (e1, e2, e3) refl

module _ (ns names : List (List ℕ)) (k : ℕ) (small : k < 2 ^ 64) (known : Knows k names) where
  derived_stays : (ms : Members) → rows_fault (around false ns k) (derived_rows (around false ns k)) (object ms) ≡ None → is_there field.Derive (object ms) ≡ true → ModuleStays ns names k (object ms) (named_module k (object ms))
  unfolding module_fault module_of named_module derived_by
  derived_stays ms e derive =
      let a = around false ns k in
      let b = around true names k in
      let d = object ms in
      let fine = are_fine a (derived_rows a) d e in
      let keys = known_keys (field.Derive ∷ field.With ∷ field.Source ∷ []) ms fine.head in
      let from = needed_is_good field.Derive (reference_fault a) d fine.fields.0 in
      let p = position_of ns k from.held from.good in
      let source = needed_is_good field.Source (reference_fault a) d fine.fields.1.1.0 in
      let q = position_of ns k source.held source.good in
      let m = string (module_name p.place) in
      let n = string (module_name q.place) in
      let own = string (module_name k) in
      let ms1 = set field.Derive m ms in
      let ms2 = set field.Source n ms1 in
      let ms3 = set field.Name own ms2 in
      let new = object ms3 in
      let with_derive : by_name field.Derive d ≡ object ms1 = by_name_is field.Derive ms p.place (ap (option_and_then number_in) from.there ∙ p.number) in
      let with_source : by_name field.Source (object ms1) ≡ object ms2 =
      by_name_is field.Source ms1 q.place (ap (option_and_then number_in) (get_other field.Source field.Derive m ms refl ∙ source.there) ∙ q.number) in
      let no_items_there : get (field_name field.Items) (object ms2) ≡ None =
      get_other field.Items field.Source n ms1 refl ∙ get_other field.Items field.Derive m ms refl ∙ not_there (field.Derive ∷ field.With ∷ field.Source ∷ []) field.Items ms keys refl in
      let whole : named_module k d ≡ new =
      ap (λ x. with_field field.Name own (with_items (by_name field.Source x))) with_derive ∙ ap (λ x. with_field field.Name own (with_items x)) with_source
      ∙ ap (with_field field.Name own) (with_items_not (object ms2) (ap (option_and_then as_array) no_items_there)) ∙ with_field_is field.Name own ms2 in
      let all = field.Name ∷ field.Derive ∷ field.With ∷ field.Source ∷ [] in
      let knowns : Knowns all ms3 =
      known_set all field.Name own ms2 refl (known_set all field.Source n ms1 refl (known_set all field.Derive m ms refl (known_more field.Name (field.Derive ∷ field.With ∷ field.Source ∷ []) ms keys))) in
      let at_derive : get (field_name field.Derive) new ≡ Some m = get_other field.Derive field.Name own ms2 refl ∙ get_other field.Derive field.Source n ms1 refl ∙ get_set field.Derive m ms in
      let at_source : get (field_name field.Source) new ≡ Some n = get_other field.Source field.Name own ms2 refl ∙ get_set field.Source n ms1 in
      let at_with : get (field_name field.With) new ≡ get (field_name field.With) d =
      get_other field.With field.Name own ms2 refl ∙ get_other field.With field.Source n ms1 refl ∙ get_other field.With field.Derive m ms refl in
      let at_name : get (field_name field.Name) new ≡ Some own = get_set field.Name own ms2 in
      let rows : rows_fault b (derived_rows b) new ≡ None =
      named_rows_have_none names k (derived_rows b) ms3 knowns (set_has_none field.Name (own_name_fault b) new own at_name (own_name_has_none names k small known)) (
        set_has_none field.Derive (reference_fault b) new m at_derive (name_is_faultless names k p.place known p.less),
        (same_has_none (needs field.With with_fault) d new at_with fine.fields.1.0, (set_has_none field.Source (reference_fault b) new n at_source (name_is_faultless names k q.place known q.less), tt)),
      ) in
      let means_derive : reference_at b field.Derive new ≡ reference_at a field.Derive d =
      ap (option_and_then (reference_in b)) at_derive ∙ by_its_name names k p.place known p.less ∙ sym (ap (option_and_then (reference_in a)) from.there ∙ by_position ns k from.held p) in
      let means_source : reference_at b field.Source new ≡ reference_at a field.Source d =
      ap (option_and_then (reference_in b)) at_source ∙ by_its_name names k q.place known q.less ∙ sym (ap (option_and_then (reference_in a)) source.there ∙ by_position ns k source.held q) in
      let stays : ModuleStays ns names k d new = record {
        faultless = ap (λ o. if is_some o then rows_fault b (derived_rows b) new else rows_fault b (plain_rows b new) new) at_derive ∙ rows;
        says =
            ap (λ o. if is_some o then derived_module b new else plain_module b new) at_derive
            ∙ same_derived (reference_at b field.Derive new) (reference_at a field.Derive d) (with_at new) (with_at d) (reference_at b field.Source new) (reference_at a field.Source d) means_derive
            (ap (option_and_then specifiers_in) at_with) means_source ∙ sym (ap (λ c. if c then derived_module a d else plain_module a d) derive);
        name = ap (option_and_then name_in) at_name ∙ own_name_is k small;
      } in
      subst (ModuleStays ns names k d) (sym whole) stays

  items_stay : (d c : Data) (f : Around) → f ≡ around false (ns ++ []) (k + 1) → items_fault f c ≡ None → (ds : Items) × (as_array c ≡ Some ds) × (each_fault (item_fault (around false (ns ++ []) (k + 1))) 0 ds ≡ None) × (items_in f c ≡ each_of (item_of (around false (ns ++ []) (k + 1))) ds)
  items_stay d c f is e = go (as_array c) refl (subst (λ x. items_fault x c ≡ None) is e)
    where
      go : (o : Option Items) → as_array c ≡ o → array_case (each_fault (item_fault (around false (ns ++ []) (k + 1))) 0) o ≡ None
          → (ds : Items) × (as_array c ≡ Some ds) × (each_fault (item_fault (around false (ns ++ []) (k + 1))) 0 ds ≡ None) × (items_in f c ≡ each_of (item_of (around false (ns ++ []) (k + 1))) ds)
      go None at e = absurd (cc)
      go (Some ds) at e = (ds, at, e, ap (λ x. items_in x c) is ∙ ap (option_and_then (each_of (item_of (around false (ns ++ []) (k + 1))))) at)

  plain_stays : (ms : Members) → rows_fault (around false ns k) (plain_rows (around false ns k) (object ms)) (object ms) ≡ None → is_there field.Derive (object ms) ≡ false → ModuleStays ns names k (object ms) (named_module k (object ms))
  unfolding module_fault module_of named_module
  plain_stays ms e derive =
      let a = around false ns k in
      let b = around true names k in
      let d = object ms in
      let fine = are_fine a (plain_rows a d) d e in
      let keys = known_keys (field.Items ∷ []) ms fine.head in
      let items = needed_is_good field.Items (items_fault (next a d)) d fine.fields.0 in
      let more = items_stay d items.held (next a d) (next_unnamed ns k d) items.good in
      let ds = more.0 in
      let own = string (module_name k) in
      let es = array (items_by_name ds) in
      let ms1 = set field.Items es ms in
      let ms2 = set field.Name own ms1 in
      let new = object ms2 in
      let whole : named_module k d ≡ new =
      ap (λ x. with_field field.Name own (with_items (by_name field.Source x))) (by_name_not field.Derive d (ap (option_and_then number_in) (not_there (field.Items ∷ []) field.Derive ms keys refl)))
      ∙ ap (λ x. with_field field.Name own (with_items x)) (by_name_not field.Source d (ap (option_and_then number_in) (not_there (field.Items ∷ []) field.Source ms keys refl)))
      ∙ ap (with_field field.Name own) (with_items_is ms ds (ap (option_and_then as_array) items.there ∙ more.1)) ∙ with_field_is field.Name own ms1 in
      let all = field.Name ∷ field.Items ∷ [] in
      let knowns : Knowns all ms2 = known_set all field.Name own ms1 refl (known_set all field.Items es ms refl (known_more field.Name (field.Items ∷ []) ms keys)) in
      let at_name : get (field_name field.Name) new ≡ Some own = get_set field.Name own ms1 in
      let at_items : get (field_name field.Items) new ≡ Some es = get_other field.Items field.Name own ms1 refl ∙ get_set field.Items es ms in
      let at_derive : get (field_name field.Derive) new ≡ None =
      get_other field.Derive field.Name own ms1 refl ∙ get_other field.Derive field.Items es ms refl ∙ not_there (field.Items ∷ []) field.Derive ms keys refl in
      let named : name_at field.Name new ≡ Some (module_name k) = ap (option_and_then name_in) at_name ∙ own_name_is k small in
      let following : next b new ≡ around true (names ++ module_name k ∷ []) (k + 1) = next_named names k new (module_name k) named in
      let knows = knows_more k names small known in
      let fault : items_fault (next b new) es ≡ None = ap (λ x. items_fault x es) following ∙ items_have_none (ns ++ []) (names ++ module_name k ∷ []) (k + 1) knows 0 ds more.2 in
      let rows : rows_fault b (plain_rows b new) new ≡ None =
      named_rows_have_none names k (plain_rows b new) ms2 knowns (set_has_none field.Name (own_name_fault b) new own at_name (own_name_has_none names k small known))
      (set_has_none field.Items (items_fault (next b new)) new es at_items fault, tt) in
      let said : items_at (next b new) new ≡ items_at (next a d) d =
      ap (option_and_then (items_in (next b new))) at_items ∙ ap (λ x. items_in x es) following ∙ items_say (ns ++ []) (names ++ module_name k ∷ []) (k + 1) knows 0 ds more.2
      ∙ sym (ap (option_and_then (items_in (next a d))) items.there ∙ more.3) in
      let stays : ModuleStays ns names k d new = record {
        faultless = ap (λ o. if is_some o then rows_fault b (derived_rows b) new else rows_fault b (plain_rows b new) new) at_derive ∙ rows;
        says = ap (λ o. if is_some o then derived_module b new else plain_module b new) at_derive ∙ ap (option_map Plain) said ∙ sym (ap (λ c. if c then derived_module a d else plain_module a d) derive);
        name = named;
      } in
      subst (ModuleStays ns names k d) (sym whole) stays

  pub module_stays : (d : Data) → module_fault (around false ns k) d ≡ None → ModuleStays ns names k d (named_module k d)
  unfolding module_fault rows_fault
  module_stays null e = absurd (cc)
  module_stays (boolean x) e = absurd (cc)
  module_stays (number x) e = absurd (cc)
  module_stays (string x) e = absurd (cc)
  module_stays (array x) e = absurd (cc)
  module_stays (object ms) e = go (is_there field.Derive (object ms)) refl e
    where
      go : (c : Bool) → is_there field.Derive (object ms) ≡ c
          → (if c then rows_fault (around false ns k) (derived_rows (around false ns k)) (object ms) else rows_fault (around false ns k) (plain_rows (around false ns k) (object ms)) (object ms)) ≡ None
          → ModuleStays ns names k (object ms) (named_module k (object ms))
      go true derive e = derived_stays ms e derive
      go false derive e = plain_stays ms e derive

-- ---- all modules

pub named_count : (k : ℕ) (ds : Items) → count (named_modules k ds) ≡ count ds
named_count k no_items = refl
named_count k (item d ds) = ap suc (named_count (k + 1) ds)

pub modules_stay : (ns names : List (List ℕ)) (k : ℕ) (ds : Items) → k + count ds ≤ 64 → Knows k names → modules_fault_from (around false ns k) ds ≡ None
    → (modules_fault_from (around true names k) (named_modules k ds) ≡ None) × (modules_from (around true names k) (named_modules k ds) ≡ modules_from (around false ns k) ds)
modules_stay ns names k no_items few known e = (refl, refl)
modules_stay ns names k (item d ds) few known e =
    let a = around false ns k in
    let b = around true names k in
    let small : k < 2 ^ 64 = omega (arith, few) in
    let left = modules_fault_from (next a d) ds in
    let one = module_stays ns names k small known d (no_in_part (decimal k) (module_fault a d) (no_first (in_part (decimal k) (module_fault a d)) left e)) in
    let others : modules_fault_from (around false (ns ++ []) (k + 1)) ds ≡ None = subst (λ x. modules_fault_from x ds ≡ None) (next_unnamed ns k d) (no_second (in_part (decimal k) (module_fault a d)) left e) in
    let more = modules_stay (ns ++ []) (names ++ module_name k ∷ []) (k + 1) ds (omega (arith, few)) (knows_more k names small known) others in
    let following : next b (named_module k d) ≡ around true (names ++ module_name k ∷ []) (k + 1) = next_named names k (named_module k d) (module_name k) one.name in
    let rest = named_modules (k + 1) ds in (
      ap₂ (λ o x. option_or (in_part (decimal k) o) (modules_fault_from x rest)) one.faultless following ∙ more.0,
      ap₂ (λ o x. option_and_then (λ m. push_front m (modules_from x rest)) o) one.says following
          ∙ ap (λ p. option_and_then (λ m. push_front m p) (module_of a d)) (more.1 ∙ sym (ap (λ x. modules_from x ds) (next_unnamed ns k d))),
    )
