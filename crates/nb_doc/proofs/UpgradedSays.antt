-- A document in version 2 has no fault, and is the document that it was.
use Rattle.std.proofs.Common.{◌≡◌, ℕ, List, [], ◌∷◌, Bool, true, false, Option, Some, None, option_map, option_and_then, unwrap_or, nat_le, if◌then◌else◌, Result, Ok, Err, IfOk, refl, sym, ap, ap₂, ◌∙◌, subst, arith}
use Rattle.std.specs.Option.{option_map_or}
use Rattle.serde_json.specs.Data.{Data, null, boolean, number, string, array, object, unsigned, Items, Members}
use Rattle.serde_json.specs.Find.{get, as_array}
use Rattle.nb_lines.specs.Reasons.{line_data}
use Rattle.nb_doc.specs.declared.document.Document.{Document}
use Rattle.nb_doc.specs.declared.module.Module.{Module}
use Rattle.nb_doc.specs.declared.form.Field.TheVariants as field
use Rattle.nb_doc.specs.declared.reason.DocReason.TheVariants.{WrongField}
use Rattle.nb_doc.specs.declared.reason.DocFail.{DocFail}
use Rattle.nb_doc.specs.Faults.{here}
use Rattle.nb_doc.specs.Forms.{may, field_name, object_fault}
use Rattle.nb_doc.specs.Items.{count, array_case}
use Rattle.nb_doc.specs.Modules.{start, modules_fault_from, modules_from, few_modules_fault, modules_fault, modules_in, modules_at}
use Rattle.nb_doc.specs.Loading.{builtins_fault, builtins_in, builtins_of, loaders_fault, loaders_in, loaders_of}
use Rattle.nb_doc.specs.Documents.{version_fault, version_in, is_named, document_rows, data_fault, document_by, data_document, fault_case, first_fault, document_of}
use Rattle.nb_doc.specs.Says.{lines_of}
use Rattle.nb_doc.specs.Upgraded.{with_field, array_at, named_modules, with_modules, upgraded_by, upgraded_data, IsReadAs}
use Rattle.nb_doc.proofs.Faultless.{no_head, fields_have_none, needed_is_good}
use Rattle.nb_doc.proofs.Floats.{known_keys}
use Rattle.nb_doc.proofs.ModuleNames.{knows_none}
use Rattle.nb_doc.proofs.SetFields.{set, get_set, get_other, with_field_is, known_set, set_has_none, same_has_none, object_is_faultless}
use Rattle.nb_doc.proofs.UpgradedModules.{named_count, modules_stay}

pub record Stays (d e : Data) : Type 0 where
  pub faultless : data_fault e ≡ None
  pub says : data_document e ≡ data_document d

with_modules_is : (ms : Members) (ds : Items) → array_at field.Modules (object ms) ≡ Some ds → with_modules (object ms) ≡ object (set field.Modules (array (named_modules 0 ds)) ms)
unfolding with_modules
with_modules_is ms ds e = ap (λ o. option_map_or (λ es. with_field field.Modules (array (named_modules 0 es)) (object ms)) o (object ms)) e ∙ with_field_is field.Modules (array (named_modules 0 ds)) ms

-- what is in the field of modules of version 1
record HasModules (c : Data) : Type 0 where
  modules : Items
  array : as_array c ≡ Some modules
  faultless : few_modules_fault true (named_modules 0 modules) ≡ None
  says : modules_from (start true) (named_modules 0 modules) ≡ modules_from (start false) modules

has_modules : (c : Data) → modules_fault false c ≡ None → HasModules c
has_modules c e = go (as_array c) refl e
  where
    few : (ds : Items) (b : Bool) → as_array c ≡ Some ds → nat_le (count ds) 64 ≡ b → (if b then modules_fault_from (start false) ds else Some (here WrongField)) ≡ None → HasModules c
    few ds true at is e =
        let stay = modules_stay [] [] 0 ds (grind (arith, is)) knows_none e in
        record {
          modules = ds;
          array = at;
          faultless = ap (λ n. if nat_le n 64 then modules_fault_from (start true) (named_modules 0 ds) else Some (here WrongField)) (named_count 0 ds)
              ∙ ap (λ b. if b then modules_fault_from (start true) (named_modules 0 ds) else Some (here WrongField)) is ∙ stay.0;
          says = stay.1;
        }
    few ds false at is e = absurd (cc)

    go : (o : Option Items) → as_array c ≡ o → array_case (few_modules_fault false) o ≡ None → HasModules c
    go None at e = absurd (cc)
    go (Some ds) at e = few ds (nat_le (count ds) 64) at refl e

same_document : (d e : Data) → builtins_of e ≡ builtins_of d → loaders_of e ≡ loaders_of d → (o p : Option (List Module)) → o ≡ p → option_map (document_by e) o ≡ option_map (document_by d) p
same_document d e builtins loaders o p is = ap (option_map (document_by e)) is ∙ go p
  where
    go : (q : Option (List Module)) → option_map (document_by e) q ≡ option_map (document_by d) q
    go None = refl
    go (Some ms) = ap₂ (λ b l. let doc : Document = record { builtins = b; lines = lines_of ms; loaders = l } in Some doc) builtins loaders

unnamed_stays : (ms : Members) → object_fault (document_rows false) (object ms) ≡ None → is_named (object ms) ≡ false → Stays (object ms) (upgraded_by false (object ms))
unfolding data_fault data_document upgraded_by
unnamed_stays ms e version =
    let d = object ms in
    let all = field.Notebook ∷ field.Builtins ∷ field.Modules ∷ field.Loaders ∷ [] in
    let keys = known_keys all ms (no_head (document_rows false) d e) in
    let good = fields_have_none (document_rows false) d e in
    let held = needed_is_good field.Modules (modules_fault false) d good.1.1.0 in
    let has = has_modules held.held held.good in
    let two = number (unsigned 2) in
    let es = array (named_modules 0 has.modules) in
    let ms1 = set field.Modules es ms in
    let ms2 = set field.Notebook two ms1 in
    let new = object ms2 in
    let whole : upgraded_by false d ≡ new = ap (with_field field.Notebook two) (with_modules_is ms has.modules (ap (option_and_then as_array) held.there ∙ has.array)) ∙ with_field_is field.Notebook two ms1 in
    let at_notebook : get (field_name field.Notebook) new ≡ Some two = get_set field.Notebook two ms1 in
    let at_builtins : get (field_name field.Builtins) new ≡ get (field_name field.Builtins) d = get_other field.Builtins field.Notebook two ms1 refl ∙ get_other field.Builtins field.Modules es ms refl in
    let at_modules : get (field_name field.Modules) new ≡ Some es = get_other field.Modules field.Notebook two ms1 refl ∙ get_set field.Modules es ms in
    let at_loaders : get (field_name field.Loaders) new ≡ get (field_name field.Loaders) d = get_other field.Loaders field.Notebook two ms1 refl ∙ get_other field.Loaders field.Modules es ms refl in
    let named : is_named new ≡ true = ap (λ o. unwrap_or (option_and_then version_in o) false) at_notebook in
    let faultless : object_fault (document_rows true) new ≡ None =
    object_is_faultless (document_rows true) ms2 (known_set all field.Notebook two ms1 refl (known_set all field.Modules es ms refl keys)) (
      set_has_none field.Notebook version_fault new two at_notebook refl,
      (
        same_has_none (may field.Builtins builtins_fault) d new at_builtins good.1.0,
        (set_has_none field.Modules (modules_fault true) new es at_modules has.faultless, (same_has_none (may field.Loaders loaders_fault) d new at_loaders good.1.1.1.0, tt)),
      ),
    ) in
    let modules : modules_at true new ≡ modules_at false d =
    ap (option_and_then (modules_in true)) at_modules ∙ has.says ∙ sym (ap (option_and_then (modules_in false)) held.there ∙ ap (option_and_then (modules_from (start false))) has.array) in
    let stays : Stays d new = record {
      faultless = ap (λ b. object_fault (document_rows b) new) named ∙ faultless;
      says = same_document d new (ap (λ o. unwrap_or (option_and_then builtins_in o) []) at_builtins) (ap (λ o. unwrap_or (option_and_then loaders_in o) []) at_loaders) (modules_at (is_named new) new) (modules_at (is_named d) d)
          (ap (λ b. modules_at b new) named ∙ modules ∙ sym (ap (λ b. modules_at b d) version));
    } in
    subst (Stays d) (sym whole) stays

unnamed_data_stays : (d : Data) → object_fault (document_rows false) d ≡ None → is_named d ≡ false → Stays d (upgraded_by false d)
unfolding object_fault
unnamed_data_stays null e version = absurd (cc)
unnamed_data_stays (boolean b) e version = absurd (cc)
unnamed_data_stays (number n) e version = absurd (cc)
unnamed_data_stays (string s) e version = absurd (cc)
unnamed_data_stays (array ds) e version = absurd (cc)
unnamed_data_stays (object ms) e version = unnamed_stays ms e version

data_stays : (d : Data) → data_fault d ≡ None → Stays d (upgraded_data d)
unfolding data_fault upgraded_by
data_stays d e = go (is_named d) refl
  where
    go : (b : Bool) → is_named d ≡ b → Stays d (upgraded_by b d)
    go true is = record { faultless = e; says = refl }
    go false is = unnamed_data_stays d (subst (λ b. object_fault (document_rows b) d ≡ None) is e) is

-- bytes that are read as the upgraded data
upgraded_is_read : (old new : List ℕ) (d : Data) → line_data old ≡ Some d → line_data new ≡ Some (upgraded_data d) → data_fault d ≡ None → IsReadAs (document_of old) new
unfolding first_fault document_of
upgraded_is_read old new d at is e =
    let stays = data_stays d e in
    (ap fault_case is ∙ stays.faultless, ap (option_and_then data_document) is ∙ stays.says ∙ sym (ap (option_and_then data_document) at))

pub upgrade_is_read : (old : List ℕ) (r : Result (List ℕ) DocFail) → IfOk r (λ b. first_fault old ≡ None) → IfOk r (λ b. line_data b ≡ option_map upgraded_data (line_data old)) → IfOk r (λ b. IsReadAs (document_of old) b)
unfolding first_fault
upgrade_is_read old (Ok b) good is = go (line_data old) refl good is
  where
    go : (o : Option Data) → line_data old ≡ o → fault_case o ≡ None → line_data b ≡ option_map upgraded_data o → IsReadAs (document_of old) b
    go None at e is = absurd (cc)
    go (Some d) at e is = upgraded_is_read old b d at is e
upgrade_is_read old (Err e) good is = tt
