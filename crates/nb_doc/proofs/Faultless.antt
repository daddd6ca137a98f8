-- What holds where there is no fault: of the parts of an object, and of each field.
use Rattle.std.proofs.Common.{◌≡◌, ◌⊎◌, inl, inr, ℕ, List, [], ◌∷◌, Bool, true, false, map, Option, Some, None, refl}
use Rattle.std.specs.Option.{option_or}
use Rattle.std.specs.List.{AllByRecursion}
use Rattle.serde_json.specs.Data.{Data}
use Rattle.serde_json.specs.Find.{get}
use Rattle.nb_doc.specs.declared.form.Field.{Field}
use Rattle.nb_doc.specs.Faults.{Fault, in_part, first_of, wrong_unless}
use Rattle.nb_doc.specs.Forms.{Row, row_field, needs, may, field_name, head_fault, field_case, field_fault, object_fault}

-- of two tests neither finds any
pub no_first : (a b : Option Fault) → option_or a b ≡ None → a ≡ None
no_first None b e = refl
no_first (Some f) b e = e

pub no_second : (a b : Option Fault) → option_or a b ≡ None → b ≡ None
no_second None b e = e
no_second (Some f) b e = absurd (cc)

pub no_in_part : (step : List ℕ) (o : Option Fault) → in_part step o ≡ None → o ≡ None
no_in_part step None e = refl
no_in_part step (Some f) e = absurd (cc)

pub not_wrong : (b : Bool) → wrong_unless b ≡ None → b ≡ true
not_wrong true e = refl
not_wrong false e = absurd (cc)

-- of an object
pub no_head : (rows : List Row) (d : Data) → object_fault rows d ≡ None → head_fault (map row_field rows) d ≡ None
unfolding object_fault
no_head rows d e = no_first (head_fault (map row_field rows) d) (first_of (map (field_fault d) rows)) e

abbrev pub HasNone : Data → Row → Type 0
HasNone d r = field_fault d r ≡ None

pub each_has_none : (d : Data) (rows : List Row) → first_of (map (field_fault d) rows) ≡ None → AllByRecursion (HasNone d) rows
each_has_none d [] e = tt
each_has_none d (r ∷ rows) e = (no_first (field_fault d r) (first_of (map (field_fault d) rows)) e, each_has_none d rows (no_second (field_fault d r) (first_of (map (field_fault d) rows)) e))

pub fields_have_none : (rows : List Row) (d : Data) → object_fault rows d ≡ None → AllByRecursion (HasNone d) rows
unfolding object_fault
fields_have_none rows d e = each_has_none d rows (no_second (head_fault (map row_field rows) d) (first_of (map (field_fault d) rows)) e)

-- of a field that must be there, and of one that may
pub record IsGood (f : Field) (content : Data → Option Fault) (d : Data) : Type 0 where
  pub held : Data
  pub there : get (field_name f) d ≡ Some held
  pub good : content held ≡ None

pub needed_is_good : (f : Field) (content : Data → Option Fault) (d : Data) → field_fault d (needs f content) ≡ None → IsGood f content d
unfolding field_fault
needed_is_good f content d e = go (get (field_name f) d) refl e
  where
    go : (o : Option Data) → get (field_name f) d ≡ o → field_case (needs f content) o ≡ None → IsGood f content d
    go None is e = absurd (cc)
    go (Some c) is e = record { held = c; there = is; good = no_in_part (field_name f) (content c) e }

pub may_is_good : (f : Field) (content : Data → Option Fault) (d : Data) → field_fault d (may f content) ≡ None → (get (field_name f) d ≡ None) ⊎ IsGood f content d
unfolding field_fault
may_is_good f content d e = go (get (field_name f) d) refl e
  where
    go : (o : Option Data) → get (field_name f) d ≡ o → field_case (may f content) o ≡ None → (get (field_name f) d ≡ None) ⊎ IsGood f content d
    go None is e = inl is
    go (Some c) is e = inr (record { held = c; there = is; good = no_in_part (field_name f) (content c) e })
