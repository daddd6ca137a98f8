-- A field that a line may have: where it is there it is as one that the line needs, and where it isn't it has no fault.
use Rattle.std.proofs.Common.{◌≡◌, Option, Some, None, true, false, is_some, refl}
use Rattle.serde_json.specs.Data.{Data}
use Rattle.serde_json.specs.Find.{get}
use Rattle.nb_lines.specs.declared.form.Field.{Field}
use Rattle.nb_lines.specs.Forms.{Kind, needs, may, field_name}
use Rattle.nb_lines.specs.Fields.{is_there, field_case, field_reason}

case_there : (f : Field) (k : Kind) (o : Option Data) → is_some o ≡ true → field_case (may f k) o ≡ field_case (needs f k) o
case_there f k None e = cc
case_there f k (Some d) e = refl

case_absent : (f : Field) (k : Kind) (o : Option Data) → is_some o ≡ false → field_case (may f k) o ≡ None
case_absent f k None e = refl
case_absent f k (Some d) e = cc

pub there : (d : Data) (f : Field) (k : Kind) → is_there f d ≡ true → field_reason d (may f k) ≡ field_reason d (needs f k)
unfolding field_reason
there d f k e = case_there f k (get (field_name f) d) e

pub absent : (d : Data) (f : Field) (k : Kind) → is_there f d ≡ false → field_reason d (may f k) ≡ None
unfolding field_reason
absent d f k e = case_absent f k (get (field_name f) d) e

pub ruleset choices = (there, absent)
