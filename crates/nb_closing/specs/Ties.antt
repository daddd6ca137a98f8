-- What its names tie a variable to.
use Rattle.std.specs.Prelude.{ℕ, Bool, List, map}
use Rattle.nb_sheet.specs.Lists.{Name, numbers}
use Rattle.nb_sheet.specs.Sheet.{Sheet}
use Rattle.nb_resolve.specs.declared.resolution.Resolution.{Resolution}
use Rattle.nb_resolve.specs.Names.{inputs, direct, duplicate}
use Rattle.nb_history.specs.Needs.{circular, is_used}
use Rattle.nb_history.specs.Rules.{input_code}

-- whether it is a duplicate, whether it needs itself, whether it is used, its inputs as resolved, these by their numbers, and
-- the variables among them
pub record Ties : Type 0 where
  pub is_duplicate : Bool
  pub is_circular : Bool
  pub is_used : Bool
  pub inputs : List (Name × Resolution)
  pub codes : List ℕ
  pub direct : List ℕ

abbrev pub ties_of : Sheet → ℕ → Ties
ties_of s v =
    record {
      is_duplicate = duplicate s v;
      is_circular = circular s v;
      is_used = is_used s v;
      inputs = inputs s v;
      codes = map input_code (inputs s v);
      direct = direct s v;
    }

-- of each variable, by number
abbrev pub all_ties : Sheet → List Ties
all_ties s = map (ties_of s) (numbers s.rows)
