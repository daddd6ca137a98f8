-- A specifier, by whether it is a text.
use Rattle.std.proofs.Common.{◌≡◌, refl}
use Rattle.serde_json.specs.Data.{Data}
use Rattle.serde_json.specs.Find.{as_str}
use Rattle.nb_lines.specs.Fields.{specifier_in, specifier_case}

pub by_case : (d : Data) → specifier_in d ≡ specifier_case (as_str d) d
unfolding specifier_in
by_case d = refl
