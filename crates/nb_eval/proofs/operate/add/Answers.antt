use Rattle.std.proofs.Common.{rules}
use Rattle.nb_eval.proofs.operate.add.Goals as goal
use Rattle.nb_eval.proofs.operate.add.Goals.{in_default-via-in-Int+in_default, in_default-via-in-Text+in_default, in_default-via-in-List+in_default, in_default-via-in_default}

pub returns-in_default : goal.returns-in_default
returns-in_default c = elim c.in_default.branch [
  | in_default-via-in-Int+in_default w ↦ search rules
  | in_default-via-in-Text+in_default w ↦ search rules
  | in_default-via-in-List+in_default w ↦ search rules
  | in_default-via-in_default w ↦ search rules
]
