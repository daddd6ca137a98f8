use Rattle.nb_value.proofs.ValueLaws.{Equal_iff_same}
use Rattle.nb_value.proofs.law.law_of_equal_order.Goals as goal

pub returns : goal.returns
returns c = Equal_iff_same
