-- The fields of the objects of events.
use Rattle.std.specs.Prelude.{codes}
use Rattle.nb_value.specs.declared.value.Value.{Value}
use Rattle.nb_value.specs.declared.value.Value.TheVariants as V
use Rattle.nb_value.specs.declared.pairs.Field.{Field}
use Rattle.nb_log.specs.declared.event.Target.{Target}
use Rattle.nb_log.specs.declared.event.Target.TheVariants.{Ticket, Key}
use Rattle.nb_log.specs.Printing.{field, number}

-- which fetch
abbrev pub target_field : Target → Field Value
target_field (Ticket t) = field (codes "ticket") (number t)
target_field (Key k) = field (codes "key") (V.Text k)
