-- What is to be done for a ready variable.
use Rattle.std.specs.Prelude.{ℕ, List, Option, Some, None}
use Rattle.nb_value.specs.declared.value.Value.TheVariants.{Null}
use Rattle.nb_value.specs.declared.value.Value.{Value}
use Rattle.nb_value.specs.declared.pairs.Field.{Field}
use Rattle.nb_value.specs.declared.outcome.Outcome.TheVariants.{Value as Shows, Error as Fails}
use Rattle.nb_eval.specs.declared.work.Work.{Work}
use Rattle.nb_eval.specs.declared.work.Work.TheVariants.{Direct, Run}
use Rattle.nb_sheet.specs.declared.row.BodyOf.{BodyOf}
use Rattle.nb_sheet.specs.declared.row.BodyOf.TheVariants.{Cell as CellBody, Import as ImportBody}
use Rattle.nb_sheet.specs.Lists.{from_option}
use Rattle.nb_resolve.specs.Names.{inputs}
use Rattle.nb_history.specs.Reading.{Reading, shown}
use Rattle.nb_history.specs.Rules.{deciding_error, body_of, values_given, first_value, answers_of, pulls_of}

abbrev pub values_of : Reading → ℕ → List (Field Value)
values_of r v = values_given r.sheet (shown r) (inputs r.sheet v)

abbrev pub body_work : Reading → ℕ → Option BodyOf → Work
body_work r v None = Direct (Shows Null)
body_work r v (Some (ImportBody name from)) = Direct (Shows (first_value (values_of r v)))
body_work r v (Some (CellBody cell)) = Run (record { cell = cell; inputs = values_of r v; answers = answers_of r v; pulls = pulls_of r v })

-- what is to be done for a ready v: its outcome where an error decides or it is an import, and else its evaluation
abbrev pub work_of : Reading → ℕ → Work
work_of r v = from_option (body_work r v (body_of r.sheet v)) (λ e. Direct (Fails e)) (deciding_error r (shown r) v)
