-- The reason in the log for an edit that the sheet refuses.
use Rattle.nb_sheet.specs.declared.refused.Refused.{Refused}
use Rattle.nb_sheet.specs.declared.refused.Refused.TheVariants as sheet
use Rattle.nb_log.specs.declared.entry.Refusal.{Refusal}
use Rattle.nb_log.specs.declared.entry.Refusal.TheVariants.{NoModule, NoVariable, TooManyModules, TooManyVariables, NotNamed, NamedTwice}

abbrev pub refusal_of : Refused → Refusal
refusal_of sheet.NoModule = NoModule
refusal_of sheet.NoVariable = NoVariable
refusal_of sheet.TooManyModules = TooManyModules
refusal_of sheet.TooManyVariables = TooManyVariables
refusal_of sheet.NotNamed = NotNamed
refusal_of sheet.NamedTwice = NamedTwice
