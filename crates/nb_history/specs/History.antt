-- A log over builtins.
use Rattle.std.specs.Prelude.{◌≡◌, List, [], ◌∷◌, ◌++◌, None}
use Rattle.nb_value.specs.declared.value.Value.{Value}
use Rattle.nb_value.specs.declared.pairs.Field.{Field}
use Rattle.nb_log.specs.declared.entry.Entry.{Entry}
use Rattle.nb_history.specs.Reading.{Reading}
use Rattle.nb_history.specs.Log.{reading, IsLegal, IsQuiet}
use Rattle.nb_history.specs.Serial.{closing}

pub record History : Type 0 where
  pub builtins : List (Field Value)
  pub log : List Entry

-- what stands after the log
abbrev pub standing : History → Reading
standing h = reading h.builtins h.log

-- with one more entry at the log's end, and with these entries
abbrev pub plus : History → Entry → History
plus h e = record h { log = h.log ++ e ∷ [] }

abbrev pub plus_all : History → List Entry → History
plus_all h es = record h { log = h.log ++ es }

-- each entry fits what stands before it, and nothing is leaving or due in the end
pub record IsClosedHistory (h : History) : Type 0 where
  pub legal : IsLegal h.builtins h.log
  pub closed : closing (standing h) ≡ None
  pub quiet : IsQuiet (standing h)
