-- What comes of a made notebook.
use Rattle.std.specs.Prelude.{◌≡◌, ℕ, List, [], length}
use Rattle.nb_log.specs.declared.entry.Entry.{Entry}
use Rattle.nb_lines.specs.Lines.{script_lines}
use Rattle.nb_make.specs.Made.{made}
use Rattle.nb_history.specs.Headline.{IsHistoryOf}
use Rattle.nb_print.specs.declared.summary.Making.{Making}
use Rattle.nb_print.specs.Summary.{summary_text}

-- what the notebook of so many cells that a seed gives is made of
abbrev pub making : ℕ → ℕ → Making
making cells seed = record { cells = cells; seed = seed; lines = length (made cells seed) }

-- The text is the summary of the history of the lines that the seed gives, over no builtins, in which no program is run.
pub record MakesTo (cells seed : ℕ) (text : List ℕ) : Type 0 where
  pub log : List Entry
  pub history : IsHistoryOf [] [] (script_lines (made cells seed)) [] log
  pub summed : text ≡ summary_text (making cells seed) (record { builtins = []; log = log })
