-- What the bytes of a document and of an input come to.
use Rattle.std.specs.Prelude.{◌≡◌, ◌<◌, ◌≤◌, ℕ, List, [], ◌++◌, length, map, Option, None}
use Rattle.nb_lines.specs.Lines.{first_bad, scripts, script_lines, IsBad}
use Rattle.nb_log.specs.declared.event.Event.{Event}
use Rattle.nb_log.specs.declared.entry.Entry.{Entry}
use Rattle.nb_doc.specs.declared.document.Document.{Document}
use Rattle.nb_doc.specs.Faults.{IsTold}
use Rattle.nb_doc.specs.Documents.{first_fault}
use Rattle.nb_io.specs.declared.spawner.ChildRun.{ChildRun}
use Rattle.nb_loader.specs.Loads.{as_loaders}
use Rattle.nb_main.specs.Run.{HasHistory}
use Rattle.nb_history.specs.Print.{printing}
use Rattle.nb_main.specs.declared.status.Status.{Status}
use Rattle.nb_main.specs.declared.status.Status.TheVariants as status
use Rattle.nb_main.specs.Ends.{limit}

-- ---- an input

-- The bytes of an input are refused with this status: they are too many, or else a line is bad.
abbrev pub IsRefusal : List ℕ → Status → Type 0
IsRefusal bytes (status.TooLong n) = (n ≡ limit) × (limit < length bytes)
IsRefusal bytes (status.BadInput line reason) = (length bytes ≤ limit) × IsBad (first_bad bytes) line reason
IsRefusal bytes _ = ⊥

-- The bytes of an input aren't refused.
pub record IsReadable (bytes : List ℕ) : Type 0 where
  pub fits : length bytes ≤ limit
  pub good : first_bad bytes ≡ None

-- ---- a document

-- The bytes of a document are refused with this status: they are too many, or else it has a first fault.
abbrev pub IsDocumentRefusal : List ℕ → Status → Type 0
IsDocumentRefusal bytes (status.TooLong n) = (n ≡ limit) × (limit < length bytes)
IsDocumentRefusal bytes (status.BadDocument path reason) = (length bytes ≤ limit) × IsTold (first_fault bytes) path reason
IsDocumentRefusal bytes _ = ⊥

-- The bytes of a document aren't refused.
pub record IsReadableDocument (bytes : List ℕ) : Type 0 where
  pub fits : length bytes ≤ limit
  pub good : first_fault bytes ≡ None

-- without a file there are no builtins, no lines and no loaders
abbrev pub no_document : Document
no_document = record { builtins = []; lines = []; loaders = [] }

-- the lines that a document stands for, which are of editor 0
abbrev pub opening_lines : List Event → List (ℕ × Event)
opening_lines events = map (λ (event : Event). (0, event)) events

-- ---- a run

-- the document's lines, and then those that the input's bytes are
abbrev pub all_lines : Document → List ℕ → List (ℕ × Event)
all_lines document input = opening_lines document.lines ++ script_lines (scripts input)

-- The text is the printing of the history of these lines, over the document's builtins, with its loaders, and with the runs
-- of their programs that were made.
pub record IsOutcome (document : Document) (input : List ℕ) (before now : Option (List ChildRun)) (text : List ℕ) : Type 0 where
  pub log : List Entry
  pub history : HasHistory document.builtins (as_loaders document.loaders) (all_lines document input) before now log
  pub printed : text ≡ printing document.builtins log

-- the bytes are readable, and this comes of them
pub record GivesRun (document : Document) (input : List ℕ) (before now : Option (List ChildRun)) (text : List ℕ) : Type 0 where
  pub readable : IsReadable input
  pub outcome : IsOutcome document input before now text

-- a line of bytes that aren't too many is bad; memory may run out
abbrev pub RefusesLines : List ℕ → Status → Type 0
RefusesLines bytes status.Memory = Unit {0}
RefusesLines bytes (status.BadInput line reason) = IsRefusal bytes (status.BadInput line reason)
RefusesLines bytes _ = ⊥
