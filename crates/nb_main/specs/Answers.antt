-- What each status of the program says.
use Rattle.std.specs.Prelude.{◌≡◌, ◌⊎◌, ⊤, ℕ, List, [], ◌∷◌, Option, Some, None, IsSome}
use Rattle.std.specs.Io.KnownBytes.{Keeps, Appends, IsAtEnd}
use Rattle.nb_io.specs.declared.spawner.ChildRun.{ChildRun}
use Rattle.nb_io.specs.Causes.{Rose}
use Rattle.nb_io.specs.Named.{TellsFile}
use Rattle.nb_io.specs.Runs.{Grows}
use Rattle.nb_io.specs.Streams.{Tells, AppendsFront}
use Rattle.nb_doc.specs.declared.document.Document.{Document}
use Rattle.nb_doc.specs.Documents.{document_of}
use Rattle.nb_doc.specs.Upgraded.{upgraded}
use Rattle.nb_main.specs.declared.task.Task.{Task}
use Rattle.nb_main.specs.declared.task.Task.TheVariants.{Run, Make, Upgrade}
use Rattle.nb_main.specs.declared.status.Status.{Status}
use Rattle.nb_main.specs.declared.status.Status.TheVariants.{Ok, Memory, Usage, BadInput, ReadFault, WriteFault, FileFault, TooLong, BadDocument}
use Rattle.nb_main.specs.Task.{task}
use Rattle.nb_main.specs.Made.{MakesTo}
use Rattle.nb_main.specs.Outcome.{IsRefusal, IsReadable, IsDocumentRefusal, IsReadableDocument, no_document, IsOutcome}

-- What an object told before a call and after it, and its counts of faults then.
pub record Seen : Type 0 where
  pub old : Option (List ℕ)
  pub new : Option (List ℕ)
  pub faults_old : ℕ
  pub faults_new : ℕ

-- The record of an object, from its trait's two meanings.
abbrev pub seen : {X : Type 0} → (X → Option (List ℕ)) → (X → ℕ) → X → X → Seen
seen told faults old new = record { old = told old; new = told new; faults_old = faults old; faults_new = faults new }

-- What the files told before a call of each name, and their counts of faults before it and after it. No call changes a file.
pub record SeenFiles : Type 0 where
  pub told : List ℕ → Option (Option (List ℕ))
  pub faults_old : ℕ
  pub faults_new : ℕ

abbrev pub seen_files : {X : Type 0} → (X → List ℕ → Option (Option (List ℕ))) → (X → ℕ) → X → X → SeenFiles
seen_files told faults old new = record { told = told old; faults_old = faults old; faults_new = faults new }

-- The runs of programs that the object told before a call and after it.
pub record SeenRuns : Type 0 where
  pub old : Option (List ChildRun)
  pub new : Option (List ChildRun)

abbrev pub seen_runs : {X : Type 0} → (X → Option (List ChildRun)) → X → X → SeenRuns
seen_runs told old new = record { old = told old; new = told new }

-- All that a call was given, and what it left.
pub record Call : Type 0 where
  pub words : List (List ℕ)
  pub input : Seen
  pub files : SeenFiles
  pub programs : SeenRuns
  pub out : Seen

-- ---- what was read

-- these bytes were read: those that the object tells, where it tells them
abbrev pub Agrees : Option (List ℕ) → List ℕ → Type 0
Agrees told read = (bytes : List ℕ) → Tells told bytes → read ≡ bytes

-- the same of a file
abbrev pub AgreesFile : Option (Option (List ℕ)) → List ℕ → Type 0
AgreesFile told read = (bytes : List ℕ) → TellsFile told bytes → read ≡ bytes

-- These bytes were read of the file with this name, and aren't refused.
pub record ReadsDocumentFile (files : SeenFiles) (name bytes : List ℕ) : Type 0 where
  pub read : AgreesFile (files.told name) bytes
  pub readable : IsReadableDocument bytes

-- The document is that of the file with this name.
pub record IsNamed (files : SeenFiles) (name : List ℕ) (document : Document) : Type 0 where
  pub bytes : List ℕ
  pub reads : ReadsDocumentFile files name bytes
  pub is : document_of bytes ≡ Some document

-- The document is that of the file, if one is named, and else has nothing in it.
abbrev pub IsDocument : SeenFiles → Option (List ℕ) → Document → Type 0
IsDocument files None document = document ≡ no_document
IsDocument files (Some name) document = IsNamed files name document

-- Where a file is named and told, its bytes aren't refused.
abbrev pub AcceptsFile : SeenFiles → Option (List ℕ) → Type 0
AcceptsFile files file = (name bytes : List ℕ) → file ≡ Some name → TellsFile (files.told name) bytes → IsReadableDocument bytes

-- ---- what a task comes to

-- no program was run
abbrev pub RunsNothing : SeenRuns → Type 0
RunsNothing programs = programs.new ≡ programs.old

-- The text is the printing of the history of the document's lines and the input's, which was read to its end, with the
-- document's loaders and the runs that were made.
pub record RunsTo (files : SeenFiles) (input : Seen) (programs : SeenRuns) (file : Option (List ℕ)) (text : List ℕ) : Type 0 where
  pub document : Document
  pub named : IsDocument files file document
  pub bytes : List ℕ
  pub read : Agrees input.old bytes
  pub readable : IsReadable bytes
  pub at_end : IsAtEnd input.new
  pub outcome : IsOutcome document bytes programs.old programs.new text

-- The text is the file's document in version 2.
pub record UpgradesTo (files : SeenFiles) (name text : List ℕ) : Type 0 where
  pub bytes : List ℕ
  pub reads : ReadsDocumentFile files name bytes
  pub is : upgraded bytes ≡ Some text

abbrev pub ComesTo : SeenFiles → Seen → SeenRuns → Task → List ℕ → Type 0
ComesTo files input programs (Run file) text = RunsTo files input programs file text
ComesTo files input programs (Make cells seed) text = MakesTo cells seed text × RunsNothing programs
ComesTo files input programs (Upgrade name) text = UpgradesTo files name text × RunsNothing programs

-- ---- why a task comes to nothing

-- Reading the file failed.
pub record HasNoFile (files : SeenFiles) (file : Option (List ℕ)) : Type 0 where
  pub named : IsSome file
  pub rose : Rose files.faults_old files.faults_new

-- The file's bytes are refused, for this reason.
pub record RefusesFile (files : SeenFiles) (file : Option (List ℕ)) (status : Status) : Type 0 where
  pub name : List ℕ
  pub named : file ≡ Some name
  pub reason : (bytes : List ℕ) → TellsFile (files.told name) bytes → IsDocumentRefusal bytes status

-- The file that is named, if one is, gives no document.
abbrev pub StopsAtFile : SeenFiles → Option (List ℕ) → Status → Type 0
StopsAtFile files file Memory = ⊤
StopsAtFile files file FileFault = HasNoFile files file
StopsAtFile files file (TooLong most) = RefusesFile files file (TooLong most)
StopsAtFile files file (BadDocument path reason) = RefusesFile files file (BadDocument path reason)
StopsAtFile files file status = ⊥

-- Reading the input failed.
pub record HasNoInput (files : SeenFiles) (input : Seen) (file : Option (List ℕ)) : Type 0 where
  pub accepted : AcceptsFile files file
  pub rose : Rose input.faults_old input.faults_new

-- The bytes of the input are refused, for this reason.
pub record RefusesInput (files : SeenFiles) (input : Seen) (file : Option (List ℕ)) (status : Status) : Type 0 where
  pub accepted : AcceptsFile files file
  pub reason : (bytes : List ℕ) → Tells input.old bytes → IsRefusal bytes status

-- A run comes to nothing for one of these reasons. The file comes before the input.
abbrev pub StopsRun : SeenFiles → Seen → Option (List ℕ) → Status → Type 0
StopsRun files input file Memory = ⊤
StopsRun files input file (BadInput line reason) = RefusesInput files input file (BadInput line reason)
StopsRun files input file ReadFault = HasNoInput files input file
StopsRun files input file FileFault = HasNoFile files file
StopsRun files input file (TooLong most) = RefusesFile files file (TooLong most) ⊎ RefusesInput files input file (TooLong most)
StopsRun files input file (BadDocument path reason) = RefusesFile files file (BadDocument path reason)
StopsRun files input file status = ⊥

-- Making a notebook comes to nothing only for want of memory.
abbrev pub StopsMaking : Status → Type 0
StopsMaking Memory = ⊤
StopsMaking status = ⊥

-- A task comes to nothing for one of these reasons.
abbrev pub Stops : SeenFiles → Seen → Task → Status → Type 0
Stops files input (Run file) status = StopsRun files input file status
Stops files input (Make cells seed) status = StopsMaking status
Stops files input (Upgrade name) status = StopsAtFile files (Some name) status

-- where memory didn't run out, no program was run
abbrev pub RunsNothingBy : Status → SeenRuns → Type 0
RunsNothingBy Memory programs = ⊤
RunsNothingBy status programs = RunsNothing programs

-- ---- what a call's status says

-- The words are no command.
pub record IsNoCommand (call : Call) : Type 0 where
  pub words : task call.words ≡ None
  pub unrun : RunsNothing call.programs
  pub nothing : Keeps call.out.old call.out.new

-- The task came to nothing.
pub record IsStopped (call : Call) (status : Status) : Type 0 where
  pub does : Task
  pub words : task call.words ≡ Some does
  pub stops : Stops call.files call.input does status
  pub unrun : RunsNothing call.programs
  pub nothing : Keeps call.out.old call.out.new

-- All that the task comes to was written.
pub record IsDone (call : Call) : Type 0 where
  pub does : Task
  pub words : task call.words ≡ Some does
  pub text : List ℕ
  pub outcome : ComesTo call.files call.input call.programs does text
  pub written : Appends call.out.old call.out.new text

-- A write failed: a front of what the task comes to was written.
pub record IsCutOff (call : Call) : Type 0 where
  pub does : Task
  pub words : task call.words ≡ Some does
  pub rose : Rose call.out.faults_old call.out.faults_new
  pub text : List ℕ
  pub outcome : ComesTo call.files call.input call.programs does text
  pub front : AppendsFront call.out.old call.out.new text

-- What a call's status says. Where memory ran out nothing was written.
abbrev pub Answers : Status → Call → Type 0
Answers Ok call = IsDone call
Answers Memory call = Keeps call.out.old call.out.new
Answers Usage call = IsNoCommand call
Answers WriteFault call = IsCutOff call
Answers (BadInput line reason) call = IsStopped call (BadInput line reason)
Answers ReadFault call = IsStopped call ReadFault
Answers FileFault call = IsStopped call FileFault
Answers (TooLong most) call = IsStopped call (TooLong most)
Answers (BadDocument path reason) call = IsStopped call (BadDocument path reason)

-- ---- what is asked of the objects

-- No other file is asked for than the one that the words name.
abbrev pub AsksFor : Option (List ℕ) → Option (List (List ℕ)) → Option (List (List ℕ)) → Type 0
AsksFor None old new = Grows old new []
AsksFor (Some name) old new = Grows old new [] ⊎ Grows old new (name ∷ [])

-- An input that isn't read stays as it was.
abbrev pub StaysUnread : Option Task → Seen → Type 0
StaysUnread (Some (Run file)) input = ⊤
StaysUnread _ input = (input.new ≡ input.old) × (input.faults_new ≡ input.faults_old)
