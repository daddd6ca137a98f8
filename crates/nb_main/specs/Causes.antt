-- When each status comes, status by status. All of it follows from `Answers`.
use Rattle.std.specs.Prelude.{◌≡◌, ◌⊎◌, ℕ, true, List, Some, None}
use Rattle.nb_io.specs.Causes.{Rose}
use Rattle.nb_io.specs.Named.{TellsFile}
use Rattle.nb_io.specs.Streams.{Tells}
use Rattle.nb_lines.specs.declared.script.BadReason.{BadReason}
use Rattle.nb_doc.specs.declared.reason.DocReason.{DocReason}
use Rattle.nb_main.specs.declared.task.Task.{Task}
use Rattle.nb_main.specs.declared.status.Status.{Status}
use Rattle.nb_main.specs.declared.status.Status.TheVariants.{Ok, Memory, Usage, BadInput, ReadFault, WriteFault, FileFault, TooLong, BadDocument}
use Rattle.nb_main.specs.Task.{task, file_of, file_in, reads_input}
use Rattle.nb_main.specs.Outcome.{IsRefusal, IsReadable, IsDocumentRefusal, IsReadableDocument}
use Rattle.nb_main.specs.Answers.{Call}

-- The words name no file, or the files tell a readable one.
abbrev pub HasReadableFile : Call → Task → Type 0
HasReadableFile call does =
    (file_of does ≡ None) ⊎ ((name bytes : List ℕ) × (file_of does ≡ Some name) × TellsFile (call.files.told name) bytes × IsReadableDocument bytes)

-- The task reads no input, or the input tells that it is readable.
abbrev pub HasReadableInput : Call → Task → Type 0
HasReadableInput call does = (reads_input does ≡ true) → (bytes : List ℕ) × Tells call.input.old bytes × IsReadable bytes

pub record Causes (status : Status) (call : Call) : Type 0 where
  -- Usage comes exactly where the words are no command, up to want of memory.
  pub usage : status ≡ Usage → task call.words ≡ None
  pub usage_comes : task call.words ≡ None → (status ≡ Usage) ⊎ (status ≡ Memory)
  -- A fault comes only where the count of that object rose.
  pub file_fault : status ≡ FileFault → Rose call.files.faults_old call.files.faults_new
  pub read_fault : status ≡ ReadFault → Rose call.input.faults_old call.input.faults_new
  pub write_fault : status ≡ WriteFault → Rose call.out.faults_old call.out.faults_new
  -- A document is refused exactly where the bytes of the file are, with the first reason, up to a fault of the files and want of memory.
  pub bad_document : (path : List ℕ) (reason : DocReason) (name bytes : List ℕ) → file_in call.words ≡ Some name → TellsFile (call.files.told name) bytes
      → status ≡ BadDocument path reason → IsDocumentRefusal bytes (BadDocument path reason)
  pub document_refusal_comes : (reason : Status) (name bytes : List ℕ) → file_in call.words ≡ Some name → TellsFile (call.files.told name) bytes → IsDocumentRefusal bytes reason
      → (status ≡ reason) ⊎ ((status ≡ FileFault) ⊎ (status ≡ Memory))
  -- An input is refused exactly where its bytes are and the file is readable, with the first reason, up to a fault that was told before and want of memory.
  pub bad_input : (line : ℕ) (reason : BadReason) (bytes : List ℕ) → Tells call.input.old bytes → status ≡ BadInput line reason → IsRefusal bytes (BadInput line reason)
  pub refusal_comes : (reason : Status) (does : Task) (bytes : List ℕ) → task call.words ≡ Some does → reads_input does ≡ true → HasReadableFile call does
      → Tells call.input.old bytes → IsRefusal bytes reason → (status ≡ reason) ⊎ ((status ≡ FileFault) ⊎ ((status ≡ ReadFault) ⊎ (status ≡ Memory)))
  -- Too long is a file, or an input, that has more bytes than the limit.
  pub too_long : (most : ℕ) (does : Task) → task call.words ≡ Some does → status ≡ TooLong most
      → ((name bytes : List ℕ) → file_of does ≡ Some name → TellsFile (call.files.told name) bytes → IsDocumentRefusal bytes (TooLong most))
      ⊎ ((reads_input does ≡ true) × ((bytes : List ℕ) → Tells call.input.old bytes → IsRefusal bytes (TooLong most)))
  -- A call with a command and readable bytes, in which no count rose, answers Ok or runs out of memory.
  pub complete : (does : Task) → task call.words ≡ Some does → HasReadableFile call does → HasReadableInput call does
      → ¬ Rose call.files.faults_old call.files.faults_new → ¬ Rose call.input.faults_old call.input.faults_new → ¬ Rose call.out.faults_old call.out.faults_new
      → (status ≡ Ok) ⊎ (status ≡ Memory)
