-- How a call stops, and what it leaves as it was.
use Rattle.std.proofs.Common.{◌≡◌, ℕ, List, [], Option, None, Some, inl, inr, sym, ap, subst, refl, append-nil, Result, Ok as Done, Err, IsErrOf, IsErrAnd}
use Rattle.std.specs.Io.KnownBytes.{Keeps}
use Rattle.std.proofs.lemmas.Option.{none-some, same_Some}
use Rattle.nb_io.specs.declared.reading.ReadFail.{ReadFail}
use Rattle.nb_io.specs.declared.reading.ReadFail.TheVariants.{Fault, TooLong as Longer, Memory as NoMemory}
use Rattle.nb_io.specs.Causes.{HasCauseAt}
use Rattle.nb_io.specs.Named.{TellsFile}
use Rattle.nb_io.specs.Runs.{Grows}
use Rattle.nb_io.specs.Streams.{ReadsAll}
use Rattle.nb_doc.specs.declared.document.Document.{Document}
use Rattle.nb_main.specs.declared.task.Task.{Task}
use Rattle.nb_main.specs.declared.task.Task.TheVariants.{Run, Make, Upgrade}
use Rattle.nb_main.specs.declared.status.Status.{Status}
use Rattle.nb_main.specs.declared.status.Status.TheVariants.{Ok, Memory, Usage, BadInput, ReadFault, WriteFault, FileFault, TooLong, BadDocument}
use Rattle.nb_main.specs.Task.{task}
use Rattle.nb_main.specs.Ends.{limit, by_read, ended}
use Rattle.nb_main.specs.Outcome.{IsReadableDocument}
use Rattle.nb_main.specs.Answers.{Seen, SeenFiles, Call, Answers, AcceptsFile, ReadsDocumentFile, IsDocument, StopsRun, Stops, AsksFor, StaysUnread, RunsNothingBy}

-- ---- the file

pub named_accepts : (files : SeenFiles) (name : List ℕ) (bytes : List ℕ) → ReadsDocumentFile files name bytes → AcceptsFile files (Some name)
named_accepts files name bytes reads =
    λ other told named tells. subst IsReadableDocument (reads.read told (subst (λ (n : List ℕ). TellsFile (files.told n) told) (same_Some other name (sym named)) tells)) reads.readable

pub document_accepts : (files : SeenFiles) (file : Option (List ℕ)) (document : Document) → IsDocument files file document → AcceptsFile files file
document_accepts files None document is = λ name bytes named tells. absurd (none-some name named)
document_accepts files (Some name) document is = named_accepts files name is.bytes is.reads

-- ---- the input

-- an input that wasn't read to its end stops a run
pub stops_reading : (files : SeenFiles) (input : Seen) (file : Option (List ℕ)) (fail : ReadFail) → AcceptsFile files file → (result : Result (List ℕ) ReadFail) → result ≡ Err fail
    → ReadsAll limit input.old input.new result → HasCauseAt Fault input.faults_old input.faults_new result → StopsRun files input file (by_read fail)
stops_reading files input file Fault accepted result is reads cause =
    record { accepted = accepted; rose = cause.failed (subst (λ (r : Result (List ℕ) ReadFail). IsErrOf r Fault) (sym is) refl) }
stops_reading files input file (Longer n) accepted result is reads cause =
    let here : IsErrOf result (Longer n) = subst (λ (r : Result (List ℕ) ReadFail). IsErrOf r (Longer n)) (sym is) refl in
    inr (record { accepted = accepted; reason = λ bytes tells. (reads.the_limit n here, reads.too_long bytes tells n here) })
stops_reading files input file NoMemory accepted result is reads cause = tt

-- ---- what stays

pub grows_by_nothing : {X : Type 0} (told : Option (List X)) → Grows told told []
grows_by_nothing None = tt
grows_by_nothing (Some xs) = ap Some (sym (append-nil xs))

pub asks_nothing : (file : Option (List ℕ)) (told : Option (List (List ℕ))) → AsksFor file told told
asks_nothing None told = grows_by_nothing told
asks_nothing (Some name) told = inl (grows_by_nothing told)

pub unread : (does : Option Task) (old : Option (List ℕ)) (faults : ℕ) → StaysUnread does (record { old = old; new = old; faults_old = faults; faults_new = faults })
unread None old faults = (refl, refl)
unread (Some (Run file)) old faults = tt
unread (Some (Make cells seed)) old faults = (refl, refl)
unread (Some (Upgrade name)) old faults = (refl, refl)

-- ---- a stop

never_usage : (files : SeenFiles) (input : Seen) (does : Task) → Stops files input does Usage → ⊥
never_usage files input (Run file) stops = stops
never_usage files input (Make cells seed) stops = stops
never_usage files input (Upgrade name) stops = stops

never_cut : (files : SeenFiles) (input : Seen) (does : Task) → Stops files input does WriteFault → ⊥
never_cut files input (Run file) stops = stops
never_cut files input (Make cells seed) stops = stops
never_cut files input (Upgrade name) stops = stops

never_done : (files : SeenFiles) (input : Seen) (does : Task) → Stops files input does Ok → ⊥
never_done files input (Run file) stops = stops
never_done files input (Make cells seed) stops = stops
never_done files input (Upgrade name) stops = stops

-- where nothing was written, the status says why the task came to nothing
pub stopped : (s : Status) (call : Call) (does : Task) → task call.words ≡ Some does → Stops call.files call.input does s → RunsNothingBy s call.programs → Keeps call.out.old call.out.new → Answers s call
stopped Ok call does words stops unrun nothing = absurd (never_done call.files call.input does stops)
stopped Memory call does words stops unrun nothing = nothing
stopped Usage call does words stops unrun nothing = absurd (never_usage call.files call.input does stops)
stopped WriteFault call does words stops unrun nothing = absurd (never_cut call.files call.input does stops)
stopped (BadInput line reason) call does words stops unrun nothing = record { does = does; words = words; stops = stops; unrun = unrun; nothing = nothing }
stopped ReadFault call does words stops unrun nothing = record { does = does; words = words; stops = stops; unrun = unrun; nothing = nothing }
stopped FileFault call does words stops unrun nothing = record { does = does; words = words; stops = stops; unrun = unrun; nothing = nothing }
stopped (TooLong most) call does words stops unrun nothing = record { does = does; words = words; stops = stops; unrun = unrun; nothing = nothing }
stopped (BadDocument path reason) call does words stops unrun nothing = record { does = does; words = words; stops = stops; unrun = unrun; nothing = nothing }

pub keeps : (told : Option (List ℕ)) → Keeps told told
keeps None = tt
keeps (Some bytes) = refl

-- how a call ended that failed with this status
pub ended_by : (result : Result (Unit {0}) Status) (s : Status) → IsErrAnd result (λ (e : Status). e ≡ s) → ended result ≡ s
ended_by (Done x) s fails = absurd fails
ended_by (Err e) s fails = fails
