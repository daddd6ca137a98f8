-- The causes of the statuses.
use Rattle.std.proofs.Common.{◌≡◌, ◌⊎◌, ℕ, List, Option, None, Some, true, inl, inr, sym, ap, ◌∙◌, subst, refl}
use Rattle.std.specs.Prelude.{option_and_then}
use Rattle.std.proofs.lemmas.Option.{none-some, same_Some}
use Rattle.std.proofs.lemmas.Bool.{false≢true}
use Rattle.nb_io.specs.Causes.{Rose}
use Rattle.nb_io.specs.Named.{TellsFile}
use Rattle.nb_io.specs.Streams.{Tells}
use Rattle.nb_lines.specs.declared.script.BadReason.{BadReason}
use Rattle.nb_doc.specs.declared.reason.DocReason.{DocReason}
use Rattle.nb_main.specs.declared.task.Task.{Task}
use Rattle.nb_main.specs.declared.task.Task.TheVariants.{Run, Make, Upgrade}
use Rattle.nb_main.specs.declared.status.Status.{Status}
use Rattle.nb_main.specs.declared.status.Status.TheVariants.{Ok, Memory, Usage, BadInput, ReadFault, WriteFault, FileFault, TooLong, BadDocument}
use Rattle.nb_main.specs.Task.{task, file_of, file_in, reads_input}
use Rattle.nb_main.specs.Outcome.{IsRefusal, IsReadable, IsDocumentRefusal}
use Rattle.nb_main.specs.Answers.{Seen, SeenFiles, SeenRuns, Call, Answers, AcceptsFile, HasNoFile, HasNoInput, RefusesFile, RefusesInput, ComesTo, Stops, StopsRun, StopsMaking, StopsAtFile}
use Rattle.nb_main.specs.Causes.{Causes, HasReadableFile}
use Rattle.nb_main.proofs.CallLemmas.{named_accepts, document_accepts}
use Rattle.nb_main.proofs.OutcomeLemmas.{one_refusal, not_refused, one_document_refusal, not_refused_document}

-- ---- the task

file_there : (words : List (List ℕ)) (does : Task) → task words ≡ Some does → file_in words ≡ file_of does
file_there words does is = ap (option_and_then file_of) is

one_task : (words : List (List ℕ)) (a b : Task) → task words ≡ Some a → task words ≡ Some b → b ≡ a
one_task words a b x y = same_Some b a (sym y ∙ x)

-- ---- the file

refusal_of : (files : SeenFiles) (file : Option (List ℕ)) (s : Status) (name bytes : List ℕ) → RefusesFile files file s → file ≡ Some name → TellsFile (files.told name) bytes → IsDocumentRefusal bytes s
refusal_of files file s name bytes r named tells =
    r.reason bytes (subst (λ (n : List ℕ). TellsFile (files.told n) bytes) (same_Some name r.name (sym named ∙ r.named)) tells)

not_readable : (call : Call) (does : Task) (s : Status) → HasReadableFile call does → RefusesFile call.files (file_of does) s → ⊥
not_readable call does s (inl none) r = none-some r.name (sym none ∙ r.named)
not_readable call does s (inr there) r = not_refused_document there.1 s there.4 (refusal_of call.files (file_of does) s there.0 there.1 r there.2 there.3)

accepts : (files : SeenFiles) (input : Seen) (programs : SeenRuns) (does : Task) (text : List ℕ) → ComesTo files input programs does text → AcceptsFile files (file_of does)
accepts files input programs (Run file) text c = document_accepts files file c.document c.named
accepts files input programs (Make cells seed) text c = λ name bytes named tells. absurd (none-some name named)
accepts files input programs (Upgrade name) text c = named_accepts files name c.0.bytes c.0.reads

-- ---- the input

reads_readable : (files : SeenFiles) (input : Seen) (programs : SeenRuns) (does : Task) (text bytes : List ℕ) → ComesTo files input programs does text → reads_input does ≡ true → Tells input.old bytes → IsReadable bytes
reads_readable files input programs (Run file) text bytes c reads tells = subst IsReadable (c.read bytes tells) c.readable
reads_readable files input programs (Make cells seed) text bytes c reads tells = absurd (false≢true reads)
reads_readable files input programs (Upgrade name) text bytes c reads tells = absurd (false≢true reads)

-- ---- by how a call ended

-- the bytes of the file are refused
of_file : (s : Status) (call : Call) (does : Task) → task call.words ≡ Some does → RefusesFile call.files (file_of does) s → (s ≡ Usage → ⊥) → (s ≡ FileFault → ⊥) → (s ≡ ReadFault → ⊥)
    → (s ≡ WriteFault → ⊥) → ((l : ℕ) (r : BadReason) → s ≡ BadInput l r → ⊥) → Causes s call
of_file s call does words r no_usage no_file no_read no_write no_line = record {
  usage = λ e. absurd (no_usage e);
  usage_comes = λ none. absurd (none-some does (sym none ∙ words));
  file_fault = λ e. absurd (no_file e);
  read_fault = λ e. absurd (no_read e);
  write_fault = λ e. absurd (no_write e);
  bad_document = λ path reason name bytes named tells e. subst (IsDocumentRefusal bytes) e (refusal_of call.files (file_of does) s name bytes r (sym (file_there call.words does words) ∙ named) tells);
  document_refusal_comes = λ reason name bytes named tells is.
      inl (one_document_refusal bytes s reason (refusal_of call.files (file_of does) s name bytes r (sym (file_there call.words does words) ∙ named) tells) is);
  bad_input = λ line reason bytes tells e. absurd (no_line line reason e);
  refusal_comes = λ reason other bytes other_words reads readable tells is.
      absurd (not_readable call does s (subst (HasReadableFile call) (one_task call.words does other words other_words) readable) r);
  too_long = λ most other other_words e. inl (λ name bytes named tells. subst (IsDocumentRefusal bytes) e
      (refusal_of call.files (file_of does) s name bytes r (ap file_of (sym (one_task call.words does other words other_words)) ∙ named) tells));
  complete = λ other other_words file input a b c. absurd (not_readable call does s (subst (HasReadableFile call) (one_task call.words does other words other_words) file) r);
}

-- the bytes of the input are refused
of_input : (s : Status) (call : Call) (file : Option (List ℕ)) → task call.words ≡ Some (Run file) → RefusesInput call.files call.input file s → (s ≡ Usage → ⊥) → (s ≡ FileFault → ⊥) → (s ≡ ReadFault → ⊥)
    → (s ≡ WriteFault → ⊥) → ((p : List ℕ) (r : DocReason) → s ≡ BadDocument p r → ⊥) → Causes s call
of_input s call file words r no_usage no_file no_read no_write no_document = record {
  usage = λ e. absurd (no_usage e);
  usage_comes = λ none. absurd (none-some (Run file) (sym none ∙ words));
  file_fault = λ e. absurd (no_file e);
  read_fault = λ e. absurd (no_read e);
  write_fault = λ e. absurd (no_write e);
  bad_document = λ path reason name bytes named tells e. absurd (no_document path reason e);
  document_refusal_comes = λ reason name bytes named tells is.
      absurd (not_refused_document bytes reason (r.accepted name bytes (sym (file_there call.words (Run file) words) ∙ named) tells) is);
  bad_input = λ line reason bytes tells e. subst (IsRefusal bytes) e (r.reason bytes tells);
  refusal_comes = λ reason other bytes other_words reads readable tells is. inl (one_refusal bytes s reason (r.reason bytes tells) is);
  too_long = λ most other other_words e. inr (ap reads_input (one_task call.words (Run file) other words other_words), λ bytes tells. subst (IsRefusal bytes) e (r.reason bytes tells));
  complete = λ other other_words there input a b c.
      let given : (bytes : List ℕ) × Tells call.input.old bytes × IsReadable bytes = input (ap reads_input (one_task call.words (Run file) other words other_words)) in
      absurd (not_refused given.0 s given.2 (r.reason given.0 given.1));
}

-- a fault of the file
of_no_file : (call : Call) (does : Task) → task call.words ≡ Some does → HasNoFile call.files (file_of does) → Causes FileFault call
of_no_file call does words r = record {
  usage = λ e. cc;
  usage_comes = λ none. absurd (none-some does (sym none ∙ words));
  file_fault = λ e. r.rose;
  read_fault = λ e. cc;
  write_fault = λ e. cc;
  bad_document = λ path reason name bytes named tells e. cc;
  document_refusal_comes = λ reason name bytes named tells is. inr (inl refl);
  bad_input = λ line reason bytes tells e. cc;
  refusal_comes = λ reason other bytes other_words reads readable tells is. inr (inl refl);
  too_long = λ most other other_words e. cc;
  complete = λ other other_words there input a b c. absurd (a r.rose);
}

-- a fault of the input
of_no_input : (call : Call) (file : Option (List ℕ)) → task call.words ≡ Some (Run file) → HasNoInput call.files call.input file → Causes ReadFault call
of_no_input call file words r = record {
  usage = λ e. cc;
  usage_comes = λ none. absurd (none-some (Run file) (sym none ∙ words));
  file_fault = λ e. cc;
  read_fault = λ e. r.rose;
  write_fault = λ e. cc;
  bad_document = λ path reason name bytes named tells e. cc;
  document_refusal_comes = λ reason name bytes named tells is.
      absurd (not_refused_document bytes reason (r.accepted name bytes (sym (file_there call.words (Run file) words) ∙ named) tells) is);
  bad_input = λ line reason bytes tells e. cc;
  refusal_comes = λ reason other bytes other_words reads readable tells is. inr (inr (inl refl));
  too_long = λ most other other_words e. cc;
  complete = λ other other_words there input a b c. absurd (b r.rose);
}

finished : (s : Status) (rose : Type 0) → (s ≡ Ok) ⊎ ((s ≡ WriteFault) × rose) → (rose → ⊥) → (s ≡ Ok) ⊎ (s ≡ Memory)
finished s rose (inl ok) unrisen = inl ok
finished s rose (inr fault) unrisen = absurd (unrisen fault.1)

-- what the task comes to was written, or a front of it
of_text : (s : Status) (call : Call) (does : Task) (text : List ℕ) → task call.words ≡ Some does → ComesTo call.files call.input call.programs does text → (s ≡ Ok) ⊎ ((s ≡ WriteFault) × Rose call.out.faults_old call.out.faults_new)
    → (s ≡ Usage → ⊥) → (s ≡ FileFault → ⊥) → (s ≡ ReadFault → ⊥) → ((l : ℕ) (r : BadReason) → s ≡ BadInput l r → ⊥) → ((n : ℕ) → s ≡ TooLong n → ⊥) → ((p : List ℕ) (r : DocReason) → s ≡ BadDocument p r → ⊥)
    → (s ≡ WriteFault → Rose call.out.faults_old call.out.faults_new) → Causes s call
of_text s call does text words comes how no_usage no_file no_read no_line no_length no_document rose = record {
  usage = λ e. absurd (no_usage e);
  usage_comes = λ none. absurd (none-some does (sym none ∙ words));
  file_fault = λ e. absurd (no_file e);
  read_fault = λ e. absurd (no_read e);
  write_fault = rose;
  bad_document = λ path reason name bytes named tells e. absurd (no_document path reason e);
  document_refusal_comes = λ reason name bytes named tells is.
      absurd (not_refused_document bytes reason (accepts call.files call.input call.programs does text comes name bytes (sym (file_there call.words does words) ∙ named) tells) is);
  bad_input = λ line reason bytes tells e. absurd (no_line line reason e);
  refusal_comes = λ reason other bytes other_words reads readable tells is. absurd (not_refused bytes reason
      (reads_readable call.files call.input call.programs does text bytes comes (ap reads_input (sym (one_task call.words does other words other_words)) ∙ reads) tells) is);
  too_long = λ most other other_words e. absurd (no_length most e);
  complete = λ other other_words there input a b c. finished s (Rose call.out.faults_old call.out.faults_new) how c;
}

-- ---- each status

of_run : (s : Status) (call : Call) (file : Option (List ℕ)) → task call.words ≡ Some (Run file) → StopsRun call.files call.input file s → (s ≡ Memory → ⊥) → Causes s call
of_run Ok call file words stops no_memory = absurd stops
of_run Memory call file words stops no_memory = absurd (no_memory refl)
of_run Usage call file words stops no_memory = absurd stops
of_run (BadInput line reason) call file words stops no_memory = of_input (BadInput line reason) call file words stops (λ e. cc) (λ e. cc) (λ e. cc) (λ e. cc) (λ p r e. cc)
of_run ReadFault call file words stops no_memory = of_no_input call file words stops
of_run WriteFault call file words stops no_memory = absurd stops
of_run FileFault call file words stops no_memory = of_no_file call (Run file) words stops
of_run (TooLong most) call file words (inl r) no_memory = of_file (TooLong most) call (Run file) words r (λ e. cc) (λ e. cc) (λ e. cc) (λ e. cc) (λ l r e. cc)
of_run (TooLong most) call file words (inr r) no_memory = of_input (TooLong most) call file words r (λ e. cc) (λ e. cc) (λ e. cc) (λ e. cc) (λ p r e. cc)
of_run (BadDocument path reason) call file words stops no_memory = of_file (BadDocument path reason) call (Run file) words stops (λ e. cc) (λ e. cc) (λ e. cc) (λ e. cc) (λ l r e. cc)

of_making : (s : Status) (call : Call) → StopsMaking s → (s ≡ Memory → ⊥) → Causes s call
of_making Ok call stops no_memory = absurd stops
of_making Memory call stops no_memory = absurd (no_memory refl)
of_making Usage call stops no_memory = absurd stops
of_making (BadInput line reason) call stops no_memory = absurd stops
of_making ReadFault call stops no_memory = absurd stops
of_making WriteFault call stops no_memory = absurd stops
of_making FileFault call stops no_memory = absurd stops
of_making (TooLong most) call stops no_memory = absurd stops
of_making (BadDocument path reason) call stops no_memory = absurd stops

of_upgrade : (s : Status) (call : Call) (name : List ℕ) → task call.words ≡ Some (Upgrade name) → StopsAtFile call.files (Some name) s → (s ≡ Memory → ⊥) → Causes s call
of_upgrade Ok call name words stops no_memory = absurd stops
of_upgrade Memory call name words stops no_memory = absurd (no_memory refl)
of_upgrade Usage call name words stops no_memory = absurd stops
of_upgrade (BadInput line reason) call name words stops no_memory = absurd stops
of_upgrade ReadFault call name words stops no_memory = absurd stops
of_upgrade WriteFault call name words stops no_memory = absurd stops
of_upgrade FileFault call name words stops no_memory = of_no_file call (Upgrade name) words stops
of_upgrade (TooLong most) call name words stops no_memory = of_file (TooLong most) call (Upgrade name) words stops (λ e. cc) (λ e. cc) (λ e. cc) (λ e. cc) (λ l r e. cc)
of_upgrade (BadDocument path reason) call name words stops no_memory = of_file (BadDocument path reason) call (Upgrade name) words stops (λ e. cc) (λ e. cc) (λ e. cc) (λ e. cc) (λ l r e. cc)

of_stop : (s : Status) (call : Call) (does : Task) → task call.words ≡ Some does → Stops call.files call.input does s → (s ≡ Memory → ⊥) → Causes s call
of_stop s call (Run file) words stops no_memory = of_run s call file words stops no_memory
of_stop s call (Make cells seed) words stops no_memory = of_making s call stops no_memory
of_stop s call (Upgrade name) words stops no_memory = of_upgrade s call name words stops no_memory

of_no_command : (call : Call) → task call.words ≡ None → Causes Usage call
of_no_command call none = record {
  usage = λ e. none;
  usage_comes = λ again. inl refl;
  file_fault = λ e. cc;
  read_fault = λ e. cc;
  write_fault = λ e. cc;
  bad_document = λ path reason name bytes named tells e. cc;
  document_refusal_comes = λ reason name bytes named tells is. absurd (none-some name (sym (ap (option_and_then file_of) none) ∙ named));
  bad_input = λ line reason bytes tells e. cc;
  refusal_comes = λ reason other bytes words reads readable tells is. absurd (none-some other (sym none ∙ words));
  too_long = λ most other words e. cc;
  complete = λ other words there input a b c. absurd (none-some other (sym none ∙ words));
}

of_memory : (call : Call) → Causes Memory call
of_memory call = record {
  usage = λ e. cc;
  usage_comes = λ none. inr refl;
  file_fault = λ e. cc;
  read_fault = λ e. cc;
  write_fault = λ e. cc;
  bad_document = λ path reason name bytes named tells e. cc;
  document_refusal_comes = λ reason name bytes named tells is. inr (inr refl);
  bad_input = λ line reason bytes tells e. cc;
  refusal_comes = λ reason other bytes words reads readable tells is. inr (inr (inr refl));
  too_long = λ most other words e. cc;
  complete = λ other words there input a b c. inr refl;
}

pub causes : (status : Status) (call : Call) → Answers status call → Causes status call
causes Ok call a = of_text Ok call a.does a.text a.words a.outcome (inl refl) (λ e. cc) (λ e. cc) (λ e. cc) (λ l r e. cc) (λ n e. cc) (λ p r e. cc) (λ e. cc)
causes Memory call a = of_memory call
causes Usage call a = of_no_command call a.words
causes (BadInput line reason) call a = of_stop (BadInput line reason) call a.does a.words a.stops (λ e. cc)
causes ReadFault call a = of_stop ReadFault call a.does a.words a.stops (λ e. cc)
causes WriteFault call a = of_text WriteFault call a.does a.text a.words a.outcome (inr (refl, a.rose)) (λ e. cc) (λ e. cc) (λ e. cc) (λ l r e. cc) (λ n e. cc) (λ p r e. cc) (λ e. a.rose)
causes FileFault call a = of_stop FileFault call a.does a.words a.stops (λ e. cc)
causes (TooLong most) call a = of_stop (TooLong most) call a.does a.words a.stops (λ e. cc)
causes (BadDocument path reason) call a = of_stop (BadDocument path reason) call a.does a.words a.stops (λ e. cc)
