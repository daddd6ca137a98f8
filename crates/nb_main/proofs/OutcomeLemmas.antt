-- When a document or an input is refused: for one reason, and then it isn't readable.
use Rattle.std.proofs.Common.{◌≡◌, ℕ, ◌<◌, ◌≤◌, Bool, List, length, Option, None, Result, Ok as Done, Err, sym, ap, ◌∙◌, arith}
use Rattle.std.proofs.lemmas.Option.{none-some}
use Rattle.nb_lines.specs.declared.script.BadReason.{BadReason}
use Rattle.nb_lines.specs.Lines.{first_bad, IsBad}
use Rattle.nb_lines.proofs.Once.{one_line, one_bad}
use Rattle.nb_doc.specs.declared.reason.DocReason.{DocReason}
use Rattle.nb_doc.specs.declared.reason.DocFail.{DocFail}
use Rattle.nb_doc.specs.declared.reason.DocFail.TheVariants.{Bad}
use Rattle.nb_doc.specs.Faults.{Fault, IsTold}
use Rattle.nb_doc.specs.Documents.{first_fault}
use Rattle.nb_doc.proofs.Once.{only_told}
use Rattle.nb_main.specs.declared.status.Status.{Status}
use Rattle.nb_main.specs.declared.status.Status.TheVariants.{Ok, Memory, Usage, BadInput, ReadFault, WriteFault, FileFault, TooLong, BadDocument}
use Rattle.nb_main.specs.Ends.{limit, by_document}
use Rattle.nb_main.specs.Outcome.{IsRefusal, IsReadable, IsDocumentRefusal, IsReadableDocument}

-- ---- an input

past : (bytes : List ℕ) (t : Status) → limit < length bytes → IsRefusal bytes t → TooLong limit ≡ t
past bytes (TooLong n) more is = ap TooLong (sym is.0)
past bytes (BadInput l r) more is = absurd (omega (arith, more, is.0))
past bytes Ok more is = absurd is
past bytes Memory more is = absurd is
past bytes Usage more is = absurd is
past bytes ReadFault more is = absurd is
past bytes WriteFault more is = absurd is
past bytes FileFault more is = absurd is
past bytes (BadDocument p r) more is = absurd is

bad : (bytes : List ℕ) (line : ℕ) (reason : BadReason) (t : Status) → length bytes ≤ limit → IsBad (first_bad bytes) line reason → IsRefusal bytes t → BadInput line reason ≡ t
bad bytes line reason (TooLong n) fits here is = absurd (omega (arith, fits, is.1))
bad bytes line reason (BadInput l r) fits here is =
    ap (λ (k : ℕ). BadInput k reason) (one_line (first_bad bytes) line l reason r here is.1) ∙ ap (BadInput l) (one_bad (first_bad bytes) line l reason r here is.1)
bad bytes line reason Ok fits here is = absurd is
bad bytes line reason Memory fits here is = absurd is
bad bytes line reason Usage fits here is = absurd is
bad bytes line reason ReadFault fits here is = absurd is
bad bytes line reason WriteFault fits here is = absurd is
bad bytes line reason FileFault fits here is = absurd is
bad bytes line reason (BadDocument p r) fits here is = absurd is

-- the same bytes are refused in one way
pub one_refusal : (bytes : List ℕ) (s t : Status) → IsRefusal bytes s → IsRefusal bytes t → s ≡ t
one_refusal bytes (TooLong n) t a b = ap TooLong a.0 ∙ past bytes t a.1 b
one_refusal bytes (BadInput l r) t a b = bad bytes l r t a.0 a.1 b
one_refusal bytes Ok t a b = absurd a
one_refusal bytes Memory t a b = absurd a
one_refusal bytes Usage t a b = absurd a
one_refusal bytes ReadFault t a b = absurd a
one_refusal bytes WriteFault t a b = absurd a
one_refusal bytes FileFault t a b = absurd a
one_refusal bytes (BadDocument p r) t a b = absurd a

-- what is readable isn't refused
pub not_refused : (bytes : List ℕ) (s : Status) → IsReadable bytes → IsRefusal bytes s → ⊥
not_refused bytes (TooLong n) readable is = omega (arith, readable.fits, is.1)
not_refused bytes (BadInput l r) readable is = none-some (l, is.1.0) (sym readable.good ∙ is.1.1)
not_refused bytes Ok readable is = is
not_refused bytes Memory readable is = is
not_refused bytes Usage readable is = is
not_refused bytes ReadFault readable is = is
not_refused bytes WriteFault readable is = is
not_refused bytes FileFault readable is = is
not_refused bytes (BadDocument p r) readable is = is

-- ---- a document

past_file : (bytes : List ℕ) (t : Status) → limit < length bytes → IsDocumentRefusal bytes t → TooLong limit ≡ t
past_file bytes (TooLong n) more is = ap TooLong (sym is.0)
past_file bytes (BadDocument p r) more is = absurd (omega (arith, more, is.0))
past_file bytes (BadInput l r) more is = absurd is
past_file bytes Ok more is = absurd is
past_file bytes Memory more is = absurd is
past_file bytes Usage more is = absurd is
past_file bytes ReadFault more is = absurd is
past_file bytes WriteFault more is = absurd is
past_file bytes FileFault more is = absurd is

-- the status of a read that gave a truth value, or failed
abbrev status_in : Result Bool DocFail → Status
status_in (Done b) = Memory
status_in (Err fail) = by_document fail

one_told : (fault : Option Fault) (p q : List ℕ) (r s : DocReason) → IsTold fault p r → IsTold fault q s → BadDocument p r ≡ BadDocument q s
one_told fault p q r s a b = ap status_in (only_told fault None (Err (Bad p r)) a q s b)

bad_file : (bytes path : List ℕ) (reason : DocReason) (t : Status) → length bytes ≤ limit → IsTold (first_fault bytes) path reason → IsDocumentRefusal bytes t → BadDocument path reason ≡ t
bad_file bytes path reason (TooLong n) fits here is = absurd (omega (arith, fits, is.1))
bad_file bytes path reason (BadDocument p r) fits here is = one_told (first_fault bytes) path p reason r here is.1
bad_file bytes path reason (BadInput l r) fits here is = absurd is
bad_file bytes path reason Ok fits here is = absurd is
bad_file bytes path reason Memory fits here is = absurd is
bad_file bytes path reason Usage fits here is = absurd is
bad_file bytes path reason ReadFault fits here is = absurd is
bad_file bytes path reason WriteFault fits here is = absurd is
bad_file bytes path reason FileFault fits here is = absurd is

pub one_document_refusal : (bytes : List ℕ) (s t : Status) → IsDocumentRefusal bytes s → IsDocumentRefusal bytes t → s ≡ t
one_document_refusal bytes (TooLong n) t a b = ap TooLong a.0 ∙ past_file bytes t a.1 b
one_document_refusal bytes (BadDocument p r) t a b = bad_file bytes p r t a.0 a.1 b
one_document_refusal bytes (BadInput l r) t a b = absurd a
one_document_refusal bytes Ok t a b = absurd a
one_document_refusal bytes Memory t a b = absurd a
one_document_refusal bytes Usage t a b = absurd a
one_document_refusal bytes ReadFault t a b = absurd a
one_document_refusal bytes WriteFault t a b = absurd a
one_document_refusal bytes FileFault t a b = absurd a

pub not_refused_document : (bytes : List ℕ) (s : Status) → IsReadableDocument bytes → IsDocumentRefusal bytes s → ⊥
not_refused_document bytes (TooLong n) readable is = omega (arith, readable.fits, is.1)
not_refused_document bytes (BadDocument p r) readable is = none-some is.1.0 (sym readable.good ∙ is.1.1)
not_refused_document bytes (BadInput l r) readable is = is
not_refused_document bytes Ok readable is = is
not_refused_document bytes Memory readable is = is
not_refused_document bytes Usage readable is = is
not_refused_document bytes ReadFault readable is = is
not_refused_document bytes WriteFault readable is = is
not_refused_document bytes FileFault readable is = is
