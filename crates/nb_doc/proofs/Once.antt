-- A document has one first fault, told by one reason.
use Rattle.std.proofs.Common.{◌≡◌, ℕ, List, Option, Result, Ok, Err, sym, ap, ◌∙◌, subst}
use Rattle.std.proofs.lemmas.Option.{none-some, same_Some}
use Rattle.nb_parser.proofs.Places.{one_refusal}
use Rattle.nb_doc.specs.declared.reason.DocReason.{DocReason}
use Rattle.nb_doc.specs.declared.reason.DocReason.TheVariants.{BadCell}
use Rattle.nb_doc.specs.declared.reason.DocFail.{DocFail}
use Rattle.nb_doc.specs.declared.reason.DocFail.TheVariants.{Bad, Memory}
use Rattle.nb_doc.specs.Faults.{Fault, Cause, plain, no_cell, Tells, IsTold}
use Rattle.nb_doc.specs.Documents.{Reads, UnlessMemory}

one_reason : (cause : Cause) (r s : DocReason) → Tells cause r → Tells cause s → r ≡ s
one_reason (plain p) r s a b = a ∙ sym b
one_reason (no_cell text) r s a b = a.1 ∙ ap BadCell (one_refusal text a.0 b.0 a.2 b.2) ∙ sym b.1

same_fault : (fault : Option Fault) (p q : List ℕ) (r s : DocReason) (a : IsTold fault p r) (b : IsTold fault q s) → a.0 ≡ b.0
same_fault fault p q r s a b = same_Some a.0 b.0 (sym a.1 ∙ b.1)

one_path : (fault : Option Fault) (p q : List ℕ) (r s : DocReason) → IsTold fault p r → IsTold fault q s → p ≡ q
one_path fault p q r s a b = a.2 ∙ ap (λ (f : Fault). f.path) (same_fault fault p q r s a b) ∙ sym b.2

one_told : (fault : Option Fault) (p q : List ℕ) (r s : DocReason) → IsTold fault p r → IsTold fault q s → r ≡ s
one_told fault p q r s a b = one_reason b.0.cause r s (subst (λ (f : Fault). Tells f.cause r) (same_fault fault p q r s a b) a.3) b.3

pub only_told : {X : Type 0} (fault : Option Fault) (given : Option X) (result : Result X DocFail) → Reads fault given result
    → (p : List ℕ) (r : DocReason) → IsTold fault p r → UnlessMemory result (result ≡ Err (Bad p r))
only_told fault given (Ok x) reads p r is = absurd (none-some is.0 (sym reads.0 ∙ is.1))
only_told {X} fault given (Err (Bad q s)) reads p r is =
    ap (λ (x : List ℕ). let e : Result X DocFail = Err (Bad x s) in e) (one_path fault q p s r reads is)
    ∙ ap (λ (x : DocReason). let e : Result X DocFail = Err (Bad p x) in e) (one_told fault q p s r reads is)
only_told fault given (Err Memory) reads p r is = tt
