-- An input has one first bad line, with one first reason.
use Rattle.std.proofs.Common.{◌≡◌, ℕ, List, Option, None, Result, Ok, Err, sym, ap, ◌∙◌, subst}
use Rattle.std.proofs.lemmas.Option.{none-some, same_Some}
use Rattle.nb_parser.proofs.Places.{one_refusal}
use Rattle.nb_lines.specs.declared.script.ScriptLine.{ScriptLine}
use Rattle.nb_lines.specs.declared.script.BadReason.{BadReason}
use Rattle.nb_lines.specs.declared.script.BadReason.TheVariants.{BadCell}
use Rattle.nb_lines.specs.declared.script.LineFail.{LineFail}
use Rattle.nb_lines.specs.declared.script.LineFail.TheVariants.{Bad, Memory}
use Rattle.nb_lines.specs.Reasons.{Fault, plain, no_cell, Tells}
use Rattle.nb_lines.specs.Lines.{IsBad, Reads, UnlessMemory}

-- a fault is told by one reason
one_reason : (f : Fault) (r s : BadReason) → Tells f r → Tells f s → r ≡ s
one_reason (plain p) r s a b = a ∙ sym b
one_reason (no_cell text) r s a b = a.1 ∙ ap BadCell (one_refusal text a.0 b.0 a.2 b.2) ∙ sym b.1

pub one_line : (bad : Option (ℕ × Fault)) (k l : ℕ) (r s : BadReason) → IsBad bad k r → IsBad bad l s → k ≡ l
one_line bad k l r s a b = ap (λ (p : ℕ × Fault). p.0) (same_Some (k, a.0) (l, b.0) (sym a.1 ∙ b.1))

pub one_bad : (bad : Option (ℕ × Fault)) (k l : ℕ) (r s : BadReason) → IsBad bad k r → IsBad bad l s → r ≡ s
one_bad bad k l r s a b =
    let same : a.0 ≡ b.0 = ap (λ (p : ℕ × Fault). p.1) (same_Some (k, a.0) (l, b.0) (sym a.1 ∙ b.1)) in
    one_reason b.0 r s (subst (λ f. Tells f r) same a.2) b.2

-- an input with a bad line isn't read
never_read : (bad : Option (ℕ × Fault)) (k : ℕ) (r : BadReason) → bad ≡ None → IsBad bad k r → ⊥
never_read bad k r none is = none-some (k, is.0) (sym none ∙ is.1)

pub only_bad : (bad : Option (ℕ × Fault)) (all : List ScriptLine) (result : Result (List ScriptLine) LineFail) → Reads bad all result
    → (k : ℕ) (r : BadReason) → IsBad bad k r → UnlessMemory result (result ≡ Err (Bad k r))
only_bad bad all (Ok s) reads k r is = absurd (never_read bad k r reads.0 is)
only_bad bad all (Err (Bad l s)) reads k r is =
    ap (λ (x : ℕ). let e : Result (List ScriptLine) LineFail = Err (Bad x s) in e) (one_line bad l k s r reads is)
    ∙ ap (λ (x : BadReason). let e : Result (List ScriptLine) LineFail = Err (Bad k x) in e) (one_bad bad l k s r reads is)
only_bad bad all (Err Memory) reads k r is = tt
