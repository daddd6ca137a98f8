-- An evaluation that stands somewhere goes on over a segment with more answers or pulls.
use Rattle.std.proofs.Common.{◌≡◌, ◌⊎◌, inl, inr, ℕ, ◌+◌, ◌≤◌, Result, Ok, Err, List, [], ◌∷◌, ◌++◌, refl, sym, ap, ◌∙◌, subst, arith}
use Rattle.nb_value.specs.declared.outcome.Answer.{Answer}
use Rattle.nb_eval.specs.declared.given.Segment.{Segment}
use Rattle.nb_eval.specs.Evaluation.{charges}
use Rattle.nb_eval.proofs.Laws.{answers_extend, pulls_extend}
use Rattle.std.specs.Prelude.{OnOk, OnErr}
use Rattle.nb_machine.specs.Machine.{Spot}
use Rattle.nb_machine.specs.Held.{Held, StandsAt}
use Rattle.nb_machine.proofs.Points.{stands_resumed}
use Rattle.nb_machine.specs.Segments.{with_answer, with_pull}

pub charges_answered : (g : Segment) (a : Answer) (n : ℕ) → n ≤ charges g → n ≤ charges (with_answer g a)
charges_answered g a n le = omega (arith, le, (answers_extend g (a ∷ [])).0.charges)

pub charges_pulled : (g : Segment) (n : ℕ) → n ≤ charges g → n ≤ charges (with_pull g)
charges_pulled g n le = omega (arith, le, (pulls_extend g (g.pulls + 1) (omega arith)).0.charges)

-- an answer was added, or none
abbrev pub AddsOrNot : Segment → Answer → List Answer → Type 0
AddsOrNot g a xs = (xs ≡ g.answers ++ a ∷ []) ⊎ (xs ≡ g.answers)

pub either_way : (g : Segment) (a : Answer) (xs : List Answer) {E : Type 0} (r : Result (Unit {0}) E) → OnOk r (xs ≡ g.answers ++ a ∷ []) → OnErr r (xs ≡ g.answers) → AddsOrNot g a xs
either_way g a xs (Ok u) ok err = inl ok
either_way g a xs (Err e) ok err = inr err

pub stands_answered : (g : Segment) (p : Spot) (h : Held) (a : Answer) (xs : List Answer) → AddsOrNot g a xs → StandsAt g p h → StandsAt (record g { answers = xs }) p h
stands_answered g p h a xs (inl e) w = subst (λ (ys : List Answer). StandsAt (record g { answers = ys }) p h) (sym e) (stands_resumed g p h a w)
stands_answered g p h a xs (inr e) w = subst (λ (ys : List Answer). StandsAt (record g { answers = ys }) p h) (sym e) w

pub makes_answered : (g : Segment) (a : Answer) (xs : List Answer) → AddsOrNot g a xs → (n : ℕ) → n ≤ charges g → n ≤ charges (record g { answers = xs })
makes_answered g a xs (inl e) n le = subst (λ (ys : List Answer). n ≤ charges (record g { answers = ys })) (sym e) (charges_answered g a n le)
makes_answered g a xs (inr e) n le = subst (λ (ys : List Answer). n ≤ charges (record g { answers = ys })) (sym e) le
