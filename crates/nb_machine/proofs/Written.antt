-- Code that is written from its end.
use Rattle.std.proofs.Common.{◌≡◌, ℕ, ◌+◌, List, [], ◌∷◌, ◌++◌, length, refl, sym, ap, ◌∙◌, subst}
use Rattle.std.specs.Prelude.{reverse}
use Rattle.std.proofs.lemmas.List.{reverse-append, reverse-reverse, append_assoc, set_at, length-reverse}
use Rattle.std.proofs.Math.ListN.{set}
use Rattle.nb_machine.specs.declared.instr.Instr.TheVariants as i
use Rattle.nb_machine.specs.declared.instr.Word.TheVariants as word
use Rattle.nb_machine.specs.Code.{Code, while_code, for_code}

turned : {A : Type 0} (xs : List A) (y : A) (ys : List A) → reverse (xs ++ y ∷ ys) ≡ reverse ys ++ y ∷ reverse xs
turned xs y ys =
    reverse-append xs (y ∷ ys) ∙ ap (λ r. r ++ reverse xs) (reverse-append (y ∷ []) ys) ∙ append_assoc (reverse ys) (y ∷ []) (reverse xs)

-- what stands in the reverse in front of the last n
pub set_from_end : {A : Type 0} (items : List A) (n : ℕ) (y : A) (front rest : List A) (x : A) → reverse items ≡ front ++ x ∷ rest → length rest ≡ n → reverse (set items n y) ≡ front ++ y ∷ rest
set_from_end {A = A} items n y front rest x e h =
    let is : items ≡ reverse rest ++ x ∷ reverse front = sym (reverse-reverse items) ∙ ap reverse e ∙ turned front x rest in
    let changed : set (reverse rest ++ x ∷ reverse front) n y ≡ reverse rest ++ y ∷ reverse front = set_at (reverse rest) x (reverse front) y n (length-reverse rest ∙ h) in
    ap (λ (l : List A). reverse (set l n y)) is ∙ ap reverse changed ∙ turned (reverse rest) y (reverse front)
    ∙ ap (λ (l : List A). l ++ y ∷ reverse (reverse rest)) (reverse-reverse front) ∙ ap (λ (l : List A). front ++ y ∷ l) (reverse-reverse rest)

-- ---- loops, whose jumps back are the last that is known

pub while_is : (test b old : Code) → (test ++ i.Unless word.While (length b + 1) ∷ b) ++ i.Back (length test + 1 + length b) ∷ old ≡ while_code test b ++ old
while_is test b old = simp append_assoc

pub for_is : (n : List ℕ) (b old : Code) → (i.Next (length b + 4) ∷ i.Tick ∷ i.Take n ∷ (b ++ i.Leave ∷ [])) ++ i.Back (length b + 4) ∷ old ≡ for_code n b ++ old
for_is n b old = simp append_assoc
