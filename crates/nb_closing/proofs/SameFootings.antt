-- Two numbered footings are one where they are as the log has them.
use Rattle.std.proofs.Common.{ℕ, zero, suc, ◌≡◌, ◌≢◌, ◌≤◌, refl, sym, ◌∙◌, ap, Bool, true, false, not, ◌&&◌, eqb, List, [], ◌∷◌, map, length, arith, Option, Some, None}
use Rattle.std.proofs.lemmas.Bool.{and_parts, false≢true, false_from_ne_true}
use Rattle.std.proofs.lemmas.List.{length-map}
use Rattle.std.specs.Prelude.{option_map, IfSome}
use Rattle.nb_wave.specs.declared.footing.Footing.{Footing as Numbered}
use Rattle.nb_wave.specs.Footings.{same_numbers as numbers_by, same_base as base_by, same_footing as footing_by}
use Rattle.nb_wave.specs.Rules.{from_option as option_by}
use Rattle.nb_sheet.specs.Lists.{from_option}
use Rattle.nb_history.specs.Lists.{same_bool, same_numbers}
use Rattle.nb_history.specs.Reading.{Start, Footing}
use Rattle.nb_history.specs.Rules.{same_base, same_footing}
use Rattle.nb_runs.specs.Footings.{footing_of, IsMarked}
use Rattle.nb_closing.specs.Sites.{kept_of}

numbers_same : (xs ys : List ℕ) → numbers_by xs ys ≡ same_numbers xs ys
numbers_same [] [] = refl
numbers_same [] (y ∷ ys) = refl
numbers_same (x ∷ xs) [] = refl
numbers_same (x ∷ xs) (y ∷ ys) = ap (λ (b : Bool). eqb x y && b) (numbers_same xs ys)

-- a mark is both truths
abbrev MarkSame : ℕ → ℕ → Type 0
MarkSame m n = eqb m n ≡ (same_bool (eqb m 1) (eqb n 1) && same_bool (eqb m 2) (eqb n 2))

mark_same : (m n : ℕ) → m ≤ 2 → n ≤ 2 → MarkSame m n
mark_same zero zero h k = refl
mark_same zero (suc zero) h k = refl
mark_same zero (suc (suc zero)) h k = refl
mark_same (suc zero) zero h k = refl
mark_same (suc zero) (suc zero) h k = refl
mark_same (suc zero) (suc (suc zero)) h k = refl
mark_same (suc (suc zero)) zero h k = refl
mark_same (suc (suc zero)) (suc zero) h k = refl
mark_same (suc (suc zero)) (suc (suc zero)) h k = refl
mark_same (suc (suc (suc m))) n h k = absurd (omega (arith, h))
mark_same m (suc (suc (suc n))) h k = absurd (omega (arith, k))

and_assoc : (a b c : Bool) → (a && (b && c)) ≡ ((a && b) && c)
and_assoc true b c = refl
and_assoc false b c = refl

module _ (f k : Numbered) (f_marked : IsMarked f) (k_marked : IsMarked k) where
  pub base_same : base_by f k ≡ same_base (footing_of f) (footing_of k)
  base_same =
      ap (λ (b : Bool). eqb f.place k.place && b && numbers_by f.inputs k.inputs && numbers_by f.starts k.starts) (mark_same f.mark k.mark f_marked k_marked)
      ∙ ap (λ (b : Bool). b && numbers_by f.inputs k.inputs && numbers_by f.starts k.starts)
      (and_assoc (eqb f.place k.place) (same_bool (eqb f.mark 1) (eqb k.mark 1)) (same_bool (eqb f.mark 2) (eqb k.mark 2)))
      ∙ ap (λ (b : Bool). eqb f.place k.place && same_bool (eqb f.mark 1) (eqb k.mark 1) && same_bool (eqb f.mark 2) (eqb k.mark 2) && b && numbers_by f.starts k.starts) (numbers_same f.inputs k.inputs)
      ∙ ap (λ (b : Bool). eqb f.place k.place && same_bool (eqb f.mark 1) (eqb k.mark 1) && same_bool (eqb f.mark 2) (eqb k.mark 2) && same_numbers f.inputs k.inputs && b) (numbers_same f.starts k.starts)

  pub footing_same : footing_by f k ≡ same_footing (footing_of f) (footing_of k)
  footing_same =
      ap (λ (b : Bool). b && numbers_by f.renewals k.renewals) base_same
      ∙ ap (λ (b : Bool). same_base (footing_of f) (footing_of k) && b) (numbers_same f.renewals k.renewals)

-- so whether a start is behind or overtaken
module _ (f : Numbered) (g : Footing) (e : footing_of f ≡ g) (marked : IsMarked f) where
  pub behind_same : (o : Option Start) (k : Option Numbered) → option_map footing_of k ≡ kept_of o → IfSome k IsMarked
      → option_by true (λ (k : Numbered). not (footing_by f k)) k ≡ from_option true (λ (s : Start). not (same_footing g s.kept)) o
  behind_same None None h m = refl
  behind_same None (Some k) h m = cc
  behind_same (Some s) None h m = cc
  behind_same (Some s) (Some k) h m =
      let there : footing_of k ≡ s.kept = cc in
      ap not (footing_same f k marked m)
      ∙ ap (λ (x : Footing). not (same_footing x (footing_of k))) e
      ∙ ap (λ (x : Footing). not (same_footing g x)) there

  pub overtaken_same : (o : Option Start) (k : Option Numbered) → option_map footing_of k ≡ kept_of o → IfSome k IsMarked
      → option_by false (λ (k : Numbered). base_by f k && not (footing_by f k)) k ≡ from_option false (λ (s : Start). same_base g s.kept && not (same_footing g s.kept)) o
  overtaken_same None None h m = refl
  overtaken_same None (Some k) h m = cc
  overtaken_same (Some s) None h m = cc
  overtaken_same (Some s) (Some k) h m =
      let there : footing_of k ≡ s.kept = cc in
      ap (λ (b : Bool). b && not (footing_by f k)) (base_same f k marked m)
      ∙ ap (λ (b : Bool). same_base (footing_of f) (footing_of k) && not b) (footing_same f k marked m)
      ∙ ap (λ (x : Footing). same_base x (footing_of k) && not (same_footing x (footing_of k))) e
      ∙ ap (λ (x : Footing). same_base g x && not (same_footing g x)) there

-- ---- lists of two lengths differ

same_length : (xs ys : List ℕ) → same_numbers xs ys ≡ true → length xs ≡ length ys
same_length [] [] h = refl
same_length [] (y ∷ ys) h = absurd (false≢true h)
same_length (x ∷ xs) [] h = absurd (false≢true h)
same_length (x ∷ xs) (y ∷ ys) h = ap suc (same_length xs ys (and_parts (eqb x y) (same_numbers xs ys) h).1)

pub differ_length : (f : ℕ → ℕ) (xs ys : List ℕ) → length xs ≢ length ys → false ≡ same_numbers (map f xs) ys
differ_length f xs ys ne = sym (false_from_ne_true (same_numbers (map f xs) ys) (λ h. ne (sym (length-map xs f) ∙ same_length (map f xs) ys h)))
