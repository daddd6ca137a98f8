-- The test of two footings decides whether they are one.
use Rattle.std.proofs.Common.{ℕ, ◌≡◌, refl, sym, ◌∙◌, ap, subst, Bool, true, false, ◌&&◌, eqb, List, [], ◌∷◌, arith}
use Rattle.std.proofs.lemmas.Bool.{and_parts, and_from, eqb-true, eq-eqb, false≢true}
use Rattle.nb_history.specs.Lists.{same_bool, same_numbers}
use Rattle.nb_history.specs.Reading.{Footing}
use Rattle.nb_history.specs.Rules.{resolution_code, same_base, same_footing}
use Rattle.nb_resolve.specs.declared.resolution.Resolution.{Resolution}
use Rattle.nb_resolve.specs.declared.resolution.Resolution.TheVariants.{Var, Builtin, Twice, Missing}

same_bool_eq : (a b : Bool) → same_bool a b ≡ true → a ≡ b
same_bool_eq true b h = sym h
same_bool_eq false true h = absurd (false≢true h)
same_bool_eq false false h = refl

same_bool_refl : (a : Bool) → same_bool a a ≡ true
same_bool_refl true = refl
same_bool_refl false = refl

same_numbers_eq : (xs ys : List ℕ) → same_numbers xs ys ≡ true → xs ≡ ys
same_numbers_eq [] [] h = refl
same_numbers_eq [] (y ∷ ys) h = absurd (false≢true h)
same_numbers_eq (x ∷ xs) [] h = absurd (false≢true h)
same_numbers_eq (x ∷ xs) (y ∷ ys) h =
    let t : (eqb x y ≡ true) × (same_numbers xs ys ≡ true) = and_parts (eqb x y) (same_numbers xs ys) h in
    let e : x ≡ y = eqb-true x y t.0 in
    let f : xs ≡ ys = same_numbers_eq xs ys t.1 in cc

same_numbers_refl : (xs : List ℕ) → same_numbers xs xs ≡ true
same_numbers_refl [] = refl
same_numbers_refl (x ∷ xs) = and_from (eqb x x) (same_numbers xs xs) (eq-eqb x x refl) (same_numbers_refl xs)

pub code_eq : (a b : Resolution) → resolution_code a ≡ resolution_code b → a ≡ b
code_eq (Var v) (Var w) h = let e : v ≡ w = omega arith in ap (λ x. Var x) e
code_eq (Builtin v) (Builtin w) h = let e : v ≡ w = omega arith in ap (λ x. Builtin x) e
code_eq Twice Twice h = refl
code_eq Missing Missing h = refl
code_eq (Var v) (Builtin w) h = absurd (omega arith)
code_eq (Builtin v) (Var w) h = absurd (omega arith)
code_eq (Var v) Twice h = absurd (omega arith)
code_eq (Var v) Missing h = absurd (omega arith)
code_eq Twice (Var v) h = absurd (omega arith)
code_eq Missing (Var v) h = absurd (omega arith)
code_eq (Builtin v) Twice h = absurd (omega arith)
code_eq (Builtin v) Missing h = absurd (omega arith)
code_eq Twice (Builtin v) h = absurd (omega arith)
code_eq Missing (Builtin v) h = absurd (omega arith)
code_eq Twice Missing h = absurd (omega arith)
code_eq Missing Twice h = absurd (omega arith)

and_five : (a b c d e : Bool) → (a && b && c && d && e) ≡ true → (a ≡ true) × (b ≡ true) × (c ≡ true) × (d ≡ true) × (e ≡ true)
and_five a b c d e h =
    let p : ((a && b && c && d) ≡ true) × (e ≡ true) = and_parts (a && b && c && d) e h in
    let q : ((a && b && c) ≡ true) × (d ≡ true) = and_parts (a && b && c) d p.0 in
    let r : ((a && b) ≡ true) × (c ≡ true) = and_parts (a && b) c q.0 in
    let t : (a ≡ true) × (b ≡ true) = and_parts a b r.0 in
    (t.0, t.1, r.1, q.1, p.1)

from_five : (a b c d e : Bool) → a ≡ true → b ≡ true → c ≡ true → d ≡ true → e ≡ true → (a && b && c && d && e) ≡ true
from_five a b c d e p q r s t = rw (p, q, r, s, t) refl

-- the two agree but for the renewals
pub record SameBase (f g : Footing) : Type 0 where
  pub place : f.place ≡ g.place
  pub is_duplicate : f.is_duplicate ≡ g.is_duplicate
  pub is_circular : f.is_circular ≡ g.is_circular
  pub inputs : f.inputs ≡ g.inputs
  pub starts : f.starts ≡ g.starts

pub same_base_eq : (f g : Footing) → same_base f g ≡ true → SameBase f g
same_base_eq f g h =
    let t : (eqb f.place g.place ≡ true) × (same_bool f.is_duplicate g.is_duplicate ≡ true) × (same_bool f.is_circular g.is_circular ≡ true) × (same_numbers f.inputs g.inputs ≡ true) × (same_numbers f.starts g.starts ≡ true)
    = and_five (eqb f.place g.place) (same_bool f.is_duplicate g.is_duplicate) (same_bool f.is_circular g.is_circular) (same_numbers f.inputs g.inputs) (same_numbers f.starts g.starts) h in
    record {
      place = eqb-true f.place g.place t.0;
      is_duplicate = same_bool_eq f.is_duplicate g.is_duplicate t.1;
      is_circular = same_bool_eq f.is_circular g.is_circular t.2;
      inputs = same_numbers_eq f.inputs g.inputs t.3;
      starts = same_numbers_eq f.starts g.starts t.4;
    }

pub same_base_from : (f g : Footing) → SameBase f g → same_base f g ≡ true
same_base_from f g h =
    from_five (eqb f.place g.place) (same_bool f.is_duplicate g.is_duplicate) (same_bool f.is_circular g.is_circular) (same_numbers f.inputs g.inputs) (same_numbers f.starts g.starts)
    (eq-eqb f.place g.place h.place)
    (subst (λ (b : Bool). same_bool f.is_duplicate b ≡ true) h.is_duplicate (same_bool_refl f.is_duplicate))
    (subst (λ (b : Bool). same_bool f.is_circular b ≡ true) h.is_circular (same_bool_refl f.is_circular))
    (subst (λ (xs : List ℕ). same_numbers f.inputs xs ≡ true) h.inputs (same_numbers_refl f.inputs))
    (subst (λ (xs : List ℕ). same_numbers f.starts xs ≡ true) h.starts (same_numbers_refl f.starts))

pub same_base_refl : (f : Footing) → same_base f f ≡ true
same_base_refl f = same_base_from f f (record { place = refl; is_duplicate = refl; is_circular = refl; inputs = refl; starts = refl })

pub same_footing_eq : (f g : Footing) → same_footing f g ≡ true → f ≡ g
same_footing_eq f g h =
    let t : (same_base f g ≡ true) × (same_numbers f.renewals g.renewals ≡ true) = and_parts (same_base f g) (same_numbers f.renewals g.renewals) h in
    let b : SameBase f g = same_base_eq f g t.0 in
    let e : f.renewals ≡ g.renewals = same_numbers_eq f.renewals g.renewals t.1 in
    ap (λ (x : ℕ). record f { place = x }) b.place
    ∙ ap (λ (x : Bool). record f { place = g.place; is_duplicate = x }) b.is_duplicate
    ∙ ap (λ (x : Bool). record f { place = g.place; is_duplicate = g.is_duplicate; is_circular = x }) b.is_circular
    ∙ ap (λ (x : List ℕ). record g { inputs = x; starts = f.starts; renewals = f.renewals }) b.inputs
    ∙ ap (λ (x : List ℕ). record g { starts = x; renewals = f.renewals }) b.starts
    ∙ ap (λ (x : List ℕ). record g { renewals = x }) e

pub same_footing_refl : (f : Footing) → same_footing f f ≡ true
same_footing_refl f = and_from (same_base f f) (same_numbers f.renewals f.renewals) (same_base_refl f) (same_numbers_refl f.renewals)
