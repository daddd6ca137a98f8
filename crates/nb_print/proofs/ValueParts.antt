-- Values that are one have the same parts.
use Rattle.std.proofs.Common.{◌≡◌, ◌∙◌, ℕ, ◌+◌, ◌*◌, Bool, pos, List, [], ◌∷◌, Option, Some, None, refl, sym, ap, arith}
use Rattle.nb_value.specs.declared.value.Value.{Value}
use Rattle.nb_value.specs.declared.value.Value.TheVariants as V
use Rattle.nb_value.specs.declared.value.Value.TheViews as values
use Rattle.nb_value.specs.declared.value.Value.TheViews.{out-Value}
use Rattle.nb_value.specs.declared.value.Value.TheOpen.{Value-F}
use Rattle.nb_value.specs.declared.pairs.Field.{Field}
use Rattle.nb_value.specs.Value.{kind}
use Rattle.nb_log.specs.Printing.{Name, field, number, text_or_null}

same_out : (v w : Value) (x y : Value-F Value) → out-Value v ≡ x → out-Value w ≡ y → v ≡ w → x ≡ y
same_out v w x y p q e = sym p ∙ ap out-Value e ∙ q

pub same_text : (a b : List ℕ) → V.Text a ≡ V.Text b → a ≡ b
same_text a b e = let level = same_out (V.Text a) (V.Text b) (Value-F.Text a) (Value-F.Text b) (values.outs-Text a) (values.outs-Text b) e in cc

pub same_number : (m n : ℕ) → number m ≡ number n → m ≡ n
same_number m n e = let level = same_out (number m) (number n) (Value-F.Int (pos m)) (Value-F.Int (pos n)) (values.outs-Int (pos m)) (values.outs-Int (pos n)) e in cc

pub same_bool : (a b : Bool) → V.Bool a ≡ V.Bool b → a ≡ b
same_bool a b e = let level = same_out (V.Bool a) (V.Bool b) (Value-F.Bool a) (Value-F.Bool b) (values.outs-Bool a) (values.outs-Bool b) e in cc

pub same_list : (a b : List Value) → V.List a ≡ V.List b → a ≡ b
same_list a b e = let level = same_out (V.List a) (V.List b) (Value-F.List a) (Value-F.List b) (values.outs-List a) (values.outs-List b) e in cc

pub same_fields : (a b : List (Field Value)) → V.Rec a ≡ V.Rec b → a ≡ b
same_fields a b e = let level = same_out (V.Rec a) (V.Rec b) (Value-F.Rec a) (Value-F.Rec b) (values.outs-Rec a) (values.outs-Rec b) e in cc

null_text : (t : List ℕ) → V.Null ≡ V.Text t → ⊥
null_text t e = omega (arith, ap kind (same_out V.Null (V.Text t) Value-F.Null (Value-F.Text t) values.outs-Null (values.outs-Text t) e))

pub same_or_null : (a b : Option Name) → text_or_null a ≡ text_or_null b → a ≡ b
same_or_null None None e = refl
same_or_null None (Some t) e = absurd (null_text t e)
same_or_null (Some t) None e = absurd (null_text t (sym e))
same_or_null (Some s) (Some t) e = ap Some (same_text s t e)

-- ---- the first of a list, and the rest

pub first_same : (x y : Value) (xs ys : List Value) → x ∷ xs ≡ y ∷ ys → (x ≡ y) × (xs ≡ ys)
first_same x y xs ys e = (cc, cc)

pub first_text : (a b : List ℕ) (xs ys : List Value) → V.Text a ∷ xs ≡ V.Text b ∷ ys → (a ≡ b) × (xs ≡ ys)
first_text a b xs ys e = let both = first_same (V.Text a) (V.Text b) xs ys e in (same_text a b both.0, both.1)

pub first_number : (m n : ℕ) (xs ys : List Value) → number m ∷ xs ≡ number n ∷ ys → (m ≡ n) × (xs ≡ ys)
first_number m n xs ys e = let both = first_same (number m) (number n) xs ys e in (same_number m n both.0, both.1)

pub first_field : (a b : Name) (x y : Value) (fs gs : List (Field Value)) → field a x ∷ fs ≡ field b y ∷ gs → (x ≡ y) × (fs ≡ gs)
first_field a b x y fs gs e =
    let head : field a x ≡ field b y = cc in
    (ap (λ (f : Field Value). f.value) head, cc)

pub field_text : (a b s t : List ℕ) (fs gs : List (Field Value)) → field a (V.Text s) ∷ fs ≡ field b (V.Text t) ∷ gs → (s ≡ t) × (fs ≡ gs)
field_text a b s t fs gs e = let both = first_field a b (V.Text s) (V.Text t) fs gs e in (same_text s t both.0, both.1)

pub field_number : (a b : Name) (m n : ℕ) (fs gs : List (Field Value)) → field a (number m) ∷ fs ≡ field b (number n) ∷ gs → (m ≡ n) × (fs ≡ gs)
field_number a b m n fs gs e = let both = first_field a b (number m) (number n) fs gs e in (same_number m n both.0, both.1)

pub field_bool : (a b : Name) (x y : Bool) (fs gs : List (Field Value)) → field a (V.Bool x) ∷ fs ≡ field b (V.Bool y) ∷ gs → (x ≡ y) × (fs ≡ gs)
field_bool a b x y fs gs e = let both = first_field a b (V.Bool x) (V.Bool y) fs gs e in (same_bool x y both.0, both.1)

-- the text that a level is, and none for another
abbrev pub text_in : Value-F Value → List ℕ
text_in (Value-F.Text t) = t
text_in x = []

-- ---- a number of a text, which tells the words of a log apart

abbrev pub weight : List ℕ → ℕ
weight [] = 0
weight (b ∷ bs) = b + 2 * weight bs
