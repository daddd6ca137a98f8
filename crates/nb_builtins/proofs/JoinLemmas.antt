-- The texts that values are, one after another.
use Rattle.std.proofs.Common.{◌≡◌, ℕ, suc, ◌+◌, ◌<◌, List, [], ◌∷◌, ◌++◌, length, get_or, drop, map, Bor, refl, ap, ◌∙◌, sym, append_assoc, add-one, Ok, Err}
use Rattle.std.proofs.Math.Seq.{drop-cons}
use Rattle.std.proofs.lemmas.List.{map-append}
use Rattle.nb_value.specs.declared.value.Value.{Value, out-Value}
use Rattle.nb_value.specs.declared.value.Value.TheVariants as V
use Rattle.nb_builtins.specs.Calls.{Called, and_then}
use Rattle.nb_builtins.specs.Parts.{text_in, texts_of}

regrouped : (done : List (List ℕ)) (t : List ℕ) (rest : Called (List (List ℕ))) → and_then (and_then rest (λ ts. Ok (t ∷ ts))) (λ ts. Ok (done ++ ts)) ≡ and_then rest (λ ts. Ok ((done ++ t ∷ []) ++ ts))
regrouped done t (Ok ts) = ap Ok (sym (append_assoc done (t ∷ []) ts))
regrouped done t (Err e) = refl

-- a text more behind those that are found
pub texts_step : (whole : Called (List (List ℕ))) (done : List (List ℕ)) (v : Value) (t : List ℕ) (vs : List Value) → text_in (out-Value v) ≡ Ok t
    → whole ≡ and_then (texts_of (v ∷ vs)) (λ ts. Ok (done ++ ts)) → whole ≡ and_then (texts_of vs) (λ ts. Ok ((done ++ t ∷ []) ++ ts))
texts_step whole done v t vs h e = e ∙ rw h (regrouped done t (texts_of vs))

is_text : (v : Value) (t : List ℕ) → v ≡ V.Text t → text_in (out-Value v) ≡ Ok t
unfolding out-Value denote.Hole.Carrier.out
is_text v t e = rw e refl

-- the same of a list of references
pub texts_pushed : (whole : Called (List (List ℕ))) (items : List Value) (before after : List (Bor (List ℕ))) (i : ℕ) (v : Value) (t : Bor (List ℕ)) → i < length items → v ≡ get_or items i v → v ≡ V.Text t.now → after ≡ before ++ t ∷ []
    → whole ≡ and_then (texts_of (drop i items)) (λ ts. Ok (map (λ r. r.now) before ++ ts)) → whole ≡ and_then (texts_of (drop (i + 1) items)) (λ ts. Ok (map (λ r. r.now) after ++ ts))
texts_pushed whole items before after i v t h at is pushed e =
    let split : drop i items ≡ v ∷ drop (suc i) items = drop-cons items i v h ∙ ap (λ x. x ∷ drop (suc i) items) (sym at) in
    let first : whole ≡ and_then (texts_of (v ∷ drop (suc i) items)) (λ ts. Ok (map (λ r. r.now) before ++ ts)) = rw split at e in
    let step = texts_step whole (map (λ r. r.now) before) v t.now (drop (suc i) items) (is_text v t.now is) first in
    rw (add-one, pushed, map-append) step
