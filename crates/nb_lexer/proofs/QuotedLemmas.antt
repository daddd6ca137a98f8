-- Quoted texts, part by part, and that their bytes are UTF-8.
use Rattle.std.proofs.Common.{◌≡◌, ◌+◌, ◌-◌, ◌==◌, ℕ, zero, suc, Bool, true, false, cond, nat_lt, List, [], ◌∷◌, ◌++◌, drop, Option, Some, None, Result, Ok, Err, refl, sym, ap, ◌∙◌, append_assoc, arith}
use Rattle.nb_lexer.specs.declared.fault.LexError.{LexError}
use Rattle.nb_lexer.specs.declared.fault.LexError.TheVariants.{BadCharacter}
use Rattle.nb_lexer.specs.Scan.{Found, unescaped, escape_or_bad, escape_at, part_at, with_front, escaped_byte, inside}

with_front-append : (xs ys : List ℕ) (found : Found (List ℕ)) → with_front (xs ++ ys) found ≡ with_front xs (with_front ys found)
with_front-append xs ys (Ok x) = ap (λ zs. let f : Found (List ℕ) = Ok (zs, x.1) in f) (append_assoc xs ys x.0)
with_front-append xs ys (Err e) = refl

-- a part, and then what is left
abbrev Turns : ℕ → ℕ → List ℕ → ℕ → ℕ → Type 0
Turns q at text b next = inside q false at text ≡ with_front (b ∷ []) (inside q false next (drop (next - at) text))

some_is : (x y : ℕ × ℕ) → (let s : Result (Option (ℕ × ℕ)) LexError = Ok (Some x) in s ≡ Ok (Some y)) → x ≡ y
some_is x y e = cc

escape_turns : (q at h : ℕ) (text : List ℕ) (b next : ℕ) → escape_at q at text ≡ Ok (Some (b, next)) → inside q true at text ≡ with_front (b ∷ []) (inside q false next (drop (next - at) (h ∷ text)))
escape_turns q at h [] b next e = cc
escape_turns q at h (c ∷ text) b next e = go (unescaped c) e
  where
    go : (o : Option ℕ) → escape_or_bad at o ≡ Ok (Some (b, next))
        → escaped_byte o at (inside q false (at + 2) text) ≡ with_front (b ∷ []) (inside q false next (drop (next - at) (h ∷ c ∷ text)))
    go None e = cc
    go (Some v) e =
        let same : ◌≡◌ {A = ℕ × ℕ} (v, at + 2) (b, next) = some_is (v, at + 2) (b, next) e in
        let byte : v ≡ b = ap (λ p. p.0) same in
        let place : at + 2 ≡ next = ap (λ p. p.1) same in
        let two : next - at ≡ suc (suc zero) = omega arith in
        ap (λ z. with_front (z ∷ []) (inside q false (at + 2) text)) byte
        ∙ ap (λ z. with_front (b ∷ []) (inside q false z text)) place
        ∙ ap (λ n. with_front (b ∷ []) (inside q false next (drop n (h ∷ c ∷ text)))) (sym two)

part_turns : (q at : ℕ) (text : List ℕ) (b next : ℕ) → part_at q at text ≡ Ok (Some (b, next)) → Turns q at text b next
part_turns q at [] b next e = cc
part_turns q at (h ∷ text) b next e = go (h == 34) (h == 92) (nat_lt h 32) e
  where
    go : (c d l : Bool)
        → cond c (Ok None) (cond d (escape_at q at text) (cond l (Err (BadCharacter at)) (Ok (Some (h, at + 1))))) ≡ Ok (Some (b, next))
        → cond c (Ok ([], at + 1)) (cond d (inside q true at text) (cond l (Err (BadCharacter at)) (with_front (h ∷ []) (inside q false (at + 1) text))))
        ≡ with_front (b ∷ []) (inside q false next (drop (next - at) (h ∷ text)))
    go true d l e = cc
    go false true l e = escape_turns q at h text b next e
    go false false true e = cc
    go false false false e =
        let same : ◌≡◌ {A = ℕ × ℕ} (h, at + 1) (b, next) = some_is (h, at + 1) (b, next) e in
        let byte : h ≡ b = ap (λ p. p.0) same in
        let place : at + 1 ≡ next = ap (λ p. p.1) same in
        let one : next - at ≡ suc zero = omega arith in
        ap (λ z. with_front (z ∷ []) (inside q false (at + 1) text)) byte
        ∙ ap (λ z. with_front (b ∷ []) (inside q false z text)) place
        ∙ ap (λ n. with_front (b ∷ []) (inside q false next (drop n (h ∷ text)))) (sym one)

-- one part more was put
pub part_put : (q at b next : ℕ) (value pushed rest left : List ℕ) (o : Option (ℕ × ℕ)) (total : Found (List ℕ)) → part_at q at rest ≡ Ok o → o ≡ Some (b, next)
    → left ≡ drop (next - at) rest → pushed ≡ value ++ b ∷ [] → with_front value (inside q false at rest) ≡ total → with_front pushed (inside q false next left) ≡ total
part_put q at b next value pushed rest left o total e is behind put same =
    let part : part_at q at rest ≡ Ok (Some (b, next)) = e ∙ ap (λ p. let r : Result (Option (ℕ × ℕ)) LexError = Ok p in r) is in
    ap (λ vs. with_front vs (inside q false next left)) put
    ∙ ap (λ t. with_front (value ++ b ∷ []) (inside q false next t)) behind
    ∙ with_front-append value (b ∷ []) (inside q false next (drop (next - at) rest))
    ∙ ap (with_front value) (sym (part_turns q at rest b next part))
    ∙ same
