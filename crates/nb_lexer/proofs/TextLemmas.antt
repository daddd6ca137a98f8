-- What stands between quotes is UTF-8, also without its escapes.
use Rattle.std.proofs.Common.{◌≡◌, ◌≤◌, ◌<◌, ◌+◌, ◌/◌, ◌==◌, ℕ, zero, suc, Bool, true, false, cond, nat_lt, List, [], ◌∷◌, ◌++◌, length, drop, get_or, Option, Some, None, Ok, Err, refl, sym, ap, subst, ◌∙◌, add-zero, arith}
use Rattle.std.proofs.lemmas.Bool.{and_parts, false≢true}
use Rattle.std.proofs.lemmas.Bool.Decides.{nat_tests}
use Rattle.std.proofs.lemmas.Str.{IsUtf8-nil, IsUtf8-append, IsUtf8-encode, IsUtf8-from_ascii, IsUtf8-drop, IsCharBoundary-after_ascii, encode_ascii, len_utf8_bounds, length-encode}
use Rattle.std.specs.Str.{IsUtf8}
use Rattle.std.specs.List.{AllByRecursion}
use lib.Utf8.{scalar, scalars, encode, encodes, next}
use Rattle.nb_lexer.specs.declared.fault.LexError.TheVariants.{BadCharacter}
use Rattle.nb_lexer.specs.Characters.{is_quote, begins}
use Rattle.nb_lexer.specs.Scan.{Found, unescaped, with_front, escaped_byte, inside}

-- ---- bytes of characters beyond ASCII

abbrev IsHigh : List ℕ → Type 0
IsHigh bs = AllByRecursion (λ b. 128 ≤ b) bs

encode_high : (c : ℕ) → 128 ≤ c → IsHigh (encode c)
unfolding encode
encode_high c h = go (nat_lt c 128) refl (nat_lt c 2048) (nat_lt c 65536)
  where
    go : (a : Bool) → nat_lt c 128 ≡ a → (b d : Bool)
        → IsHigh (cond a (c ∷ []) (cond b ((192 + c / 64) ∷ next c ∷ []) (cond d ((224 + c / 4096) ∷ next (c / 64) ∷ next c ∷ []) ((240 + c / 262144) ∷ next (c / 4096) ∷ next (c / 64) ∷ next c ∷ []))))
    go true e b d = absurd (grind (arith, nat_tests))
    go false e true d = omega arith
    go false e false true = omega arith
    go false e false false = omega arith

with_front-nil : (found : Found (List ℕ)) → with_front [] found ≡ found
with_front-nil (Ok x) = refl
with_front-nil (Err e) = refl

with_front-two : (b : ℕ) (bs : List ℕ) (found : Found (List ℕ)) → with_front (b ∷ []) (with_front bs found) ≡ with_front (b ∷ bs) found
with_front-two b bs (Ok x) = refl
with_front-two b bs (Err e) = refl

-- a byte from 128 on stands for itself
high_plain : (q at b : ℕ) (text : List ℕ) → 128 ≤ b → inside q false at (b ∷ text) ≡ with_front (b ∷ []) (inside q false (at + 1) text)
high_plain q at b text h = go (b == 34) refl (b == 92) refl (nat_lt b 32) refl
  where
    go : (c : Bool) → (b == 34) ≡ c → (d : Bool) → (b == 92) ≡ d → (l : Bool) → nat_lt b 32 ≡ l
        → cond c (Ok ([], at + 1)) (cond d (inside q true at text) (cond l (Err (BadCharacter at)) (with_front (b ∷ []) (inside q false (at + 1) text))))
        ≡ with_front (b ∷ []) (inside q false (at + 1) text)
    go true e d f l g = absurd (grind (arith, nat_tests))
    go false e true f l g = absurd (grind (arith, nat_tests))
    go false e false f true g = absurd (grind (arith, nat_tests))
    go false e false f false g = refl

high_run : (q at : ℕ) (bs text : List ℕ) → IsHigh bs → inside q false at (bs ++ text) ≡ with_front bs (inside q false (at + length bs) text)
high_run q at [] text h = sym (with_front-nil (inside q false at text)) ∙ ap (λ n. with_front [] (inside q false n text)) (sym (add-zero at))
high_run q at (b ∷ bs) text h =
    let place : at + 1 + length bs ≡ at + length (b ∷ bs) = omega arith in
    high_plain q at b (bs ++ text) h.0
    ∙ ap (with_front (b ∷ [])) (high_run q (at + 1) bs text h.1)
    ∙ with_front-two b bs (inside q false (at + 1 + length bs) text)
    ∙ ap (λ n. with_front (b ∷ bs) (inside q false n text)) place

-- and makes no escape
high_unescaped : (b : ℕ) → 128 ≤ b → unescaped b ≡ None
high_unescaped b h = grind (arith, nat_tests)

-- ---- all characters

front_ok : (front x : List ℕ) (end : ℕ) (found : Found (List ℕ)) → with_front front found ≡ Ok (x, end) → (y : List ℕ) × (found ≡ Ok (y, end)) × (front ++ y ≡ x)
front_ok front x end (Ok y) e =
    let same : ◌≡◌ {A = List ℕ × ℕ} (front ++ y.0, y.1) (x, end) = cc in
    (y.0, ap (λ n. let r : Found (List ℕ) = Ok (y.0, n) in r) (ap (λ p. p.1) same), ap (λ p. p.0) same)
front_ok front x end (Err f) e = cc

ascii_front : (b : ℕ) (x : List ℕ) → b < 128 → IsUtf8 x → IsUtf8 (b ∷ x)
ascii_front b x low u = IsUtf8-append (b ∷ []) x (IsUtf8-from_ascii (b ∷ []) one) u
  where
    one : (i : ℕ) → get_or (b ∷ []) i 0 < 128
    one zero = low
    one (suc i) = omega arith

unescaped_low : (c b : ℕ) → unescaped c ≡ Some b → b < 128
unescaped_low c b e = go (c == 34) (c == 92) (c == 110) (c == 114) (c == 116) e
  where
    go : (d f g h k : Bool) → cond d (Some 34) (cond f (Some 92) (cond g (Some 10) (cond h (Some 13) (cond k (Some 9) None)))) ≡ Some b → b < 128
    go true f g h k e = let same : 34 ≡ b = cc in omega arith
    go false true g h k e = let same : 92 ≡ b = cc in omega arith
    go false false true h k e = let same : 10 ≡ b = cc in omega arith
    go false false false true k e = let same : 13 ≡ b = cc in omega arith
    go false false false false true e = let same : 9 ≡ b = cc in omega arith
    go false false false false false e = cc

-- what comes behind the first character
abbrev Again : List ℕ → Type 0
Again cs = (q : ℕ) (behind : Bool) (at : ℕ) (x : List ℕ) (end : ℕ) → inside q behind at (encodes cs) ≡ Ok (x, end) → IsUtf8 x

front_utf8 : (front : List ℕ) (q at : ℕ) (cs x : List ℕ) (end : ℕ) → IsUtf8 front → Again cs → with_front front (inside q false at (encodes cs)) ≡ Ok (x, end) → IsUtf8 x
front_utf8 front q at cs x end u again e =
    let left = front_ok front x end (inside q false at (encodes cs)) e in
    subst IsUtf8 left.2 (IsUtf8-append front left.0 u (again q false at left.0 end left.1))

low_utf8 : (q : ℕ) (behind : Bool) (at c : ℕ) (cs x : List ℕ) (end : ℕ) → c < 128 → Again cs → inside q behind at (c ∷ encodes cs) ≡ Ok (x, end) → IsUtf8 x
low_utf8 q true at c cs x end low again e = go (unescaped c) refl e
  where
    go : (o : Option ℕ) → unescaped c ≡ o → escaped_byte o at (inside q false (at + 2) (encodes cs)) ≡ Ok (x, end) → IsUtf8 x
    go None is e = cc
    go (Some b) is e = front_utf8 (b ∷ []) q (at + 2) cs x end (ascii_front b [] (unescaped_low c b is) IsUtf8-nil) again e
low_utf8 q false at c cs x end low again e = go (c == 34) (c == 92) (nat_lt c 32) e
  where
    go : (d f l : Bool)
        → cond d (Ok ([], at + 1)) (cond f (inside q true at (encodes cs)) (cond l (Err (BadCharacter at)) (with_front (c ∷ []) (inside q false (at + 1) (encodes cs))))) ≡ Ok (x, end) → IsUtf8 x
    go true f l e =
        let same : ◌≡◌ {A = List ℕ × ℕ} ([], at + 1) (x, end) = cc in
        subst IsUtf8 (ap (λ p. p.0) same) IsUtf8-nil
    go false true l e = again q true at x end e
    go false false true e = cc
    go false false false e = front_utf8 (c ∷ []) q (at + 1) cs x end (ascii_front c [] low IsUtf8-nil) again e

high_utf8 : (q : ℕ) (behind : Bool) (at : ℕ) (bs cs x : List ℕ) (end : ℕ) → IsHigh bs → IsUtf8 bs → 0 < length bs → Again cs → inside q behind at (bs ++ encodes cs) ≡ Ok (x, end) → IsUtf8 x
high_utf8 q behind at [] cs x end h u some again e = absurd (omega arith)
high_utf8 q true at (b ∷ bs) cs x end h u some again e =
    let no : unescaped b ≡ None = high_unescaped b h.0 in
    let bad : escaped_byte None at (inside q false (at + 2) (bs ++ encodes cs)) ≡ Ok (x, end) = ap (λ o. escaped_byte o at (inside q false (at + 2) (bs ++ encodes cs))) (sym no) ∙ e in cc
high_utf8 q false at (b ∷ bs) cs x end h u some again e =
    front_utf8 (b ∷ bs) q (at + length (b ∷ bs)) cs x end u again (sym (high_run q at (b ∷ bs) (encodes cs) h) ∙ e)

inside_utf8 : (cs : List ℕ) → scalars cs ≡ true → Again cs
inside_utf8 [] ok q true at x end e = cc
inside_utf8 [] ok q false at x end e = cc
inside_utf8 (c ∷ cs) ok q behind at x end e = go (nat_lt c 128) refl (inside_utf8 cs (and_parts (scalar c) (scalars cs) ok).1)
  where
    go : (b : Bool) → nat_lt c 128 ≡ b → Again cs → IsUtf8 x
    go true is again =
        let low : c < 128 = grind (arith, nat_tests) in
        low_utf8 q behind at c cs x end low again (ap (λ bs. inside q behind at (bs ++ encodes cs)) (sym (encode_ascii c low)) ∙ e)
    go false is again =
        let high : 128 ≤ c = grind (arith, nat_tests) in
        let some : 0 < length (encode c) = omega (arith, length-encode c, (len_utf8_bounds c).0) in
        high_utf8 q behind at (encode c) cs x end (encode_high c high) (IsUtf8-encode c (and_parts (scalar c) (scalars cs) ok).0) some again e

-- ---- a whole text

behind_quote : (text : List ℕ) → begins is_quote text ≡ true → IsUtf8 text → IsUtf8 (drop 1 text)
behind_quote [] b u = absurd (false≢true b)
behind_quote (h ∷ text) b u =
    let quote : h < 128 = grind (arith, nat_tests) in
    IsUtf8-drop (h ∷ text) 1 u (IsCharBoundary-after_ascii (h ∷ text) 0 u (omega arith) quote)

pub quoted_utf8 : (at start : ℕ) (text rest x : List ℕ) (end : ℕ) → begins is_quote text ≡ true → IsUtf8 text → rest ≡ drop 1 text → inside at false start rest ≡ Ok (x, end) → IsUtf8 x
quoted_utf8 at start text rest x end b u is e =
    let left = behind_quote text b u in
    inside_utf8 left.0 left.1.0 at false start x end (ap (inside at false start) (left.1.1 ∙ sym is) ∙ e)
