-- The parts of a text up to its first separator and behind it.
use mathlib.Core.Logic.{◌⊎◌, inl, inr}
use Rattle.std.proofs.Common.{◌≡◌, ◌≢◌, ℕ, zero, suc, ◌-◌, ◌<◌, ◌≤◌, List, [], ◌∷◌, ◌++◌, length, take, drop, map, refl, ap, ◌∙◌, sym, Bool, true, false, nat_eq, arith, Option, Some, None, MatchOption, append_assoc, length-append}
use Rattle.std.proofs.Math.Seq.{take-append_seam, drop-append_seam, drop-nil}
use Rattle.std.proofs.lemmas.List.{take-append-drop}
use Rattle.std.specs.List.{starts_with, onto_first}
use Rattle.std.specs.Str.Pattern.{FindsText, LacksTextAt, IsSplitAtFirstMatch}
use Rattle.std.specs.Cmp.Lexicographic.{bytes_decides}
use Rattle.nb_value.specs.declared.value.Value.{Value}
use Rattle.nb_value.specs.declared.value.Value.TheVariants as V
use Rattle.nb_builtins.specs.Parts.{parts_after, parts, IsSplit}

-- the parts that are still to come
abbrev pub parts_left : List ℕ → Bool → List ℕ → List (List ℕ)
parts_left separator false text = []
parts_left separator true text = parts separator text

-- what is left of a separator belongs to no part
passed : (separator rest front : List ℕ) → parts_after separator (length front) (front ++ rest) ≡ parts_after separator 0 rest
unfolding parts_after
passed separator rest [] = refl
passed separator rest (b ∷ bs) = passed separator rest bs

begins : (text separator rest : List ℕ) → text ≡ separator ++ rest → starts_with nat_eq text separator ≡ true
begins text separator rest e = (bytes_decides separator (take (length separator) text)).1 (sym (ap (take (length separator)) e ∙ take-append_seam separator rest))

differs : (text separator : List ℕ) → ((rest : List ℕ) → text ≢ separator ++ rest) → (b : Bool) → starts_with nat_eq text separator ≡ b → b ≡ false
differs text separator lacks false e = refl
differs text separator lacks true e =
    let front : separator ≡ take (length separator) text = (bytes_decides separator (take (length separator) text)).0 e in
    absurd (lacks (drop (length separator) text) (sym (take-append-drop (length separator) text) ∙ ap (λ xs. xs ++ drop (length separator) text) (sym front)))

-- the part before the first separator, and those behind it
first_part : (c : ℕ) (cs rest : List ℕ) (i : ℕ) (text : List ℕ) → ((k : ℕ) → k < i → LacksTextAt (c ∷ cs) text k) → drop i text ≡ (c ∷ cs) ++ rest → parts (c ∷ cs) text ≡ take i text ∷ parts (c ∷ cs) rest
unfolding parts_after
first_part c cs rest zero [] lacks e = cc
first_part c cs rest zero (b ∷ bs) lacks e =
    let here : starts_with nat_eq (b ∷ bs) (c ∷ cs) ≡ true = begins (b ∷ bs) (c ∷ cs) rest e in
    let after : bs ≡ cs ++ rest = cc in
    let left : length (c ∷ cs) - 1 ≡ length cs = omega arith in
    rw (here, left, after) (ap (λ ps. [] ∷ ps) (passed (c ∷ cs) rest cs))
first_part c cs rest (suc i) [] lacks e = cc
first_part c cs rest (suc i) (b ∷ bs) lacks e =
    let here : starts_with nat_eq (b ∷ bs) (c ∷ cs) ≡ false = differs (b ∷ bs) (c ∷ cs) (lacks 0 (omega arith)) _ refl in
    rw here (ap (onto_first b) (first_part c cs rest i bs (λ k h. lacks (suc k) (omega arith)) e))

-- a text without a separator is one part
only_part : (separator text : List ℕ) → ((i : ℕ) → i ≤ length text → LacksTextAt separator text i) → parts separator text ≡ text ∷ []
unfolding parts_after
only_part separator [] lacks = refl
only_part separator (b ∷ bs) lacks =
    let here : starts_with nat_eq (b ∷ bs) separator ≡ false = differs (b ∷ bs) separator (lacks 0 (omega arith)) _ refl in
    rw here (ap (onto_first b) (only_part separator bs (λ i h. lacks (suc i) (omega arith))))

found : (separator text part rest : List ℕ) (live : Bool) (o : Option (ℕ × ℕ)) → 0 < length separator → FindsText separator text o
    → MatchOption o ((part ≡ text) × (live ≡ false)) (λ q. 0 < q.1 → (part ≡ take q.0 text) × (live ≡ true) × (rest ≡ drop q.1 text))
    → parts separator text ≡ part ∷ parts_left separator live rest
found separator text part rest live None some lacks h = rw (h.0, h.1) (only_part separator text lacks)
found [] text part rest live (Some q) some at h = absurd (omega arith)
found (c ∷ cs) text part rest live (Some q) some at h =
    let ends : 0 < q.1 = omega (arith, at.1.ends) in
    let cut = h ends in
    rw (cut.0, cut.1, cut.2) (first_part c cs (drop q.1 text) q.0 text at.0 at.1.split)

-- the next part of a text, and what is left behind it
pub next_part : (separator text part rest : List ℕ) (live : Bool) → 0 < length separator → IsSplitAtFirstMatch (FindsText separator) text part live rest → parts separator text ≡ part ∷ parts_left separator live rest
next_part separator text part rest live some h = found separator text part rest live h.1.0 some h.1.1 h.1.2

-- one part more behind those that are made
pub parts_step : (items whole : List Value) (separator text part rest : List ℕ) (before live : Bool) → true ≡ before → parts separator text ≡ part ∷ parts_left separator live rest
    → items ++ map V.Text (parts_left separator before text) ≡ whole → (items ++ V.Text part ∷ []) ++ map V.Text (parts_left separator live rest) ≡ whole
parts_step items whole separator text part rest true live h cut e = append_assoc items (V.Text part ∷ []) (map V.Text (parts_left separator live rest)) ∙ ap (λ ps. items ++ map V.Text ps) (sym cut) ∙ e
parts_step items whole separator text part rest false live h cut e = absurd (cc)

-- ---- where the separator stands first

abbrev Found : List ℕ → List ℕ → Type 0
Found separator text = (t : List ℕ) × (rest : List ℕ) × (text ≡ t ++ (separator ++ rest)) × ((k : ℕ) → k < length t → LacksTextAt separator text k)

look_on : (separator text : List ℕ) (b : ℕ) → ((rest : List ℕ) → b ∷ text ≢ separator ++ rest) → Found separator text ⊎ ((k : ℕ) → LacksTextAt separator text k) → Found separator (b ∷ text) ⊎ ((k : ℕ) → LacksTextAt separator (b ∷ text) k)
look_on separator text b lacks (inl f) = inl (b ∷ f.0, f.1, ap (λ xs. b ∷ xs) f.2, below)
  where
    below : (k : ℕ) → k < length (b ∷ f.0) → LacksTextAt separator (b ∷ text) k
    below zero h = lacks
    below (suc k) h = f.3 k (omega arith)
look_on separator text b lacks (inr none) = inr at
  where
    at : (k : ℕ) → LacksTextAt separator (b ∷ text) k
    at zero = lacks
    at (suc k) = none k

look_here : (separator text : List ℕ) (b : ℕ) (here : Bool) → starts_with nat_eq (b ∷ text) separator ≡ here → Found separator text ⊎ ((k : ℕ) → LacksTextAt separator text k) → Found separator (b ∷ text) ⊎ ((k : ℕ) → LacksTextAt separator (b ∷ text) k)
look_here separator text b true e later =
    let front : separator ≡ take (length separator) (b ∷ text) = (bytes_decides separator (take (length separator) (b ∷ text))).0 e in
    inl ([], drop (length separator) (b ∷ text), sym (take-append-drop (length separator) (b ∷ text)) ∙ ap (λ xs. xs ++ drop (length separator) (b ∷ text)) (sym front), λ k h. absurd (omega arith))
look_here separator text b false e later = look_on separator text b (λ rest f. absurd (cc (begins (b ∷ text) separator rest f))) later

look : (c : ℕ) (cs text : List ℕ) → Found (c ∷ cs) text ⊎ ((k : ℕ) → LacksTextAt (c ∷ cs) text k)
look c cs [] = inr (λ k rest e. absurd (cc (drop-nil {A = ℕ} k)))
look c cs (b ∷ bs) = look_here (c ∷ cs) bs b (starts_with nat_eq (b ∷ bs) (c ∷ cs)) refl (look c cs bs)

with_first : (separator text t rest : List ℕ) (ps : List (List ℕ)) → text ≡ t ++ (separator ++ rest) → ((k : ℕ) → k < length t → LacksTextAt separator text k) → IsSplit separator rest ps → IsSplit separator text (t ∷ ps)
with_first separator text t rest [] e lacks s = absurd s
with_first separator text t rest (u ∷ ts) e lacks s = (rest, e, lacks, s)

behind_front : (separator text t rest : List ℕ) → text ≡ t ++ (separator ++ rest) → drop (length t) text ≡ separator ++ rest
behind_front separator text t rest e = ap (drop (length t)) e ∙ drop-append_seam t (separator ++ rest)

front_of : (separator text t rest : List ℕ) → text ≡ t ++ (separator ++ rest) → take (length t) text ≡ t
front_of separator text t rest e = ap (take (length t)) e ∙ take-append_seam t (separator ++ rest)

splits_within : (c : ℕ) (cs : List ℕ) (n : ℕ) (text : List ℕ) → length text < n → Found (c ∷ cs) text ⊎ ((k : ℕ) → LacksTextAt (c ∷ cs) text k) → IsSplit (c ∷ cs) text (parts (c ∷ cs) text)
splits_within c cs zero text h f = absurd (omega arith)
splits_within c cs (suc n) text h (inr none) = rw (only_part (c ∷ cs) text (λ i l. none i)) (refl, none)
splits_within c cs (suc n) text h (inl f) =
    let shorter : length f.1 < n = omega (arith, simp length-append at (ap length f.2)) in
    let first : parts (c ∷ cs) text ≡ f.0 ∷ parts (c ∷ cs) f.1 =
    first_part c cs f.1 (length f.0) text f.3 (behind_front (c ∷ cs) text f.0 f.1 f.2) ∙ ap (λ t. t ∷ parts (c ∷ cs) f.1) (front_of (c ∷ cs) text f.0 f.1 f.2) in
    rw first (with_first (c ∷ cs) text f.0 f.1 (parts (c ∷ cs) f.1) f.2 f.3 (splits_within c cs n f.1 shorter (look c cs f.1)))

pub splits : (separator text : List ℕ) → 0 < length separator → IsSplit separator text (parts separator text)
splits [] text h = absurd (omega arith)
splits (c ∷ cs) text h = splits_within c cs (suc (length text)) text (omega arith) (look c cs text)
