-- The names that modules get: each is a name, no two are one, and each is found at its position.
use Rattle.std.proofs.Common.{◌≡◌, ℕ, ◌+◌, ◌%◌, ◌^◌, ◌<◌, ◌≤◌, ◌&&◌, ◌||◌, eqb, List, [], ◌∷◌, ◌++◌, length, drop, Bool, true, false, not, cond, nat_lt, Some, None, bytes_eq, decimal, refl, sym, ap, ap₂, ◌∙◌, arith, length-append, lt-ltb, ltb-true, eq-eqb, ne_eqb, ⊎_elim}
use Rattle.std.specs.List.{list_all, prefix_len}
use Rattle.std.proofs.lemmas.Bool.{and_from, cases_lt}
use Rattle.std.proofs.lemmas.Fmt.{decimal_by_steps}
use Rattle.std.proofs.lemmas.List.Folds.{list_all-append, prefix_len-append}
use Rattle.std.proofs.lemmas.Option.{same_Some}
use Rattle.std.proofs.lemmas.Slice.Eq.{bytes_eq-Decides}
use Rattle.serde_json.specs.Data.{Num, unsigned, negative, float}
use Rattle.serde_json.specs.Read.{number_of}
use Rattle.serde_json.proofs.Numbers.{number_of-decimal}
use Rattle.nb_lexer.specs.Characters.{is_digit, is_letter, is_in_name}
use Rattle.nb_lexer.specs.Spelling.{is_name}
use Rattle.nb_lexer.specs.Words.{keyword}
use Rattle.nb_doc.specs.Contents.{place_of}
use Rattle.nb_doc.specs.Upgraded.{module_name}

digit_in_name : (k : ℕ) → k < 10 → is_in_name (48 + k) ≡ true
digit_in_name k h = either (is_letter (48 + k)) (is_digit (48 + k)) (and_from (nat_lt 47 (48 + k)) (nat_lt (48 + k) 58) (lt-ltb 47 (48 + k) (omega arith)) (lt-ltb (48 + k) 58 (omega arith)))
  where
    either : (a b : Bool) → b ≡ true → (a || b) ≡ true
    either true b e = refl
    either false b e = e

all_in_name : (n : ℕ) → n < 2 ^ 64 → list_all is_in_name (decimal n) ≡ true
all_in_name =
    decimal_by_steps (λ n ds. list_all is_in_name ds ≡ true) (λ n h. ap (λ b. b && true) (digit_in_name n h))
    (λ n ds h e. list_all-append is_in_name ds ((48 + n % 10) ∷ []) ∙ ap₂ (λ a b. a && (b && true)) e (digit_in_name (n % 10) (omega arith)))

pub module_name_is_name : (n : ℕ) → n < 2 ^ 64 → is_name (module_name n) ≡ true
unfolding keyword
module_name_is_name n h = ap (λ b. b && true) (all_in_name n h)

abbrev value_or : ℕ → Num → ℕ
value_or d (unsigned n) = n
value_or d (negative z) = d
value_or d (float x) = d

one_position : (j k : ℕ) → j < 2 ^ 64 → k < 2 ^ 64 → module_name j ≡ module_name k → j ≡ k
one_position j k small low e =
    ap (value_or 0) (same_Some (unsigned j) (unsigned k) (sym (number_of-decimal j small) ∙ ap (λ s. number_of (drop 1 s)) e ∙ number_of-decimal k low))

-- ---- the names of so many modules

abbrev differs : List ℕ → List ℕ → Bool
differs n m = not (bytes_eq m n)

-- how many names stand before the one of a position
abbrev before : ℕ → List (List ℕ) → ℕ
before n names = prefix_len (differs (module_name n)) names

pub record Knows (k : ℕ) (names : List (List ℕ)) : Type 0 where
  pub long : length names ≡ k
  pub old : (n : ℕ) → n < k → before n names ≡ n
  pub new : (n : ℕ) → k ≤ n → n < 2 ^ 64 → before n names ≡ k

pub knows_none : Knows 0 []
knows_none = record { long = refl; old = λ n h. absurd (omega arith); new = λ n h small. refl }

same_differs : (n : ℕ) → differs (module_name n) (module_name n) ≡ false
same_differs n = ap not ((bytes_eq-Decides (module_name n) (module_name n)).1 refl)

others_differ : (n k : ℕ) → n < 2 ^ 64 → k < n → differs (module_name n) (module_name k) ≡ true
others_differ n k small less = go (bytes_eq (module_name k) (module_name n)) refl
  where
    go : (b : Bool) → bytes_eq (module_name k) (module_name n) ≡ b → not b ≡ true
    go true e = let same : k ≡ n = one_position k n (omega arith) small ((bytes_eq-Decides (module_name k) (module_name n)).0 e) in absurd (omega arith)
    go false e = refl

joined : (n k : ℕ) (names : List (List ℕ)) (b l o : ℕ) → before n names ≡ b → length names ≡ l → prefix_len (differs (module_name n)) (module_name k ∷ []) ≡ o
    → before n (names ++ module_name k ∷ []) ≡ cond (eqb b l) (l + o) b
joined n k names b l o at long last = prefix_len-append (differs (module_name n)) names (module_name k ∷ []) ∙ rw (at, long, last) refl

alike : (k : ℕ) → eqb k k ≡ true
alike k = eq-eqb k k refl

pub knows_more : (k : ℕ) (names : List (List ℕ)) → k < 2 ^ 64 → Knows k names → Knows (k + 1) (names ++ module_name k ∷ [])
knows_more k names small known = record {
  long = length-append names (module_name k ∷ []) ∙ omega (arith, known.long);
  old = λ n h. ⊎_elim
      (λ l. joined n k names n k _ (known.old n l) known.long refl ∙ ap (λ b. cond b (k + prefix_len (differs (module_name n)) (module_name k ∷ [])) n) (ne_eqb n k (λ e. omega (arith, l, e))))
      (λ g. let same : n ≡ k = omega (arith, g, h) in
      joined n k names k k 0 (known.new n g (omega arith)) known.long (ap (λ m. prefix_len (differs (module_name n)) (module_name m ∷ [])) (sym same) ∙ ap (λ b. cond b (1 + 0) 0) (same_differs n))
      ∙ ap (λ b. cond b (k + 0) k) (alike k) ∙ omega (arith, same))
      (cases_lt n k);
  new = λ n h low.
      joined n k names k k 1 (known.new n (omega (arith, h)) low) known.long (ap (λ b. cond b (1 + 0) 0) (others_differ n k low (omega (arith, h)))) ∙ ap (λ b. cond b (k + 1) k) (alike k);
}

pub found_at : (k : ℕ) (names : List (List ℕ)) (n : ℕ) → Knows k names → n < k → place_of names (module_name n) ≡ Some n
found_at k names n known h = ap₂ (λ b l. cond (nat_lt b l) (Some b) None) (known.old n h) known.long ∙ ap (λ b. cond b (Some n) None) (lt-ltb n k h)

pub not_found : (k : ℕ) (names : List (List ℕ)) → k < 2 ^ 64 → Knows k names → place_of names (module_name k) ≡ None
not_found k names small known = ap₂ (λ b l. cond (nat_lt b l) (Some b) None) (known.new k (omega arith) small) known.long ∙ go (nat_lt k k) refl
  where
    go : (b : Bool) → nat_lt k k ≡ b → cond b (Some k) None ≡ None
    go true e = absurd (omega (arith, ltb-true k k e))
    go false e = refl
