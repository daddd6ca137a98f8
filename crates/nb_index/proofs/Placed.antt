-- Rows that are found by the numbers of keys: they stay as keys are added, each key has its own, and how triples and
-- links change with them.
use Rattle.std.proofs.Common.{ℕ, ◌+◌, ◌≡◌, ◌<◌, ◌≤◌, refl, sym, ◌∙◌, ap, Bool, true, false, cond, not, ◌&&◌, ◌||◌, ◌⊎◌, inl, inr, List, [], ◌∷◌, length, get_or, arith, eq-eqb, eqb-true}
use Rattle.std.proofs.lemmas.Bool.{false≢true, cases_lt, cases_eq}
use Rattle.std.proofs.lemmas.List.Sums.{passes_at_first}
use Rattle.std.specs.Prelude.{◌==◌, Result, Ok, Err, OnErr, String, string_bytes}
use Rattle.std.specs.Global.{Global}
use Rattle.std.proofs.lemmas.Slice.Eq.{bytes_eq-Decides}
use Rattle.std.specs.Str.{bytes_eq}
use Rattle.nb_index.specs.Numbers.{has}
use Rattle.nb_index.specs.Rows.{row_at, present, present_at}
use Rattle.nb_index.specs.Table.{Gains, Loses}
use Rattle.nb_index.specs.Keys.{number_in, is_name, is_place, is_source, IsNumber, Grows, NamedBelow}
use Rattle.nb_index.specs.Index.{place_in}
use Rattle.nb_index.specs.declared.row.Row.{Row}
use Rattle.nb_index.proofs.ReadRows.{row_at-past}

and_left : (a b : Bool) → (a && b) ≡ true → a ≡ true
and_left true b h = refl
and_left false b h = absurd (false≢true h)

and_right : (a b : Bool) → (a && b) ≡ true → b ≡ true
and_right true b h = h
and_right false b h = absurd (false≢true h)

both : (a b : Bool) → a ≡ true → b ≡ true → (a && b) ≡ true
both true b p q = q
both false b p q = absurd (false≢true p)

-- ---- numbers

-- a place whose name is past all names is no place
unnamed : (places : List (ℕ × ℕ)) (n m k : ℕ) → NamedBelow n places → n ≤ k → length places ≤ number_in is_place places (m, k)
unnamed places n m k named past =
    elim (cases_lt (number_in is_place places (m, k)) (length places)) [
      | inl less ↦
          let found : is_place (m, k) (get_or places (number_in is_place places (m, k)) (0, 0)) ≡ true
          = passes_at_first (is_place (m, k)) places (0, 0) less in
          let same : k ≡ (get_or places (number_in is_place places (m, k)) (0, 0)).1
          = eqb-true k _ (and_right (m == (get_or places (number_in is_place places (m, k)) (0, 0)).0) _ found) in
          absurd (omega (arith, same, named (number_in is_place places (m, k)) (0, 0) less))
      | inr past ↦ past
    ]

-- ---- rows stay as keys are added

module _ {X : Type 0} (read : Row → X) (none : X) (rows : List Row) where
  pub read_grown : {Q K : Type 0} (is : Q → K → Bool) (old new : List K) → Grows is old new → length rows ≤ length old → (q : Q) → row_at read none rows (number_in is new q) ≡ row_at read none rows (number_in is old q)
  read_grown is old new grows few q =
      elim (grows q) [
        | inl same ↦ ap (λ (k : ℕ). row_at read none rows k) same
        | inr past ↦
            row_at-past read none rows (number_in is new q) (omega (arith, past.1)) ∙ sym (row_at-past read none rows (number_in is old q) (omega (arith, past.0)))
      ]

  pub read_renamed : (names new : List (String Global)) (places : List (ℕ × ℕ)) → Grows is_name names new → NamedBelow (length names) places → length rows ≤ length places → (m : ℕ) (n : List ℕ) → row_at read none rows (place_in new places m n) ≡ row_at read none rows (place_in names places m n)
  read_renamed names new places grows named few m n =
      elim (grows n) [
        | inl same ↦ ap (λ (k : ℕ). row_at read none rows (number_in is_place places (m, k))) same
        | inr past ↦
            let here : length places ≤ place_in new places m n = unnamed places (length names) m (number_in is_name new n) named past.1 in
            let there : length places ≤ place_in names places m n = unnamed places (length names) m (number_in is_name names n) named past.0 in
            row_at-past read none rows (place_in new places m n) (omega (arith, here)) ∙ sym (row_at-past read none rows (place_in names places m n) (omega (arith, there)))
      ]

  pub read_placed : (names new : List (String Global)) (places grown : List (ℕ × ℕ)) → Grows is_name names new → Grows is_place places grown → NamedBelow (length names) places → length rows ≤ length places → (m : ℕ) (n : List ℕ) → row_at read none rows (place_in new grown m n) ≡ row_at read none rows (place_in names places m n)
  read_placed names new places grown renamed replaced named few m n =
      read_grown is_place places grown replaced few (m, number_in is_name new n) ∙ read_renamed names new places renamed named few m n

-- ---- each key has a row of its own

shared_step : {K : Type 0} (p q : K → Bool) (x : K) (a b : Bool) (m n len : ℕ) → p x ≡ a → q x ≡ b → cond (not a) (1 + m) 0 ≡ cond (not b) (1 + n) 0 → cond (not a) (1 + m) 0 < len + 1 → (m ≡ n → m < len → (y : K) × (p y ≡ true) × (q y ≡ true)) → (y : K) × (p y ≡ true) × (q y ≡ true)
shared_step p q x true true m n len u v e less rest = (x, u, v)
shared_step p q x true false m n len u v e less rest = absurd (omega (arith, e))
shared_step p q x false true m n len u v e less rest = absurd (omega (arith, e))
shared_step p q x false false m n len u v e less rest = rest (omega (arith, e)) (omega (arith, less))

-- two that have one number are asked for at one key
pub shared : {Q K : Type 0} (is : Q → K → Bool) (ks : List K) (a b : Q) → number_in is ks a ≡ number_in is ks b → number_in is ks a < length ks → (y : K) × (is a y ≡ true) × (is b y ≡ true)
shared is [] a b e less = absurd (omega arith)
shared is (x ∷ ks) a b e less =
    shared_step (is a) (is b) x (is a x) (is b x) (number_in is ks a) (number_in is ks b) (length ks) refl refl e (omega (arith, less))
    (λ same inside. shared is ks a b same inside)

same_name : (a b : List ℕ) (text : String Global) → is_name a text ≡ true → is_name b text ≡ true → a ≡ b
same_name a b text p q = (bytes_eq-Decides a (string_bytes text)).0 p ∙ sym ((bytes_eq-Decides b (string_bytes text)).0 q)

pub same_key : (m o : ℕ) (n p : List ℕ) → m ≡ o → n ≡ p → ((m == o) && bytes_eq n p) ≡ true
same_key m o n p e f = both (m == o) (bytes_eq n p) (eq-eqb m o e) ((bytes_eq-Decides n p).1 f)

pub own_place : (names : List (String Global)) (places : List (ℕ × ℕ)) (m k r : ℕ) (n : List ℕ) → IsNumber is_place places (m, k) r → IsNumber is_name names n k → (o : ℕ) (p : List ℕ) → place_in names places o p ≡ r → ((m == o) && bytes_eq n p) ≡ true
own_place names places m k r n place name o p e =
    let l : ℕ = number_in is_name names p in
    let at : (y : ℕ × ℕ) × (is_place (m, k) y ≡ true) × (is_place (o, l) y ≡ true)
    = shared is_place places (m, k) (o, l) (sym place.number ∙ sym e) (omega (arith, place.number, place.within)) in
    let modules : m ≡ o = eqb-true m at.0.0 (and_left _ _ at.1) ∙ sym (eqb-true o at.0.0 (and_left _ _ at.2)) in
    let numbers : k ≡ l = eqb-true k at.0.1 (and_right (m == at.0.0) _ at.1) ∙ sym (eqb-true l at.0.1 (and_right (o == at.0.0) _ at.2)) in
    let text : (y : String Global) × (is_name n y ≡ true) × (is_name p y ≡ true)
    = shared is_name names n p (sym name.number ∙ numbers) (omega (arith, name.number, name.within)) in
    same_key m o n p modules (same_name n p text.0 text.1 text.2)

pub same_row : (names : List (String Global)) (places : List (ℕ × ℕ)) (m o : ℕ) (n p : List ℕ) → ((m == o) && bytes_eq n p) ≡ true → place_in names places o p ≡ place_in names places m n
same_row names places m o n p h =
    ap (λ (x : ℕ). place_in names places x p) (sym (eqb-true m o (and_left _ _ h)))
    ∙ ap (λ (x : List ℕ). place_in names places m x) (sym ((bytes_eq-Decides n p).0 (and_right (m == o) _ h)))

pub own_source : (sources : List ℕ) (f r : ℕ) → IsNumber is_source sources f r → (g : ℕ) → number_in is_source sources g ≡ r → (f == g) ≡ true
own_source sources f r source g e =
    let at : (y : ℕ) × (is_source f y ≡ true) × (is_source g y ≡ true)
    = shared is_source sources f g (sym source.number ∙ sym e) (omega (arith, source.number, source.within)) in
    eq-eqb f g (eqb-true f at.0 at.1 ∙ sym (eqb-true g at.0 at.2))

pub same_source : (sources : List ℕ) (f g : ℕ) → (f == g) ≡ true → number_in is_source sources g ≡ number_in is_source sources f
same_source sources f g h = ap (λ (x : ℕ). number_in is_source sources x) (sym (eqb-true f g h))

-- ---- what changes at one row, and only there

none_left : (a : Bool) → (a && false) ≡ false
none_left true = refl
none_left false = refl

pub gains_at : (r v : ℕ) (old new : ℕ → List ℕ) → Gains r v old new → (k : ℕ) (b : Bool) → (b ≡ true → k ≡ r) → (k ≡ r → b ≡ true) → (was : List ℕ) → old k ≡ was → (x : ℕ) → has (new k) x ≡ ((b && (v == x)) || has was x)
gains_at r v old new gains k true there back was e x =
    ap (λ (i : ℕ). has (new i) x) (there refl)
    ∙ gains.gained x
    ∙ ap (λ (l : List ℕ). (v == x) || has l x) (ap old (sym (there refl)) ∙ e)
gains_at r v old new gains k false there back was e x =
    ap (λ (l : List ℕ). has l x) (gains.others k (λ same. false≢true (back same)) ∙ e)

pub loses_at : (r v : ℕ) (old new : ℕ → List ℕ) → Loses r v old new → (k : ℕ) (b : Bool) → (b ≡ true → k ≡ r) → (k ≡ r → (b ≡ true) ⊎ (old r ≡ [])) → (x : ℕ) → has (new k) x ≡ (not (b && (v == x)) && has (old k) x)
loses_at r v old new loses k true there back x =
    ap (λ (i : ℕ). has (new i) x) (there refl) ∙ loses.lost x ∙ ap (λ (i : ℕ). not (v == x) && has (old i) x) (sym (there refl))
loses_at r v old new loses k false there back x =
    elim (cases_eq k r) [
      | inr other ↦ ap (λ (l : List ℕ). has l x) (loses.others k other)
      | inl here ↦
          elim (back here) [
            | inl no_case ↦ absurd (false≢true no_case)
            | inr empty ↦
                let gone : has (old k) x ≡ false = ap (λ (i : ℕ). has (old i) x) here ∙ ap (λ (l : List ℕ). has l x) empty in
                let lost : has (new k) x ≡ (not (v == x) && has (old k) x)
                = ap (λ (i : ℕ). has (new i) x) here ∙ loses.lost x ∙ ap (λ (i : ℕ). not (v == x) && has (old i) x) (sym here) in
                lost ∙ ap (λ (b : Bool). not (v == x) && b) gone ∙ none_left (not (v == x)) ∙ sym gone
          ]
    ]

-- a row that is found is that of the number asked for, or empty
pub source_or_none : (rows : List Row) (sources : List ℕ) (f r g : ℕ) → length rows ≤ length sources → r ≡ number_in is_source sources f → number_in is_source sources g ≡ r → ((f == g) ≡ true) ⊎ (present_at rows r ≡ [])
source_or_none rows sources f r g few number e =
    elim (cases_lt r (length sources)) [
      | inl less ↦ inl (own_source sources f r (record { number = number; within = less }) g e)
      | inr past ↦ inr (row_at-past present [] rows r (omega arith))
    ]

pub place_or_none : (rows : List Row) (names : List (String Global)) (places : List (ℕ × ℕ)) (m r : ℕ) (n : List ℕ) → length rows ≤ length places → NamedBelow (length names) places → r ≡ place_in names places m n → (o : ℕ) (p : List ℕ) → place_in names places o p ≡ r → (((m == o) && bytes_eq n p) ≡ true) ⊎ (present_at rows r ≡ [])
place_or_none rows names places m r n few named number o p e =
    elim (cases_lt r (length places)) [
      | inr past ↦ inr (row_at-past present [] rows r (omega arith))
      | inl less ↦
          elim (cases_lt (number_in is_name names n) (length names)) [
            | inl known ↦
                inl (own_place names places m (number_in is_name names n) r n (record { number = number; within = less }) (record { number = refl; within = known }) o p e)
            | inr new ↦ absurd (omega (arith, less, number, unnamed places (length names) m (number_in is_name names n) named new))
          ]
    ]

-- what holds holds after an error too
pub on_any_err : {T E P : Type 0} (r : Result T E) → P → OnErr r P
on_any_err (Ok x) p = tt
on_any_err (Err e) p = p

-- the row that a module and a name have
pub same_at : (names : List (String Global)) (places : List (ℕ × ℕ)) (m k r : ℕ) (n : List ℕ) → IsNumber is_place places (m, k) r → IsNumber is_name names n k → place_in names places m n ≡ r
same_at names places m k r n place name = ap (λ (x : ℕ). number_in is_place places (m, x)) (sym name.number) ∙ sym place.number
