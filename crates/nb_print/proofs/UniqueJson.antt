-- Compact JSON is read in one way: what stands before a text that begins with no digit is of one value.
use Rattle.std.proofs.Common.{◌≡◌, ℕ, ◌<◌, Bool, true, false, cond, ◌==◌, ℤ, List, [], ◌∷◌, ◌++◌, map, refl, sym, ap, ◌∙◌, subst, append_assoc, arith, Some, inl, inr}
use Rattle.std.specs.Char.{digit_value}
use Rattle.std.specs.List.{list_all}
use Rattle.std.proofs.lemmas.Bool.{and_parts, ne_eqb, cases_eq}
use Rattle.std.proofs.lemmas.List.{append_cancel_left}
use Rattle.std.proofs.lemmas.Str.Parse.{digit_from_value}
use Rattle.std.specs.Int.{IsInRange}
use Rattle.json.specs.Text.{content, plain}
use Rattle.json.specs.Print.{quoted, escape}
use Rattle.json.proofs.Printed.Strings.{content-escape}
use Rattle.serde_json.specs.Data.{Data}
use Rattle.serde_json.specs.View.{items_of}
use Rattle.serde_json.specs.Written.{compact_text, items_text, members_text, comma_if}
use Rattle.nb_value.specs.declared.value.Value.{Value}
use Rattle.nb_value.specs.declared.value.Value.TheViews.{out-Value, roll-Value, roll-out-Value}
use Rattle.nb_value.specs.declared.value.Value.TheFolds.{fold-roll-Value, ind-Value, map-Value}
use Rattle.nb_value.specs.declared.value.Value.TheOpen.{Value-F}
use Rattle.nb_value.specs.declared.pairs.Field.{Field}
use Rattle.nb_value.specs.Value.{kind}
use Rattle.nb_value.specs.Json.{json_data, json_text, data_step, members_of}
use Rattle.nb_print.specs.Law.{has_short_numbers, short_step}
use Rattle.nb_print.proofs.Digits.{Stops, numbers_once, number_begins, number_not_empty, whole_text}

-- ---- texts

pub quoted_once : (a b s t : List ℕ) → quoted a ++ s ≡ quoted b ++ t → (a ≡ b) × (s ≡ t)
quoted_once a b s t h =
    let left : quoted a ++ s ≡ 34 ∷ (escape a ++ 34 ∷ s) = ap (λ l. 34 ∷ l) (append_assoc (escape a) (34 ∷ []) s) in
    let right : quoted b ++ t ≡ 34 ∷ (escape b ++ 34 ∷ t) = ap (λ l. 34 ∷ l) (append_assoc (escape b) (34 ∷ []) t) in
    let both : escape a ++ 34 ∷ s ≡ escape b ++ 34 ∷ t = cc in
    let read : Some a ≡ Some b = sym (content-escape a s) ∙ ap (content plain) both ∙ content-escape b t in
    let same : a ≡ b = cc in
    let ends : 34 ∷ s ≡ 34 ∷ t = append_cancel_left (escape b) (34 ∷ s) (34 ∷ t) (subst (λ (x : List ℕ). escape x ++ 34 ∷ s ≡ escape b ++ 34 ∷ t) same both) in
    (same, cc)

-- ---- one level

abbrev with_data : Field Value → Field Data
with_data f = record { name = f.name; value = json_data f.value }

-- the text of a value, by its level
abbrev level_text : Value-F Value → List ℕ
level_text x = compact_text (data_step (map-Value Value Data json_data x))

abbrev level_short : Value-F Value → Bool
level_short x = short_step (map-Value Value Bool has_short_numbers x)

text-roll : (x : Value-F Value) → json_text (roll-Value x) ≡ level_text x
text-roll x = ap compact_text (fold-roll-Value Data data_step x)

short-roll : (x : Value-F Value) → has_short_numbers (roll-Value x) ≡ level_short x
short-roll x = fold-roll-Value Bool short_step x

text-out : (w : Value) → json_text w ≡ level_text (out-Value w)
text-out w = ap json_text (sym (roll-out-Value w)) ∙ text-roll (out-Value w)

short-out : (w : Value) → has_short_numbers w ≡ level_short (out-Value w)
short-out w = ap has_short_numbers (sym (roll-out-Value w)) ∙ short-roll (out-Value w)

-- the items with what closes them, and the fields
abbrev items_left : Bool → List Value → List ℕ
items_left later vs = items_text later (items_of (map json_data vs))

abbrev fields_left : Bool → List (Field Value) → List ℕ
fields_left later fs = members_text later (members_of (map with_data fs))

-- ---- the first byte

first_bytes : (a b : ℕ) (s t : List ℕ) → a ∷ s ≡ b ∷ t → a ≡ b
first_bytes a b s t e = cc

-- the kind of a value whose text begins with this byte, and 6 for a byte that begins none
abbrev kind_at : ℕ → ℕ
kind_at b = cond (b == 110) 0 (cond (b == 116) 1 (cond (b == 102) 1 (cond (b == 34) 3 (cond (b == 91) 4 (cond (b == 123) 5 (cond (b == 93) 6 2))))))

digit_kind : (b : ℕ) → digit_value b < 10 → kind_at b ≡ 2
digit_kind b h =
    let range : IsInRange 48 57 b = digit_from_value b h in
    rw (
      ne_eqb b 110 (λ e. omega arith),
      ne_eqb b 116 (λ e. omega arith),
      ne_eqb b 102 (λ e. omega arith),
      ne_eqb b 34 (λ e. omega arith),
      ne_eqb b 91 (λ e. omega arith),
      ne_eqb b 123 (λ e. omega arith),
      ne_eqb b 93 (λ e. omega arith),
    )

number_kind : (z : ℤ) (s r : List ℕ) (b : ℕ) → level_short (Value-F.Int z) ≡ true → whole_text z ++ s ≡ b ∷ r → kind_at b ≡ 2
number_kind z s r b h e = elim (cases_eq b 45) [
  | inl minus ↦ ap kind_at minus
  | inr other ↦ digit_kind b (number_begins z s r b h e other)
]

kind_text : (x : Value-F Value) (s r : List ℕ) (b : ℕ) → level_short x ≡ true → level_text x ++ s ≡ b ∷ r → kind_at b ≡ kind x
kind_text Value-F.Null s r b h e = let is : b ≡ 110 = cc in ap kind_at is
kind_text (Value-F.Bool true) s r b h e = let is : b ≡ 116 = cc in ap kind_at is
kind_text (Value-F.Bool false) s r b h e = let is : b ≡ 102 = cc in ap kind_at is
kind_text (Value-F.Int z) s r b h e = number_kind z s r b h e
kind_text (Value-F.Text t) s r b h e = let is : b ≡ 34 = cc in ap kind_at is
kind_text (Value-F.List vs) s r b h e = let is : b ≡ 91 = cc in ap kind_at is
kind_text (Value-F.Rec fs) s r b h e = let is : b ≡ 123 = cc in ap kind_at is

-- no value begins with the end of a list
never_closed : (w : Value) (s r : List ℕ) → has_short_numbers w ≡ true → json_text w ++ s ≡ 93 ∷ r → ⊥
never_closed w s r h e = go (out-Value w) (kind_text (out-Value w) s r 93 (sym (short-out w) ∙ h) (ap (λ (l : List ℕ). l ++ s) (sym (text-out w)) ∙ e))
  where
    go : (x : Value-F Value) → 6 ≡ kind x → ⊥
    go Value-F.Null is = omega arith
    go (Value-F.Bool b) is = omega arith
    go (Value-F.Int z) is = omega arith
    go (Value-F.Text t) is = omega arith
    go (Value-F.List vs) is = omega arith
    go (Value-F.Rec fs) is = omega arith

-- ---- all levels

abbrev pub IsReadOnce : Value → Type 0
IsReadOnce v = (w : Value) (s t : List ℕ) → has_short_numbers v ≡ true → has_short_numbers w ≡ true → Stops s → Stops t → json_text v ++ s ≡ json_text w ++ t → (v ≡ w) × (s ≡ t)

-- a value inside, with what is known of it
abbrev Known : Type 0
Known = (v : Value) × IsReadOnce v

abbrev bare : List Known → List Value
bare ks = map (λ k. k.0) ks

abbrev all_short : List Value → Bool
all_short vs = list_all (λ b. b) (map has_short_numbers vs)

items_stop : (vs : List Value) (s : List ℕ) → Stops (items_left true vs ++ s)
items_stop [] s = λ h. omega arith
items_stop (v ∷ vs) s = λ h. omega arith

-- the text of a first item, and what stands behind it
first_item : (v : Value) (vs : List Value) (s : List ℕ) (later : Bool) → items_left later (v ∷ vs) ++ s ≡ comma_if later ++ (json_text v ++ (items_left true vs ++ s))
first_item v vs s later =
    append_assoc (comma_if later) (json_text v ++ items_left true vs) s ∙ ap (λ (l : List ℕ). comma_if later ++ l) (append_assoc (json_text v) (items_left true vs) s)

never_ends : (w : Value) (s r : List ℕ) (later : Bool) → has_short_numbers w ≡ true → 93 ∷ r ≡ comma_if later ++ (json_text w ++ s) → ⊥
never_ends w s r true h e = omega (arith, first_bytes 93 44 r (json_text w ++ s) e)
never_ends w s r false h e = never_closed w s r h (sym e)

items_once : (later : Bool) (ks : List Known) (ws : List Value) (s t : List ℕ) → all_short (bare ks) ≡ true → all_short ws ≡ true → items_left later (bare ks) ++ s ≡ items_left later ws ++ t → (bare ks ≡ ws) × (s ≡ t)
items_once later [] [] s t h i e = (refl, cc)
items_once later [] (w ∷ ws) s t h i e = absurd (never_ends w (items_left true ws ++ t) s later (and_parts _ _ i).0 (e ∙ first_item w ws t later))
items_once later (k ∷ ks) [] s t h i e = absurd (never_ends k.0 (items_left true (bare ks) ++ s) t later (and_parts _ _ h).0 (sym e ∙ first_item k.0 (bare ks) s later))
items_once later (k ∷ ks) (w ∷ ws) s t h i e =
    let mine = and_parts (has_short_numbers k.0) (all_short (bare ks)) h in
    let yours = and_parts (has_short_numbers w) (all_short ws) i in
    let both = append_cancel_left (comma_if later) (json_text k.0 ++ (items_left true (bare ks) ++ s)) (json_text w ++ (items_left true ws ++ t)) (sym (first_item k.0 (bare ks) s later) ∙ e ∙ first_item w ws t later) in
    let first = k.1 w (items_left true (bare ks) ++ s) (items_left true ws ++ t) mine.0 yours.0 (items_stop (bare ks) s) (items_stop ws t) both in
    let rest = items_once true ks ws s t mine.1 yours.1 first.1 in
    ((λ i. first.0 i ∷ rest.0 i), rest.1)

abbrev bare_field : Field Known → Field Value
bare_field f = record { name = f.name; value = f.value.0 }

abbrev with_short : Field Value → Field Bool
with_short f = record { name = f.name; value = has_short_numbers f.value }

abbrev fields_short : List (Field Value) → Bool
fields_short fs = list_all (λ f. f.value) (map with_short fs)

fields_stop : (fs : List (Field Value)) (s : List ℕ) → Stops (fields_left true fs ++ s)
fields_stop [] s = λ h. omega arith
fields_stop (f ∷ fs) s = λ h. omega arith

first_field : (f : Field Value) (fs : List (Field Value)) (s : List ℕ) (later : Bool) → fields_left later (f ∷ fs) ++ s ≡ comma_if later ++ (quoted f.name ++ 58 ∷ (json_text f.value ++ (fields_left true fs ++ s)))
first_field f fs s later =
    append_assoc (comma_if later) (quoted f.name ++ 58 ∷ (json_text f.value ++ fields_left true fs)) s
    ∙ ap (λ (l : List ℕ). comma_if later ++ l) (append_assoc (quoted f.name) (58 ∷ (json_text f.value ++ fields_left true fs)) s)
    ∙ ap (λ (l : List ℕ). comma_if later ++ (quoted f.name ++ 58 ∷ l)) (append_assoc (json_text f.value) (fields_left true fs) s)

-- a field begins with a comma or a quote, and the end of a record with neither
never_field : (name s r : List ℕ) (later : Bool) → 125 ∷ r ≡ comma_if later ++ (quoted name ++ s) → ⊥
never_field name s r true e = omega (arith, first_bytes 125 44 r (quoted name ++ s) e)
never_field name s r false e = omega (arith, first_bytes 125 34 r ((escape name ++ 34 ∷ []) ++ s) e)

fields_once : (later : Bool) (ks : List (Field Known)) (gs : List (Field Value)) (s t : List ℕ) → fields_short (map bare_field ks) ≡ true → fields_short gs ≡ true → fields_left later (map bare_field ks) ++ s ≡ fields_left later gs ++ t
    → (map bare_field ks ≡ gs) × (s ≡ t)
fields_once later [] [] s t h i e = (refl, cc)
fields_once later [] (g ∷ gs) s t h i e = absurd (never_field g.name (58 ∷ (json_text g.value ++ (fields_left true gs ++ t))) s later (e ∙ first_field g gs t later))
fields_once later (k ∷ ks) [] s t h i e = absurd (never_field k.name (58 ∷ (json_text k.value.0 ++ (fields_left true (map bare_field ks) ++ s))) t later (sym e ∙ first_field (bare_field k) (map bare_field ks) s later))
fields_once later (k ∷ ks) (g ∷ gs) s t h i e =
    let mine = and_parts (has_short_numbers k.value.0) (fields_short (map bare_field ks)) h in
    let yours = and_parts (has_short_numbers g.value) (fields_short gs) i in
    let my_rest : List ℕ = fields_left true (map bare_field ks) ++ s in
    let your_rest : List ℕ = fields_left true gs ++ t in
    let both = append_cancel_left (comma_if later) (quoted k.name ++ 58 ∷ (json_text k.value.0 ++ my_rest)) (quoted g.name ++ 58 ∷ (json_text g.value ++ your_rest))
    (sym (first_field (bare_field k) (map bare_field ks) s later) ∙ e ∙ first_field g gs t later) in
    let named = quoted_once k.name g.name (58 ∷ (json_text k.value.0 ++ my_rest)) (58 ∷ (json_text g.value ++ your_rest)) both in
    let first = k.value.1 g.value my_rest your_rest mine.0 yours.0 (fields_stop (map bare_field ks) s) (fields_stop gs t) (append_cancel_left (58 ∷ []) (json_text k.value.0 ++ my_rest) (json_text g.value ++ your_rest) named.1) in
    let rest = fields_once true ks gs s t mine.1 yours.1 first.1 in
    ((λ i. record { name = named.0 i; value = first.0 i } ∷ rest.0 i), rest.1)

-- ---- each kind against each

abbrev plain_level : Value-F Known → Value-F Value
plain_level = map-Value Known Value (λ k. k.0)

bools_once : (b c : Bool) (s t : List ℕ) → level_text (Value-F.Bool b) ++ s ≡ level_text (Value-F.Bool c) ++ t → (b ≡ c) × (s ≡ t)
bools_once true true s t e = (refl, cc)
bools_once false false s t e = (refl, cc)
bools_once true false s t e = absurd (omega (arith, first_bytes 116 102 (114 ∷ 117 ∷ 101 ∷ s) (97 ∷ 108 ∷ 115 ∷ 101 ∷ t) e))
bools_once false true s t e = absurd (omega (arith, first_bytes 102 116 (97 ∷ 108 ∷ 115 ∷ 101 ∷ s) (114 ∷ 117 ∷ 101 ∷ t) e))

same_kind : (x y : Value-F Value) (s t r : List ℕ) (b : ℕ) → level_short x ≡ true → level_short y ≡ true → level_text x ++ s ≡ b ∷ r → level_text y ++ t ≡ b ∷ r → kind x ≡ kind y
same_kind x y s t r b h i e f = sym (kind_text x s r b h e) ∙ kind_text y t r b i f

-- a value's text isn't empty
never_empty : (x : Value-F Value) (s : List ℕ) → level_short x ≡ true → level_text x ++ s ≡ [] → ⊥
never_empty Value-F.Null s h e = cc
never_empty (Value-F.Bool true) s h e = cc
never_empty (Value-F.Bool false) s h e = cc
never_empty (Value-F.Int z) s h e = number_not_empty z s h e
never_empty (Value-F.Text t) s h e = cc
never_empty (Value-F.List vs) s h e = cc
never_empty (Value-F.Rec fs) s h e = cc

kinds_agree : (x y : Value-F Value) (s t l : List ℕ) → level_short x ≡ true → level_short y ≡ true → level_text x ++ s ≡ l → level_text y ++ t ≡ l → kind x ≡ kind y
kinds_agree x y s t [] h i e f = absurd (never_empty x s h e)
kinds_agree x y s t (b ∷ r) h i e f = same_kind x y s t r b h i e f

levels_once : (y : Value-F Known) (u : Value-F Value) (s t : List ℕ) → level_short (plain_level y) ≡ true → level_short u ≡ true → Stops s → Stops t → kind (plain_level y) ≡ kind u → level_text (plain_level y) ++ s ≡ level_text u ++ t
    → (plain_level y ≡ u) × (s ≡ t)
levels_once Value-F.Null Value-F.Null s t h i p q k e = (refl, append_cancel_left (level_text Value-F.Null) s t e)
levels_once (Value-F.Bool b) (Value-F.Bool c) s t h i p q k e = let both = bools_once b c s t e in (ap Value-F.Bool both.0, both.1)
levels_once (Value-F.Int y) (Value-F.Int z) s t h i p q k e = let both = numbers_once y z s t h i p q e in (ap Value-F.Int both.0, both.1)
levels_once (Value-F.Text a) (Value-F.Text b) s t h i p q k e = let both = quoted_once a b s t e in (ap Value-F.Text both.0, both.1)
levels_once (Value-F.List ks) (Value-F.List ws) s t h i p q k e =
    let both = items_once false ks ws s t h i (append_cancel_left (91 ∷ []) (items_left false (bare ks) ++ s) (items_left false ws ++ t) e) in (ap Value-F.List both.0, both.1)
levels_once (Value-F.Rec ks) (Value-F.Rec gs) s t h i p q k e =
    let both = fields_once false ks gs s t h i (append_cancel_left (123 ∷ []) (fields_left false (map bare_field ks) ++ s) (fields_left false gs ++ t) e) in (ap Value-F.Rec both.0, both.1)
levels_once y u s t h i p q k e = absurd (omega arith)

once_roll : (x : Value-F Value) (y : Value-F Known) → plain_level y ≡ x → IsReadOnce (roll-Value x)
once_roll x y is w s t h i p q e =
    let u = out-Value w in
    let mine : level_short x ≡ true = sym (short-roll x) ∙ h in
    let yours : level_short u ≡ true = sym (short-out w) ∙ i in
    let texts : level_text x ++ s ≡ level_text u ++ t = ap (λ (l : List ℕ). l ++ s) (sym (text-roll x)) ∙ e ∙ ap (λ (l : List ℕ). l ++ t) (text-out w) in
    let both = subst (λ (z : Value-F Value). level_short z ≡ true → kind z ≡ kind u → level_text z ++ s ≡ level_text u ++ t → (z ≡ u) × (s ≡ t)) is
    (λ a k f. levels_once y u s t a yours p q k f) mine (kinds_agree x u s t (level_text u ++ t) mine yours texts refl) texts in
    (ap roll-Value both.0 ∙ roll-out-Value w, both.1)

-- Where the texts of two values stand before texts that begin with no digit, and all that is the same, the values are one.
pub json_once : (v : Value) → IsReadOnce v
json_once = ind-Value IsReadOnce once_roll

-- A value's text isn't empty.
pub json_some : (v : Value) (s : List ℕ) → has_short_numbers v ≡ true → json_text v ++ s ≡ [] → ⊥
json_some v s h e = never_empty (out-Value v) s (sym (short-out v) ∙ h) (ap (λ (l : List ℕ). l ++ s) (sym (text-out v)) ∙ e)
