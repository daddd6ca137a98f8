-- Values as JSON, piece by piece.
use Rattle.std.proofs.Common.{◌≡◌, ℕ, List, [], ◌∷◌, ◌++◌, Bool, true, false, refl, sym, ap, ◌∙◌, append_assoc, append-nil, Result, OnOk}
use Rattle.std.proofs.lemmas.Result.{on_ok_weaker}
use Rattle.std.specs.Prelude.{pos, decimal}
use Rattle.json.specs.Token as Token
use Rattle.json.specs.Print.{print, print_from, quoted}
use Rattle.serde_json.specs.Data as tree
use Rattle.serde_json.specs.Data.{Data}
use Rattle.serde_json.specs.Written.{compact_text, items_text, members_text}
use Rattle.nb_value.specs.declared.value.Value.{Value}
use Rattle.nb_value.specs.declared.value.Value.TheVariants as V
use Rattle.nb_value.specs.declared.value.Value.TheViews as values
use Rattle.nb_value.specs.declared.value.Value.TheOpen.{Value-F}
use Rattle.nb_value.specs.declared.value.Value.TheFolds.{fold-roll-Value}
use Rattle.nb_value.specs.declared.pairs.Field.{Field}
use Rattle.nb_value.specs.Json.{json_data, data_step, json_text, items_data, fields_data}
use Rattle.nb_value.proofs.JsonLaws.{json_data-List, json_data-Rec}
use Rattle.nb_log.specs.Printing.{number, line_text}
use Rattle.nb_log.specs.Pieces.{items_after, open_array, field_text, closed_fields, line_end}

pub text_json : (t : List ℕ) → json_text (V.Text t) ≡ quoted t
text_json t = ap compact_text (ap json_data (sym (values.rolls-Text t)) ∙ fold-roll-Value Data data_step (Value-F.Text t))

pub text_printed : (t : List ℕ) → print (Token.string t ∷ []) ≡ json_text (V.Text t)
unfolding print_from
text_printed t = append-nil (quoted t) ∙ sym (text_json t)

pub number_json : (n : ℕ) → json_text (number n) ≡ decimal n
number_json n = ap compact_text (ap json_data (sym (values.rolls-Int (pos n))) ∙ fold-roll-Value Data data_step (Value-F.Int (pos n)))

bool_json : (b : Bool) → json_text (V.Bool b) ≡ compact_text (tree.boolean b)
bool_json b = ap compact_text (ap json_data (sym (values.rolls-Bool b)) ∙ fold-roll-Value Data data_step (Value-F.Bool b))

pub true_json : json_text (V.Bool true) ≡ 116 ∷ 114 ∷ 117 ∷ 101 ∷ []
true_json = bool_json true

pub false_json : json_text (V.Bool false) ≡ 102 ∷ 97 ∷ 108 ∷ 115 ∷ 101 ∷ []
false_json = bool_json false

pub null_json : json_text V.Null ≡ 110 ∷ 117 ∷ 108 ∷ 108 ∷ []
null_json = ap compact_text (ap json_data (sym values.rolls-Null) ∙ fold-roll-Value Data data_step Value-F.Null)

pub empty_json : json_text (V.List []) ≡ 91 ∷ 93 ∷ []
empty_json = ap compact_text (json_data-List [])

items_closed : (vs : List Value) → items_text true (items_data vs) ≡ items_after vs ++ 93 ∷ []
items_closed [] = refl
items_closed (v ∷ vs) = ap (λ (rest : List ℕ). 44 ∷ (json_text v ++ rest)) (items_closed vs) ∙ ap (λ (rest : List ℕ). 44 ∷ rest) (sym (append_assoc (json_text v) (items_after vs) (93 ∷ [])))

pub list_json : (v : Value) (vs : List Value) → json_text (V.List (v ∷ vs)) ≡ 91 ∷ (json_text v ++ (items_after vs ++ 93 ∷ []))
list_json v vs = ap compact_text (json_data-List (v ∷ vs)) ∙ ap (λ (rest : List ℕ). 91 ∷ (json_text v ++ rest)) (items_closed vs)

-- an array on a line of its own
pub list_line : (v : Value) (vs : List Value) → line_text (V.List (v ∷ vs)) ≡ open_array v vs ++ line_end
list_line v vs =
    ap (λ (text : List ℕ). text ++ 10 ∷ []) (list_json v vs)
    ∙ ap (λ (rest : List ℕ). 91 ∷ rest) (append_assoc (json_text v) (items_after vs ++ 93 ∷ []) (10 ∷ []) ∙ ap (λ (rest : List ℕ). json_text v ++ rest) (append_assoc (items_after vs) (93 ∷ []) (10 ∷ [])) ∙ sym (append_assoc (json_text v) (items_after vs) line_end))

quoted_key : (k : List ℕ) (rest : List ℕ) → quoted k ++ rest ≡ json_text (V.Text k) ++ rest
quoted_key k rest = ap (λ (text : List ℕ). text ++ rest) (sym (text_json k))

one_field : (f : Field Value) (rest : List ℕ) → quoted f.name ++ 58 ∷ (json_text f.value ++ rest) ≡ field_text f ++ rest
one_field f rest = quoted_key f.name (58 ∷ (json_text f.value ++ rest)) ∙ sym (append_assoc (json_text (V.Text f.name)) (58 ∷ json_text f.value) rest)

fields_closed : (fs : List (Field Value)) → members_text true (fields_data fs) ≡ closed_fields fs
fields_closed [] = refl
fields_closed (f ∷ fs) =
    ap (λ (rest : List ℕ). 44 ∷ (quoted f.name ++ 58 ∷ (json_text f.value ++ rest))) (fields_closed fs)
    ∙ ap (λ (rest : List ℕ). 44 ∷ rest) (one_field f (closed_fields fs))

pub record_json : (f : Field Value) (fs : List (Field Value)) → json_text (V.Rec (f ∷ fs)) ≡ 123 ∷ (field_text f ++ closed_fields fs)
record_json f fs =
    ap compact_text (json_data-Rec (f ∷ fs))
    ∙ ap (λ (rest : List ℕ). 123 ∷ (quoted f.name ++ 58 ∷ (json_text f.value ++ rest))) (fields_closed fs)
    ∙ ap (λ (rest : List ℕ). 123 ∷ rest) (one_field f (closed_fields fs))

-- ---- the pieces of one line or object, each written behind the one before

joined : (s a b x y : List ℕ) → a ≡ s ++ x → b ≡ a ++ y → b ≡ s ++ (x ++ y)
joined s a b x y h k = k ∙ ap (λ (t : List ℕ). t ++ y) h ∙ append_assoc s x y

closed : {T E : Type 0} (r : Result T E) (s a b x y z : List ℕ) → x ++ y ≡ z → a ≡ s ++ x → OnOk r (b ≡ a ++ y) → OnOk r (b ≡ s ++ z)
closed r s a b x y z e h = on_ok_weaker r (λ (k : b ≡ a ++ y). joined s a b x y h k ∙ ap (λ (t : List ℕ). s ++ t) e)

flat_two : (x y e : List ℕ) → (x ++ y) ++ e ≡ x ++ (y ++ e)
flat_two x y e = append_assoc x y e

flat_three : (x y z e : List ℕ) → ((x ++ y) ++ z) ++ e ≡ x ++ (y ++ (z ++ e))
flat_three x y z e = append_assoc (x ++ y) z e ∙ append_assoc x y (z ++ e)

flat_four : (x y z w e : List ℕ) → (((x ++ y) ++ z) ++ w) ++ e ≡ x ++ (y ++ (z ++ (w ++ e)))
flat_four x y z w e = append_assoc ((x ++ y) ++ z) w e ∙ flat_three x y z (w ++ e)

flat_five : (x y z w v e : List ℕ) → ((((x ++ y) ++ z) ++ w) ++ v) ++ e ≡ x ++ (y ++ (z ++ (w ++ (v ++ e))))
flat_five x y z w v e = append_assoc (((x ++ y) ++ z) ++ w) v e ∙ flat_four x y z w (v ++ e)

pub line_of : {T E : Type 0} (r : Result T E) (s : List ℕ) (v n w : Value) (a b c : List ℕ) → a ≡ s ++ open_array v (n ∷ []) → b ≡ a ++ 44 ∷ json_text w
    → OnOk r (c ≡ b ++ 93 ∷ 10 ∷ []) → OnOk r (c ≡ s ++ line_text (V.List (v ∷ n ∷ w ∷ [])))
line_of r s v n w a b c h k =
    let more : open_array v (n ∷ []) ++ 44 ∷ json_text w ≡ open_array v (n ∷ w ∷ []) = grow v n w in
    closed r s b c _ _ _ (ap (λ (t : List ℕ). t ++ 93 ∷ 10 ∷ []) more ∙ sym (list_line v (n ∷ w ∷ []))) (joined s a b _ _ h k)
  where
    grow : (v n w : Value) → open_array v (n ∷ []) ++ 44 ∷ json_text w ≡ open_array v (n ∷ w ∷ [])
    grow v n w =
        ap (λ (t : List ℕ). 91 ∷ t) (
        append_assoc (json_text v) (44 ∷ (json_text n ++ [])) (44 ∷ json_text w)
        ∙ ap (λ (t : List ℕ). json_text v ++ 44 ∷ t) (ap (λ (t : List ℕ). t ++ 44 ∷ json_text w) (append-nil (json_text n)) ∙ ap (λ (t : List ℕ). json_text n ++ 44 ∷ t) (sym (append-nil (json_text w))))
        )

pub record_of_two : {T E : Type 0} (r : Result T E) (s : List ℕ) (f g : Field Value) (a b c : List ℕ) → a ≡ s ++ 123 ∷ field_text f → b ≡ a ++ 44 ∷ field_text g
    → OnOk r (c ≡ b ++ 125 ∷ []) → OnOk r (c ≡ s ++ json_text (V.Rec (f ∷ g ∷ [])))
record_of_two r s f g a b c h k =
    closed r s b c _ _ _ (flat_two (123 ∷ field_text f) (44 ∷ field_text g) (125 ∷ []) ∙ sym (record_json f (g ∷ [])))
    (joined s a b _ _ h k)

pub record_of_three : {T E : Type 0} (r : Result T E) (s : List ℕ) (f g i : Field Value) (a b c d : List ℕ) → a ≡ s ++ 123 ∷ field_text f → b ≡ a ++ 44 ∷ field_text g → c ≡ b ++ 44 ∷ field_text i
    → OnOk r (d ≡ c ++ 125 ∷ []) → OnOk r (d ≡ s ++ json_text (V.Rec (f ∷ g ∷ i ∷ [])))
record_of_three r s f g i a b c d h k l =
    closed r s c d _ _ _ (flat_three (123 ∷ field_text f) (44 ∷ field_text g) (44 ∷ field_text i) (125 ∷ []) ∙ sym (record_json f (g ∷ i ∷ [])))
    (joined s b c _ _ (joined s a b _ _ h k) l)

pub record_of_four : {T E : Type 0} (r : Result T E) (s : List ℕ) (f g i j : Field Value) (a b c d out : List ℕ) → a ≡ s ++ 123 ∷ field_text f → b ≡ a ++ 44 ∷ field_text g → c ≡ b ++ 44 ∷ field_text i → d ≡ c ++ 44 ∷ field_text j
    → OnOk r (out ≡ d ++ 125 ∷ []) → OnOk r (out ≡ s ++ json_text (V.Rec (f ∷ g ∷ i ∷ j ∷ [])))
record_of_four r s f g i j a b c d out h k l m =
    closed r s d out _ _ _ (flat_four (123 ∷ field_text f) (44 ∷ field_text g) (44 ∷ field_text i) (44 ∷ field_text j) (125 ∷ []) ∙ sym (record_json f (g ∷ i ∷ j ∷ [])))
    (joined s c d _ _ (joined s b c _ _ (joined s a b _ _ h k) l) m)

pub record_of_five : {T E : Type 0} (r : Result T E) (s : List ℕ) (f g i j n : Field Value) (a b c d o out : List ℕ) → a ≡ s ++ 123 ∷ field_text f → b ≡ a ++ 44 ∷ field_text g → c ≡ b ++ 44 ∷ field_text i → d ≡ c ++ 44 ∷ field_text j → o ≡ d ++ 44 ∷ field_text n
    → OnOk r (out ≡ o ++ 125 ∷ []) → OnOk r (out ≡ s ++ json_text (V.Rec (f ∷ g ∷ i ∷ j ∷ n ∷ [])))
record_of_five r s f g i j n a b c d o out h k l m p =
    closed r s o out _ _ _ (flat_five (123 ∷ field_text f) (44 ∷ field_text g) (44 ∷ field_text i) (44 ∷ field_text j) (44 ∷ field_text n) (125 ∷ []) ∙ sym (record_json f (g ∷ i ∷ j ∷ n ∷ [])))
    (joined s d o _ _ (joined s c d _ _ (joined s b c _ _ (joined s a b _ _ h k) l) m) p)

pub ruleset pieces = (text_printed, number_json, true_json, false_json, null_json, empty_json, list_json, append_assoc, append-nil)

pub ruleset lines = (list_line, append_assoc, append-nil)

pub ruleset records = (record_json, append_assoc, append-nil)
