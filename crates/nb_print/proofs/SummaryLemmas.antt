-- The lines of the table of a kind, one variable after the other, and the line that tells how many there are.
use Rattle.std.proofs.Common.{inl, inr, ℕ, suc, ◌≡◌, ◌+◌, ◌-◌, ◌<◌, refl, sym, ◌∙◌, ap, List, [], ◌∷◌, ◌++◌, append_assoc, length, arith, Result, OnOk}
use Rattle.std.specs.Prelude.{codes, decimal}
use Rattle.std.specs.List.{filter, range_with_len}
use Rattle.std.proofs.lemmas.Bool.{cases_Bool}
use Rattle.std.proofs.lemmas.Result.{on_ok_weaker}
use Rattle.json.specs.Print.{escape_byte}
use Rattle.nb_value.specs.Json.{json_text}
use Rattle.nb_value.specs.declared.value.Value.{Value}
use Rattle.nb_value.specs.declared.value.Value.TheVariants as V
use Rattle.nb_log.specs.Printing.{number, line_text}
use Rattle.nb_log.specs.Pieces.{items_after, line_end}
use Rattle.nb_log.proofs.PieceLemmas.{list_line, number_json, text_json}
use Rattle.nb_history.specs.Reading.{Reading, shown}
use Rattle.nb_history.specs.Rules.{wanted}
use Rattle.nb_print.specs.declared.summary.Kind.{Kind}
use Rattle.nb_print.specs.declared.summary.Kind.TheVariants.{Fulfilled, Rejected, Waiting}
use Rattle.nb_print.specs.declared.summary.Making.{Making}
use Rattle.nb_history.specs.History.{History, standing}
use Rattle.nb_print.specs.Summary.{is_of, lines_for, lines_of_kind, made_value, numbers_text}

-- how many lines of the kind the table has for n variables from the v-th on
abbrev pub lines_from : Kind → Reading → ℕ → ℕ → ℕ
lines_from kind r v n = length (filter (λ u. is_of kind (shown r u)) (filter (wanted r) (range_with_len v n)))

first_line : (kind : Kind) (r : Reading) (v n : ℕ) → lines_from kind r v (suc n) ≡ lines_for kind r v + lines_from kind r (v + 1) n
first_line kind r v n = elim (cases_Bool (wanted r v)) [
  | inl yes_wanted ↦ elim (cases_Bool (is_of kind (shown r v))) [
    | inl is ↦ rw yes_wanted (rw is (omega arith))
    | inr not ↦ rw yes_wanted (rw not (omega arith))
  ]
  | inr not_wanted ↦ rw not_wanted (omega arith)
]

-- one more variable
pub one_more : (kind : Kind) (r : Reading) (i n count all here : ℕ) → i < n → count + lines_from kind r (i + 1) (n - i) ≡ all → here ≡ lines_for kind r (i + 1)
    → (count + here) + lines_from kind r (i + 1 + 1) (n - (i + 1)) ≡ all
one_more kind r i n count all here h inv is =
    let left : n - i ≡ suc (n - (i + 1)) = omega arith in
    let step : lines_from kind r (i + 1) (n - i) ≡ lines_for kind r (i + 1) + lines_from kind r (i + 1 + 1) (n - (i + 1)) =
    ap (lines_from kind r (i + 1)) left ∙ first_line kind r (i + 1) (n - (i + 1)) in
    omega (arith, inv, is, step)

-- ---- the line

-- the name in quotes
made_quoted : json_text (V.Text (codes "made")) ≡ codes "\"made\""
unfolding escape_byte
made_quoted = text_json (codes "made")

abbrev numbers_of : List ℕ → List Value
numbers_of [] = []
numbers_of (n ∷ ns) = number n ∷ numbers_of ns

numbers_after : (ns : List ℕ) → items_after (numbers_of ns) ≡ numbers_text ns
numbers_after [] = refl
numbers_after (n ∷ ns) =
    ap (λ (rest : List ℕ). 44 ∷ rest) (ap (λ (t : List ℕ). t ++ items_after (numbers_of ns)) (number_json n) ∙ ap (λ (t : List ℕ). decimal n ++ t) (numbers_after ns))

made_line : (ns : List ℕ) → line_text (V.List (V.Text (codes "made") ∷ numbers_of ns)) ≡ codes "[\"made\"" ++ (numbers_text ns ++ line_end)
made_line ns =
    list_line (V.Text (codes "made")) (numbers_of ns)
    ∙ ap (λ (rest : List ℕ). 91 ∷ rest) (append_assoc (json_text (V.Text (codes "made"))) (items_after (numbers_of ns)) line_end
    ∙ ap (λ (t : List ℕ). t ++ (items_after (numbers_of ns) ++ line_end)) made_quoted
    ∙ ap (λ (t : List ℕ). codes "\"made\"" ++ (t ++ line_end)) (numbers_after ns))

-- the three parts of the line, each written behind the one before
pub written : {T E : Type 0} (r : Result T E) (s : List ℕ) (making : Making) (h : History) (n f j w : ℕ) (x y z : List ℕ)
    → n ≡ length h.log → f ≡ lines_of_kind Fulfilled (standing h) → j ≡ lines_of_kind Rejected (standing h) → w ≡ lines_of_kind Waiting (standing h)
    → x ≡ s ++ codes "[\"made\"" → y ≡ x ++ numbers_text (making.cells ∷ making.seed ∷ making.lines ∷ n ∷ f ∷ j ∷ w ∷ [])
    → OnOk r (z ≡ y ++ 93 ∷ 10 ∷ []) → OnOk r (z ≡ s ++ line_text (made_value making h))
written r s making h n f j w x y z is_n is_f is_j is_w first second = on_ok_weaker r (λ (third : z ≡ y ++ line_end).
    let ns : List ℕ = making.cells ∷ making.seed ∷ making.lines ∷ n ∷ f ∷ j ∷ w ∷ [] in
    let all : List ℕ = making.cells ∷ making.seed ∷ making.lines ∷ length h.log ∷ lines_of_kind Fulfilled (standing h) ∷ lines_of_kind Rejected (standing h) ∷ lines_of_kind Waiting (standing h) ∷ [] in
    let are : ns ≡ all = λ i. making.cells ∷ making.seed ∷ making.lines ∷ is_n i ∷ is_f i ∷ is_j i ∷ is_w i ∷ [] in
    third ∙ ap (λ (t : List ℕ). t ++ line_end) (second ∙ ap (λ (t : List ℕ). t ++ numbers_text ns) first)
    ∙ append_assoc (s ++ codes "[\"made\"") (numbers_text ns) line_end
    ∙ append_assoc s (codes "[\"made\"") (numbers_text ns ++ line_end)
    ∙ ap (λ (t : List ℕ). s ++ t) (sym (made_line ns) ∙ ap (λ (l : List ℕ). line_text (V.List (V.Text (codes "made") ∷ numbers_of l))) are))
