-- The table, one variable after the other.
use Rattle.std.proofs.Common.{inl, inr, ℕ, suc, ◌≡◌, ◌+◌, ◌-◌, ◌<◌, refl, sym, ◌∙◌, ap, List, ◌++◌, append_assoc, arith}
use Rattle.std.proofs.lemmas.Bool.{cases_Bool}
use Rattle.nb_history.specs.Reading.{Reading}
use Rattle.nb_history.specs.Rules.{wanted}
use Rattle.nb_print.specs.Table.{var_text, lines_from}

first_line : (r : Reading) (v n : ℕ) → lines_from r v (suc n) ≡ var_text r v ++ lines_from r (v + 1) n
first_line r v n = elim (cases_Bool (wanted r v)) [
  | inl yes_wanted ↦ rw yes_wanted refl
  | inr not_wanted ↦ rw not_wanted refl
]

-- one more variable
pub one_more : (r : Reading) (i n : ℕ) (done text out : List ℕ) → i < n → done ++ lines_from r (i + 1) (n - i) ≡ text → out ≡ done ++ var_text r (i + 1) → out ++ lines_from r (i + 1 + 1) (n - (i + 1)) ≡ text
one_more r i n done text out h inv is =
    let left : n - i ≡ suc (n - (i + 1)) = omega arith in
    ap (λ (o : List ℕ). o ++ lines_from r (i + 1 + 1) (n - (i + 1))) is
    ∙ append_assoc done (var_text r (i + 1)) (lines_from r (i + 1 + 1) (n - (i + 1)))
    ∙ ap (λ (l : List ℕ). done ++ l) (sym (first_line r (i + 1) (n - (i + 1))))
    ∙ ap (λ (k : ℕ). done ++ lines_from r (i + 1) k) (sym left)
    ∙ inv
