-- Where every wanted variable shows what evaluating from scratch gives, the table is that of evaluating from scratch.
use Rattle.std.proofs.Common.{inl, inr, ℕ, ◌≡◌, refl, ap, true, Bool, List, [], ◌∷◌, map}
use Rattle.std.specs.List.{filter}
use Rattle.std.proofs.lemmas.Bool.{cases_Bool}
use Rattle.nb_value.specs.declared.value.Value.{Value}
use Rattle.nb_sheet.specs.Lists.{numbers}
use Rattle.nb_log.specs.Printing.{lines_text, table_value}
use Rattle.nb_history.specs.Reading.{Reading, shown}
use Rattle.nb_history.specs.Rules.{wanted, scratch}
use Rattle.nb_history.specs.History.{History, standing, IsClosedHistory}
use Rattle.nb_history.specs.Log.{NothingReady}
use Rattle.nb_history.specs.Print.{row_name, table_line, table_text}
use Rattle.nb_core.specs.Core.{RestsOnScratch}
use Rattle.nb_print.specs.Scratch.{scratch_line, scratch_table_text}

same_where : (p : ℕ → Bool) (f g : ℕ → Value) → ((v : ℕ) → p v ≡ true → f v ≡ g v) → (vs : List ℕ) → map f (filter p vs) ≡ map g (filter p vs)
same_where p f g same [] = refl
same_where p f g same (v ∷ vs) = elim (cases_Bool (p v)) [
  | inl holds ↦ rw holds (λ i. same v holds i ∷ same_where p f g same vs i)
  | inr fails ↦ rw fails (same_where p f g same vs)
]

pub rest_table : (h : History) → IsClosedHistory h → RestsOnScratch h → NothingReady (standing h) → table_text (standing h) ≡ scratch_table_text (standing h)
rest_table h closed shows none =
    let r : Reading = standing h in
    let same : (v : ℕ) → wanted r v ≡ true → shown r v ≡ scratch r v = shows (closed.quiet, none) in
    ap lines_text (same_where (wanted r) (table_line r) (scratch_line r) (λ v is_wanted. ap (table_value v (row_name r v)) (same v is_wanted)) (numbers r.sheet.rows))
