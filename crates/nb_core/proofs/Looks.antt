-- What the looks of the core tell, by what the machine and the closer keep.
use Rattle.std.proofs.Common.{inl, inr, ℕ, zero, suc, ◌≡◌, ◌+◌, ◌<◌, ◌≤◌, sym, ◌∙◌, ap, subst, Bool, true, false, not, ◌&&◌, List, [], length, arith, option_map, slice_get, Option}
use Rattle.std.specs.List.{range_with_len}
use Rattle.std.proofs.lemmas.Bool.{cases_lt, false_from_ne_true}
use Rattle.std.proofs.lemmas.List.FromFn.{length-range_with_len, get_or-range_with_len}
use Rattle.std.proofs.lemmas.Option.{slice_get-get_or, slice_get_past}
use Rattle.nb_value.specs.declared.value.Value.{Value}
use Rattle.nb_value.specs.declared.pairs.Field.{Field}
use Rattle.nb_sheet.specs.Sheet.{Sheet}
use Rattle.nb_sheet.specs.Lists.{nth, numbers, from_option}
use Rattle.nb_history.specs.Needs.{is_used}
use Rattle.nb_history.specs.Reading.{Reading, Start, start_of}
use Rattle.nb_history.specs.Rules.{wanted}
use Rattle.nb_history.specs.History.{History, standing, IsClosedHistory}
use Rattle.nb_history.proofs.Closing.{range_has, wanted_has}
use Rattle.nb_history.proofs.Gains.{none_closed}
use Rattle.nb_history.proofs.RestHolds.{shows_at_rest}
use Rattle.nb_runs.specs.Starts.{start_in}
use Rattle.nb_closing.specs.Ties.{Ties, ties_of, all_ties}
use Rattle.nb_closing.proofs.StartSites.{nth_map}
use Rattle.nb_work.specs.Over.{IsOver}
use Rattle.nb_core.specs.Core.{ShownBy, RestsOnScratch}
use Rattle.nb_core.specs.declared.placed.Shown.{Shown}

-- ---- the parts that are looked at are those of what stands

module _ (h now : History) (view : h ≡ now) where
  pub same_starts : (xs : List (Option Start)) → xs ≡ (standing h).starts → (standing now).starts ≡ xs
  same_starts xs is = sym (is ∙ ap (λ (g : History). (standing g).starts) view)

  pub over : (s : Sheet) (xs : List (Option Start)) → s ≡ (standing h).sheet → xs ≡ (standing h).starts → IsOver (standing now) s xs
  over s xs sheet starts = record { sheet = sym (sheet ∙ ap (λ (g : History). (standing g).sheet) view); starts = same_starts xs starts }

  pub closed_now : IsClosedHistory h → IsClosedHistory now
  closed_now closed = subst IsClosedHistory view closed

  pub rests_now : IsClosedHistory h → RestsOnScratch now
  rests_now closed = subst RestsOnScratch view (λ rests v w. shows_at_rest h.builtins h.log closed.legal rests v w)

pub tied : (h : History) (s : Sheet) (ties own : List Ties) → s ≡ (standing h).sheet → ties ≡ own → own ≡ all_ties (standing h).sheet → ties ≡ all_ties s
tied h s ties own sheet is kept = is ∙ kept ∙ ap all_ties (sym sheet)

-- ---- who is used, by the ties

abbrev marked_used : Option Ties → Bool
marked_used o = from_option false (λ (t : Ties). t.is_used) o

-- a variable that isn't in the sheet is not used
not_used : (s : Sheet) (v : ℕ) → ((1 ≤ v) × (v < 1 + length s.rows) → ⊥) → is_used s v ≡ false
not_used s v outside =
    let r : Reading = record { sheet = s; starts = []; disposed = false; tickets = []; entries = 0; size = 0 } in
    false_from_ne_true (is_used s v) (λ h. outside (range_has 1 (length s.rows) v (wanted_has r v h)))

pub used_by_ties : (s : Sheet) (v : ℕ) → from_option false (λ (t : Ties). t.is_used) (nth (all_ties s) v) ≡ is_used s v
used_by_ties s zero = sym (not_used s zero (λ within. absurd (omega (arith, within.0))))
used_by_ties s (suc i) =
    let n : ℕ = length s.rows in
    let at : nth (all_ties s) (suc i) ≡ option_map (ties_of s) (slice_get (range_with_len 1 n) i) = nth_map (ties_of s) (numbers s.rows) (suc i) in
    let long : length (range_with_len 1 n) ≡ n = length-range_with_len 1 n in
    ap marked_used at ∙ elim (cases_lt i n) as (λ _. marked_used (option_map (ties_of s) (slice_get (range_with_len 1 n) i)) ≡ is_used s (suc i)) [
      | inl inside ↦
          let there = slice_get-get_or (range_with_len 1 n) i 0 (omega (arith, inside, long)) in
          let one : 1 + i ≡ suc i = omega arith in
          ap (λ (o : Option ℕ). marked_used (option_map (ties_of s) o)) there ∙ ap (is_used s) (get_or-range_with_len 1 n i 0 inside ∙ one)
      | inr outside ↦
          ap (λ (o : Option ℕ). marked_used (option_map (ties_of s) o)) (slice_get_past (range_with_len 1 n) i (omega (arith, outside, long)))
          ∙ sym (not_used s (suc i) (λ within. absurd (omega (arith, within.1, outside))))
    ]

-- whether v is wanted, by its ties
module _ (h now : History) (view : h ≡ now) (v : ℕ) (disposed : Bool) where
  pub not_wanted : disposed ≡ (standing h).disposed → disposed ≡ true → not disposed ≡ wanted (standing now) v
  not_wanted is gone =
      let here : (standing now).disposed ≡ true = ap (λ (g : History). (standing g).disposed) (sym view) ∙ sym is ∙ gone in
      ap (λ (b : Bool). not b) gone ∙ sym (ap (λ (b : Bool). not b && is_used (standing now).sheet v) here)

  pub wanted_from : (used : Bool) (ties own : List Ties) → disposed ≡ (standing h).disposed → used ≡ from_option false (λ (t : Ties). t.is_used) (nth ties v)
      → ties ≡ own → own ≡ all_ties (standing h).sheet → disposed ≡ false → used ≡ wanted (standing now) v
  wanted_from used ties own is uses are kept stays =
      let here : (standing now).disposed ≡ false = ap (λ (g : History). (standing g).disposed) (sym view) ∙ sym is ∙ stays in
      let sheet : (standing h).sheet ≡ (standing now).sheet = ap (λ (g : History). (standing g).sheet) view in
      uses ∙ ap (λ (l : List Ties). marked_used (nth l v)) (are ∙ kept) ∙ used_by_ties (standing h).sheet v ∙ ap (λ (s : Sheet). is_used s v) sheet
      ∙ sym (ap (λ (b : Bool). not b && is_used (standing now).sheet v) here)

-- ---- what a start shows

pub shown_now : (h now : History) → h ≡ now → (xs : List (Option Start)) → xs ≡ (standing h).starts → (v : ℕ) (o : Option Start) (s : Shown)
    → o ≡ start_in xs v → ShownBy o s → ShownBy (start_of (standing now) v) s
shown_now h now view xs is v o s at told = subst (λ (x : Option Start). ShownBy x s) (at ∙ ap (λ (l : List (Option Start)). start_in l v) (sym (same_starts h now view xs is))) told

-- ---- an empty log

pub new_core : (h : History) (builtins : List (Field Value)) (own : List Ties) → h ≡ record { builtins = builtins; log = [] } → own ≡ []
    → IsClosedHistory h × (own ≡ all_ties (standing h).sheet)
new_core h builtins own is none = (subst IsClosedHistory (sym is) (none_closed builtins), none ∙ sym (ap (λ (g : History). all_ties (standing g).sheet) is))
