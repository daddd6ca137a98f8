-- In any order that is legal, each entry between two lines takes some of what there is to do.
use Rattle.std.proofs.Common.{inl, inr, ℕ, ◌+◌, ◌*◌, ◌≡◌, ◌<◌, ◌≤◌, refl, sym, ap, subst, true, List, [], ◌∷◌, length, arith, mul-le-mul_right}
use Rattle.std.proofs.lemmas.Bool.{false≢true}
use Rattle.nb_value.specs.declared.pairs.Field.{Field}
use Rattle.nb_value.specs.declared.value.Value.{Value}
use Rattle.nb_value.specs.declared.outcome.Answer.{Answer}
use Rattle.nb_sheet.specs.Sheet.{Sheet}
use Rattle.nb_history.specs.Reading.{Reading}
use Rattle.nb_history.specs.Rules.{ready, next}
use Rattle.nb_history.specs.Log.{nothing_yet, after, reading, read_from, ticket_var, Fits, LegalFrom, IsLegal, IsQuiet}
use Rattle.nb_history.specs.Starts.{is_closing, AllClosing}
use Rattle.nb_history.specs.Serial.{Closes}
use Rattle.nb_history.specs.Work.{later_pulls, all_entries_left, open_count, to_do}
use Rattle.nb_history.specs.Ends.{IsBetween, AreBetween, AllUseUp, BetweenLinesEnds}
use Rattle.nb_log.specs.declared.entry.Entry.{Entry}
use Rattle.nb_log.specs.declared.entry.Entry.TheVariants.{Loaded, Pending, Fulfilled, Rejected, Asked, Ended, Left}
use Rattle.nb_history.proofs.Histories.{legal_front, legal_back, legal_keeps, closes_legal}
use Rattle.nb_history.proofs.Shapes.{Sound}
use Rattle.nb_history.proofs.Lawful.{Lawful, lawful_after, lawful_first, lawful_log}
use Rattle.nb_history.proofs.RunsEnd.{all_closing}
use Rattle.nb_history.proofs.Opens.{fewer_open, open_within}
use Rattle.nb_history.proofs.StartsAfter.{Runs}
use Rattle.nb_history.proofs.EachStart.{Each, IsTidy, tidy_kept, each_after, each_first, each_legal}
use Rattle.nb_history.proofs.NextEntry.{IsOutcome, next_outcome, next_fits, outcome_sheet, outcome_keeps, outcome_open, ready_runs}
use Rattle.nb_history.proofs.EntryKinds.{closing_is, outcome_is, of_variable_between}
use Rattle.nb_history.proofs.Working.{closing_pulls, closing_left, closing_sheet, fewer_left, pulls_stay, pull_ends}
use Rattle.nb_history.proofs.Tickets.{MayBeAnswered, answers_kept, Open, live_open, loaded_pulls, loaded_open, loaded_fewer}

-- ---- the measure, in numbers: of n variables, a and b later pulls, c and d open, x and y entries left, before and after

-- an entry that starts a variable or leaves one
a_close : (n a b c d x y : ℕ) → b ≤ a → d < c → y ≤ x + 129 → b * (1 + 130 * n) + (130 * d + y) < a * (1 + 130 * n) + (130 * c + x)
a_close n a b c d x y pulls fewer left = omega (arith, mul-le-mul_right (1 + 130 * n) pulls, fewer, left)

-- one that opens nothing
a_quiet : (n a b c d x y : ℕ) → b ≤ a → d ≤ c → y < x → b * (1 + 130 * n) + (130 * d + y) < a * (1 + 130 * n) + (130 * c + x)
a_quiet n a b c d x y pulls opens left = omega (arith, mul-le-mul_right (1 + 130 * n) pulls, opens, left)

-- the outcome of a later pull
a_pull : (n a b c d x y : ℕ) → b < a → d ≤ n → y < x → b * (1 + 130 * n) + (130 * d + y) < a * (1 + 130 * n) + (130 * c + x)
a_pull n a b c d x y pulls most left =
    let more : (1 + b) * (1 + 130 * n) ≤ a * (1 + 130 * n) = mul-le-mul_right (1 + 130 * n) (omega (arith, pulls)) in
    omega (arith, more, most, left)

-- ---- each entry

to_do_over : (r q : Reading) → q.sheet ≡ r.sheet → to_do q ≡ later_pulls q * (1 + 130 * length r.sheet.rows) + (130 * open_count q + all_entries_left q)
to_do_over r q same = ap (λ (s : Sheet). later_pulls q * (1 + 130 * length s.rows) + (130 * open_count q + all_entries_left q)) same

of_closing : (r : Reading) (e : Entry) → Sound r → is_closing e ≡ true → Fits r e → to_do (after r e) < to_do r
of_closing r e sound is fits =
    let q = after r e in
    subst (λ (m : ℕ). m < to_do r) (sym (to_do_over r q (closing_sheet r e is)))
    (a_close (length r.sheet.rows) (later_pulls r) (later_pulls q) (open_count r) (open_count q) (all_entries_left r) (all_entries_left q)
    (closing_pulls r e is) (fewer_open r e sound is fits) (closing_left r e is))

of_outcome : (r : Reading) (v : ℕ) (e : Entry) → Each IsTidy r → IsOutcome v e → Runs r v → to_do (after r e) < to_do r
of_outcome r v e tidy is runs =
    let q = after r e in
    let n = length r.sheet.rows in
    let left : all_entries_left q < all_entries_left r = fewer_left r v e runs.start is runs.there runs.running in
    subst (λ (m : ℕ). m < to_do r) (sym (to_do_over r q (outcome_sheet r v e is)))
    (elim (outcome_keeps r v e runs.start is).renews [
      | inl renewed ↦ a_quiet n (later_pulls r) (later_pulls q) (open_count r) (open_count q) (all_entries_left r) (all_entries_left q)
          (pulls_stay r v e runs.start is runs.there runs.running)
          (outcome_open r v e runs.start is runs.there renewed) left
      | inr later ↦ a_pull n (later_pulls r) (later_pulls q) (open_count r) (open_count q) (all_entries_left r) (all_entries_left q)
          (pull_ends r v e runs.start is runs.there runs.running (tidy v runs.start runs.there runs.running) later.0 later.1)
          (subst (λ (x : Sheet). open_count (after r e) ≤ length x.rows) (outcome_sheet r v e is) (open_within (after r e))) left
    ])

of_loaded : (r : Reading) (t : ℕ) (a : Answer) → Each IsTidy r → Each MayBeAnswered r → Fits r (Loaded t a) → to_do (after r (Loaded t a)) < to_do r
of_loaded r t a tidy may fits =
    let q = after r (Loaded t a) in
    let o : Open r t = live_open r t fits.1 in
    a_quiet (length r.sheet.rows) (later_pulls r) (later_pulls q) (open_count r) (open_count q) (all_entries_left r) (all_entries_left q)
    (loaded_pulls r t a o) (loaded_open r t a o)
    (loaded_fewer r t a o (tidy (ticket_var r t) o.start o.there) (may (ticket_var r t) o.start o.there))

-- what the work needs of a reading
pub record Fit (r : Reading) : Type 0 where
  pub law : Lawful r
  pub tidy : Each IsTidy r
  pub answers : Each MayBeAnswered r

pub fit_after : (r : Reading) (e : Entry) → Fit r → Fits r e → Fit (after r e)
fit_after r e h fits = record {
  law = lawful_after r e h.law fits;
  tidy = each_after IsTidy tidy_kept r e h.tidy fits;
  answers = each_after MayBeAnswered answers_kept r e h.answers fits;
}

pub fit_from : (r : Reading) (es : List Entry) → Fit r → LegalFrom r es → Fit (read_from r es)
fit_from r es h legal = legal_keeps Fit fit_after r es h legal

pub fit_first : (builtins : List (Field Value)) → Fit (nothing_yet builtins)
fit_first builtins = record {
  law = lawful_first builtins;
  tidy = each_first IsTidy tidy_kept builtins;
  answers = each_first MayBeAnswered answers_kept builtins;
}

pub fit_log : (builtins : List (Field Value)) (log : List Entry) → IsLegal builtins log → Fit (reading builtins log)
fit_log builtins log legal = record {
  law = lawful_log builtins log legal;
  tidy = each_legal IsTidy tidy_kept builtins log legal;
  answers = each_legal MayBeAnswered answers_kept builtins log legal;
}

pub uses_up : (r : Reading) (e : Entry) → Fit r → Fits r e → IsBetween e → to_do (after r e) < to_do r
uses_up r (Left v d) h fits is = of_closing r (Left v d) h.law.sound refl fits
uses_up r (Pending v d) h fits is = of_closing r (Pending v d) h.law.sound refl fits
uses_up r (Fulfilled v x) h fits is = of_outcome r v (Fulfilled v x) h.tidy refl (ready_runs r v fits.1)
uses_up r (Rejected v e) h fits is = of_outcome r v (Rejected v e) h.tidy refl (ready_runs r v fits.1)
uses_up r (Asked v t key) h fits is = of_outcome r v (Asked v t key) h.tidy refl (ready_runs r v fits.1)
uses_up r (Ended v) h fits is = of_outcome r v (Ended v) h.tidy refl (ready_runs r v fits.1)
uses_up r (Loaded t a) h fits is = of_loaded r t a h.tidy h.answers fits
uses_up r e h fits is = absurd (false≢true is)

pub all_use_up : AllUseUp
all_use_up builtins log e legal fits is = uses_up (reading builtins log) e (fit_log builtins log legal) fits is

-- ---- so a run of such entries ends

pub run_ends : (r : Reading) (es : List Entry) → Fit r → LegalFrom r es → AreBetween es → length es ≤ to_do r
run_ends r [] h legal are = omega arith
run_ends r (e ∷ es) h legal are =
    omega (arith, run_ends (after r e) es (fit_after r e h legal.0) legal.1 are.1, uses_up r e h legal.0 are.0)

-- the next entry of a ready variable, with the `left` and `pending` entries that follow it, leaves less to do
pub run_less : (r : Reading) (es : List Entry) → Fit r → AllClosing es → LegalFrom r es → to_do (read_from r es) ≤ to_do r
run_less r [] h all legal = omega arith
run_less r (e ∷ es) h all legal =
    let here : to_do (after r e) < to_do r = uses_up r e h legal.0 (of_variable_between e (closing_is e all.0)) in
    omega (arith, here, run_less (after r e) es (fit_after r e h legal.0) all.1 legal.1)

pub next_less : (r : Reading) (v : ℕ) → Fit r → IsQuiet r → ready r v ≡ true → (es : List Entry) → Closes (after r (next r v)) es → to_do (read_from (after r (next r v)) es) < to_do r
next_less r v h quiet ready_v es closes =
    let q : Reading = after r (next r v) in
    let fits : Fits r (next r v) = next_fits r v quiet ready_v in
    let here : to_do q < to_do r = uses_up r (next r v) h fits (of_variable_between (next r v) (outcome_is v (next r v) (next_outcome r v))) in
    omega (arith, here, run_less q es (fit_after r (next r v) h fits) (all_closing q es closes) (closes_legal q es closes))

pub between_lines_ends : BetweenLinesEnds
between_lines_ends builtins log es legal are =
    let r = nothing_yet builtins in
    run_ends (reading builtins log) es (fit_log builtins log (legal_front r log es legal)) (legal_back r log es legal) are
