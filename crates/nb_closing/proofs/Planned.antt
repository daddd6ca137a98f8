-- The steps of a wave that is told of the touched variables of a reading are the steps by which its log closes.
use Rattle.std.proofs.Common.{ℕ, ◌+◌, ◌≡◌, refl, sym, ◌∙◌, ap, subst, Bool, true, false, List, [], ◌∷◌, map, Option, Some, None}
use Rattle.std.proofs.lemmas.Bool.{false≢true}
use Rattle.nb_graph.specs.Needs.{has}
use Rattle.nb_sheet.specs.Lists.{numbers}
use Rattle.nb_sheet.specs.Sheet.{Sheet}
use Rattle.nb_wave.specs.declared.footing.Footing.{Footing as Numbered}
use Rattle.nb_wave.specs.declared.row.Row.{Row}
use Rattle.nb_wave.specs.declared.step.Step.{Step as WaveStep}
use Rattle.nb_wave.specs.declared.step.Step.TheVariants.{Left, Pending}
use Rattle.nb_wave.specs.Rules.{from_option, least}
use Rattle.nb_wave.specs.Rules as by
use Rattle.nb_wave.specs.Steps.{ended, begun, stepped, next_step, Runs}
use Rattle.nb_wave.specs.Wave.{unput}
use Rattle.nb_log.specs.declared.entry.Entry.TheVariants.{Left as LeftEntry, Pending as PendingEntry}
use Rattle.nb_history.specs.Lists.{first_where}
use Rattle.nb_history.specs.Reading.{Reading, Start, owed}
use Rattle.nb_history.specs.Rules.{leaving, may_start}
use Rattle.nb_history.specs.Log.{after}
use Rattle.nb_history.specs.Serial.{least_var}
use Rattle.nb_history.proofs.Closing.{first_some, closing_left, closing_pending, closing_none}
use Rattle.nb_runs.specs.Footings.{footing_of, IsMarked}
use Rattle.nb_closing.specs.declared.site.Moment.{Moment}
use Rattle.nb_closing.specs.Plan.{Plans}
use Rattle.nb_closing.specs.Quiet.{loud_vars}
use Rattle.nb_closing.specs.Sites.{IsScene}
use Rattle.nb_closing.specs.Told.{resting_in, step_in}
use Rattle.nb_closing.proofs.Quiets.{quiet_of, quiet_there, leaving_quiet, starting_quiet}
use Rattle.nb_closing.proofs.ToldRows.{Told, least_leaving, least_starting, leaving_touched, starting_touched, present_told}
use Rattle.nb_closing.proofs.ToldAfter.{told_left, told_pending}
use Rattle.nb_closing.proofs.StartsKept.{left_parts, pending_parts, none_parts, StartsAt, starts_at, Once, once_later}

resting_is : (rows new : List Row) (v : ℕ) (a : StartsAt rows new v) → resting_in new v ≡ Row.present a.row
resting_is rows new v a = ap (from_option (Row.present unput) (λ (k : Numbered). k)) a.kept

pub plans_from : (touched : ℕ → Bool) (steps : List WaveStep) (r : Reading) (rows new : List Row) (place : ℕ) → Told touched r rows → place ≡ r.entries + 1 → Runs rows place steps new → next_step new ≡ None
    → Once steps → Plans r (map (step_in new) steps)
plans_from touched [] r rows new place told at runs ends once =
    let t : (least by.leaving rows ≡ None) × (least by.may_start rows ≡ None) = none_parts (least by.leaving rows) (least by.may_start rows) (ap next_step runs ∙ ends) in
    closing_none r (sym (least_leaving touched r rows told) ∙ t.0) (sym (least_starting touched r rows told) ∙ t.1)
plans_from touched (Left v ∷ steps) r rows new place told at runs ends once =
    let l : least_var r (leaving r) ≡ Some v = sym (least_leaving touched r rows told) ∙ left_parts (least by.leaving rows) (least by.may_start rows) v runs.0 in
    let here : touched v ≡ true = leaving_touched touched r rows told v (first_some (leaving r) (numbers r.sheet.rows) v l).0 in
    let d = owed r v in (
      closing_left r v l,
      tt,
      plans_from touched steps (after r (LeftEntry v d)) (stepped ended v 0 rows) new (place + 1) (told_left touched r rows told v d here) (ap (λ (n : ℕ). n + 1) at) runs.1 ends (once_later (Left v) steps once),
    )
plans_from touched (Pending v ∷ steps) r rows new place told at runs ends once =
    let t : (least by.leaving rows ≡ None) × (least by.may_start rows ≡ Some v) = pending_parts (least by.leaving rows) (least by.may_start rows) v runs.0 in
    let none : least_var r (leaving r) ≡ None = sym (least_leaving touched r rows told) ∙ t.0 in
    let l : least_var r (may_start r) ≡ Some v = sym (least_starting touched r rows told) ∙ t.1 in
    let here : touched v ≡ true = starting_touched touched r rows told v (first_some (may_start r) (numbers r.sheet.rows) v l).0 in
    let a : StartsAt rows new v = starts_at steps rows new place v runs once in
    let e : resting_in new v ≡ Row.present a.row = resting_is rows new v a in
    let d = owed r v in (
      closing_pending r v none l,
      (
        ap footing_of e ∙ present_told r v a.row (told.each v a.row here a.at),
        subst IsMarked (sym e) (told.each v a.row here a.at).marked,
      ),
      plans_from touched steps (after r (PendingEntry v d)) (stepped begun v place rows) new (place + 1) (told_pending touched r rows told v d here place at) (ap (λ (n : ℕ). n + 1) at) runs.1 ends
          (once_later (Pending v) steps once),
    )

-- ---- where nothing is loud

none_where : (test : ℕ → Bool) (xs : List ℕ) → ((v : ℕ) → test v ≡ false) → first_where test xs ≡ None
none_where test [] none = refl
none_where test (x ∷ xs) none = let here : test x ≡ false = none x in rw here (none_where test xs none)

pub plans_none : (r : Reading) (s : Sheet) (xs : List (Option Start)) (m : Moment) → IsScene r s xs m → loud_vars s xs m ≡ [] → Plans r []
plans_none r s xs m scene none =
    let quiet : (v : ℕ) → quiet_of r v ≡ true = λ v. quiet_there r s xs m scene v (λ h. false≢true (ap (λ (l : List ℕ). has l v) (sym none) ∙ h)) in
    closing_none r
    (none_where (leaving r) (numbers r.sheet.rows) (λ v. leaving_quiet r v (quiet v)))
    (none_where (may_start r) (numbers r.sheet.rows) (λ v. starting_quiet r v (quiet v)))
