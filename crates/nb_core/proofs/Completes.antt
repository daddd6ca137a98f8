-- A ready variable's next entry, and what closes after it: the history stays closed, and less is to be done.
use Rattle.std.proofs.Common.{ℕ, ◌≡◌, ◌<◌, ◌≤◌, sym, ◌∙◌, ap, subst, true, List, [], ◌∷◌, Option}
use Rattle.std.proofs.lemmas.Bool.{eq-eqb}
use Rattle.nb_sheet.specs.Lists.{from_option}
use Rattle.nb_log.specs.declared.entry.Entry.{Entry}
use Rattle.nb_log.specs.declared.entry.Entry.TheVariants.{Fulfilled, Rejected, Asked, Ended}
use Rattle.nb_history.specs.Reading.{Reading, Start}
use Rattle.nb_history.specs.Rules.{ready, next, pulls_of}
use Rattle.nb_history.specs.Log.{after}
use Rattle.nb_history.specs.Starts.{is_notice_of}
use Rattle.nb_history.specs.Work.{to_do}
use Rattle.nb_history.specs.History.{History, standing, plus, plus_all, IsClosedHistory}
use Rattle.nb_history.proofs.Gains.{nothing_closes, gains_all, next_closed, used_up}
use Rattle.nb_history.proofs.NextEntry.{IsOutcome, next_outcome, outcome_sheet}
use Rattle.nb_history.proofs.QuietEntries.{first_pulls_stay_quiet}
use Rattle.nb_runs.specs.Starts.{start_in}
use Rattle.nb_closing.specs.declared.step.Step.{Step}
use Rattle.nb_closing.specs.Plan.{Plans, planned}
use Rattle.nb_closing.specs.Ties.{Ties, all_ties}
use Rattle.nb_eval.specs.declared.work.WorkDone.{WorkDone}
use Rattle.nb_core.specs.Core.{Gains, IsPresent, Places}
use Rattle.nb_core.specs.declared.placed.Placed.{Placed}
use Rattle.nb_core.specs.declared.placed.Placed.TheVariants.{Shown, Stale}
use Rattle.nb_core.proofs.Plans.{plan_then, gains_plan, sheet_then}

-- what was gained, at the log's end
pub gains_more : (old new : History) (e : Entry) (g : Gains old e new) → new ≡ plus_all old (e ∷ g.es)
gains_more old new e g = gains_all old new (e ∷ g.es) g.builtins g.longer

module _ (old new : History) (v : ℕ) (closed : IsClosedHistory old) (is_ready : ready (standing old) v ≡ true) (g : Gains old (next (standing old) v) new) where
  pub stays_closed : IsClosedHistory new
  stays_closed = next_closed old new v g.es closed is_ready g.closes (gains_more old new (next (standing old) v) g)

  pub less_to_do : to_do (standing new) < to_do (standing old)
  less_to_do = used_up old new v g.es closed is_ready g.closes (gains_more old new (next (standing old) v) g)

-- the history before, once there is room, with the entry, and in the end; the caller sees the first as `now`
module _ (h now mid then new : History) (v : ℕ) (e : Entry) (steps : List Step) (view : h ≡ now) (same : mid ≡ h) (is : e ≡ next (standing h) v)
    (plans : Plans (after (standing h) (next (standing h) v)) steps) (done : then ≡ plus mid e) where
  entered : then ≡ plus h (next (standing h) v)
  entered = done ∙ ap (λ (g : History). plus g e) same ∙ ap (plus h) is

  pub plans_then : Plans (standing then) steps
  plans_then = plan_then h then (next (standing h) v) steps entered plans

  module _ (closed : IsClosedHistory h) (is_ready : ready (standing now) v ≡ true) (commits : new ≡ plus_all then (planned (standing then) steps)) where
    gains_here : Gains h (next (standing h) v) new
    gains_here = gains_plan h then (next (standing h) v) steps entered new plans commits

    pub gains_now : Gains now (next (standing now) v) new
    gains_now = subst (λ (g : History). Gains g (next (standing g) v) new) view gains_here

    ready_here : ready (standing h) v ≡ true
    ready_here = ap (λ (g : History). ready (standing g) v) view ∙ is_ready

    same_sheet : (standing new).sheet ≡ (standing h).sheet
    same_sheet = sheet_then h then (next (standing h) v) steps entered new plans commits ∙ outcome_sheet (standing h) v (next (standing h) v) (next_outcome (standing h) v)

    -- so what the core keeps is right again
    pub core_after : (own now : List Ties) → own ≡ all_ties (standing h).sheet → now ≡ own → IsClosedHistory new × (now ≡ all_ties (standing new).sheet)
    core_after own now tied stays = (stays_closed h new v closed ready_here gains_here, stays ∙ tied ∙ ap all_ties (sym same_sheet))

-- ---- after a notice of a first pull nothing closes

notice_of_next : (v : ℕ) (e : Entry) → IsOutcome v e → is_notice_of v e ≡ true
notice_of_next v (Fulfilled u x) h = eq-eqb u v h
notice_of_next v (Rejected u x) h = eq-eqb u v h
notice_of_next v (Asked u t key) h = eq-eqb u v h
notice_of_next v (Ended u) h = eq-eqb u v h
notice_of_next v e h = absurd h

pub first_pull_plans : (h : History) (v : ℕ) (e : Entry) (xs : List (Option Start)) (steps : List Step) → IsClosedHistory h → e ≡ next (standing h) v → xs ≡ (standing h).starts
    → from_option 0 (λ (s : Start). s.pulls) (start_in xs v) ≤ 1 → steps ≡ [] → Plans (after (standing h) e) steps
first_pull_plans h v e xs steps closed is starts few none =
    let r : Reading = standing h in
    let of : IsOutcome v e = subst (IsOutcome v) (sym is) (next_outcome r v) in
    let few_now : pulls_of r v ≤ 1 = subst (λ (l : List (Option Start)). from_option 0 (λ (s : Start). s.pulls) (start_in l v) ≤ 1) starts few in
    subst (Plans (after r e)) (sym none) (nothing_closes (after r e) (first_pulls_stay_quiet r v e (notice_of_next v e of) few_now closed.quiet))

-- ---- what was placed

-- of present work the next entry is gained
pub places_gains : (old new : History) (v start : ℕ) (done : WorkDone) (p : Placed) → IsPresent (standing old) v start done → Places old new v start done p → Gains old (next (standing old) v) new
places_gains old new v start done (Shown place) present h = h.2
places_gains old new v start done (Stale held now) present h = absurd (h.0 present)

-- nothing changed
pub core_same : (h new : History) (own now : List Ties) → new ≡ h → now ≡ own → IsClosedHistory h → own ≡ all_ties (standing h).sheet → IsClosedHistory new × (now ≡ all_ties (standing new).sheet)
core_same h new own now same stays closed tied = (subst IsClosedHistory (sym same) closed, stays ∙ tied ∙ ap (λ (g : History). all_ties (standing g).sheet) (sym same))
