-- The steps of a plan, done one by one, and what the log gains by them.
use Rattle.std.proofs.Common.{ℕ, ◌≡◌, refl, sym, ◌∙◌, ap, subst, List, [], ◌∷◌, ◌++◌}
use Rattle.nb_log.specs.declared.entry.Entry.{Entry}
use Rattle.nb_log.specs.declared.entry.Entry.TheVariants.{Pending, Left}
use Rattle.nb_history.specs.Reading.{Reading, owed}
use Rattle.nb_history.specs.Log.{after, read_from}
use Rattle.nb_history.specs.Serial.{Closes}
use Rattle.nb_history.specs.History.{History, standing, plus, plus_all}
use Rattle.nb_history.proofs.Plus.{standing_plus, standing_plus_all, plus_more}
use Rattle.nb_closing.specs.declared.step.Step.{Step}
use Rattle.nb_closing.specs.declared.step.Step.TheVariants.{Leaves, Starts}
use Rattle.nb_closing.specs.Plan.{entry_of, Plans, planned}
use Rattle.nb_core.specs.Core.{Gains}

-- one step of a plan, and then the others
pub plan_goes_on : (h h' : History) (s : Step) (rest all : List Step) → all ≡ s ∷ rest → h' ≡ plus h (entry_of (standing h) s) → Plans (standing h) all
    → (plus_all h' (planned (standing h') rest) ≡ plus_all h (planned (standing h) all)) × Plans (standing h') rest
plan_goes_on h h' s rest all split is plans =
    let e : Entry = entry_of (standing h) s in
    let then : standing h' ≡ after (standing h) e = ap standing is ∙ standing_plus h e in
    let parts : Plans (standing h) (s ∷ rest) = subst (Plans (standing h)) split plans in (
      ap (λ (r : Reading). plus_all h' (planned r rest)) then
          ∙ ap (λ (g : History). plus_all g (planned (after (standing h) e) rest)) is
          ∙ plus_more h e (planned (after (standing h) e) rest)
          ∙ ap (λ (l : List Step). plus_all h (planned (standing h) l)) (sym split),
      subst (λ (r : Reading). Plans r rest) (sym then) parts.2,
    )

-- its entries are what closes
pub plans_close : (r : Reading) (steps : List Step) → Plans r steps → Closes r (planned r steps)
plans_close r [] h = h
plans_close r (s ∷ more) h = (h.0, plans_close (after r (entry_of r s)) more h.2)

-- and they leave the sheet as it is
pub plan_keeps_sheet : (r : Reading) (steps : List Step) → (read_from r (planned r steps)).sheet ≡ r.sheet
plan_keeps_sheet r [] = refl
plan_keeps_sheet r (Leaves v ∷ more) = plan_keeps_sheet (after r (Left v (owed r v))) more
plan_keeps_sheet r (Starts v k ∷ more) = plan_keeps_sheet (after r (Pending v (owed r v))) more

-- the log gains an entry and what a plan closes after it
module _ (old new : History) (e : Entry) (steps : List Step) (plans : Plans (after (standing old) e) steps) where
  pub gained : new ≡ plus_all (plus old e) (planned (after (standing old) e) steps) → Gains old e new
  gained is = record {
    builtins = ap (λ (h : History). h.builtins) is;
    es = planned (after (standing old) e) steps;
    longer = ap (λ (h : History). h.log) (is ∙ plus_more old e (planned (after (standing old) e) steps));
    closes = plans_close (after (standing old) e) steps plans;
  }

-- the plan after an entry is one for the history with it
module _ (old then : History) (e : Entry) (steps : List Step) (done : then ≡ plus old e) where
  stands_then : standing then ≡ after (standing old) e
  stands_then = ap standing done ∙ standing_plus old e

  pub plan_then : Plans (after (standing old) e) steps → Plans (standing then) steps
  plan_then plans = subst (λ (r : Reading). Plans r steps) (sym stands_then) plans

  module _ (new : History) (plans : Plans (after (standing old) e) steps) (commits : new ≡ plus_all then (planned (standing then) steps)) where
    pub gains_plan : Gains old e new
    gains_plan =
        gained old new e steps plans
        (commits ∙ ap (λ (g : History). plus_all g (planned (standing then) steps)) done ∙ ap (λ (r : Reading). plus_all (plus old e) (planned r steps)) stands_then)

    -- the sheet is that after the entry
    pub sheet_then : (standing new).sheet ≡ (after (standing old) e).sheet
    sheet_then =
        ap (λ (h : History). (standing h).sheet) commits
        ∙ ap (λ (r : Reading). r.sheet) (standing_plus_all then (planned (standing then) steps))
        ∙ plan_keeps_sheet (standing then) steps
        ∙ ap (λ (r : Reading). r.sheet) stands_then
