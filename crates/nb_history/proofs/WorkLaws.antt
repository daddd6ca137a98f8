-- The laws of the work between two lines, of what a legal log leaves.
use Rattle.std.proofs.Common.{ℕ, ◌≤◌, refl}
use Rattle.std.proofs.lemmas.Bool.{false≢true}
use Rattle.nb_history.specs.Reading.{Reading}
use Rattle.nb_history.specs.Log.{after, reading, Fits}
use Rattle.nb_history.specs.Work.{later_pulls}
use Rattle.nb_history.specs.Ends.{IsBetween, PullsNeverGrow, PullsAskFew, AnswersStartNothing}
use Rattle.nb_log.specs.declared.entry.Entry.{Entry}
use Rattle.nb_log.specs.declared.entry.Entry.TheVariants.{Loaded, Pending, Fulfilled, Rejected, Asked, Ended, Left}
use Rattle.nb_history.proofs.Lawful.{lawful_log}
use Rattle.nb_history.proofs.StartsAfter.{Runs}
use Rattle.nb_history.proofs.EachStart.{each_legal}
use Rattle.nb_history.proofs.NextEntry.{IsOutcome, ready_runs}
use Rattle.nb_history.proofs.Working.{closing_pulls, pulls_stay}
use Rattle.nb_history.proofs.Tickets.{MayBeAnswered, answers_kept, asked_few, live_open, loaded_pulls, loaded_quiet}

outcome_pulls : (r : Reading) (v : ℕ) (e : Entry) → IsOutcome v e → Runs r v → later_pulls (after r e) ≤ later_pulls r
outcome_pulls r v e is runs = pulls_stay r v e runs.start is runs.there runs.running

between_pulls : (r : Reading) (e : Entry) → Fits r e → IsBetween e → later_pulls (after r e) ≤ later_pulls r
between_pulls r (Left v d) fits is = closing_pulls r (Left v d) refl
between_pulls r (Pending v d) fits is = closing_pulls r (Pending v d) refl
between_pulls r (Fulfilled v x) fits is = outcome_pulls r v (Fulfilled v x) refl (ready_runs r v fits.1)
between_pulls r (Rejected v e) fits is = outcome_pulls r v (Rejected v e) refl (ready_runs r v fits.1)
between_pulls r (Asked v t key) fits is = outcome_pulls r v (Asked v t key) refl (ready_runs r v fits.1)
between_pulls r (Ended v) fits is = outcome_pulls r v (Ended v) refl (ready_runs r v fits.1)
between_pulls r (Loaded t a) fits is = loaded_pulls r t a (live_open r t fits.1)
between_pulls r e fits is = absurd (false≢true is)

pub pulls_never_grow : PullsNeverGrow
pulls_never_grow builtins log e legal fits is = between_pulls (reading builtins log) e fits is

pub pulls_ask_few : PullsAskFew
pulls_ask_few builtins log v t key s legal fits there =
    let may : MayBeAnswered s = each_legal MayBeAnswered answers_kept builtins log legal v s there in
    asked_few (reading builtins log) v t key s there may.pulled fits.2

pub answers_start_nothing : AnswersStartNothing
answers_start_nothing builtins log t a legal fits = loaded_quiet (reading builtins log) t a (lawful_log builtins log legal) fits.0
