-- Which entries may come between two lines, and which are of variables.
use Rattle.std.proofs.Common.{ℕ, ◌≡◌, refl, true}
use Rattle.std.proofs.lemmas.Bool.{false≢true}
use Rattle.nb_history.specs.Starts.{is_closing, is_of_variable}
use Rattle.nb_history.specs.Ends.{IsBetween}
use Rattle.nb_log.specs.declared.entry.Entry.{Entry}
use Rattle.nb_log.specs.declared.entry.Entry.TheVariants.{Loaded, Pending, Fulfilled, Rejected, Asked, Ended, Left}
use Rattle.nb_history.proofs.NextEntry.{IsOutcome}

pub closing_is : (e : Entry) → is_closing e ≡ true → is_of_variable e ≡ true
closing_is (Left v d) h = refl
closing_is (Pending v d) h = refl
closing_is e h = absurd (false≢true h)

pub outcome_is : (v : ℕ) (e : Entry) → IsOutcome v e → is_of_variable e ≡ true
outcome_is v (Fulfilled u x) h = refl
outcome_is v (Rejected u e) h = refl
outcome_is v (Asked u t key) h = refl
outcome_is v (Ended u) h = refl
outcome_is v e h = absurd h

pub of_variable_between : (e : Entry) → is_of_variable e ≡ true → IsBetween e
of_variable_between (Loaded t a) h = tt
of_variable_between e h = h
