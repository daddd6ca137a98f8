-- What the log has of work that is done, and what becomes of the start.
use Rattle.std.specs.Prelude.{ℕ, ◌≡◌, ◌&&◌, Bool, List}
use Rattle.nb_value.specs.declared.value.Value.{Value}
use Rattle.nb_value.specs.declared.outcome.Outcome.{Outcome}
use Rattle.nb_value.specs.declared.outcome.Outcome.TheVariants.{Value as Shows, Error as Fails}
use Rattle.nb_log.specs.declared.entry.Entry.{Entry}
use Rattle.nb_log.specs.declared.entry.Entry.TheVariants.{Fulfilled, Rejected, Asked, Ended}
use Rattle.nb_history.specs.Reading.{Reading}
use Rattle.nb_history.specs.Rules.{next, entry_of}
use Rattle.nb_history.specs.Log.{cleanups_now, ends_at_once, is_done}
use Rattle.nb_eval.specs.Evaluation.{Evaluated}
use Rattle.nb_work.specs.declared.notice.Notice.{Notice}
use Rattle.nb_work.specs.declared.notice.Notice.TheVariants as notice

-- the entry that shows an outcome
abbrev pub shown_entry : ℕ → Outcome → Entry
shown_entry v (Shows x) = Fulfilled v x
shown_entry v (Fails e) = Rejected v e

-- v's entry at a notice, where the next ticket has the number t
abbrev pub notice_entry : ℕ → ℕ → Notice → Entry
notice_entry t v (notice.Shows x cleanups ends) = shown_entry v x
notice_entry t v (notice.Asks key cleanups) = Asked v t key
notice_entry t v (notice.Ends cleanups) = Ended v

abbrev pub cleanups_of : Notice → List Value
cleanups_of (notice.Shows x cleanups ends) = cleanups
cleanups_of (notice.Asks key cleanups) = cleanups
cleanups_of (notice.Ends cleanups) = cleanups

-- where an outcome is shown, the generator that ends with it is told from others
abbrev pub EndsRight : Reading → ℕ → Notice → Type 0
EndsRight r v (notice.Shows x cleanups ends) = ends ≡ ends_at_once r v
EndsRight r v (notice.Asks key cleanups) = v ≡ v
EndsRight r v (notice.Ends cleanups) = v ≡ v

-- the same, where this tells whether it ends with the outcome
abbrev pub EndsBy : Bool → Notice → Type 0
EndsBy now (notice.Shows x cleanups ends) = ends ≡ now
EndsBy now (notice.Asks key cleanups) = now ≡ now
EndsBy now (notice.Ends cleanups) = now ≡ now

-- the notice of an evaluation's end, of a generator or not, and at a first pull or a later one
pub record IsEnd (generator first : Bool) (e : Evaluated) (n : Notice) : Type 0 where
  pub entry : (t v : ℕ) → entry_of t v generator first e e.ending ≡ notice_entry t v n
  pub cleanups : cleanups_of n ≡ e.cleanups
  pub ends : EndsBy (generator && is_done e.ending) n

-- the notice of v's next entry, and of its cleanups
pub record IsNotice (r : Reading) (t v : ℕ) (n : Notice) : Type 0 where
  pub entry : next r v ≡ notice_entry t v n
  pub cleanups : cleanups_of n ≡ cleanups_now r v
  pub ends : EndsRight r v n
