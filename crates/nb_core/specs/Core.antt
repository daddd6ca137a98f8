-- What the calls of the core do, over the history that it keeps.
use Rattle.std.specs.Prelude.{ℕ, ◌+◌, ◌≡◌, Bool, true, false, ◌&&◌, nat_le, List, [], ◌∷◌, ◌++◌, length, Option, Some, None}
use Rattle.nb_value.specs.declared.outcome.Outcome.{Outcome}
use Rattle.nb_value.specs.declared.outcome.Outcome.TheVariants.{Value as Shows, Error as Fails}
use Rattle.nb_eval.specs.declared.work.WorkDone.{WorkDone}
use Rattle.nb_eval.specs.Work.{IsOf}
use Rattle.nb_log.specs.declared.event.Event.{Event}
use Rattle.nb_log.specs.declared.event.Event.TheVariants.{Rest as RestEvent}
use Rattle.nb_log.specs.declared.entry.Entry.{Entry}
use Rattle.nb_log.specs.declared.entry.Refusal.{Refusal}
use Rattle.nb_log.specs.declared.entry.Refusal.TheVariants.{Disposed, LogFull}
use Rattle.nb_sheet.specs.Lists.{Name, nth, numbers, from_option, option_then, or_else}
use Rattle.nb_history.specs.Lists.{first_where}
use Rattle.nb_history.specs.Reading.{Reading, Start, Ticket, start_of, is_idle, is_full, number}
use Rattle.nb_history.specs.Rules.{ready, next}
use Rattle.nb_history.specs.Log.{after, Rests, NothingReady, is_live, when}
use Rattle.nb_history.specs.Serial.{Closes, Todo, SerialFrom, least_var}
use Rattle.nb_history.specs.History.{History, standing}
use Rattle.nb_history.specs.Headline.{ShowsScratch}
use Rattle.nb_work.specs.Work.{work_of}
use Rattle.nb_core.specs.declared.placed.Placed.{Placed}
use Rattle.nb_core.specs.declared.placed.Placed.TheVariants.{Shown, Stale}
use Rattle.nb_core.specs.declared.placed.Shown.{Shown as ShownNow}
use Rattle.nb_core.specs.declared.placed.Shown.TheVariants as now

-- ---- entries that are gained

-- the log gained this entry, and then the `left` and `pending` entries that follow from it
pub record Gains (old : History) (e : Entry) (new : History) : Type 0 where
  pub builtins : new.builtins ≡ old.builtins
  pub es : List Entry
  pub longer : new.log ≡ old.log ++ e ∷ es
  pub closes : Closes (after (standing old) e) es

-- the refusals that meet any event
abbrev pub gate : Reading → Option Refusal
gate r = or_else (when r.disposed Disposed) (when (is_full r) LogFull)

-- a rest comes only where nothing is ready
abbrev pub RestsInTime : Reading → Event → Type 0
RestsInTime r event = event ≡ RestEvent → NothingReady r

-- the log gained entries of the serial history, whatever is still to come
pub record SettlesSoFar (old new : History) : Type 0 where
  pub builtins : new.builtins ≡ old.builtins
  pub es : List Entry
  pub longer : new.log ≡ old.log ++ es
  pub serial : (keys : List Name) (todo : Todo) → SerialFrom keys (standing old) todo es todo

-- the log gained entries of the serial history, whatever is still to come, until nothing is ready
pub record Settles (old new : History) : Type 0 where
  pub builtins : new.builtins ≡ old.builtins
  pub es : List Entry
  pub longer : new.log ≡ old.log ++ es
  pub serial : (keys : List Name) (todo : Todo) → SerialFrom keys (standing old) todo es todo
  pub done : least_var (standing new) (ready (standing new)) ≡ None

-- ---- work that was done

-- the start is v's present one, v is ready, and this was done of its work
abbrev pub IsPresent : Reading → ℕ → ℕ → WorkDone → Type 0
IsPresent r v start done = (start ≡ number r v) × (ready r v ≡ true) × IsOf (work_of r v) done

-- v's next entry is gained, or the work isn't of v's present start and nothing changed
abbrev pub Places : History → History → ℕ → ℕ → WorkDone → Placed → Type 0
Places old new v start done (Shown place) =
    IsPresent (standing old) v start done × (place ≡ length old.log + 1) × Gains old (next (standing old) v) new
Places old new v start done (Stale held now) =
    (IsPresent (standing old) v start done → ⊥) × (held ≡ start) × (now ≡ number (standing old) v) × (new ≡ old)

-- ---- tickets

-- the least live ticket that isn't below n
abbrev pub live_from : Reading → ℕ → Option ℕ
live_from r n = first_where (λ t. nat_le n t && is_live r t) (numbers r.tickets)

-- the ticket's key
abbrev pub key_of : Reading → ℕ → Name
key_of r t = from_option [] (λ (k : Ticket). k.key) (nth r.tickets t)

-- nothing is ready, and neither is the notebook disposed of nor the log full
abbrev pub MayLoad : Reading → Type 0
MayLoad r = NothingReady r × (r.disposed ≡ false) × (is_full r ≡ false)

-- ---- what a variable shows

abbrev pub shown_outcome : ShownNow → Option Outcome
shown_outcome now.Idle = None
shown_outcome now.Waiting = None
shown_outcome (now.Value x) = Some (Shows x.now)
shown_outcome (now.Error e) = Some (Fails e.now)

abbrev pub shows_idle : ShownNow → Bool
shows_idle now.Idle = true
shows_idle now.Waiting = false
shows_idle (now.Value x) = false
shows_idle (now.Error e) = false

-- idle exactly where there is no start, and else what it shows, or that it waits
pub record ShownBy (start : Option Start) (s : ShownNow) : Type 0 where
  pub idle : shows_idle s ≡ is_idle start
  pub outcome : shown_outcome s ≡ option_then start (λ s. s.shown)

abbrev pub ShownIs : Reading → ℕ → ShownNow → Type 0
ShownIs r v s = ShownBy (start_of r v) s

-- where the log rests, every wanted variable shows what evaluating from scratch gives
abbrev pub RestsOnScratch : History → Type 0
RestsOnScratch h = Rests (standing h) → ShowsScratch h.builtins h.log
