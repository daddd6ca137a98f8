-- What an entry changes, which entries may come, and the logs that are legal.
use Rattle.std.specs.Prelude.{ℕ, ◌+◌, ◌-◌, ◌≡◌, ◌<◌, Bool, true, false, cond, ◌&&◌, ◌||◌, not, ◌==◌, nat_le, List, [], ◌∷◌, ◌++◌, length, replicate, Option, Some, None, is_some, option_map}
use Rattle.nb_log.specs.Printing.{entry_size}
use Rattle.nb_sheet.specs.Lists.{nth, put, numbers, Name, from_option, option_then, or_else}
use Rattle.nb_history.specs.Lists.{first_where}
use Rattle.std.specs.Str.{bytes_eq}
use Rattle.nb_value.specs.declared.pairs.Field.{Field}
use Rattle.nb_eval.specs.Evaluation.{Evaluated}
use Rattle.nb_eval.specs.declared.given.Ending.{Ending}
use Rattle.nb_eval.specs.declared.given.Ending.TheVariants.{Done}
use Rattle.nb_sheet.specs.Sheet.{Sheet, empty_sheet, refusal, edited_sheet}
use Rattle.nb_history.specs.Reading.{Reading, Start, Footing, Ticket, start_of, shown, owed, is_full}
use Rattle.nb_history.specs.Rules.{footing, leaving, due, ready, may_start, next, deciding_error, evaluation, generates, body_of}
use Rattle.nb_value.specs.declared.value.Value.{Value}
use Rattle.nb_value.specs.declared.outcome.Outcome.{Outcome}
use Rattle.nb_value.specs.declared.outcome.Outcome.TheVariants.{Value as Shows, Error as Fails}
use Rattle.nb_value.specs.declared.outcome.Answer.{Answer}
use Rattle.nb_log.specs.declared.event.Target.TheVariants.{Ticket as ByTicket, Key as ByKey}
use Rattle.nb_log.specs.declared.event.Event.{Event}
use Rattle.nb_log.specs.declared.event.Event.TheVariants.{Edit as EditEvent, Frame as FrameEvent, Settle, Rest as RestEvent, Dispose as DisposeEvent}
use Rattle.nb_log.specs.Refused.{refusal_of}
use Rattle.nb_log.specs.declared.entry.Refusal.{Refusal}
use Rattle.nb_log.specs.declared.entry.Refusal.TheVariants.{Disposed, LogFull, NoTicket, AlreadySettled, NoAsk}
use Rattle.nb_log.specs.declared.entry.Entry.{Entry}
use Rattle.nb_log.specs.declared.entry.Entry.TheVariants.{Edit, Frame, Settled, Late, Loaded, Refused, Rest, Dispose, Pending, Fulfilled, Rejected, Asked, Ended, Left}

-- ---- what an entry changes

-- before any entry
abbrev pub nothing_yet : List (Field Value) → Reading
nothing_yet builtins =
    record { sheet = empty_sheet builtins; starts = []; disposed = false; tickets = []; entries = 0; size = 0 }

-- a sheet after an edit; new variables are idle
abbrev pub with_sheet : Reading → Sheet → Reading
with_sheet r s = record r { sheet = s; starts = r.starts ++ replicate (length s.rows - length r.starts) None }

abbrev pub with_start : Reading → ℕ → Option Start → Reading
with_start r v s = record r { starts = put r.starts v s }

-- v's start, changed
abbrev pub change_start : Reading → ℕ → (Start → Start) → Reading
change_start r v change = with_start r v (option_then (start_of r v) (λ s. Some (change s)))

-- a start as its `pending` entry makes it, at this place
abbrev pub new_start : ℕ → Footing → Start
new_start place kept =
    record {
      number = place;
      kept = kept;
      answers = [];
      ticket = None;
      pulls = 1;
      shown = None;
      running = true;
      ended = false;
      owed = [];
      renewal = place;
    }

-- the cleanups, where an evaluation decided
abbrev pub cleanups_now : Reading → ℕ → List Value
cleanups_now r v =
    cond (is_some (deciding_error r (shown r) v)) [] (Evaluated.cleanups (evaluation r (shown r) v))

abbrev pub is_done : Ending → Bool
is_done (Done x) = true
is_done _ = false

-- a generator whose first pull ended without a yield counts as ended
abbrev pub ends_at_once : Reading → ℕ → Bool
ends_at_once r v =
    not (is_some (deciding_error r (shown r) v)) && generates (body_of r.sheet v) && is_done (Evaluated.ending (evaluation r (shown r) v))

abbrev pub showing : Reading → ℕ → Outcome → Start → Start
showing r v x s =
    record s {
      shown = Some x;
      running = false;
      ended = s.ended || ends_at_once r v;
      owed = cleanups_now r v;
      renewal = cond (nat_le 2 s.pulls) (r.entries + 1) s.renewal;
    }

abbrev pub asking : Reading → ℕ → ℕ → Start → Start
asking r v t s = record s { ticket = Some t; running = false; owed = cleanups_now r v }

abbrev pub ending_now : Reading → ℕ → Start → Start
ending_now r v s = record s { running = false; ended = true; owed = cleanups_now r v }

abbrev pub answering : Answer → Start → Start
answering a s = record s { answers = s.answers ++ a ∷ []; ticket = None; running = true }

-- a ticket that is settled from now on
abbrev pub settle : Reading → ℕ → Reading
settle r t = record r { tickets = from_option r.tickets (λ (k : Ticket). put r.tickets t (record k { settled = true })) (nth r.tickets t) }

abbrev pub ticket_var : Reading → ℕ → ℕ
ticket_var r t = from_option 0 (λ (k : Ticket). k.var) (nth r.tickets t)

abbrev pub answered : Reading → ℕ → Answer → Reading
answered r t a = change_start (settle r t) (ticket_var r t) (answering a)

abbrev pub asked_ticket : Reading → ℕ → Name → Reading
asked_ticket r v key =
    record r { tickets = r.tickets ++ record { var = v; number = from_option 0 (λ (s : Start). s.number) (start_of r v); key = key; settled = false } ∷ [] }

abbrev pub shows_value : Option Outcome → Bool
shows_value (Some (Shows x)) = true
shows_value (Some (Fails e)) = false
shows_value None = false

-- a generator that shows a value, and isn't ended, running or asking, is pulled
abbrev pub pulled : Reading → ℕ → Option Start → Option Start
pulled r v None = None
pulled r v (Some s) =
    cond (generates (body_of r.sheet v) && shows_value s.shown && not s.ended && not s.running && not (is_some s.ticket))
    (Some (record s { pulls = s.pulls + 1; running = true })) (Some s)

abbrev pub pulled_from : Reading → ℕ → List (Option Start) → List (Option Start)
pulled_from r v [] = []
pulled_from r v (s ∷ starts) = pulled r v s ∷ pulled_from r (v + 1) starts

abbrev pub changed : Reading → Entry → Reading
changed r (Edit editor edit) = with_sheet r (edited_sheet r.sheet edit (r.entries + 1))
changed r (Frame editor) = record r { starts = pulled_from r 1 r.starts }
changed r (Settled editor t a) = answered r t a
changed r (Late editor t) = settle r t
changed r (Loaded t a) = answered r t a
changed r (Refused editor reason event) = r
changed r (Rest editor) = r
changed r (Dispose editor) = record r { disposed = true }
changed r (Pending v d) = with_start r v (Some (new_start (r.entries + 1) (footing r v)))
changed r (Fulfilled v x) = change_start r v (showing r v (Shows x))
changed r (Rejected v e) = change_start r v (showing r v (Fails e))
changed r (Asked v t key) = asked_ticket (change_start r v (asking r v t)) v key
changed r (Ended v) = change_start r v (ending_now r v)
changed r (Left v d) = with_start r v None

abbrev pub counted : Reading → ℕ → Reading
counted r n = record r { entries = r.entries + 1; size = r.size + n }

-- the reading after one more entry
abbrev pub after : Reading → Entry → Reading
after r e = counted (changed r e) (entry_size e)

-- the reading after these entries
abbrev pub read_from : Reading → List Entry → Reading
read_from r [] = r
read_from r (e ∷ es) = read_from (after r e) es

abbrev pub reading : List (Field Value) → List Entry → Reading
reading builtins log = read_from (nothing_yet builtins) log

-- ---- events: the one entry that an event gives, with the first refusal or none

-- the open ticket of its variable's present start
abbrev pub is_live : Reading → ℕ → Bool
is_live r t = from_option false (λ n. n == t) (option_then (start_of r (ticket_var r t)) (λ s. s.ticket))

abbrev pub ticket_refusal : Option Ticket → Option Refusal
ticket_refusal None = Some NoTicket
ticket_refusal (Some k) = cond k.settled (Some AlreadySettled) None

-- the least live ticket of the key
abbrev pub live_of_key : Reading → Name → Option ℕ
live_of_key r key =
    first_where (λ t. is_live r t && from_option false (λ (k : Ticket). bytes_eq k.key key) (nth r.tickets t)) (numbers r.tickets)

abbrev pub event_refusal : Reading → Event → Option Refusal
event_refusal r (EditEvent edit) = option_map refusal_of (refusal r.sheet edit)
event_refusal r (Settle (ByTicket t) a) = ticket_refusal (nth r.tickets t)
event_refusal r (Settle (ByKey key) a) = from_option (Some NoAsk) (λ t. None) (live_of_key r key)
event_refusal r FrameEvent = None
event_refusal r RestEvent = None
event_refusal r DisposeEvent = None

abbrev pub when : Bool → Refusal → Option Refusal
when true reason = Some reason
when false reason = None

abbrev pub first_refusal : Reading → Event → Option Refusal
first_refusal r event = or_else (when r.disposed Disposed) (or_else (when (is_full r) LogFull) (event_refusal r event))

abbrev pub admitted : Reading → ℕ → Event → Entry
admitted r editor (EditEvent edit) = Edit editor edit
admitted r editor FrameEvent = Frame editor
admitted r editor (Settle (ByTicket t) a) = cond (is_live r t) (Settled editor t a) (Late editor t)
admitted r editor (Settle (ByKey key) a) = Settled editor (from_option 0 (λ t. t) (live_of_key r key)) a
admitted r editor RestEvent = Rest editor
admitted r editor DisposeEvent = Dispose editor

abbrev pub admit : Reading → ℕ → Event → Entry
admit r editor event = from_option (admitted r editor event) (λ reason. Refused editor reason event) (first_refusal r event)

-- ---- which entry may come

-- nothing is leaving or due
abbrev pub IsQuiet : Reading → Type 0
IsQuiet r = (v : ℕ) → (leaving r v ≡ false) × (due r v ≡ false)

abbrev pub NothingReady : Reading → Type 0
NothingReady r = (v : ℕ) → ready r v ≡ false

-- nothing is leaving, due or ready
abbrev pub Rests : Reading → Type 0
Rests r = IsQuiet r × NothingReady r

abbrev pub IsOfEvent : Reading → Entry → Type 0
IsOfEvent r e = (editor : ℕ) × (event : Event) × (editor < 8) × (e ≡ admit r editor event)

-- the next entry of a ready variable
abbrev pub IsNext : Reading → ℕ → Entry → Type 0
IsNext r v e = IsQuiet r × (ready r v ≡ true) × (e ≡ next r v)

-- the entry fits what stands before it
abbrev pub Fits : Reading → Entry → Type 0
Fits r (Left v d) = (leaving r v ≡ true) × (d ≡ owed r v)
Fits r (Pending v d) = (may_start r v ≡ true) × (d ≡ owed r v)
Fits r (Fulfilled v x) = IsNext r v (Fulfilled v x)
Fits r (Rejected v e) = IsNext r v (Rejected v e)
Fits r (Asked v t key) = IsNext r v (Asked v t key)
Fits r (Ended v) = IsNext r v (Ended v)
Fits r (Edit editor edit) = IsQuiet r × IsOfEvent r (Edit editor edit)
Fits r (Frame editor) = IsQuiet r × IsOfEvent r (Frame editor)
Fits r (Settled editor t a) = IsQuiet r × IsOfEvent r (Settled editor t a)
Fits r (Late editor t) = IsQuiet r × IsOfEvent r (Late editor t)
Fits r (Refused editor reason event) = IsQuiet r × IsOfEvent r (Refused editor reason event)
Fits r (Dispose editor) = IsQuiet r × IsOfEvent r (Dispose editor)
Fits r (Rest editor) = Rests r × IsOfEvent r (Rest editor)
Fits r (Loaded t a) = Rests r × (is_live r t ≡ true) × (r.disposed ≡ false) × (is_full r ≡ false)

-- each entry fits what stands before it
abbrev pub LegalFrom : Reading → List Entry → Type 0
LegalFrom r [] = Unit {0}
LegalFrom r (e ∷ es) = Fits r e × LegalFrom (after r e) es

abbrev pub IsLegal : List (Field Value) → List Entry → Type 0
IsLegal builtins log = LegalFrom (nothing_yet builtins) log

abbrev pub RestsAfter : List (Field Value) → List Entry → Type 0
RestsAfter builtins log = Rests (reading builtins log)
