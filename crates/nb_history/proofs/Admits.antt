-- Which entry an event gives, by its first refusal.
use Rattle.std.proofs.Common.{ℕ, ◌≡◌, refl, ◌∙◌, ap, Option, Some, None}
use Rattle.nb_sheet.specs.Lists.{from_option, or_else}
use Rattle.nb_log.specs.declared.event.Event.{Event}
use Rattle.nb_log.specs.declared.entry.Refusal.{Refusal}
use Rattle.nb_log.specs.declared.entry.Refusal.TheVariants.{Disposed, LogFull}
use Rattle.nb_log.specs.declared.entry.Entry.TheVariants.{Refused}
use Rattle.nb_history.specs.Reading.{Reading, is_full}
use Rattle.nb_history.specs.Log.{when, event_refusal, first_refusal, admitted, admit}

pub admit_refused : (r : Reading) (editor : ℕ) (event : Event) (reason : Refusal) → first_refusal r event ≡ Some reason → admit r editor event ≡ Refused editor reason event
admit_refused r editor event reason h = ap (λ (o : Option Refusal). from_option (admitted r editor event) (λ reason. Refused editor reason event) o) h

pub admit_taken : (r : Reading) (editor : ℕ) (event : Event) → first_refusal r event ≡ None → admit r editor event ≡ admitted r editor event
admit_taken r editor event h = ap (λ (o : Option Refusal). from_option (admitted r editor event) (λ reason. Refused editor reason event) o) h

-- ---- what every event is refused for, and then its own reason

or_else_after : (a b c : Option Refusal) → or_else a (or_else b c) ≡ or_else (or_else a b) c
or_else_after None b c = refl
or_else_after (Some x) b c = refl

or_none : (o : Option Refusal) → or_else o None ≡ o
or_none None = refl
or_none (Some x) = refl

-- the refusal of each event once the core is disposed of, or the log is full
abbrev pub refusal_of_all : Reading → Option Refusal
refusal_of_all r = or_else (when r.disposed Disposed) (when (is_full r) LogFull)

pub first_of_all : (r : Reading) (event : Event) → first_refusal r event ≡ or_else (refusal_of_all r) (event_refusal r event)
first_of_all r event = or_else_after (when r.disposed Disposed) (when (is_full r) LogFull) (event_refusal r event)

-- so where that stands it is the first
pub refused_to_all : (r : Reading) (event : Event) (reason : Refusal) → refusal_of_all r ≡ Some reason → first_refusal r event ≡ Some reason
refused_to_all r event reason h = first_of_all r event ∙ ap (λ (o : Option Refusal). or_else o (event_refusal r event)) h

-- and else the event's own is
pub own_refusal : (r : Reading) (event : Event) → refusal_of_all r ≡ None → first_refusal r event ≡ event_refusal r event
own_refusal r event h = first_of_all r event ∙ ap (λ (o : Option Refusal). or_else o (event_refusal r event)) h

-- an event without a reason of its own
pub refused_with_all : (r : Reading) (event : Event) → event_refusal r event ≡ None → first_refusal r event ≡ refusal_of_all r
refused_with_all r event h = first_of_all r event ∙ ap (or_else (refusal_of_all r)) h ∙ or_none (refusal_of_all r)
