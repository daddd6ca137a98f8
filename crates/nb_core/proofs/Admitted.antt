-- What an event's entry makes of the history that a core keeps, and of its ties.
use Rattle.std.proofs.Common.{ℕ, ◌≡◌, ◌+◌, ◌<◌, ◌≤◌, ◌^◌, arith, refl, sym, ◌∙◌, ap, subst, Bool, true, false, cond, List, [], length, Option, Some, None, option_map}
use Rattle.std.proofs.lemmas.Bool.{false≢true, ltb-false}
use Rattle.std.proofs.lemmas.Option.{none-some}
use Rattle.nb_value.specs.declared.outcome.Answer.{Answer}
use Rattle.nb_sheet.specs.declared.edit.Edit.{Edit as SheetEdit}
use Rattle.nb_sheet.specs.declared.refused.Refused.{Refused as Against}
use Rattle.nb_sheet.specs.Sheet.{refusal}
use Rattle.nb_sheet.specs.Lists.{Name, nth, from_option, or_else}
use Rattle.nb_log.specs.Size.{total_size}
use Rattle.nb_log.specs.Refused.{refusal_of}
use Rattle.nb_log.specs.declared.event.Event.{Event}
use Rattle.nb_log.specs.declared.event.Event.TheVariants.{Edit as EditEvent, Settle}
use Rattle.nb_log.specs.declared.event.Target.TheVariants.{Ticket as ByTicket, Key as ByKey}
use Rattle.nb_log.specs.declared.entry.Refusal.TheVariants.{Disposed, LogFull, NoAsk}
use Rattle.nb_log.specs.declared.entry.Entry.{Entry}
use Rattle.nb_log.specs.declared.entry.Entry.TheVariants.{Edit, Frame, Settled, Late, Loaded, Refused, Rest}
use Rattle.nb_history.specs.Reading.{Reading, Start, Ticket, is_full}
use Rattle.nb_history.specs.Log.{after, admit, admitted, event_refusal, ticket_refusal, is_live, live_of_key, when, Fits}
use Rattle.nb_history.specs.Quiet.{may_open}
use Rattle.nb_history.specs.History.{History, standing, plus, plus_all, IsClosedHistory}
use Rattle.nb_history.proofs.Admits.{admit_taken, own_refusal}
use Rattle.nb_history.proofs.Plus.{standing_plus, reading_size, entries_within}
use Rattle.nb_history.proofs.Gains.{nothing_closes, stays_closed, gains_closed_by}
use Rattle.nb_history.proofs.QuietEntries.{stays_quiet}
use Rattle.nb_history.proofs.Serials.{RestsFor, event_fits}
use Rattle.nb_runs.specs.Tickets.{live_of_key_in}
use Rattle.nb_closing.specs.declared.step.Step.{Step}
use Rattle.nb_closing.specs.Plan.{Plans, planned}
use Rattle.nb_closing.specs.Ties.{Ties, all_ties}
use Rattle.nb_core.specs.Core.{Gains, gate}
use Rattle.nb_core.proofs.Plans.{plan_then, gains_plan, sheet_then}

-- ---- which entry it is

pub taken : (r : Reading) (editor : ℕ) (event : Event) → gate r ≡ None → event_refusal r event ≡ None → admit r editor event ≡ admitted r editor event
taken r editor event ungated h = admit_taken r editor event (own_refusal r event ungated ∙ h)

-- a settlement, live or late
module _ (r : Reading) (editor t : ℕ) (a : Answer) (ungated : gate r ≡ None) (there : ticket_refusal (nth r.tickets t) ≡ None) where
  abbrev by_ticket : Event
  by_ticket = Settle (ByTicket t) a

  pub live_taken : is_live r t ≡ true → admit r editor by_ticket ≡ Settled editor t a
  live_taken live = taken r editor by_ticket ungated there ∙ ap (λ (b : Bool). cond b (Settled editor t a) (Late editor t)) live

  pub late_taken : is_live r t ≡ false → admit r editor by_ticket ≡ Late editor t
  late_taken late = taken r editor by_ticket ungated there ∙ ap (λ (b : Bool). cond b (Settled editor t a) (Late editor t)) late

-- and one by its key
pub key_taken : (r : Reading) (editor : ℕ) (key : Name) (a : Answer) (t : ℕ) → gate r ≡ None → live_of_key r key ≡ Some t → admit r editor (Settle (ByKey key) a) ≡ Settled editor t a
key_taken r editor key a t ungated some =
    taken r editor (Settle (ByKey key) a) ungated (ap (λ (o : Option ℕ). from_option (Some NoAsk) (λ t. None) o) some)
    ∙ ap (λ (o : Option ℕ). Settled editor (from_option 0 (λ t. t) o) a) some

-- an edit
pub edit_taken : (r : Reading) (editor : ℕ) (edit : SheetEdit) → gate r ≡ None → refusal r.sheet edit ≡ None → admit r editor (EditEvent edit) ≡ Edit editor edit
edit_taken r editor edit ungated h = taken r editor (EditEvent edit) ungated (ap (λ (o : Option Against). option_map refusal_of o) h)

-- ---- a log that isn't full is short

not_full : (d f : Bool) → or_else (when d Disposed) (when f LogFull) ≡ None → f ≡ false
not_full true f h = absurd (none-some Disposed (sym h))
not_full false true h = absurd (none-some LogFull (sym h))
not_full false false h = refl

pub few_entries : (h : History) → gate (standing h) ≡ None → length h.log + 1 < 2 ^ 32
few_entries h ungated =
    let r : Reading = standing h in
    let small : r.size ≤ 4000000 = ltb-false 4000000 r.size (not_full r.disposed (is_full r) ungated) in
    let size : r.size ≡ total_size h.log = reading_size h.builtins h.log in
    let within : length h.log ≤ total_size h.log = entries_within h.log in
    omega (arith, small, size, within)

-- ---- what a core keeps

-- a closed history, and the ties of its sheet
abbrev pub Keeps : History → List Ties → Type 0
Keeps h own = IsClosedHistory h × (own ≡ all_ties (standing h).sheet)

pub keeps_as : (h g : History) (own : List Ties) → h ≡ g → Keeps h own → Keeps g own
keeps_as h g own is keeps = subst (λ (x : History). Keeps x own) is keeps

-- an event's entry fits, a rest where nothing is ready
entry_fits : (h : History) (editor : ℕ) (event : Event) (e : Entry) → IsClosedHistory h → editor < 8 → admit (standing h) editor event ≡ e → RestsFor (standing h) e → Fits (standing h) e
entry_fits h editor event e closed low is in_time =
    subst (Fits (standing h)) is (event_fits h editor event closed low (subst (RestsFor (standing h)) (sym is) in_time))

-- with what closes after it, the history is closed again
gained_closed : (h new : History) (editor : ℕ) (event : Event) (e : Entry) → IsClosedHistory h → editor < 8 → admit (standing h) editor event ≡ e → RestsFor (standing h) e → Gains h e new → IsClosedHistory new
gained_closed h new editor event e closed low is in_time g =
    gains_closed_by h new e g.es closed (entry_fits h editor event e closed low is in_time) g.closes g.builtins g.longer

-- ---- the entry opens nothing

-- then it leaves the sheet as it is
same_sheet : (r : Reading) (e : Entry) → may_open e ≡ false → (after r e).sheet ≡ r.sheet
same_sheet r (Frame editor) h = refl
same_sheet r (Settled editor t a) h = refl
same_sheet r (Late editor t) h = refl
same_sheet r (Loaded t a) h = refl
same_sheet r (Refused editor reason event) h = refl
same_sheet r (Rest editor) h = refl
same_sheet r e h = absurd (false≢true (sym h))

-- the history as the core keeps it, as the caller sees it, once there is room, and in the end
module _ (h now mid new : History) (own : List Ties) (keeps : Keeps h own) (view : h ≡ now) (same : mid ≡ h) (editor : ℕ) (event : Event) (e : Entry) (low : editor < 8)
    (is : admit (standing now) editor event ≡ e) (in_time : RestsFor (standing now) e) (shut : may_open e ≡ false) (done : new ≡ plus mid e) where
  kept : Keeps now own
  kept = keeps_as h now own view keeps

  more : new ≡ plus now e
  more = done ∙ ap (λ (g : History). plus g e) (same ∙ view)

  pub kept_after : Keeps new own
  kept_after = (
    stays_closed now new e kept.0 (entry_fits now editor event e kept.0 low is in_time) shut more,
    kept.1 ∙ ap all_ties (sym (ap (λ (g : History). (standing g).sheet) more ∙ ap (λ (r : Reading). r.sheet) (standing_plus now e) ∙ same_sheet (standing now) e shut)),
  )

  pub gains_entry : Gains now (admit (standing now) editor event) new
  gains_entry = subst (λ (x : Entry). Gains now x new) (sym is) (record {
    builtins = ap (λ (g : History). g.builtins) more;
    es = [];
    longer = ap (λ (g : History). g.log) more;
    closes = nothing_closes (after (standing now) e) (stays_quiet (standing now) e shut kept.0.quiet);
  })

-- ---- a plan closes after it

-- and the history with the entry, before the plan is done
module _ (h now mid then : History) (view : h ≡ now) (same : mid ≡ h) (e : Entry) (steps : List Step) (plans : Plans (after (standing now) e) steps) (done : then ≡ plus mid e) where
  entered : then ≡ plus now e
  entered = done ∙ ap (λ (g : History). plus g e) (same ∙ view)

  pub plans_left : Plans (standing then) steps
  plans_left = plan_then now then e steps entered plans

  module _ (new : History) (own : List Ties) (keeps : Keeps h own) (editor : ℕ) (event : Event) (low : editor < 8) (is : admit (standing now) editor event ≡ e)
      (in_time : RestsFor (standing now) e) (quiet : (after (standing now) e).sheet ≡ (standing now).sheet) (commits : new ≡ plus_all then (planned (standing then) steps)) where
    planned_entry : Gains now e new
    planned_entry = gains_plan now then e steps entered new plans commits

    pub gains_planned : Gains now (admit (standing now) editor event) new
    gains_planned = subst (λ (x : Entry). Gains now x new) (sym is) planned_entry

    pub kept_planned : Keeps new own
    kept_planned =
        let kept : Keeps now own = keeps_as h now own view keeps in (
          gained_closed now new editor event e kept.0 low is in_time planned_entry,
          kept.1 ∙ ap all_ties (sym (sheet_then now then e steps entered new plans commits ∙ quiet)),
        )

-- ---- an edit, done with what closes after it

module _ (h now new : History) (editor : ℕ) (edit : SheetEdit) (low : editor < 8) (view : h ≡ now) (ungated : gate (standing now) ≡ None) (admits : refusal (standing h).sheet edit ≡ None)
    (g : Gains h (Edit editor edit) new) where
  edit_entry : admit (standing h) editor (EditEvent edit) ≡ Edit editor edit
  edit_entry = edit_taken (standing h) editor edit (ap (λ (x : History). gate (standing x)) view ∙ ungated) admits

  pub closed_edited : IsClosedHistory h → IsClosedHistory new
  closed_edited closed = gained_closed h new editor (EditEvent edit) (Edit editor edit) closed low edit_entry tt g

  pub gains_edited : Gains now (admit (standing now) editor (EditEvent edit)) new
  gains_edited = subst (λ (x : History). Gains x (admit (standing x) editor (EditEvent edit)) new) view (subst (λ (e : Entry). Gains h e new) (sym edit_entry) g)

-- ---- a look at the machine's tickets

pub live_key : (h now : History) (starts : List (Option Start)) (tickets : List Ticket) (key : Name) → h ≡ now → starts ≡ (standing h).starts → tickets ≡ (standing h).tickets
    → live_of_key (standing now) key ≡ live_of_key_in starts tickets key
live_key h now starts tickets key view own asked =
    ap (λ (g : History). live_of_key (standing g) key) (sym view)
    ∙ ap (λ (xs : List (Option Start)). live_of_key_in xs (standing h).tickets key) (sym own)
    ∙ ap (λ (ks : List Ticket). live_of_key_in starts ks key) (sym asked)
