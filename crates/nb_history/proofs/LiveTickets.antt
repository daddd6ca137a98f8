-- The live tickets of a legal log are those that a start waits for.
use Rattle.std.proofs.Common.{inl, inr, ℕ, zero, suc, ◌≡◌, ◌≢◌, ◌+◌, ◌<◌, ◌≤◌, ◌&&◌, refl, arith, sym, ◌∙◌, ap, Bool, true, false, cond, List, [], ◌∷◌, ◌++◌, length, length-append, slice_get, option_map, Option, Some, None}
use Rattle.std.specs.Prelude.{◌==◌}
use Rattle.std.specs.List.{range_with_len}
use Rattle.std.proofs.lemmas.Bool.{cases_eq, and_parts, and_from, false≢true, false_from_ne_true, eq-eqb, eqb-true}
use Rattle.std.proofs.lemmas.Option.{none-some, same_Some, some_pair_parts}
use Rattle.nb_value.specs.declared.value.Value.{Value}
use Rattle.nb_value.specs.declared.pairs.Field.{Field}
use Rattle.nb_value.specs.declared.outcome.Answer.{Answer}
use Rattle.nb_value.specs.declared.outcome.CellError.{CellError}
use Rattle.nb_value.specs.declared.outcome.Outcome.TheVariants.{Value as Shows, Error as Fails}
use Rattle.nb_eval.specs.Evaluation.{Evaluated}
use Rattle.nb_eval.specs.declared.given.Ending.{Ending}
use Rattle.nb_eval.specs.declared.given.Ending.TheVariants.{Paused, Needs, Done, Failed}
use Rattle.nb_sheet.specs.Lists.{Name, nth, put, numbers, from_option, option_then}
use Rattle.nb_sheet.specs.Sheet.{edited_sheet}
use Rattle.nb_log.specs.declared.event.Target.TheVariants.{Ticket as ByTicket, Key as ByKey}
use Rattle.nb_log.specs.declared.event.Event.{Event}
use Rattle.nb_log.specs.declared.event.Event.TheVariants.{Edit as EditEvent, Frame as FrameEvent, Settle, Rest as RestEvent, Dispose as DisposeEvent}
use Rattle.nb_log.specs.declared.entry.Refusal.{Refusal}
use Rattle.nb_log.specs.declared.entry.Entry.{Entry}
use Rattle.nb_log.specs.declared.entry.Entry.TheVariants.{Edit, Frame, Settled, Late, Loaded, Refused, Rest, Dispose, Pending, Fulfilled, Rejected, Asked, Ended, Left}
use Rattle.nb_history.specs.Lists.{first_where}
use Rattle.nb_history.specs.Reading.{Reading, Start, Ticket, start_of, shown, number}
use Rattle.nb_history.specs.Rules.{footing, evaluation, deciding_error, entry_of, evaluated, generates, body_of, pulls_of}
use Rattle.nb_history.specs.Log.{nothing_yet, after, read_from, reading, with_start, change_start, new_start, showing, asking, ending_now, answering, answered, settle, ticket_var, is_live, first_refusal, admitted, admit, Fits, IsLegal}
use Rattle.nb_history.proofs.Closing.{nth_put_other, length_put, range_has, has_number}
use Rattle.nb_history.proofs.Histories.{legal_keeps}
use Rattle.nb_history.proofs.StartsAfter.{start_sheet, start_pulled, pulled_part, changed_itself}
use Rattle.nb_history.proofs.Lawful.{put_cases}
use Rattle.nb_history.proofs.Between.{view}

-- ---- what a live ticket is

-- a ticket that is there, and that its variable's start waits for
pub record Live (r : Reading) (t : ℕ) : Type 0 where
  pub ticket : Ticket
  pub start : Start
  pub there : nth r.tickets t ≡ Some ticket
  pub starts : start_of r ticket.var ≡ Some start
  pub asks : start.ticket ≡ Some t

pub live_asked : (r : Reading) (t : ℕ) → is_live r t ≡ true → Live r t
live_asked r t live = at (nth r.tickets t) refl
  where
    test : Option Start → Bool
    test o = from_option false (λ n. n == t) (option_then o (λ s. s.ticket))

    at : (o : Option Ticket) → nth r.tickets t ≡ o → Live r t
    at None e = absurd (false≢true (ap (λ (o : Option Ticket). test (start_of r (from_option 0 (λ (k : Ticket). k.var) o))) (sym e) ∙ live))
    at (Some k) e = start (start_of r k.var) refl
      where
        here : test (start_of r k.var) ≡ true
        here = ap (λ (o : Option Ticket). test (start_of r (from_option 0 (λ (k : Ticket). k.var) o))) (sym e) ∙ live

        start : (o : Option Start) → start_of r k.var ≡ o → Live r t
        start None p = absurd (false≢true (ap test (sym p) ∙ here))
        start (Some s) p = asked s.ticket refl
          where
            asked : (o : Option ℕ) → s.ticket ≡ o → Live r t
            asked None q = absurd (false≢true (ap (λ (o : Option ℕ). from_option false (λ n. n == t) o) (sym q) ∙ ap test (sym p) ∙ here))
            asked (Some n) q =
                let same : n ≡ t = eqb-true n t (ap (λ (o : Option ℕ). from_option false (λ n. n == t) o) (sym q) ∙ ap test (sym p) ∙ here) in
                record { ticket = k; start = s; there = e; starts = p; asks = q ∙ ap (λ (n : ℕ). Some n) same }

pub live_from : (r : Reading) (t : ℕ) → Live r t → is_live r t ≡ true
live_from r t l =
    ap (λ (o : Option Ticket). from_option false (λ n. n == t) (option_then (start_of r (from_option 0 (λ (k : Ticket). k.var) o)) (λ s. s.ticket))) l.there
    ∙ ap (λ (o : Option Start). from_option false (λ n. n == t) (option_then o (λ s. s.ticket))) l.starts
    ∙ ap (λ (o : Option ℕ). from_option false (λ n. n == t) o) l.asks
    ∙ eq-eqb t t refl

-- where no start waits, no ticket is live
pub none_live : (r : Reading) → ((v : ℕ) (s : Start) → start_of r v ≡ Some s → s.ticket ≡ None) → (t : ℕ) → is_live r t ≡ false
none_live r none t = false_from_ne_true (is_live r t) (λ h. let l : Live r t = live_asked r t h in none-some t (sym (none l.ticket.var l.start l.starts) ∙ l.asks))

-- ---- which ticket a late answer is for, and which one is asked for

late_event : (r : Reading) (n editor t : ℕ) (event : Event) → Late editor t ≡ admitted r n event → is_live r t ≡ false
late_event r n editor t (EditEvent edit) h = absurd (cc)
late_event r n editor t FrameEvent h = absurd (cc)
late_event r n editor t (Settle (ByTicket m) a) h = go (is_live r m) refl
  where
    go : (b : Bool) → is_live r m ≡ b → is_live r t ≡ false
    go true e = let k : Late editor t ≡ Settled n m a = h ∙ ap (λ (l : Bool). cond l (Settled n m a) (Late n m)) e in absurd (cc)
    go false e =
        let k : Late editor t ≡ Late n m = h ∙ ap (λ (l : Bool). cond l (Settled n m a) (Late n m)) e in
        let same : t ≡ m = cc in
        ap (is_live r) same ∙ e
late_event r n editor t (Settle (ByKey key) a) h = absurd (cc)
late_event r n editor t RestEvent h = absurd (cc)
late_event r n editor t DisposeEvent h = absurd (cc)

late_admitted : (r : Reading) (n editor t : ℕ) (event : Event) → Late editor t ≡ admit r n event → is_live r t ≡ false
late_admitted r n editor t event h = go (first_refusal r event) refl
  where
    go : (o : Option Refusal) → first_refusal r event ≡ o → is_live r t ≡ false
    go None e = late_event r n editor t event (h ∙ ap (λ (o : Option Refusal). from_option (admitted r n event) (λ reason. Refused n reason event) o) e)
    go (Some reason) e =
        let k : Late editor t ≡ Refused n reason event = h ∙ ap (λ (o : Option Refusal). from_option (admitted r n event) (λ reason. Refused n reason event) o) e in absurd (cc)

-- a late answer is for a ticket that no start waits for
pub late_dead : (r : Reading) (editor t : ℕ) → Fits r (Late editor t) → is_live r t ≡ false
late_dead r editor t fits = let of = fits.1 in late_admitted r of.0 editor t of.1 of.3

asked_at : (t v : ℕ) (generator first : Bool) (end : Evaluated) (ending : Ending) (u n : ℕ) (key : Name) → Asked u n key ≡ entry_of t v generator first end ending → n ≡ t
asked_at t v generator first end (Needs k) u n key h = cc
asked_at t v generator first end (Failed e) u n key h = absurd (cc)
asked_at t v generator first end Paused u n key h = absurd (cc)
asked_at t v false first end (Done x) u n key h = absurd (cc)
asked_at t v true true end (Done x) u n key h = absurd (cc)
asked_at t v true false end (Done x) u n key h = absurd (cc)

-- a ticket that is asked for is the next one
pub asked_next : (r : Reading) (v t : ℕ) (key : Name) → Fits r (Asked v t key) → t ≡ length r.tickets + 1
asked_next r v t key fits = go (deciding_error r (shown r) v) refl
  where
    go : (o : Option CellError) → deciding_error r (shown r) v ≡ o → t ≡ length r.tickets + 1
    go (Some e) p =
        let is : Asked v t key ≡ Rejected v e = fits.2 ∙ ap (λ (o : Option CellError). from_option (evaluated r v) (λ e. Rejected v e) o) p in absurd (cc)
    go None p =
        let is : Asked v t key ≡ evaluated r v = fits.2 ∙ ap (λ (o : Option CellError). from_option (evaluated r v) (λ e. Rejected v e) o) p in
        asked_at (length r.tickets + 1) v (generates (body_of r.sheet v)) (pulls_of r v == 1) (evaluation r (shown r) v) (evaluation r (shown r) v).ending v t key is

-- ---- the ticket that a start waits for

-- a start's number and the ticket that it waits for
abbrev Waiting : Type 0
Waiting = Option (ℕ × Option ℕ)

abbrev waiting : Option Start → Waiting
waiting o = option_map (λ (s : Start). (s.number, s.ticket)) o

abbrev waits_for : ℕ → ℕ → Waiting
waits_for n t = Some (n, Some t)

-- it is the variable's, asked for by this start, and not settled
pub record Opened (r : Reading) (v n t : ℕ) : Type 0 where
  pub ticket : Ticket
  pub there : nth r.tickets t ≡ Some ticket
  pub var : ticket.var ≡ v
  pub number : ticket.number ≡ n
  pub unsettled : ticket.settled ≡ false

abbrev EachOpened : Reading → Type 0
EachOpened r = (v n t : ℕ) → waiting (start_of r v) ≡ waits_for n t → Opened r v n t

kept_at : (r q : Reading) (v n t : ℕ) → nth q.tickets t ≡ nth r.tickets t → Opened r v n t → Opened q v n t
kept_at r q v n t same o = record { ticket = o.ticket; there = same ∙ o.there; var = o.var; number = o.number; unsettled = o.unsettled }

-- the start that waits for it
record Waits (r : Reading) (v n t : ℕ) : Type 0 where
  start : Start
  there : start_of r v ≡ Some start
  number : start.number ≡ n
  asks : start.ticket ≡ Some t

waits_start : (r : Reading) (v n t : ℕ) → waiting (start_of r v) ≡ waits_for n t → Waits r v n t
waits_start r v n t h = go (start_of r v) refl h
  where
    go : (o : Option Start) → start_of r v ≡ o → waiting o ≡ waits_for n t → Waits r v n t
    go None e k = absurd (none-some (n, Some t) k)
    go (Some s) e k = let p = some_pair_parts s.number n s.ticket (Some t) k in record { start = s; there = e; number = p.0; asks = p.1 }

live_opened : (r : Reading) (v n t : ℕ) → waiting (start_of r v) ≡ waits_for n t → Opened r v n t → is_live r t ≡ true
live_opened r v n t h o =
    let w : Waits r v n t = waits_start r v n t h in
    live_from r t (record { ticket = o.ticket; start = w.start; there = o.there; starts = ap (start_of r) o.var ∙ w.there; asks = w.asks })

-- the starts that wait are those of before, as are the tickets
same_waiting : (r q : Reading) → ((v : ℕ) → waiting (start_of q v) ≡ waiting (start_of r v)) → ((t : ℕ) → nth q.tickets t ≡ nth r.tickets t) → EachOpened r → EachOpened q
same_waiting r q same tickets each v n t h = kept_at r q v n t (tickets t) (each v n t (sym (same v) ∙ h))

not_waiting : (s : Start) (n t : ℕ) → s.ticket ≡ None → waiting (Some s) ≡ waits_for n t → ⊥
not_waiting s n t none h = none-some t (sym none ∙ (some_pair_parts s.number n s.ticket (Some t) h).1)

-- one start changes, and doesn't wait then
put_waiting : (r : Reading) (u : ℕ) (o : Option Start) → ((n t : ℕ) → waiting o ≡ waits_for n t → ⊥) → EachOpened r → EachOpened (with_start r u o)
put_waiting r u o none each v n t h =
    elim (put_cases r u o v) [
      | inl same ↦ kept_at r (with_start r u o) v n t refl (each v n t (ap waiting (sym same) ∙ h))
      | inr p ↦ absurd (none n t (ap waiting (sym p.1) ∙ h))
    ]

settle_other : (r : Reading) (n t : ℕ) → n ≢ t → nth (settle r n).tickets t ≡ nth r.tickets t
settle_other r n t other = go (nth r.tickets n)
  where
    go : (o : Option Ticket) → nth (from_option r.tickets (λ (k : Ticket). put r.tickets n (record k { settled = true })) o) t ≡ nth r.tickets t
    go None = refl
    go (Some k) = nth_put_other r.tickets n t (record k { settled = true }) other

late_opened : (r : Reading) (t : ℕ) → is_live r t ≡ false → EachOpened r → EachOpened (settle r t)
late_opened r t dead each v n m h =
    let o : Opened r v n m = each v n m h in
    elim (cases_eq t m) [
      | inr other ↦ kept_at r (settle r t) v n m (settle_other r t m other) o
      | inl same ↦ absurd (false≢true (sym dead ∙ (ap (is_live r) same ∙ live_opened r v n m h o)))
    ]

answered_opened : (r : Reading) (t : ℕ) (a : Answer) → EachOpened r → EachOpened (answered r t a)
answered_opened r t a each v n m h =
    elim (put_cases (settle r t) u changed v) [
      | inl same ↦
          let before : waiting (start_of r v) ≡ waits_for n m = ap waiting (sym same) ∙ h in
          let o : Opened r v n m = each v n m before in
          elim (cases_eq t m) [
            | inr other ↦ kept_at r (answered r t a) v n m (settle_other r t m other) o
            | inl same_ticket ↦
                let mine : u ≡ v = ap (λ (x : ℕ). ticket_var r x) same_ticket ∙ ap (λ (o : Option Ticket). from_option 0 (λ (k : Ticket). k.var) o) o.there ∙ o.var in
                absurd (stops (start_of (settle r t) u) n m (ap waiting (sym (changed_itself (settle r t) u (answering a))) ∙ ap (λ (x : ℕ). waiting (start_of (answered r t a) x)) mine ∙ h))
          ]
      | inr p ↦ absurd (stops (start_of (settle r t) u) n m (ap waiting (sym p.1) ∙ h))
    ]
  where
    u : ℕ
    u = ticket_var r t

    changed : Option Start
    changed = option_then (start_of (settle r t) u) (λ s. Some (answering a s))

    stops : (o : Option Start) (n m : ℕ) → waiting (option_then o (λ s. Some (answering a s))) ≡ waits_for n m → ⊥
    stops None n m k = none-some (n, Some m) k
    stops (Some s) n m k = not_waiting (answering a s) n m refl k

-- what asks waits for the last ticket
get_end : (xs : List Ticket) (y : Ticket) (i : ℕ) → i ≡ length xs → slice_get (xs ++ y ∷ []) i ≡ Some y
get_end [] y zero h = refl
get_end [] y (suc i) h = absurd (omega (arith, h))
get_end (x ∷ xs) y zero h = absurd (omega (arith, h))
get_end (x ∷ xs) y (suc i) h = get_end xs y i (omega (arith, h))

nth_end : (xs : List Ticket) (y : Ticket) (t : ℕ) → t ≡ length xs + 1 → nth (xs ++ y ∷ []) t ≡ Some y
nth_end xs y zero h = absurd (omega (arith, h))
nth_end xs y (suc i) h = get_end xs y i (omega (arith, h))

get_front : (xs ys : List Ticket) (i : ℕ) (x : Ticket) → slice_get xs i ≡ Some x → slice_get (xs ++ ys) i ≡ Some x
get_front [] ys i x h = absurd (none-some x h)
get_front (z ∷ xs) ys zero x h = h
get_front (z ∷ xs) ys (suc i) x h = get_front xs ys i x h

nth_front : (xs ys : List Ticket) (t : ℕ) (x : Ticket) → nth xs t ≡ Some x → nth (xs ++ ys) t ≡ Some x
nth_front xs ys zero x h = absurd (none-some x h)
nth_front xs ys (suc i) x h = get_front xs ys i x h

module _ (r : Reading) (u t : ℕ) (key : Name) (is_next : t ≡ length r.tickets + 1) (each : EachOpened r) where
  abbrev q : Reading
  q = after r (Asked u t key)

  abbrev asked : Start → Start
  asked = asking r u t

  abbrev new : Ticket
  new = record { var = u; number = number (change_start r u asked) u; key = key; settled = false }

  asked_here : (v n m : ℕ) → u ≡ v → waiting (option_then (start_of r u) (λ s. Some (asked s))) ≡ waits_for n m → Opened q v n m
  asked_here v n m same h = go (start_of r u) refl h
    where
      go : (o : Option Start) → start_of r u ≡ o → waiting (option_then o (λ s. Some (asked s))) ≡ waits_for n m → Opened q v n m
      go None e k = absurd (none-some (n, Some m) k)
      go (Some s) e k =
          let p = some_pair_parts s.number n (Some t) (Some m) k in
          let at : t ≡ m = same_Some t m p.1 in
          let numbered : number (change_start r u asked) u ≡ n =
          ap (λ (o : Option Start). from_option 0 (λ (s : Start). s.number) o) (changed_itself r u asked ∙ ap (λ (o : Option Start). option_then o (λ s. Some (asked s))) e) ∙ p.0 in
          record { ticket = new; there = nth_end r.tickets new m (sym at ∙ is_next); var = same; number = numbered; unsettled = refl }

  asked_opened : EachOpened q
  asked_opened v n m h =
      elim (put_cases r u (option_then (start_of r u) (λ s. Some (asked s))) v) [
        | inl same ↦
            let o : Opened r v n m = each v n m (ap waiting (sym same) ∙ h) in
            record { ticket = o.ticket; there = nth_front r.tickets (new ∷ []) m o.ticket o.there; var = o.var; number = o.number; unsettled = o.unsettled }
        | inr p ↦ asked_here v n m p.0 (ap waiting (sym p.1) ∙ h)
      ]

opened_after : (r : Reading) (e : Entry) → EachOpened r → Fits r e → EachOpened (after r e)
opened_after r (Edit editor edit) each fits = same_waiting r (after r (Edit editor edit)) (λ v. ap waiting (start_sheet r (edited_sheet r.sheet edit (r.entries + 1)) v)) (λ t. refl) each
opened_after r (Frame editor) each fits = same_waiting r (after r (Frame editor)) (λ v. ap waiting (start_pulled r v) ∙ pulled_part waiting (λ s. refl) r v (start_of r v)) (λ t. refl) each
opened_after r (Settled editor t a) each fits = same_waiting (answered r t a) (after r (Settled editor t a)) (λ v. refl) (λ t. refl) (answered_opened r t a each)
opened_after r (Loaded t a) each fits = same_waiting (answered r t a) (after r (Loaded t a)) (λ v. refl) (λ t. refl) (answered_opened r t a each)
opened_after r (Late editor t) each fits = same_waiting (settle r t) (after r (Late editor t)) (λ v. refl) (λ t. refl) (late_opened r t (late_dead r editor t fits) each)
opened_after r (Refused editor reason event) each fits = same_waiting r (after r (Refused editor reason event)) (λ v. refl) (λ t. refl) each
opened_after r (Rest editor) each fits = same_waiting r (after r (Rest editor)) (λ v. refl) (λ t. refl) each
opened_after r (Dispose editor) each fits = same_waiting r (after r (Dispose editor)) (λ v. refl) (λ t. refl) each
opened_after r (Pending u d) each fits =
    let new : Start = new_start (r.entries + 1) (footing r u) in
    same_waiting (with_start r u (Some new)) (after r (Pending u d)) (λ v. refl) (λ t. refl) (put_waiting r u (Some new) (λ n t. not_waiting new n t refl) each)
opened_after r (Left u d) each fits = same_waiting (with_start r u None) (after r (Left u d)) (λ v. refl) (λ t. refl) (put_waiting r u None (λ n t h. none-some (n, Some t) h) each)
opened_after r (Fulfilled u x) each fits = same_waiting r (after r (Fulfilled u x)) (view r u (showing r u (Shows x)) waiting (λ s e. refl)) (λ t. refl) each
opened_after r (Rejected u x) each fits = same_waiting r (after r (Rejected u x)) (view r u (showing r u (Fails x)) waiting (λ s e. refl)) (λ t. refl) each
opened_after r (Ended u) each fits = same_waiting r (after r (Ended u)) (view r u (ending_now r u) waiting (λ s e. refl)) (λ t. refl) each
opened_after r (Asked u t key) each fits = asked_opened r u t key (asked_next r u t key fits) each

none_opened : (builtins : List (Field Value)) → EachOpened (nothing_yet builtins)
none_opened builtins zero n t h = absurd (none-some (n, Some t) h)
none_opened builtins (suc i) n t h = absurd (none-some (n, Some t) h)

-- ---- how many tickets

settled_length : (r : Reading) (t : ℕ) → length (settle r t).tickets ≡ length r.tickets
settled_length r t = go (nth r.tickets t)
  where
    go : (o : Option Ticket) → length (from_option r.tickets (λ (k : Ticket). put r.tickets t (record k { settled = true })) o) ≡ length r.tickets
    go None = refl
    go (Some k) = length_put r.tickets t (record k { settled = true })

-- at most one for each entry
one_ticket : (r : Reading) (e : Entry) → length (after r e).tickets ≤ length r.tickets + 1
one_ticket r (Edit editor edit) = omega arith
one_ticket r (Frame editor) = omega arith
one_ticket r (Settled editor t a) = omega (arith, settled_length r t)
one_ticket r (Loaded t a) = omega (arith, settled_length r t)
one_ticket r (Late editor t) = omega (arith, settled_length r t)
one_ticket r (Refused editor reason event) = omega arith
one_ticket r (Rest editor) = omega arith
one_ticket r (Dispose editor) = omega arith
one_ticket r (Pending u d) = omega arith
one_ticket r (Fulfilled u x) = omega arith
one_ticket r (Rejected u x) = omega arith
one_ticket r (Ended u) = omega arith
one_ticket r (Left u d) = omega arith
one_ticket r (Asked u t key) =
    let new : Ticket = record { var = u; number = number (change_start r u (asking r u t)) u; key = key; settled = false } in
    let more : length (r.tickets ++ new ∷ []) ≡ length r.tickets + length (new ∷ []) = length-append r.tickets (new ∷ []) in
    omega (arith, more)

tickets_from : (r : Reading) (es : List Entry) → length (read_from r es).tickets ≤ length r.tickets + length es
tickets_from r [] = omega arith
tickets_from r (e ∷ es) = omega (arith, tickets_from (after r e) es, one_ticket r e)

pub few_tickets : (builtins : List (Field Value)) (log : List Entry) → length (reading builtins log).tickets ≤ length log
few_tickets builtins log = omega (arith, tickets_from (nothing_yet builtins) log)

-- ---- in a legal log

module _ (builtins : List (Field Value)) (log : List Entry) (legal : IsLegal builtins log) where
  each_opened : EachOpened (reading builtins log)
  each_opened = legal_keeps EachOpened opened_after (nothing_yet builtins) log (none_opened builtins) legal

  waits_here : (v t : ℕ) (s : Start) → start_of (reading builtins log) v ≡ Some s → s.ticket ≡ Some t → waiting (start_of (reading builtins log) v) ≡ waits_for s.number t
  waits_here v t s there asks = ap waiting there ∙ ap (λ (o : Option ℕ). Some (s.number, o)) asks

  -- the ticket that a start waits for is there, of its variable, and not settled
  pub open_ticket : (v t : ℕ) (s : Start) → start_of (reading builtins log) v ≡ Some s → s.ticket ≡ Some t → Opened (reading builtins log) v s.number t
  open_ticket v t s there asks = each_opened v s.number t (waits_here v t s there asks)

  -- so it is live
  pub open_live : (v t : ℕ) (s : Start) → start_of (reading builtins log) v ≡ Some s → s.ticket ≡ Some t → is_live (reading builtins log) t ≡ true
  open_live v t s there asks = live_opened (reading builtins log) v s.number t (waits_here v t s there asks) (open_ticket v t s there asks)

  -- and each live ticket is such a one
  pub live_unsettled : (t : ℕ) → is_live (reading builtins log) t ≡ true → (l : Live (reading builtins log) t) × (l.ticket.settled ≡ false) × (l.ticket.number ≡ l.start.number)
  live_unsettled t live =
      let l : Live (reading builtins log) t = live_asked (reading builtins log) t live in
      let o : Opened (reading builtins log) l.ticket.var l.start.number t = open_ticket l.ticket.var t l.start l.starts l.asks in
      let same : o.ticket ≡ l.ticket = same_Some o.ticket l.ticket (sym o.there ∙ l.there) in
      (l, ap (λ (k : Ticket). k.settled) (sym same) ∙ o.unsettled, ap (λ (k : Ticket). k.number) (sym same) ∙ o.number)

-- ---- the least live ticket, by the starts

first_least : (test : ℕ → Bool) (a n t : ℕ) → test t ≡ true → a ≤ t → t < a + n → ((u : ℕ) → u < t → test u ≡ false) → first_where test (range_with_len a n) ≡ Some t
first_least test a zero t is low high least = absurd (omega (arith, low, high))
first_least test a (suc n) t is low high least =
    elim (cases_eq a t) [
      | inl same ↦ ap (λ (x : ℕ). cond (test x) (Some x) (first_where test (range_with_len (a + 1) n))) same ∙ ap (λ (b : Bool). cond b (Some t) (first_where test (range_with_len (a + 1) n))) is
      | inr other ↦
          let less : a < t = omega (arith, low, other) in
          ap (λ (b : Bool). cond b (Some a) (first_where test (range_with_len (a + 1) n))) (least a less)
          ∙ first_least test (a + 1) n t is (omega (arith, less)) (omega (arith, high)) least
    ]

first_no : (test : ℕ → Bool) (xs : List ℕ) → ((t : ℕ) → test t ≡ false) → first_where test xs ≡ None
first_no test [] h = refl
first_no test (x ∷ xs) h = ap (λ (b : Bool). cond b (Some x) (first_where test xs)) (h x) ∙ first_no test xs h

module _ (r : Reading) (keyed : ℕ → Bool) where
  abbrev found : ℕ → Bool
  found t = is_live r t && keyed t

  -- it is the least that a start waits for, of those with the key
  pub first_live : (t : ℕ) → is_live r t ≡ true → keyed t ≡ true → ((v n : ℕ) (s : Start) → start_of r v ≡ Some s → s.ticket ≡ Some n → keyed n ≡ true → t ≤ n) → first_where found (numbers r.tickets) ≡ Some t
  first_live t live key least =
      let l : Live r t = live_asked r t live in
      let within : (1 ≤ t) × (t < 1 + length r.tickets) = range_has 1 (length r.tickets) t (has_number r.tickets t l.ticket l.there) in
      first_least found 1 (length r.tickets) t (and_from (is_live r t) (keyed t) live key) within.0 within.1
      (λ u less. false_from_ne_true (found u) (λ h.
      let p : (is_live r u ≡ true) × (keyed u ≡ true) = and_parts (is_live r u) (keyed u) h in
      let k : Live r u = live_asked r u p.0 in
      absurd (omega (arith, less, least k.ticket.var u k.start k.starts k.asks p.1))))

  -- there is none where no start waits for one with the key
  pub no_live : ((v n : ℕ) (s : Start) → start_of r v ≡ Some s → s.ticket ≡ Some n → keyed n ≡ false) → first_where found (numbers r.tickets) ≡ None
  no_live none = first_no found (numbers r.tickets) (λ t. false_from_ne_true (found t) (λ h.
      let p : (is_live r t ≡ true) × (keyed t ≡ true) = and_parts (is_live r t) (keyed t) h in
      let l : Live r t = live_asked r t p.0 in
      false≢true (sym (none l.ticket.var t l.start l.starts l.asks) ∙ p.1)))
