-- Between two notices of a start: it waits for an answer or a pull, and takes one.
use Rattle.std.proofs.Common.{inl, inr, ℕ, ◌≡◌, ◌+◌, ◌≤◌, eqb, refl, sym, ◌∙◌, ap, subst, Bool, true, false, not, ◌&&◌, ◌⊎◌, List, [], ◌∷◌, ◌++◌, arith, Option, Some, None, is_some}
use Rattle.std.proofs.lemmas.Bool.{false≢true, and_parts, not-true, eq-eqb}
use Rattle.std.proofs.lemmas.Option.{none-some, same_Some}
use Rattle.nb_value.specs.declared.value.Value.{Value}
use Rattle.nb_value.specs.declared.pairs.Field.{Field}
use Rattle.nb_value.specs.declared.outcome.Answer.{Answer}
use Rattle.nb_value.specs.declared.outcome.Outcome.TheVariants.{Value as Shows, Error as Fails}
use Rattle.nb_sheet.specs.Lists.{nth, from_option, option_then}
use Rattle.nb_history.specs.Reading.{Reading, Start, start_of, number}
use Rattle.nb_history.specs.Rules.{ready, generates, body_of, answers_of, pulls_of}
use Rattle.nb_history.specs.Log.{after, read_from, reading, change_start, showing, asking, ending_now, answering, ticket_var, settle, shows_value, is_live, Fits, LegalFrom, IsLegal}
use Rattle.nb_history.specs.Starts.{is_notice_of}
use Rattle.nb_history.specs.Parked.{NoNoticeOf, AskGoesOn, ValueGoesOn}
use Rattle.nb_log.specs.Printing.{entry_size}
use Rattle.nb_log.specs.declared.entry.Entry.{Entry}
use Rattle.nb_log.specs.declared.entry.Entry.TheVariants.{Edit, Frame, Settled, Late, Loaded, Refused, Rest, Dispose, Pending, Fulfilled, Rejected, Asked, Ended, Left}
use Rattle.nb_history.proofs.Closing.{nth_put_same}
use Rattle.nb_history.proofs.Lawful.{start_step, one_more_entry, change_cases, grown_earlier, put_cases, number_at}
use Rattle.nb_history.proofs.Sites.{Holds}
use Rattle.nb_history.proofs.LaterSheets.{same_later}
use Rattle.nb_history.proofs.Steady.{start_there}
use Rattle.nb_history.proofs.StartSteps.{pulled_on}
use Rattle.nb_history.proofs.SteadyNotices.{Ready, ready_start, live_start}
use Rattle.nb_history.proofs.SteadyEvents.{Becomes, becomes, pulled_is, may_be_pulled, ticket_none, settled_live}
use Rattle.nb_history.proofs.RestHolds.{Stands, stands_log}

-- ---- what an entry that is no notice of v makes of v's start

abbrev pub Goes : Start → Start → Type 0
Goes s t = (t ≡ s) ⊎ ((a : Answer) × (t ≡ answering a s) × (is_some s.ticket ≡ true)) ⊎ ((t ≡ pulled_on s) × (s.running ≡ false) × (s.ticket ≡ None))

pub record From (r : Reading) (v : ℕ) (t : Start) : Type 0 where
  pub start : Start
  pub there : start_of r v ≡ Some start
  pub goes : Goes start t

as_it_was : (r : Reading) (v : ℕ) (t : Start) → start_of r v ≡ Some t → From r v t
as_it_was r v t h = record { start = t; there = h; goes = inl refl }

-- another variable's change
elsewhere : (r : Reading) (u : ℕ) (change : Start → Start) (v : ℕ) (t : Start) → eqb u v ≡ false → start_of (change_start r u change) v ≡ Some t → From r v t
elsewhere r u change v t other h = elim (change_cases r u change v t h) [
  | inl same ↦ as_it_was r v t same
  | inr p ↦ absurd (false≢true (sym other ∙ eq-eqb u v p.1))
]

answered_from : (r : Reading) (n : ℕ) (a : Answer) (v : ℕ) (t : Start) → is_live r n ≡ true → start_of (change_start (settle r n) (ticket_var r n) (answering a)) v ≡ Some t → From r v t
answered_from r n a v t live h = elim (change_cases (settle r n) (ticket_var r n) (answering a) v t h) [
  | inl same ↦ as_it_was r v t same
  | inr p ↦
      let q : (s : Start) × (start_of r (ticket_var r n) ≡ Some s) × (is_some s.ticket ≡ true) = live_start r n live in
      let one : q.0 ≡ p.0 = same_Some q.0 p.0 (sym q.1 ∙ ap (start_of r) p.1 ∙ p.2) in
      record { start = p.0; there = p.2; goes = inr (inl (a, p.3, subst (λ (z : Start). is_some z.ticket ≡ true) one q.2)) }
]

framed_from : (r : Reading) (size v : ℕ) (t : Start) → Becomes r v t → From r v t
framed_from r size v t b = record {
  start = b.old;
  there = b.there;
  goes = elim b.how [
    | inl same ↦ inl same
    | inr more ↦ inr (inr (idle more.0 more.1))
  ];
}
  where
    idle : t ≡ pulled_on b.old → may_be_pulled r v b.old ≡ true → (t ≡ pulled_on b.old) × (b.old.running ≡ false) × (b.old.ticket ≡ None)
    idle is may =
        let s = b.old in
        let g = generates (body_of r.sheet v) in
        let x = and_parts (g && shows_value s.shown && not s.ended && not s.running) (not (is_some s.ticket)) may in
        let y = and_parts (g && shows_value s.shown && not s.ended) (not s.running) x.0 in
        (is, not-true s.running y.1, ticket_none s.ticket (not-true (is_some s.ticket) x.1))

goes_from : (r : Reading) (e : Entry) → Fits r e → (v : ℕ) (t : Start) → is_notice_of v e ≡ false → start_of (after r e) v ≡ Some t → t.number ≤ r.entries → From r v t
goes_from r (Left u d) fits v t other h small = elim (start_step r (Left u d) fits v t h) [
  | inr new ↦ let p : t.number ≡ r.entries + 1 = ap (λ (z : Start). z.number) new.start in absurd (omega (arith, p, small))
  | inl old ↦ elim (put_cases r u None v) [
    | inl same ↦ as_it_was r v t (sym same ∙ h)
    | inr p ↦ absurd (none-some t (sym p.1 ∙ h))
  ]
]
goes_from r (Pending u d) fits v t other h small = elim (start_step r (Pending u d) fits v t h) [
  | inr new ↦ let p : t.number ≡ r.entries + 1 = ap (λ (z : Start). z.number) new.start in absurd (omega (arith, p, small))
  | inl old ↦ elim (put_cases r u _ v) [
    | inl same ↦ as_it_was r v t (sym same ∙ h)
    | inr p ↦ let q : t.number ≡ r.entries + 1 = ap (λ (o : Option Start). from_option 0 (λ (s : Start). s.number) o) (sym h ∙ p.1) in absurd (omega (arith, q, small))
  ]
]
goes_from r (Fulfilled u x) fits v t other h small = elsewhere r u (showing r u (Shows x)) v t other h
goes_from r (Rejected u d) fits v t other h small = elsewhere r u (showing r u (Fails d)) v t other h
goes_from r (Asked u n key) fits v t other h small = elsewhere r u (asking r u n) v t other h
goes_from r (Ended u) fits v t other h small = elsewhere r u (ending_now r u) v t other h
goes_from r (Edit editor edit) fits v t other h small = as_it_was r v t (grown_earlier r (after r (Edit editor edit)).sheet v t h)
goes_from r (Frame editor) fits v t other h small =
    framed_from r 0 v t (becomes r v t (sym (pulled_is r (r.size + entry_size (Frame editor)) v) ∙ h))
goes_from r (Settled editor n a) fits v t other h small = answered_from r n a v t (settled_live r fits.1.0 editor n a fits.1.1 fits.1.3) h
goes_from r (Loaded n a) fits v t other h small = answered_from r n a v t fits.1 h
goes_from r (Late editor n) fits v t other h small = as_it_was r v t h
goes_from r (Refused editor reason event) fits v t other h small = as_it_was r v t h
goes_from r (Rest editor) fits v t other h small = as_it_was r v t h
goes_from r (Dispose editor) fits v t other h small = as_it_was r v t h

-- ---- what goes on so

-- v's start of number n, if it is still there
abbrev Still : (Start → Type 0) → ℕ → ℕ → Reading → Type 0
Still P n v r = (s : Start) → start_of r v ≡ Some s → s.number ≡ n → P s

abbrev Closed : (Start → Type 0) → Type 0
Closed P = (s t : Start) → Goes s t → P s → P t

number_stays : (s t : Start) → Goes s t → t.number ≡ s.number
number_stays s t (inl same) = ap (λ (z : Start). z.number) same
number_stays s t (inr (inl p)) = ap (λ (z : Start). z.number) p.1
number_stays s t (inr (inr p)) = ap (λ (z : Start). z.number) p.0

module _ (P : Start → Type 0) (closed : Closed P) (n v : ℕ) where
  goes_on : (r : Reading) (es : List Entry) → n ≤ r.entries → LegalFrom r es → NoNoticeOf v es → Still P n v r → Still P n v (read_from r es)
  goes_on r [] past legal none h = h
  goes_on r (e ∷ es) past legal none h =
      goes_on (after r e) es (omega (arith, past, one_more_entry r e)) legal.1 none.1
      (λ t at num.
      let f : From r v t = goes_from r e legal.0 v t none.0 at (omega (arith, num, past)) in
      closed f.start t f.goes (h f.start f.there (sym (number_stays f.start t f.goes) ∙ num)))

-- what waits with these answers, and what goes on with these
record Waits (answers : List Answer) (pulls : ℕ) (asks : Bool) (s : Start) : Type 0 where
  answers_are : s.answers ≡ answers
  pulls_are : s.pulls ≡ pulls
  idle : s.running ≡ false
  asks_so : is_some s.ticket ≡ asks

record Runs (s : Start) : Type 0 where
  runs : s.running ≡ true
  calm : s.ticket ≡ None

abbrev Asks : List Answer → ℕ → Start → Type 0
Asks answers pulls s = Waits answers pulls true s ⊎ (Runs s × ((a : Answer) × (s.answers ≡ answers ++ a ∷ [])) × (s.pulls ≡ pulls))

abbrev Shown : List Answer → ℕ → Start → Type 0
Shown answers pulls s = Waits answers pulls false s ⊎ (Runs s × (s.answers ≡ answers) × (s.pulls ≡ pulls + 1))

none_asks : (o : Option ℕ) → o ≡ None → is_some o ≡ true → ⊥
none_asks o e h = false≢true (ap (λ (o : Option ℕ). is_some o) (sym e) ∙ h)

asks_closed : (answers : List Answer) (pulls : ℕ) → Closed (Asks answers pulls)
asks_closed answers pulls s t (inl same) h = subst (λ (z : Start). Asks answers pulls z) (sym same) h
asks_closed answers pulls s t (inr (inl p)) (inl w) =
    subst (λ (z : Start). Asks answers pulls z) (sym p.1)
    (inr (record { runs = refl; calm = refl }, (p.0, ap (λ (xs : List Answer). xs ++ p.0 ∷ []) w.answers_are), w.pulls_are))
asks_closed answers pulls s t (inr (inl p)) (inr q) = absurd (none_asks s.ticket (Runs.calm q.0) p.2)
asks_closed answers pulls s t (inr (inr p)) (inl w) = absurd (none_asks s.ticket p.2 w.asks_so)
asks_closed answers pulls s t (inr (inr p)) (inr q) = absurd (false≢true (sym p.1 ∙ Runs.runs q.0))

shown_closed : (answers : List Answer) (pulls : ℕ) → Closed (Shown answers pulls)
shown_closed answers pulls s t (inl same) h = subst (λ (z : Start). Shown answers pulls z) (sym same) h
shown_closed answers pulls s t (inr (inl p)) (inl w) = absurd (false≢true (sym w.asks_so ∙ p.2))
shown_closed answers pulls s t (inr (inl p)) (inr q) = absurd (none_asks s.ticket (Runs.calm q.0) p.2)
shown_closed answers pulls s t (inr (inr p)) (inl w) =
    subst (λ (z : Start). Shown answers pulls z) (sym p.0)
    (inr (record { runs = refl; calm = p.2 }, w.answers_are, ap (λ (n : ℕ). n + 1) w.pulls_are))
shown_closed answers pulls s t (inr (inr p)) (inr q) = absurd (false≢true (sym p.1 ∙ Runs.runs q.0))

-- ---- from a notice to the next

changed_self : (r : Reading) (v : ℕ) (s : Start) (change : Start → Start) → start_of r v ≡ Some s → start_of (change_start r v change) v ≡ Some (change s)
changed_self r v s change there =
    ap (λ (o : Option (Option Start)). option_then o (λ s. s)) (nth_put_same r.starts v (Some s) (option_then (start_of r v) (λ s. Some (change s))) (start_there (nth r.starts v) s there))
    ∙ ap (λ (o : Option Start). option_then o (λ s. Some (change s))) there

answers_at : (r : Reading) (v : ℕ) (s : Start) → start_of r v ≡ Some s → answers_of r v ≡ s.answers
answers_at r v s there = ap (λ (o : Option Start). from_option [] (λ (s : Start). s.answers) o) there

pulls_at : (r : Reading) (v : ℕ) (s : Start) → start_of r v ≡ Some s → pulls_of r v ≡ s.pulls
pulls_at r v s there = ap (λ (o : Option Start). from_option 0 (λ (s : Start). s.pulls) o) there

-- v's start after a notice of it at r, and what is ready at the end
module _ (builtins : List (Field Value)) (log : List Entry) (legal : IsLegal builtins log) (v : ℕ) (is_ready : ready (reading builtins log) v ≡ true) where
  abbrev r : Reading
  r = reading builtins log

  h : Stands r
  h = stands_log builtins log legal

  abbrev go : Ready r v
  go = ready_start r v is_ready

  calm_ticket : go.start.ticket ≡ None
  calm_ticket = Holds.alone (h.steady.holds v go.start go.there r.sheet (same_later r.sheet r.entries) (sym go.calm)) go.runs

  module _ (P : Start → Type 0) (closed : Closed P) (e : Entry) (es : List Entry) (here : Start) (at : start_of (after r e) v ≡ Some here) (more : LegalFrom (after r e) es) (none : NoNoticeOf v es)
      (numbered : number (read_from (after r e) es) v ≡ number r v) (then : ready (read_from (after r e) es) v ≡ true) (first : P here) where
    abbrev last : Ready (read_from (after r e) es) v
    last = ready_start (read_from (after r e) es) v then

    at_last : P last.start
    at_last =
        goes_on P closed go.start.number v (after r e) es (omega (arith, (h.law.placed v go.start go.there).1, one_more_entry r e)) more none
        (λ s there num. subst P (same_Some here s (sym at ∙ there)) first)
        last.start last.there (sym (number_at (read_from (after r e) es) v last.start last.there) ∙ numbered ∙ number_at r v go.start go.there)

pub ask_goes_on : AskGoesOn
ask_goes_on builtins log es v t key legal more none numbered then =
    let f : Reading = reading builtins log in
    let e : Entry = Asked v t key in
    let is_ready : ready f v ≡ true = more.0.1 in
    let s : Ready f v = ready_start f v is_ready in
    let q : Ready (read_from (after f e) es) v = ready_start (read_from (after f e) es) v then in
    let end : Asks s.start.answers s.start.pulls q.start =
    at_last builtins log legal v is_ready (Asks s.start.answers s.start.pulls) (asks_closed s.start.answers s.start.pulls) e es (asking f v t s.start)
    (changed_self f v s.start (asking f v t) s.there) more.1 none numbered then
    (inl (record { answers_are = refl; pulls_are = refl; idle = refl; asks_so = refl })) in
    told f (read_from (after f e) es) s q end
  where
    told : (f l : Reading) (s : Ready f v) (q : Ready l v) → Asks s.start.answers s.start.pulls q.start
        → (a : Answer) × (answers_of l v ≡ answers_of f v ++ a ∷ []) × (pulls_of l v ≡ pulls_of f v)
    told f l s q (inl w) = absurd (false≢true (sym (Waits.idle w) ∙ q.runs))
    told f l s q (inr p) = (
      p.1.0,
      answers_at l v q.start q.there ∙ p.1.1 ∙ ap (λ (xs : List Answer). xs ++ p.1.0 ∷ []) (sym (answers_at f v s.start s.there)),
      pulls_at l v q.start q.there ∙ p.2 ∙ sym (pulls_at f v s.start s.there),
    )

pub value_goes_on : ValueGoesOn
value_goes_on builtins log es v x legal more none numbered then =
    let f : Reading = reading builtins log in
    let e : Entry = Fulfilled v x in
    let is_ready : ready f v ≡ true = more.0.1 in
    let s : Ready f v = ready_start f v is_ready in
    let q : Ready (read_from (after f e) es) v = ready_start (read_from (after f e) es) v then in
    let end : Shown s.start.answers s.start.pulls q.start =
    at_last builtins log legal v is_ready (Shown s.start.answers s.start.pulls) (shown_closed s.start.answers s.start.pulls) e es (showing f v (Shows x) s.start)
    (changed_self f v s.start (showing f v (Shows x)) s.there) more.1 none numbered then
    (inl (record { answers_are = refl; pulls_are = refl; idle = refl; asks_so = ap (λ (o : Option ℕ). is_some o) (calm_ticket builtins log legal v is_ready) })) in
    told f (read_from (after f e) es) s q end
  where
    told : (f l : Reading) (s : Ready f v) (q : Ready l v) → Shown s.start.answers s.start.pulls q.start
        → (answers_of l v ≡ answers_of f v) × (pulls_of l v ≡ pulls_of f v + 1)
    told f l s q (inl w) = absurd (false≢true (sym (Waits.idle w) ∙ q.runs))
    told f l s q (inr p) = (
      answers_at l v q.start q.there ∙ p.1 ∙ sym (answers_at f v s.start s.there),
      pulls_at l v q.start q.there ∙ p.2 ∙ ap (λ (n : ℕ). n + 1) (sym (pulls_at f v s.start s.there)),
    )
