-- Frames, answers from outside and disposal keep what holds after every legal log.
use Rattle.std.proofs.Common.{inl, inr, ℕ, zero, suc, ◌≡◌, ◌+◌, refl, sym, ◌∙◌, ap, subst, Bool, true, false, cond, not, ◌&&◌, ◌⊎◌, List, [], ◌∷◌, arith, Option, Some, None, is_some}
use Rattle.std.specs.Prelude.{slice_get}
use Rattle.std.specs.Str.{bytes_eq}
use Rattle.std.proofs.lemmas.Bool.{false≢true, and_parts, not-true}
use Rattle.std.proofs.lemmas.Option.{none-some, same_Some}
use Rattle.nb_value.specs.declared.outcome.Answer.{Answer}
use Rattle.nb_sheet.specs.Lists.{Name, nth, numbers, from_option, option_then, or_else}
use Rattle.nb_sheet.specs.Sheet.{Sheet}
use Rattle.nb_history.specs.Reading.{Reading, Start, Footing, Ticket, start_of, shown, number, renewal, is_full}
use Rattle.nb_history.specs.Rules.{place_of, generates, body_of}
use Rattle.nb_history.specs.Log.{after, pulled, pulled_from, shows_value, is_live, live_of_key, event_refusal, first_refusal, admitted, admit, when}
use Rattle.nb_log.specs.declared.event.Target.TheVariants.{Ticket as ByTicket, Key as ByKey}
use Rattle.nb_log.specs.declared.event.Event.{Event}
use Rattle.nb_log.specs.declared.event.Event.TheVariants.{Edit as EditEvent, Frame as FrameEvent, Settle, Rest as RestEvent, Dispose as DisposeEvent}
use Rattle.nb_log.specs.declared.entry.Refusal.{Refusal}
use Rattle.nb_log.specs.declared.entry.Refusal.TheVariants.{Disposed, LogFull, NoAsk}
use Rattle.nb_log.specs.declared.entry.Entry.TheVariants.{Settled, Late, Refused, Dispose}
use Rattle.nb_history.proofs.Closing.{first_some, footing_agree}
use Rattle.nb_history.proofs.Sites.{Site, Holds, site_of}
use Rattle.nb_history.proofs.LaterSheets.{IsLater, less_late, body_kept}
use Rattle.nb_history.proofs.StartSteps.{pulled_on, pull_holds}
use Rattle.nb_history.proofs.Steady.{Steady, Within, within_more, more_placed, rests_on, later, site_agree}

-- ---- a frame

get_pulled : (r : Reading) (k : ℕ) (starts : List (Option Start)) (i : ℕ) → option_then (slice_get (pulled_from r k starts) i) (λ s. s) ≡ pulled r (k + i) (option_then (slice_get starts i) (λ s. s))
get_pulled r k [] i = refl
get_pulled r k (s ∷ starts) zero = let e : k ≡ k + 0 = omega arith in ap (λ (n : ℕ). pulled r n s) e
get_pulled r k (s ∷ starts) (suc i) =
    let e : k + 1 + i ≡ k + suc i = omega arith in
    get_pulled r (k + 1) starts i ∙ ap (λ (n : ℕ). pulled r n (option_then (slice_get starts i) (λ s. s))) e

-- each start is pulled, or stays
pub pulled_is : (r : Reading) (size v : ℕ) → start_of (later r (pulled_from r 1 r.starts) r.tickets size) v ≡ pulled r v (start_of r v)
pulled_is r size zero = refl
pulled_is r size (suc i) =
    let e : 1 + i ≡ suc i = omega arith in
    get_pulled r 1 r.starts i ∙ ap (λ (n : ℕ). pulled r n (option_then (slice_get r.starts i) (λ s. s))) e

shown_cond : (b : Bool) (s : Start) → option_then (cond b (Some (pulled_on s)) (Some s)) (λ s. s.shown) ≡ s.shown
shown_cond true s = refl
shown_cond false s = refl

renewal_cond : (b : Bool) (s : Start) → from_option 0 (λ (s : Start). s.renewal) (cond b (Some (pulled_on s)) (Some s)) ≡ s.renewal
renewal_cond true s = refl
renewal_cond false s = refl

number_cond : (b : Bool) (s : Start) → from_option 0 (λ (s : Start). s.number) (cond b (Some (pulled_on s)) (Some s)) ≡ s.number
number_cond true s = refl
number_cond false s = refl

abbrev pub may_be_pulled : Reading → ℕ → Start → Bool
may_be_pulled r v s = generates (body_of r.sheet v) && shows_value s.shown && not s.ended && not s.running && not (is_some s.ticket)

pub pulled_shown : (r : Reading) (v : ℕ) (o : Option Start) → option_then (pulled r v o) (λ s. s.shown) ≡ option_then o (λ s. s.shown)
pulled_shown r v None = refl
pulled_shown r v (Some s) = shown_cond (may_be_pulled r v s) s

pub pulled_number : (r : Reading) (v : ℕ) (o : Option Start) → from_option 0 (λ (s : Start). s.number) (pulled r v o) ≡ from_option 0 (λ (s : Start). s.number) o
pulled_number r v None = refl
pulled_number r v (Some s) = number_cond (may_be_pulled r v s) s

pub pulled_renewal : (r : Reading) (v : ℕ) (o : Option Start) → from_option 0 (λ (s : Start). s.renewal) (pulled r v o) ≡ from_option 0 (λ (s : Start). s.renewal) o
pulled_renewal r v None = refl
pulled_renewal r v (Some s) = renewal_cond (may_be_pulled r v s) s

-- what a start becomes
pub record Becomes (r : Reading) (v : ℕ) (s : Start) : Type 0 where
  pub old : Start
  pub there : start_of r v ≡ Some old
  pub how : (s ≡ old) ⊎ ((s ≡ pulled_on old) × (may_be_pulled r v old ≡ true))

by_test : (b : Bool) (old s : Start) → cond b (Some (pulled_on old)) (Some old) ≡ Some s → (s ≡ old) ⊎ ((s ≡ pulled_on old) × (b ≡ true))
by_test true old s h = inr (sym (same_Some (pulled_on old) s h), refl)
by_test false old s h = inl (sym (same_Some old s h))

pub becomes : (r : Reading) (v : ℕ) (s : Start) → pulled r v (start_of r v) ≡ Some s → Becomes r v s
becomes r v s h = go (start_of r v) refl
  where
    go : (o : Option Start) → start_of r v ≡ o → Becomes r v s
    go None e = absurd (none-some s (ap (pulled r v) (sym e) ∙ h))
    go (Some old) e = record { old = old; there = e; how = by_test (may_be_pulled r v old) old s (ap (pulled r v) (sym e) ∙ h) }

pub ticket_none : (o : Option ℕ) → is_some o ≡ false → o ≡ None
ticket_none None h = refl
ticket_none (Some n) h = absurd (false≢true (sym h))

pulled_holds : (r : Reading) (v : ℕ) (x : Site) (s : Start) → Site.body x ≡ body_of r.sheet v → may_be_pulled r v s ≡ true → Holds x s → Holds x (pulled_on s)
pulled_holds r v x s same may h =
    let g = generates (body_of r.sheet v) in
    let a = and_parts (g && shows_value s.shown && not s.ended && not s.running) (not (is_some s.ticket)) may in
    let b = and_parts (g && shows_value s.shown && not s.ended) (not s.running) a.0 in
    let c = and_parts (g && shows_value s.shown) (not s.ended) b.0 in
    let d = and_parts g (shows_value s.shown) c.0 in
    pull_holds x s (ap generates same ∙ d.0) d.1 (not-true s.ended c.1) (not-true s.running b.1) (ticket_none s.ticket (not-true (is_some s.ticket) a.1)) h

module _ (r : Reading) (size : ℕ) (h : Steady r) where
  abbrev framed : Reading
  framed = later r (pulled_from r 1 r.starts) r.tickets size

  same_feet : (t : Sheet) (v : ℕ) → rests_on r t v ≡ rests_on framed t v
  same_feet t v =
      sym (footing_agree t (number framed) (number r) (renewal framed) (renewal r) v
      (λ c u k. ap (λ (o : Option Start). from_option 0 (λ (s : Start). s.number) o) (pulled_is r size u) ∙ pulled_number r u (start_of r u))
      (λ c u k. ap (λ (o : Option Start). from_option 0 (λ (s : Start). s.renewal) o) (pulled_is r size u) ∙ pulled_renewal r u (start_of r u)))

  framed_holds : (v : ℕ) (s : Start) → start_of framed v ≡ Some s → (t : Sheet) → IsLater r.sheet r.entries t → rests_on framed t v ≡ s.kept → Holds (site_of t (shown framed) v) s
  framed_holds v s at t l kept =
      let b : Becomes r v s = becomes r v s (sym (pulled_is r size v) ∙ at) in
      let same_kept : s.kept ≡ b.old.kept = elim b.how [ inl same ↦ ap (λ (z : Start). z.kept) same | inr more ↦ ap (λ (z : Start). z.kept) more.0 ] in
      let there : rests_on r t v ≡ b.old.kept = same_feet t v ∙ kept ∙ same_kept in
      let at_place : place_of t v ≡ b.old.kept.place = ap (λ (f : Footing). f.place) there in
      let p : Within r.entries b.old = h.within v b.old b.there in
      let old : Holds (site_of t (shown r) v) b.old = h.holds v b.old b.there t l there in
      let new : Holds (site_of t (shown r) v) s =
      elim b.how [
        | inl same ↦ subst (λ (z : Start). Holds (site_of t (shown r) v) z) (sym same) old
        | inr more ↦ subst (λ (z : Start). Holds (site_of t (shown r) v) z) (sym more.0)
            (pulled_holds r v (site_of t (shown r) v) b.old (body_kept r.sheet t r.entries l v (omega (arith, at_place, p.given)) (omega (arith, at_place, p.place))) more.1 old)
      ] in
      subst (λ (x : Site). Holds x s)
      (sym (site_agree t (shown r) (shown framed) v (λ u k. sym (ap (λ (o : Option Start). option_then o (λ s. s.shown)) (pulled_is r size u) ∙ pulled_shown r u (start_of r u)))))
      new

  pub steady_frame : Steady framed
  steady_frame = record {
    placed = more_placed r h;
    within = λ v s at.
        let b : Becomes r v s = becomes r v s (sym (pulled_is r size v) ∙ at) in
        let p : Within (r.entries + 1) b.old = within_more r.entries b.old (h.within v b.old b.there) in
        elim b.how [
          | inl same ↦ subst (λ (z : Start). Within (r.entries + 1) z) (sym same) p
          | inr more ↦ subst (λ (z : Start). Within (r.entries + 1) z) (sym more.0) (record { renewal = p.renewal; renewals = p.renewals; starts = p.starts; given = p.given; place = p.place })
        ];
    holds = λ v s at t l kept. framed_holds v s at t (less_late r.sheet r.entries t l) kept;
  }

-- ---- disposal

pub steady_dispose : (r : Reading) (editor : ℕ) → Steady r → Steady (after r (Dispose editor))
steady_dispose r editor h = record {
  placed = more_placed r h;
  within = λ v s at. within_more r.entries s (h.within v s at);
  holds = λ v s at t l kept. h.holds v s at t (less_late r.sheet r.entries t l) kept;
}

-- ---- the ticket of an answer is live

or_else_none : {A : Type 0} (a b : Option A) → or_else a b ≡ None → b ≡ None
or_else_none None b h = h
or_else_none (Some x) b h = absurd (none-some x (sym h))

not_refused : (r : Reading) (event : Event) → first_refusal r event ≡ None → event_refusal r event ≡ None
not_refused r event h =
    or_else_none (when (is_full r) LogFull) (event_refusal r event)
    (or_else_none (when r.disposed Disposed) (or_else (when (is_full r) LogFull) (event_refusal r event)) h)

by_key : (r : Reading) (key : Name) (o : Option ℕ) → live_of_key r key ≡ o → from_option (Some NoAsk) (λ t. None) o ≡ None → is_live r (from_option 0 (λ t. t) o) ≡ true
by_key r key None e h = absurd (none-some NoAsk (sym h))
by_key r key (Some n) e h =
    let p = first_some (λ t. is_live r t && from_option false (λ (k : Ticket). bytes_eq k.key key) (nth r.tickets t)) (numbers r.tickets) n e in
    (and_parts (is_live r n) (from_option false (λ (k : Ticket). bytes_eq k.key key) (nth r.tickets n)) p.0).0

module _ (r : Reading) (n editor t : ℕ) (a : Answer) where
  by_ticket : (m : ℕ) (b : Answer) (live : Bool) → is_live r m ≡ live → Settled editor t a ≡ admitted r n (Settle (ByTicket m) b) → is_live r t ≡ true
  by_ticket m b true e h =
      let k : Settled editor t a ≡ Settled n m b = h ∙ ap (λ (l : Bool). cond l (Settled n m b) (Late n m)) e in
      let same : t ≡ m = cc in
      ap (is_live r) same ∙ e
  by_ticket m b false e h = let k : Settled editor t a ≡ Late n m = h ∙ ap (λ (l : Bool). cond l (Settled n m b) (Late n m)) e in absurd (cc)

  live_event : (event : Event) → event_refusal r event ≡ None → Settled editor t a ≡ admitted r n event → is_live r t ≡ true
  live_event (EditEvent edit) none h = absurd (cc)
  live_event FrameEvent none h = absurd (cc)
  live_event (Settle (ByTicket m) b) none h = by_ticket m b (is_live r m) refl h
  live_event (Settle (ByKey key) b) none h =
      let same : t ≡ from_option 0 (λ t. t) (live_of_key r key) = cc in
      ap (is_live r) same ∙ by_key r key (live_of_key r key) refl none
  live_event RestEvent none h = absurd (cc)
  live_event DisposeEvent none h = absurd (cc)

  pub settled_live : (event : Event) → Settled editor t a ≡ admit r n event → is_live r t ≡ true
  settled_live event h = go (first_refusal r event) refl
    where
      go : (o : Option Refusal) → first_refusal r event ≡ o → is_live r t ≡ true
      go None e = live_event event (not_refused r event e) (h ∙ ap (λ (o : Option Refusal). from_option (admitted r n event) (λ reason. Refused n reason event) o) e)
      go (Some reason) e =
          let k : Settled editor t a ≡ Refused n reason event = h ∙ ap (λ (o : Option Refusal). from_option (admitted r n event) (λ reason. Refused n reason event) o) e in absurd (cc)
