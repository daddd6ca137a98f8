-- The entries of a ready variable keep what holds after every legal log, and so do answers.
use Rattle.std.proofs.Common.{inl, inr, ℕ, ◌≡◌, ◌≢◌, ◌+◌, ◌≤◌, ◌<◌, eqb, refl, sym, ◌∙◌, ap, subst, Bool, true, false, cond, not, ◌&&◌, ◌||◌, ◌⊎◌, List, [], ◌∷◌, length, arith, Option, Some, None, is_some}
use Rattle.std.specs.Prelude.{nat_le}
use Rattle.std.specs.List.{list_any}
use Rattle.std.proofs.lemmas.Bool.{false≢true}
use Rattle.std.proofs.lemmas.Bool.Decides.{nat_tests}
use Rattle.std.proofs.lemmas.Option.{same_Some}
use Rattle.nb_value.specs.declared.value.Value.{Value}
use Rattle.nb_value.specs.declared.outcome.Answer.{Answer}
use Rattle.nb_value.specs.declared.outcome.CellError.{CellError}
use Rattle.nb_value.specs.declared.outcome.Outcome.{Outcome}
use Rattle.nb_value.specs.declared.outcome.Outcome.TheVariants.{Value as Shows, Error as Fails}
use Rattle.nb_eval.specs.Evaluation.{Evaluated}
use Rattle.nb_sheet.specs.Sheet.{Sheet}
use Rattle.nb_sheet.specs.Lists.{Name, nth, put, from_option, option_then}
use Rattle.nb_graph.specs.Needs.{has}
use Rattle.nb_resolve.specs.Names.{direct, inputs}
use Rattle.nb_history.specs.Needs.{circular}
use Rattle.nb_history.specs.Reading.{Reading, Start, Footing, Ticket, start_of, shown, number, renewal}
use Rattle.nb_history.specs.Rules.{footing, place_of, ready, next, deciding_error, entry_of, generates, body_of, run_body, values_given, marked_error}
use Rattle.nb_history.specs.Log.{after, showing, asking, ending_now, answering, ends_at_once, cleanups_now, is_done, is_live, ticket_var, answered, asked_ticket, settle}
use Rattle.nb_log.specs.Printing.{entry_size}
use Rattle.nb_log.specs.declared.entry.Entry.{Entry}
use Rattle.nb_log.specs.declared.entry.Entry.TheVariants.{Fulfilled, Rejected, Asked, Ended}
use Rattle.nb_graph.proofs.Reaches.{has_head, has_tail}
use Rattle.nb_history.proofs.Closing.{needs_direct, footing_agree}
use Rattle.nb_history.proofs.Lawful.{IsReady, ready_parts, kept_now}
use Rattle.nb_history.proofs.Scratches.{not_circular}
use Rattle.nb_history.proofs.Sites.{Site, Pulled, Holds, shown_of, site_of}
use Rattle.nb_history.proofs.LaterSheets.{IsLater, SameAt, same_at, same_later}
use Rattle.nb_history.proofs.StartSteps.{answer_holds, next_at, ends_at, fulfilled_holds, rejected_holds, asked_holds, ended_holds}
use Rattle.nb_history.proofs.Steady.{Steady, Within, Stays, rests_on, later, site, start_there, start_self, else_stays, renewed_not_kept, put_steady, site_moves}

-- ---- what is ready

pub record Ready (r : Reading) (v : ℕ) : Type 0 where
  pub start : Start
  pub there : start_of r v ≡ Some start
  pub runs : start.running ≡ true
  pub calm : start.kept ≡ footing r v
  pub inputs_show : marked_error r.sheet v ≡ None → Site.waits (site r v) ≡ false

none_not : (p : ℕ → Bool) (xs : List ℕ) → ((x : ℕ) → has xs x ≡ true → p x ≡ true) → list_any (λ u. not (p u)) xs ≡ false
none_not p [] h = refl
none_not p (x ∷ xs) h = rw (h x (has_head x xs x refl)) (none_not p xs (λ y k. h y (has_tail x xs y k)))

pub ready_start : (r : Reading) (v : ℕ) → ready r v ≡ true → Ready r v
ready_start r v h = go (start_of r v) refl
  where
    p : IsReady r v
    p = ready_parts r v h

    go : (o : Option Start) → start_of r v ≡ o → Ready r v
    go None e = absurd (false≢true (ap (λ (o : Option Start). from_option false (λ (s : Start). s.running) o) (sym e) ∙ p.running))
    go (Some s) e = record {
      start = s;
      there = e;
      runs = ap (λ (o : Option Start). from_option false (λ (s : Start). s.running) o) (sym e) ∙ p.running;
      calm = kept_now r v s e p.calm;
      inputs_show = λ unmarked. none_not (λ u. is_some (shown r u)) (direct r.sheet v) (p.shows (not_circular r.sheet v unmarked));
    }

-- ---- v's start changes

-- its renewal is new, or stays with what it showed
abbrev pub Renews : Reading → Start → Start → Type 0
Renews r s t = (t.renewal ≡ r.entries + 1) ⊎ ((t.renewal ≡ s.renewal) × ((s.shown ≡ None) ⊎ (s.shown ≡ t.shown)))

module _ (r : Reading) (steady : Steady r) (v : ℕ) (s t : Start) (there : start_of r v ≡ Some s) where
  -- wherever v has the same footing, it has the same site
  pub same_there : s.kept ≡ footing r v → (sheet : Sheet) → IsLater r.sheet r.entries sheet → rests_on r sheet v ≡ s.kept → SameAt r.sheet sheet v
  same_there calm sheet l kept =
      let p : Within r.entries s = steady.within v s there in
      let at : place_of sheet v ≡ s.kept.place = ap (λ (f : Footing). f.place) kept in
      same_at r.sheet sheet r.entries l v (number r) (number r) (renewal r) (renewal r) (omega (arith, at, p.given)) (omega (arith, at, p.place)) (kept ∙ calm)

  -- so what holds here holds there
  pub wherever : s.kept ≡ footing r v → Holds (site r v) t → (sheet : Sheet) → IsLater r.sheet r.entries sheet → rests_on r sheet v ≡ s.kept → Holds (site_of sheet (shown r) v) t
  wherever calm h sheet l kept = subst (λ (x : Site). Holds x t) (sym ((same_there calm sheet l kept).site (shown r))) h

  module _ (tickets : List Ticket) (size : ℕ) where
    abbrev ahead : Reading
    ahead = later r (put r.starts v (Some t)) tickets size

    own_start : start_of ahead v ≡ Some t
    own_start = start_self r steady v (Some t) tickets size (Some s) (start_there (nth r.starts v) s there)

    apart : (sheet : Sheet) → circular sheet v ≡ false → (u : ℕ) → has (direct sheet v) u ≡ true → v ≢ u
    apart sheet c u k e = false≢true (sym c ∙ needs_direct sheet v v (ap (has (direct sheet v)) e ∙ k))

    inputs_stay : (sheet : Sheet) → circular sheet v ≡ false → (u : ℕ) → has (direct sheet v) u ≡ true → Stays r (put r.starts v (Some t)) tickets size u
    inputs_stay sheet c u k = else_stays r steady v (Some t) tickets size u (apart sheet c u k)

    renewal_is : renewal ahead v ≡ t.renewal
    renewal_is = ap (λ (o : Option Start). from_option 0 (λ (s : Start). s.renewal) o) own_start

    number_is : t.number ≡ s.number → number ahead v ≡ number r v
    number_is same =
        ap (λ (o : Option Start). from_option 0 (λ (s : Start). s.number) o) own_start ∙ same
        ∙ sym (ap (λ (o : Option Start). from_option 0 (λ (s : Start). s.number) o) there)

    pub changed_steady : t.kept ≡ s.kept → t.number ≡ s.number → Renews r s t
        → ((sheet : Sheet) → IsLater r.sheet r.entries sheet → rests_on r sheet v ≡ s.kept → Holds (site_of sheet (shown r) v) t) → Steady ahead
    changed_steady kept number_same renews holds =
        put_steady r steady v (Some t) tickets size (Some s) (start_there (nth r.starts v) s there)
        (λ x e. subst (λ (z : Start). Within (r.entries + 1) z) (same_Some t x e) small)
        (λ x e sheet l k. subst (λ (z : Start). Holds (site_of sheet (shown ahead) v) z) (same_Some t x e)
        (site_moves r (put r.starts v (Some t)) tickets size sheet v t (λ unmarked u j. Stays.shows (inputs_stay sheet (not_circular sheet v unmarked) u j))
        (holds sheet l (before sheet ∙ k ∙ ap (λ (z : Start). z.kept) (sym (same_Some t x e)) ∙ kept))))
        (λ sheet w x other here k c j. elim renews [
          | inl new ↦ absurd (renewed_not_kept r steady v (Some t) tickets size sheet w x other here k (renewal_is ∙ new) c j)
          | inr old ↦ record {
            number = number_is number_same;
            renewal = renewal_is ∙ old.0 ∙ sym (ap (λ (o : Option Start). from_option 0 (λ (s : Start). s.renewal) o) there);
            shows = elim old.1 [
              | inl none ↦ inl (ap (λ (o : Option Start). option_then o (λ s. s.shown)) there ∙ none)
              | inr same ↦ inr (ap (λ (o : Option Start). option_then o (λ s. s.shown)) there ∙ same ∙ sym (ap (λ (o : Option Start). option_then o (λ s. s.shown)) own_start))
            ];
          }
        ])
      where
        before : (sheet : Sheet) → rests_on r sheet v ≡ rests_on ahead sheet v
        before sheet =
            sym (footing_agree sheet (number ahead) (number r) (renewal ahead) (renewal r) v
            (λ c u k. Stays.number (inputs_stay sheet c u k))
            (λ c u k. Stays.renewal (inputs_stay sheet c u k)))

        old : Within r.entries s
        old = steady.within v s there

        small_renewal : Renews r s t → t.renewal ≤ r.entries + 1
        small_renewal (inl new) = omega (arith, new)
        small_renewal (inr same) = omega (arith, same.0, old.renewal)

        small : Within (r.entries + 1) t
        small = record {
          renewal = small_renewal renews;
          renewals = λ x k. omega (arith, old.renewals x (ap (λ (f : Footing). has f.renewals x) (sym kept) ∙ k));
          starts = λ x k. old.starts x (ap (λ (f : Footing). has f.starts x) (sym kept) ∙ k);
          given = subst (λ (f : Footing). 1 ≤ f.place) (sym kept) old.given;
          place = let at : t.kept.place ≡ s.kept.place = ap (λ (f : Footing). f.place) kept in omega (arith, at, old.place);
        }

-- ---- what comes next of a ready variable

abbrev next_of : Reading → ℕ → Option Start → Entry
next_of r v o =
    let end : Evaluated = run_body (body_of r.sheet v) (values_given r.sheet (shown r) (inputs r.sheet v)) (from_option [] (λ (s : Start). s.answers) o) (from_option 0 (λ (s : Start). s.pulls) o) in
    from_option (entry_of (length r.tickets + 1) v (generates (body_of r.sheet v)) (eqb (from_option 0 (λ (s : Start). s.pulls) o) 1) end end.ending) (λ e. Rejected v e) (deciding_error r (shown r) v)

next_is : (r : Reading) (v : ℕ) (s : Start) → start_of r v ≡ Some s → next r v ≡ next_at (length r.tickets + 1) v (site r v) s
next_is r v s there = ap (next_of r v) there

abbrev ends_of : Reading → ℕ → Option Start → Bool
ends_of r v o =
    let end : Evaluated = run_body (body_of r.sheet v) (values_given r.sheet (shown r) (inputs r.sheet v)) (from_option [] (λ (s : Start). s.answers) o) (from_option 0 (λ (s : Start). s.pulls) o) in
    not (is_some (deciding_error r (shown r) v)) && generates (body_of r.sheet v) && is_done end.ending

ends_is : (r : Reading) (v : ℕ) (s : Start) → start_of r v ≡ Some s → ends_at_once r v ≡ ends_at (site r v) s
ends_is r v s there = ap (ends_of r v) there

module _ (r : Reading) (steady : Steady r) (v : ℕ) (go : Ready r v) where
  abbrev s : Start
  s = go.start

  held_s : Holds (site r v) s
  held_s = steady.holds v s go.there r.sheet (same_later r.sheet r.entries) (sym go.calm)

  -- a first outcome leaves the renewal, and comes from nothing
  pub renews : (o : Outcome) (x : Bool) → nat_le 2 s.pulls ≡ x → Renews r s (showing r v o s)
  renews o true e = inl (ap (λ (b : Bool). cond b (r.entries + 1) s.renewal) e)
  renews o false e =
      let p : Pulled (site r v) s = held_s.pulled (inl go.runs) in
      let first : s.pulls < 2 = grind (arith, nat_tests) in
      inr (ap (λ (b : Bool). cond b (r.entries + 1) s.renewal) e, inl (p.shows ∙ ap shown_of (no_more p.made (omega (arith, first, p.pulls)))))
    where
      no_more : (made : List Value) → length made ≤ 0 → made ≡ []
      no_more [] h = refl
      no_more (m ∷ ms) h = absurd (omega (arith, h))

  told : (e : Entry) → e ≡ next r v → next_at (length r.tickets + 1) v (site r v) s ≡ e
  told e h = sym (next_is r v s go.there) ∙ sym h

  pub steady_fulfilled : (x : Value) → Fulfilled v x ≡ next r v → Steady (after r (Fulfilled v x))
  steady_fulfilled x e =
      let size : ℕ = r.size + entry_size (Fulfilled v x) in
      let h : Holds (site r v) (showing r v (Shows x) s) =
      subst (λ (b : Bool). Holds (site r v) (record s { shown = Some (Shows x); running = false; ended = s.ended || b; owed = cleanups_now r v; renewal = cond (nat_le 2 s.pulls) (r.entries + 1) s.renewal })) (sym (ends_is r v s go.there))
      (fulfilled_holds (length r.tickets + 1) v v (site r v) s held_s go.runs go.inputs_show x (cleanups_now r v) (cond (nat_le 2 s.pulls) (r.entries + 1) s.renewal) (told (Fulfilled v x) e)) in
      subst (λ (o : Option Start). Steady (later r (put r.starts v o) r.tickets size)) (sym (ap (λ (o : Option Start). option_then o (λ s. Some (showing r v (Shows x) s))) go.there))
      (changed_steady r steady v s (showing r v (Shows x) s) go.there r.tickets size refl refl (renews (Shows x) (nat_le 2 s.pulls) refl) (wherever r steady v s (showing r v (Shows x) s) go.there go.calm h))

  pub steady_rejected : (d : CellError) → Rejected v d ≡ next r v → Steady (after r (Rejected v d))
  steady_rejected d e =
      let size : ℕ = r.size + entry_size (Rejected v d) in
      let h : Holds (site r v) (showing r v (Fails d) s) =
      rejected_holds (length r.tickets + 1) v v (site r v) s held_s go.runs go.inputs_show d (s.ended || ends_at_once r v) (cleanups_now r v) (cond (nat_le 2 s.pulls) (r.entries + 1) s.renewal) (told (Rejected v d) e) in
      subst (λ (o : Option Start). Steady (later r (put r.starts v o) r.tickets size)) (sym (ap (λ (o : Option Start). option_then o (λ s. Some (showing r v (Fails d) s))) go.there))
      (changed_steady r steady v s (showing r v (Fails d) s) go.there r.tickets size refl refl (renews (Fails d) (nat_le 2 s.pulls) refl) (wherever r steady v s (showing r v (Fails d) s) go.there go.calm h))

  pub steady_asked : (n : ℕ) (key : Name) → Asked v n key ≡ next r v → Steady (after r (Asked v n key))
  steady_asked n key e =
      let size : ℕ = r.size + entry_size (Asked v n key) in
      let starts : List (Option Start) = put r.starts v (option_then (start_of r v) (λ s. Some (asking r v n s))) in
      let tickets : List Ticket = Reading.tickets (asked_ticket (record r { starts = starts }) v key) in
      let h : Holds (site r v) (asking r v n s) =
      asked_holds (length r.tickets + 1) v v (site r v) s held_s go.runs go.inputs_show n key (cleanups_now r v) (told (Asked v n key) e) in
      subst (λ (o : Option Start). Steady (later r (put r.starts v o) tickets size)) (sym (ap (λ (o : Option Start). option_then o (λ s. Some (asking r v n s))) go.there))
      (changed_steady r steady v s (asking r v n s) go.there tickets size refl refl (inr (refl, inr refl)) (wherever r steady v s (asking r v n s) go.there go.calm h))

  pub steady_ended : Ended v ≡ next r v → Steady (after r (Ended v))
  steady_ended e =
      let size : ℕ = r.size + entry_size (Ended v) in
      let h : Holds (site r v) (ending_now r v s) =
      ended_holds (length r.tickets + 1) v v (site r v) s held_s go.runs go.inputs_show (cleanups_now r v) (told (Ended v) e) in
      subst (λ (o : Option Start). Steady (later r (put r.starts v o) r.tickets size)) (sym (ap (λ (o : Option Start). option_then o (λ s. Some (ending_now r v s))) go.there))
      (changed_steady r steady v s (ending_now r v s) go.there r.tickets size refl refl (inr (refl, inr refl)) (wherever r steady v s (ending_now r v s) go.there go.calm h))

-- ---- an answer

-- a live ticket's variable has a start that asks
pub live_start : (r : Reading) (t : ℕ) → is_live r t ≡ true → (s : Start) × (start_of r (ticket_var r t) ≡ Some s) × (is_some s.ticket ≡ true)
live_start r t h = go (start_of r (ticket_var r t)) refl
  where
    go : (o : Option Start) → start_of r (ticket_var r t) ≡ o → (s : Start) × (start_of r (ticket_var r t) ≡ Some s) × (is_some s.ticket ≡ true)
    go None e = absurd (false≢true (ap (λ (o : Option Start). from_option false (λ n. eqb n t) (option_then o (λ s. s.ticket))) (sym e) ∙ h))
    go (Some s) e = (s, e, by_ticket s.ticket (ap (λ (o : Option Start). from_option false (λ n. eqb n t) (option_then o (λ s. s.ticket))) (sym e) ∙ h))
      where
        by_ticket : (o : Option ℕ) → from_option false (λ n. eqb n t) o ≡ true → is_some o ≡ true
        by_ticket None k = absurd (false≢true k)
        by_ticket (Some n) k = refl

-- the variable may be behind: then it runs again, and holds wherever it has its kept footing
pub steady_answered : (r : Reading) (t : ℕ) (a : Answer) (size : ℕ) → Steady r → is_live r t ≡ true
    → Steady (later r (Reading.starts (answered r t a)) (Reading.tickets (answered r t a)) size)
steady_answered r t a size steady live =
    let p : (s : Start) × (start_of r (ticket_var r t) ≡ Some s) × (is_some s.ticket ≡ true) = live_start r t live in
    subst (λ (o : Option Start). Steady (later r (put r.starts (ticket_var r t) o) (Reading.tickets (settle r t)) size)) (sym (ap (λ (o : Option Start). option_then o (λ s. Some (answering a s))) p.1))
    (changed_steady r steady (ticket_var r t) p.0 (answering a p.0) p.1 (Reading.tickets (settle r t)) size refl refl (inr (refl, inr refl))
    (λ sheet l kept. answer_holds (site_of sheet (shown r) (ticket_var r t)) p.0 a p.2 (steady.holds (ticket_var r t) p.0 p.1 sheet l kept)))
