-- What each start of a legal log keeps.
use Rattle.std.proofs.Common.{inl, inr, ℕ, zero, suc, ◌+◌, ◌≡◌, refl, sym, ◌∙◌, ap, subst, Bool, true, false, cond, not, ◌&&◌, List, Option, Some, None, is_some}
use Rattle.std.proofs.lemmas.Bool.{and_parts, cases_eq, false≢true, not-true}
use Rattle.std.proofs.lemmas.Option.{none-some, same_Some}
use Rattle.nb_value.specs.declared.pairs.Field.{Field}
use Rattle.nb_value.specs.declared.value.Value.{Value}
use Rattle.nb_value.specs.declared.outcome.Answer.{Answer}
use Rattle.nb_sheet.specs.Lists.{nth, put, option_then}
use Rattle.nb_sheet.specs.Sheet.{edited_sheet}
use Rattle.nb_history.specs.Reading.{Reading, Start, Footing, start_of}
use Rattle.nb_history.specs.Rules.{footing, generates, body_of}
use Rattle.nb_history.specs.Log.{nothing_yet, after, reading, new_start, change_start, settle, ticket_var, answering, pulled, shows_value, Fits, IsLegal}
use Rattle.nb_log.specs.declared.entry.Entry.{Entry}
use Rattle.nb_log.specs.declared.entry.Entry.TheVariants.{Edit, Frame, Settled, Late, Loaded, Refused, Rest, Dispose, Pending, Fulfilled, Rejected, Asked, Ended, Left}
use Rattle.nb_history.proofs.Histories.{legal_keeps}
use Rattle.nb_history.proofs.StartsAfter.{inside, start_put, start_put_other, nth_put_none, changed_itself, changed_other, start_sheet, start_pulled}
use Rattle.nb_history.proofs.NextEntry.{IsOutcome, outcome_start, outcome_starts, outcome_keeps}

abbrev pub Each : (Start → Type 0) → Reading → Type 0
Each P r = (v : ℕ) (s : Start) → start_of r v ≡ Some s → P s

-- a new start has it, and pulls, answers and outcomes keep it
pub record Kept (P : Start → Type 0) : Type 0 where
  pub begins : (n : ℕ) (kept : Footing) → P (new_start n kept)
  pub pulls : (s : Start) → is_some s.ticket ≡ false → P s → P (record s { pulls = s.pulls + 1; running = true })
  pub answers : (a : Answer) (s : Start) → P s → P (answering a s)
  pub outcomes : (r : Reading) (v : ℕ) (e : Entry) (s : Start) → IsOutcome v e → Fits r e → start_of r v ≡ Some s → P s → P (outcome_start r e s)

module _ (P : Start → Type 0) where
  each_change : (r : Reading) (u : ℕ) (f : Start → Start) → Each P r → ((s : Start) → start_of r u ≡ Some s → P s → P (f s)) → Each P (change_start r u f)
  each_change r u f each keeps v s at =
      elim (cases_eq u v) [
        | inl same ↦ go (start_of r u) refl (sym (changed_itself r u f) ∙ (ap (start_of (change_start r u f)) same ∙ at))
        | inr other ↦ each v s (sym (changed_other r u v f other) ∙ at)
      ]
    where
      go : (o : Option Start) → start_of r u ≡ o → option_then (start_of r u) (λ s. Some (f s)) ≡ Some s → P s
      go None e k = absurd (none-some s (sym (ap (λ (o : Option Start). option_then o (λ s. Some (f s))) e) ∙ k))
      go (Some t) e k =
          let same : f t ≡ s = same_Some (f t) s (sym (ap (λ (o : Option Start). option_then o (λ s. Some (f s))) e) ∙ k) in
          subst P same (keeps t e (each u t e))

  each_put : (r : Reading) (u : ℕ) (x : Option Start) → Each P r → ((s : Start) → x ≡ Some s → P s) → (v : ℕ) (s : Start) → inside (nth (put r.starts u x) v) ≡ Some s → P s
  each_put r u x each new v s at =
      elim (cases_eq u v) [
        | inl same ↦ go (nth r.starts u) refl (ap (λ (w : ℕ). inside (nth (put r.starts u x) w)) same ∙ at)
        | inr other ↦ each v s (sym (start_put_other r.starts u v x other) ∙ at)
      ]
    where
      go : (o : Option (Option Start)) → nth r.starts u ≡ o → inside (nth (put r.starts u x) u) ≡ Some s → P s
      go None e k = absurd (none-some s (sym (ap inside (nth_put_none r.starts u x e)) ∙ k))
      go (Some o) e k = new s (sym (start_put r.starts u x o e) ∙ k)

module _ (P : Start → Type 0) (kept : Kept P) where
  each_pulled : (r : Reading) (v : ℕ) (o : Option Start) → ((s : Start) → o ≡ Some s → P s) → (s : Start) → pulled r v o ≡ Some s → P s
  each_pulled r v None old s at = absurd (none-some s at)
  each_pulled r v (Some t) old s at = go (generates (body_of r.sheet v) && shows_value t.shown && not t.ended && not t.running && not (is_some t.ticket)) refl at
    where
      go : (b : Bool) → (generates (body_of r.sheet v) && shows_value t.shown && not t.ended && not t.running && not (is_some t.ticket)) ≡ b → cond b (Some (record t { pulls = t.pulls + 1; running = true })) (Some t) ≡ Some s → P s
      go false e k = subst P (same_Some t s k) (old t refl)
      go true e k =
          subst P (same_Some (record t { pulls = t.pulls + 1; running = true }) s k)
          (kept.pulls t (not-true (is_some t.ticket) (and_parts (generates (body_of r.sheet v) && shows_value t.shown && not t.ended && not t.running) (not (is_some t.ticket)) e).1) (old t refl))

  each_outcome : (r : Reading) (u : ℕ) (e : Entry) → IsOutcome u e → Fits r e → Each P r → Each P (after r e)
  each_outcome r u e h fits each v s at =
      each_change P r u (outcome_start r e) each (λ t there p. kept.outcomes r u e t h fits there p) v s
      (sym (ap (λ (xs : List (Option Start)). inside (nth xs v)) (outcome_starts r u e h)) ∙ at)

  pub each_after : (r : Reading) (e : Entry) → Each P r → Fits r e → Each P (after r e)
  each_after r (Edit editor edit) each fits v s at = each v s (sym (start_sheet r (edited_sheet r.sheet edit (r.entries + 1)) v) ∙ at)
  each_after r (Frame editor) each fits v s at = each_pulled r v (start_of r v) (each v) s (sym (start_pulled r v) ∙ at)
  each_after r (Settled editor t a) each fits v s at = each_change P (settle r t) (ticket_var r t) (answering a) each (λ x there p. kept.answers a x p) v s at
  each_after r (Loaded t a) each fits v s at = each_change P (settle r t) (ticket_var r t) (answering a) each (λ x there p. kept.answers a x p) v s at
  each_after r (Late editor t) each fits v s at = each v s at
  each_after r (Refused editor reason event) each fits v s at = each v s at
  each_after r (Rest editor) each fits v s at = each v s at
  each_after r (Dispose editor) each fits v s at = each v s at
  each_after r (Pending u d) each fits v s at =
      let x : Start = new_start (r.entries + 1) (footing r u) in
      each_put P r u (Some x) each (λ y e. subst P (same_Some x y e) (kept.begins (r.entries + 1) (footing r u))) v s at
  each_after r (Left u d) each fits v s at = each_put P r u None each (λ y e. absurd (none-some y e)) v s at
  each_after r (Fulfilled u x) each fits v s at = each_outcome r u (Fulfilled u x) refl fits each v s at
  each_after r (Rejected u e) each fits v s at = each_outcome r u (Rejected u e) refl fits each v s at
  each_after r (Asked u t key) each fits v s at = each_outcome r u (Asked u t key) refl fits each v s at
  each_after r (Ended u) each fits v s at = each_outcome r u (Ended u) refl fits each v s at

  pub each_first : (builtins : List (Field Value)) → Each P (nothing_yet builtins)
  each_first builtins zero s at = absurd (none-some s at)
  each_first builtins (suc i) s at = absurd (none-some s at)

  -- so in each legal log
  pub each_legal : (builtins : List (Field Value)) (log : List Entry) → IsLegal builtins log → Each P (reading builtins log)
  each_legal builtins log legal = legal_keeps (Each P) each_after (nothing_yet builtins) log (each_first builtins) legal

-- ---- a running start has no open ticket

abbrev pub IsTidy : Start → Type 0
IsTidy s = s.running ≡ true → is_some s.ticket ≡ false

stopped : (r : Reading) (v : ℕ) (e : Entry) (s : Start) → IsOutcome v e → (outcome_start r e s).running ≡ false
stopped r v e s h = (outcome_keeps r v e s h).stops

pub tidy_kept : Kept IsTidy
tidy_kept = record {
  begins = λ n kept h. refl;
  pulls = λ s no_ticket p h. no_ticket;
  answers = λ a s p h. refl;
  outcomes = λ r v e s h fits there p runs. absurd (false≢true (sym (stopped r v e s h) ∙ runs));
}
