-- From an external entry before which nothing is pulling to the next one: first the pulls, with no start, then nothing is pulling.
use Rattle.std.proofs.Common.{inl, inr, ℕ, ◌+◌, ◌≡◌, ◌≤◌, refl, sym, ◌∙◌, ap, subst, Bool, true, false, not, ◌&&◌, ◌⊎◌, List, [], ◌∷◌, arith, Option, Some, None, is_some}
use Rattle.std.specs.Prelude.{option_map}
use Rattle.std.proofs.lemmas.Bool.{and_from, false≢true, false_from_ne_true, true_from_ne_false, not_from_false}
use Rattle.nb_value.specs.declared.outcome.Outcome.TheVariants.{Value as Shows, Error as Fails}
use Rattle.nb_sheet.specs.Lists.{nth, numbers, from_option, option_then}
use Rattle.nb_history.specs.Reading.{Reading, Start, Footing, start_of, is_idle, number, renewal}
use Rattle.nb_history.specs.Rules.{footing, same_base, same_footing, wanted, leaving, is_behind, is_overtaken, pulls_on, may_start}
use Rattle.nb_history.specs.Log.{after, reading, change_start, showing, asking, ending_now, answering, ticket_var, pulled_from, IsQuiet, Fits, LegalFrom}
use Rattle.nb_history.specs.Starts.{is_of_variable, AllOfVariables, starts, pending_count, StartsOnceBetween}
use Rattle.nb_log.specs.declared.entry.Entry.{Entry}
use Rattle.nb_log.specs.declared.entry.Entry.TheVariants.{Edit as EditEntry, Frame, Settled, Late, Loaded, Refused, Rest, Dispose, Pending, Fulfilled, Rejected, Asked, Ended, Left}
use Rattle.nb_history.proofs.Footings.{same_base_refl}
use Rattle.nb_history.proofs.Closing.{base_agree, due_parts}
use Rattle.nb_history.proofs.Held.{held_itself, none_behind}
use Rattle.nb_history.proofs.StartsAfter.{start_pulled, pulled_part}
use Rattle.nb_history.proofs.Lawful.{Lawful, lawful_after, lawful_log, kept_now, grown_earlier}
use Rattle.nb_history.proofs.Runs.{may_due}
use Rattle.nb_history.proofs.Between.{pulls_nothing, pulling_from, nothing_from, calm_start, view, Still, once_still}

-- ---- while each start rests on the starts that it kept

-- each start has the base that it kept, nothing is leaving, and what is wanted has a start
pub record Batch (r : Reading) : Type 0 where
  pub law : Lawful r
  pub based : (v : ℕ) → from_option true (λ (s : Start). same_base (footing r v) s.kept) (start_of r v) ≡ true
  pub stays : (v : ℕ) → leaving r v ≡ false
  pub begun : (v : ℕ) → wanted r v ≡ true → is_idle (start_of r v) ≡ false

-- there nothing may start while something is pulling
pub batch_pending : (r : Reading) → Batch r → (u : ℕ) → may_start r u ≡ true → pulls_on r ≡ false
batch_pending r batch u may =
    false_from_ne_true (pulls_on r) (λ pulls.
    let is = due_parts r u (may_due r u may) in
    false≢true (sym is.free ∙ held_itself r u pulls (overtaken (start_of r u) refl is.behind (batch.begun u is.wanted))))
  where
    overtaken : (o : Option Start) → start_of r u ≡ o → is_behind r u ≡ true → is_idle (start_of r u) ≡ false → is_overtaken r u ≡ true
    overtaken None e behind begun = absurd (false≢true (sym begun ∙ ap is_idle e))
    overtaken (Some s) e behind begun =
        let base : same_base (footing r u) s.kept ≡ true = sym (ap (λ (o : Option Start). from_option true (λ (s : Start). same_base (footing r u) s.kept) o) e) ∙ batch.based u in
        let other : not (same_footing (footing r u) s.kept) ≡ true = sym (ap (λ (o : Option Start). from_option true (λ (s : Start). not (same_footing (footing r u) s.kept)) o) e) ∙ behind in
        ap (λ (o : Option Start). from_option false (λ (s : Start). same_base (footing r u) s.kept && not (same_footing (footing r u) s.kept)) o) e
        ∙ and_from (same_base (footing r u) s.kept) (not (same_footing (footing r u) s.kept)) base other

-- ---- other starts of the same numbers and footings

record SameStarts (r : Reading) (xs : List (Option Start)) : Type 0 where
  number : (v : ℕ) → number (record r { starts = xs }) v ≡ number r v
  kept : (v : ℕ) → option_map (λ (s : Start). s.kept) (start_of (record r { starts = xs }) v) ≡ option_map (λ (s : Start). s.kept) (start_of r v)

of_kept : (f : Footing) (o : Option Start) → from_option true (λ (s : Start). same_base f s.kept) o ≡ from_option true (λ (k : Footing). same_base f k) (option_map (λ (s : Start). s.kept) o)
of_kept f None = refl
of_kept f (Some s) = refl

idle_kept : (o : Option Start) → is_idle o ≡ not (is_some (option_map (λ (s : Start). s.kept) o))
idle_kept None = refl
idle_kept (Some s) = refl

module _ (r : Reading) (xs : List (Option Start)) (same : SameStarts r xs) where
  abbrev then : Reading
  then = record r { starts = xs }

  based_same : (v : ℕ) → from_option true (λ (s : Start). same_base (footing then v) s.kept) (start_of then v) ≡ from_option true (λ (s : Start). same_base (footing r v) s.kept) (start_of r v)
  based_same v =
      ap (λ (f : Footing). from_option true (λ (s : Start). same_base f s.kept) (start_of then v)) (base_agree r.sheet (number then) (number r) (renewal then) v (λ c x h. same.number x))
      ∙ of_kept (footing r v) (start_of then v)
      ∙ ap (λ (o : Option Footing). from_option true (λ (k : Footing). same_base (footing r v) k) o) (same.kept v)
      ∙ sym (of_kept (footing r v) (start_of r v))

  idle_same : (v : ℕ) → is_idle (start_of then v) ≡ is_idle (start_of r v)
  idle_same v =
      idle_kept (start_of then v) ∙ ap (λ (o : Option Footing). not (is_some o)) (same.kept v) ∙ sym (idle_kept (start_of r v))

  leaving_same : (v : ℕ) → leaving then v ≡ leaving r v
  leaving_same v = ap (λ (b : Bool). not (wanted r v) && not b) (idle_same v)

same_change : (r : Reading) (u : ℕ) (change : Start → Start) → ((s : Start) → (change s).number ≡ s.number) → ((s : Start) → (change s).kept ≡ s.kept) → SameStarts r (change_start r u change).starts
same_change r u change numbers keeps = record {
  number = view r u change (λ (o : Option Start). from_option 0 (λ (s : Start). s.number) o) (λ s e. numbers s);
  kept = view r u change (λ (o : Option Start). option_map (λ (s : Start). s.kept) o) (λ s e. ap Some (keeps s));
}

-- pulled starts
pulled_view : {A : Type 0} (g : Option Start → A) → ((s : Start) → g (Some (record s { pulls = s.pulls + 1; running = true })) ≡ g (Some s)) → (r : Reading) (v : ℕ)
    → g (option_then (nth (pulled_from r 1 r.starts) v) (λ s. s)) ≡ g (start_of r v)
pulled_view g h r v = ap g (start_pulled r v) ∙ pulled_part g h r v (start_of r v)

same_pulled : (r : Reading) → SameStarts r (pulled_from r 1 r.starts)
same_pulled r = record {
  number = pulled_view (λ (o : Option Start). from_option 0 (λ (s : Start). s.number) o) (λ s. refl) r;
  kept = pulled_view (λ (o : Option Start). option_map (λ (s : Start). s.kept) o) (λ s. refl) r;
}

same_starts : (r : Reading) → SameStarts r r.starts
same_starts r = record { number = λ v. refl; kept = λ v. refl }

-- ---- the entries that keep them

batch_same : (r : Reading) (e : Entry) → Batch r → Fits r e → (xs : List (Option Start)) → SameStarts r xs
    → ((v : ℕ) → from_option true (λ (s : Start). same_base (footing (record r { starts = xs }) v) s.kept) (start_of (record r { starts = xs }) v) ≡ from_option true (λ (s : Start). same_base (footing (after r e) v) s.kept) (start_of (after r e) v))
    → ((v : ℕ) → leaving (record r { starts = xs }) v ≡ leaving (after r e) v)
    → ((v : ℕ) → wanted r v ≡ wanted (after r e) v)
    → ((v : ℕ) → is_idle (start_of (record r { starts = xs }) v) ≡ is_idle (start_of (after r e) v))
    → Batch (after r e)
batch_same r e batch fits xs same bases leavings wants idles = record {
  law = lawful_after r e batch.law fits;
  based = λ v. sym (bases v) ∙ based_same r xs same v ∙ batch.based v;
  stays = λ v. sym (leavings v) ∙ leaving_same r xs same v ∙ batch.stays v;
  begun = λ v h. sym (idles v) ∙ idle_same r xs same v ∙ batch.begun v (wants v ∙ h);
}

-- an entry of a variable that is no `left` or `pending`
pub batch_step : (r : Reading) (e : Entry) → Batch r → Fits r e → (is_of_variable e ≡ true) → Batch (after r e) ⊎ Still r
batch_step r (Pending u d) batch fits is = inr (record { law = batch.law; pulls = pulls_nothing r batch.law.sound (batch_pending r batch u fits.0) })
batch_step r (Left u d) batch fits is = absurd (false≢true (sym (batch.stays u) ∙ fits.0))
batch_step r (Fulfilled u x) batch fits is =
    inl (batch_same r (Fulfilled u x) batch fits (change_start r u (showing r u (Shows x))).starts (same_change r u (showing r u (Shows x)) (λ s. refl) (λ s. refl)) (λ v. refl) (λ v. refl) (λ v. refl) (λ v. refl))
batch_step r (Rejected u x) batch fits is =
    inl (batch_same r (Rejected u x) batch fits (change_start r u (showing r u (Fails x))).starts (same_change r u (showing r u (Fails x)) (λ s. refl) (λ s. refl)) (λ v. refl) (λ v. refl) (λ v. refl) (λ v. refl))
batch_step r (Asked u k key) batch fits is =
    inl (batch_same r (Asked u k key) batch fits (change_start r u (asking r u k)).starts (same_change r u (asking r u k) (λ s. refl) (λ s. refl)) (λ v. refl) (λ v. refl) (λ v. refl) (λ v. refl))
batch_step r (Ended u) batch fits is =
    inl (batch_same r (Ended u) batch fits (change_start r u (ending_now r u)).starts (same_change r u (ending_now r u) (λ s. refl) (λ s. refl)) (λ v. refl) (λ v. refl) (λ v. refl) (λ v. refl))
batch_step r e batch fits is = absurd (false≢true is)

batch_no_start : (r : Reading) (e : Entry) → Batch r → Fits r e → is_of_variable e ≡ true → (v : ℕ) → (starts v e ≡ false) ⊎ Still r
batch_no_start r (Pending u d) batch fits is v = inr (record { law = batch.law; pulls = pulls_nothing r batch.law.sound (batch_pending r batch u fits.0) })
batch_no_start r (Left u d) batch fits is v = inl refl
batch_no_start r (Fulfilled u x) batch fits is v = inl refl
batch_no_start r (Rejected u x) batch fits is v = inl refl
batch_no_start r (Asked u k key) batch fits is v = inl refl
batch_no_start r (Ended u) batch fits is v = inl refl
batch_no_start r e batch fits is v = absurd (false≢true is)

once_batch : (r : Reading) (es : List Entry) → Batch r → AllOfVariables es → LegalFrom r es → (v : ℕ) → pending_count v es ≤ 1
once_batch r [] batch all legal v = omega arith
once_batch r (e ∷ es) batch all legal v =
    elim (batch_no_start r e batch legal.0 all.0 v) [
      | inr still ↦ once_still r (e ∷ es) still all legal v
      | inl none ↦ elim (batch_step r e batch legal.0 all.0) [
        | inr still ↦ once_still r (e ∷ es) still all legal v
        | inl next_batch ↦ rw none (omega (arith, once_batch (after r e) es next_batch all.1 legal.1 v))
      ]
    ]

-- ---- after an external entry

-- where nothing is leaving, due or pulling, each start is a wanted variable's, and isn't behind
started_calm : (r : Reading) → IsQuiet r → pulls_on r ≡ false → (v : ℕ) (s : Start) → start_of r v ≡ Some s → is_behind r v ≡ false
started_calm r quiet none v s there =
    none_behind r quiet none v (true_from_ne_false (wanted r v) (λ w.
    false≢true (sym (quiet v).0 ∙ and_from (not (wanted r v)) (not (is_idle (start_of r v))) (not_from_false (wanted r v) w) (ap (λ (o : Option Start). not (is_idle o)) there))))

batch_quiet : (r : Reading) → Lawful r → IsQuiet r → pulls_on r ≡ false → Batch r
batch_quiet r law quiet none = record {
  law = law;
  based = λ v. based v (start_of r v) refl;
  stays = λ v. (quiet v).0;
  begun = λ v w. let t = calm_start r v (none_behind r quiet none v w) in ap is_idle t.1;
}
  where
    based : (v : ℕ) (o : Option Start) → start_of r v ≡ o → from_option true (λ (s : Start). same_base (footing r v) s.kept) (start_of r v) ≡ true
    based v None e = ap (λ (o : Option Start). from_option true (λ (s : Start). same_base (footing r v) s.kept) o) e
    based v (Some s) e =
        ap (λ (o : Option Start). from_option true (λ (s : Start). same_base (footing r v) s.kept) o) e
        ∙ subst (λ (f : Footing). same_base (footing r v) f ≡ true) (sym (kept_now r v s e (started_calm r quiet none v s e))) (same_base_refl (footing r v))

-- where the starts are of before, still nothing is pulling
still_grown : (r : Reading) (e : Entry) → Lawful r → Fits r e → IsQuiet r → pulls_on r ≡ false → ((v : ℕ) (s : Start) → start_of (after r e) v ≡ Some s → start_of r v ≡ Some s) → Still (after r e)
still_grown r e law fits quiet none old = record {
  law = lawful_after r e law fits;
  pulls = nothing_from (after r e) (λ v s there runs more.
      let was : start_of r v ≡ Some s = old v s there in
      absurd (false≢true (sym (pulls_nothing r law.sound none v) ∙ pulling_from r v (record { start = s; there = was; running = runs; calm = started_calm r quiet none v s was; later = more }))));
}

pub external_step : (r : Reading) (e : Entry) → Lawful r → Fits r e → is_of_variable e ≡ false → pulls_on r ≡ false → Batch (after r e) ⊎ Still (after r e)
external_step r (EditEntry editor edit) law fits is none =
    inr (still_grown r (EditEntry editor edit) law fits fits.0 none (λ v s h. grown_earlier r (after r (EditEntry editor edit)).sheet v s h))
external_step r (Dispose editor) law fits is none = inr (still_grown r (Dispose editor) law fits fits.0 none (λ v s h. h))
external_step r (Frame editor) law fits is none =
    inl (batch_same r (Frame editor) (batch_quiet r law fits.0 none) fits (pulled_from r 1 r.starts) (same_pulled r) (λ v. refl) (λ v. refl) (λ v. refl) (λ v. refl))
external_step r (Settled editor k a) law fits is none =
    inl (batch_same r (Settled editor k a) (batch_quiet r law fits.0 none) fits (change_start r (ticket_var r k) (answering a)).starts (same_change r (ticket_var r k) (answering a) (λ s. refl) (λ s. refl)) (λ v. refl) (λ v. refl) (λ v. refl) (λ v. refl))
external_step r (Loaded k a) law fits is none =
    inl (batch_same r (Loaded k a) (batch_quiet r law fits.0.0 none) fits (change_start r (ticket_var r k) (answering a)).starts (same_change r (ticket_var r k) (answering a) (λ s. refl) (λ s. refl)) (λ v. refl) (λ v. refl) (λ v. refl) (λ v. refl))
external_step r (Late editor k) law fits is none = inl (batch_same r (Late editor k) (batch_quiet r law fits.0 none) fits r.starts (same_starts r) (λ v. refl) (λ v. refl) (λ v. refl) (λ v. refl))
external_step r (Refused editor reason event) law fits is none = inl (batch_same r (Refused editor reason event) (batch_quiet r law fits.0 none) fits r.starts (same_starts r) (λ v. refl) (λ v. refl) (λ v. refl) (λ v. refl))
external_step r (Rest editor) law fits is none = inl (batch_same r (Rest editor) (batch_quiet r law fits.0.0 none) fits r.starts (same_starts r) (λ v. refl) (λ v. refl) (λ v. refl) (λ v. refl))
external_step r e law fits is none = absurd (false≢true (sym is))

once_after : (r : Reading) (e : Entry) (es : List Entry) → Lawful r → LegalFrom r (e ∷ es) → is_of_variable e ≡ false → pulls_on r ≡ false → AllOfVariables es → (v : ℕ) → pending_count v es ≤ 1
once_after r e es law legal is none all v =
    elim (external_step r e law legal.0 is none) [
      | inl batch ↦ once_batch (after r e) es batch all legal.1 v
      | inr still ↦ once_still (after r e) es still all legal.1 v
    ]

pub starts_once_between : StartsOnceBetween
starts_once_between builtins log e es legal more is none all v = once_after (reading builtins log) e es (lawful_log builtins log legal) more is none all v
