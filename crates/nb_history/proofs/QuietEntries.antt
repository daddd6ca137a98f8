-- The entries after which nothing is leaving or due where nothing was.
use Rattle.std.proofs.Common.{inl, inr, ℕ, ◌≡◌, ◌+◌, ◌≤◌, refl, arith, sym, ◌∙◌, ap, subst, Bool, true, false, not, ◌&&◌, Option, Some, None, is_some}
use Rattle.std.specs.Prelude.{nat_le}
use Rattle.std.proofs.lemmas.Bool.{cases_Bool, cases_eq, and_parts, false≢true, false_from_ne_true, eqb-true, leb-true}
use Rattle.nb_value.specs.declared.outcome.Answer.{Answer}
use Rattle.nb_value.specs.declared.outcome.Outcome.{Outcome}
use Rattle.nb_value.specs.declared.outcome.Outcome.TheVariants.{Value as Shows, Error as Fails}
use Rattle.nb_sheet.specs.Lists.{nth, from_option, option_then}
use Rattle.nb_log.specs.declared.entry.Entry.{Entry}
use Rattle.nb_log.specs.declared.entry.Entry.TheVariants.{Frame, Settled, Late, Loaded, Refused, Rest, Fulfilled, Rejected, Asked, Ended}
use Rattle.nb_history.specs.Reading.{Reading, Start, Footing, start_of}
use Rattle.nb_history.specs.Rules.{is_running, pulls_on, pulls_of, generates, body_of}
use Rattle.nb_history.specs.Log.{after, change_start, settle, ticket_var, answering, answered, showing, asking, ending_now, pulled, pulled_from, shows_value, IsQuiet}
use Rattle.nb_history.specs.Quiet.{may_open, OthersStayQuiet, FirstPullsStayQuiet}
use Rattle.nb_history.proofs.StartsAfter.{start_pulled, pulled_part, changed_itself, changed_other, Runs, running_start}
use Rattle.nb_history.proofs.Between.{Keeps, view}
use Rattle.nb_history.proofs.Quiets.{kept_of, Alike, SameKept, same_alike, quiet_while, GoesOn, quiet_on}

-- ---- a frame

pulled_view : {A : Type 0} (g : Option Start → A) → ((s : Start) → g (Some (record s { pulls = s.pulls + 1; running = true })) ≡ g (Some s)) → (r : Reading) (v : ℕ)
    → g (option_then (nth (pulled_from r 1 r.starts) v) (λ s. s)) ≡ g (start_of r v)
pulled_view g h r v = ap g (start_pulled r v) ∙ pulled_part g h r v (start_of r v)

abbrev runs : Option Start → Bool
runs o = from_option false (λ (s : Start). s.running) o

abbrev count : Option Start → ℕ
count o = from_option 0 (λ (s : Start). s.pulls) o

-- what runs isn't pulled
runs_on : (r : Reading) (v : ℕ) (o : Option Start) → runs o ≡ true → pulled r v o ≡ o
runs_on r v None h = refl
runs_on r v (Some s) h =
    let a : Bool = generates (body_of r.sheet v) && shows_value s.shown && not s.ended in
    elim (cases_Bool (a && not s.running && not (is_some s.ticket))) [
      | inr n ↦ rw n refl
      | inl y ↦
          let p = and_parts (a && not s.running) (not (is_some s.ticket)) y in
          let q = and_parts a (not s.running) p.0 in
          absurd (false≢true (sym (ap (λ (b : Bool). not b) h) ∙ q.1))
    ]

frame_goes_on : (r : Reading) → GoesOn r (pulled_from r 1 r.starts)
frame_goes_on r = record {
  number = pulled_view (λ (o : Option Start). from_option 0 (λ (s : Start). s.number) o) (λ s. refl) r;
  renewal = pulled_view (λ (o : Option Start). from_option 0 (λ (s : Start). s.renewal) o) (λ s. refl) r;
  kept = pulled_view kept_of (λ s. refl) r;
  pulls = λ v h k.
      let same : start_of (record r { starts = pulled_from r 1 r.starts }) v ≡ start_of r v = start_pulled r v ∙ runs_on r v (start_of r v) h in
      (ap runs same ∙ h, ap (λ (o : Option Start). nat_le 2 (count o)) same ∙ k);
}

-- ---- one start changes

-- and keeps its number, footing and renewal
change_same : (r : Reading) (u : ℕ) (f : Start → Start) → ((s : Start) → Keeps s (f s)) → SameKept r (change_start r u f).starts
change_same r u f keeps = record {
  number = view r u f (λ (o : Option Start). from_option 0 (λ (s : Start). s.number) o) (λ s e. (keeps s).number);
  renewal = view r u f (λ (o : Option Start). from_option 0 (λ (s : Start). s.renewal) o) (λ s e. (keeps s).renewal);
  kept = view r u f kept_of (λ s e. ap (λ (k : Footing). Some k) (keeps s).kept);
}

-- it runs at a second or later pull, where it did
abbrev pub GoesOnPulling : Start → Start → Type 0
GoesOnPulling s t = s.running ≡ true → nat_le 2 s.pulls ≡ true → (t.running ≡ true) × (nat_le 2 t.pulls ≡ true)

module _ (r : Reading) (u : ℕ) (f : Start → Start) (keeps : (s : Start) → start_of r u ≡ Some s → Keeps s (f s)) (pulls : (s : Start) → start_of r u ≡ Some s → GoesOnPulling s (f s)) where
  pulls_at : (v : ℕ) → is_running r v ≡ true → nat_le 2 (pulls_of r v) ≡ true → (is_running (change_start r u f) v ≡ true) × (nat_le 2 (pulls_of (change_start r u f) v) ≡ true)
  pulls_at v h k =
      elim (cases_eq u v) [
        | inr other ↦
            let same : start_of (change_start r u f) v ≡ start_of r v = changed_other r u v f other in
            (ap runs same ∙ h, ap (λ (o : Option Start). nat_le 2 (count o)) same ∙ k)
        | inl same ↦
            let running : Runs r v = running_start r v h in
            let there : start_of r u ≡ Some running.start = ap (start_of r) same ∙ running.there in
            let now : start_of (change_start r u f) v ≡ Some (f running.start) =
            ap (start_of (change_start r u f)) (sym same) ∙ changed_itself r u f ∙ ap (λ (o : Option Start). option_then o (λ s. Some (f s))) there in
            let later : nat_le 2 running.start.pulls ≡ true = sym (ap (λ (o : Option Start). nat_le 2 (count o)) running.there) ∙ k in
            let on = pulls running.start there running.running later in
            (ap runs now ∙ on.0, ap (λ (o : Option Start). nat_le 2 (count o)) now ∙ on.1)
      ]

  -- nothing is leaving or due after it where nothing was
  pub change_quiet : IsQuiet r → IsQuiet (change_start r u f)
  change_quiet = quiet_on r (change_start r u f).starts (record {
    number = view r u f (λ (o : Option Start). from_option 0 (λ (s : Start). s.number) o) (λ s e. (keeps s e).number);
    renewal = view r u f (λ (o : Option Start). from_option 0 (λ (s : Start). s.renewal) o) (λ s e. (keeps s e).renewal);
    kept = view r u f kept_of (λ s e. ap (λ (k : Footing). Some k) (keeps s e).kept);
    pulls = pulls_at;
  })

-- ---- each such entry

pub quiet_frame : (r : Reading) (editor : ℕ) → IsQuiet r → IsQuiet (after r (Frame editor))
quiet_frame r editor quiet = quiet_on r (pulled_from r 1 r.starts) (frame_goes_on r) quiet

pub stays_quiet : (r : Reading) (e : Entry) → may_open e ≡ false → IsQuiet r → IsQuiet (after r e)
stays_quiet r (Frame editor) h quiet = quiet_frame r editor quiet
stays_quiet r (Settled editor t a) h quiet =
    change_quiet (settle r t) (ticket_var r t) (answering a) (λ s e. record { number = refl; kept = refl; renewal = refl }) (λ s e running later. (refl, later)) quiet
stays_quiet r (Loaded t a) h quiet =
    change_quiet (settle r t) (ticket_var r t) (answering a) (λ s e. record { number = refl; kept = refl; renewal = refl }) (λ s e running later. (refl, later)) quiet
stays_quiet r (Late editor t) h quiet = λ v. quiet v
stays_quiet r (Refused editor reason event) h quiet = λ v. quiet v
stays_quiet r (Rest editor) h quiet = λ v. quiet v
stays_quiet r e h quiet = absurd (false≢true (sym h))

pub others_stay_quiet : OthersStayQuiet
others_stay_quiet = stays_quiet

-- ---- entries that leave what each start rests on

-- the sheet, what is wanted, and each start's number, renewal and kept footing stay
abbrev pub keeps_footings : Entry → Bool
keeps_footings (Frame editor) = true
keeps_footings (Settled editor t a) = true
keeps_footings (Late editor t) = true
keeps_footings (Loaded t a) = true
keeps_footings (Refused editor reason event) = true
keeps_footings (Rest editor) = true
keeps_footings (Asked v t key) = true
keeps_footings (Ended v) = true
keeps_footings e = false

same_starts : (r : Reading) → SameKept r r.starts
same_starts r = record { number = λ v. refl; renewal = λ v. refl; kept = λ v. refl }

same_frame : (r : Reading) → SameKept r (pulled_from r 1 r.starts)
same_frame r = let on = frame_goes_on r in record { number = on.number; renewal = on.renewal; kept = on.kept }

same_answer : (r : Reading) (t : ℕ) (a : Answer) → SameKept (settle r t) (answered r t a).starts
same_answer r t a = change_same (settle r t) (ticket_var r t) (answering a) (λ s. record { number = refl; kept = refl; renewal = refl })

same_ask : (r : Reading) (v t : ℕ) → SameKept r (change_start r v (asking r v t)).starts
same_ask r v t = change_same r v (asking r v t) (λ s. record { number = refl; kept = refl; renewal = refl })

same_end : (r : Reading) (v : ℕ) → SameKept r (change_start r v (ending_now r v)).starts
same_end r v = change_same r v (ending_now r v) (λ s. record { number = refl; kept = refl; renewal = refl })

-- who leaves, and who is behind or overtaken, stays
pub stays_alike : (r : Reading) (e : Entry) → keeps_footings e ≡ true → Alike r (after r e)
stays_alike r (Frame editor) h = let b = same_alike r (pulled_from r 1 r.starts) (same_frame r) in record { footing = b.footing; leaving = b.leaving; behind = b.behind; overtaken = b.overtaken }
stays_alike r (Settled editor t a) h = let b = same_alike (settle r t) (answered r t a).starts (same_answer r t a) in record { footing = b.footing; leaving = b.leaving; behind = b.behind; overtaken = b.overtaken }
stays_alike r (Late editor t) h = record { footing = λ v. refl; leaving = λ v. refl; behind = λ v. refl; overtaken = λ v. refl }
stays_alike r (Loaded t a) h = let b = same_alike (settle r t) (answered r t a).starts (same_answer r t a) in record { footing = b.footing; leaving = b.leaving; behind = b.behind; overtaken = b.overtaken }
stays_alike r (Refused editor reason event) h = record { footing = λ v. refl; leaving = λ v. refl; behind = λ v. refl; overtaken = λ v. refl }
stays_alike r (Rest editor) h = record { footing = λ v. refl; leaving = λ v. refl; behind = λ v. refl; overtaken = λ v. refl }
stays_alike r (Asked v t key) h = let b = same_alike r (change_start r v (asking r v t)).starts (same_ask r v t) in record { footing = b.footing; leaving = b.leaving; behind = b.behind; overtaken = b.overtaken }
stays_alike r (Ended v) h = let b = same_alike r (change_start r v (ending_now r v)).starts (same_end r v) in record { footing = b.footing; leaving = b.leaving; behind = b.behind; overtaken = b.overtaken }
stays_alike r e h = absurd (false≢true h)

-- so nothing is leaving or due after such an entry, where nothing was and something is still pulling if something was
pub quiet_while_pulling : (r : Reading) (e : Entry) → keeps_footings e ≡ true → (pulls_on r ≡ true → pulls_on (after r e) ≡ true) → IsQuiet r → IsQuiet (after r e)
quiet_while_pulling r (Asked v t key) h on quiet = quiet_while r (change_start r v (asking r v t)).starts (same_ask r v t) on quiet
quiet_while_pulling r (Ended v) h on quiet = quiet_while r (change_start r v (ending_now r v)).starts (same_end r v) on quiet
quiet_while_pulling r (Frame editor) h on quiet = stays_quiet r (Frame editor) refl quiet
quiet_while_pulling r (Settled editor t a) h on quiet = stays_quiet r (Settled editor t a) refl quiet
quiet_while_pulling r (Late editor t) h on quiet = stays_quiet r (Late editor t) refl quiet
quiet_while_pulling r (Loaded t a) h on quiet = stays_quiet r (Loaded t a) refl quiet
quiet_while_pulling r (Refused editor reason event) h on quiet = stays_quiet r (Refused editor reason event) refl quiet
quiet_while_pulling r (Rest editor) h on quiet = stays_quiet r (Rest editor) refl quiet
quiet_while_pulling r e h on quiet = absurd (false≢true h)

-- ---- a notice at a first pull

module _ (r : Reading) (u : ℕ) (few : pulls_of r u ≤ 1) where
  not_later : (s : Start) → start_of r u ≡ Some s → nat_le 2 s.pulls ≡ false
  not_later s there =
      false_from_ne_true (nat_le 2 s.pulls) (λ k.
      let now : pulls_of r u ≡ s.pulls = ap count there in
      let later : 2 ≤ s.pulls = leb-true 2 s.pulls k in
      absurd (omega (arith, few, now, later)))

  stopped : (f : Start → Start) (s : Start) → start_of r u ≡ Some s → GoesOnPulling s (f s)
  stopped f s there running later = absurd (false≢true (sym (not_later s there) ∙ later))

  shows_quiet : (x : Outcome) → IsQuiet r → IsQuiet (change_start r u (showing r u x))
  shows_quiet x =
      change_quiet r u (showing r u x) (λ s e. record { number = refl; kept = refl; renewal = rw (not_later s e) refl }) (stopped (showing r u x))

  asks_quiet : (t : ℕ) → IsQuiet r → IsQuiet (change_start r u (asking r u t))
  asks_quiet t = change_quiet r u (asking r u t) (λ s e. record { number = refl; kept = refl; renewal = refl }) (stopped (asking r u t))

  ends_quiet : IsQuiet r → IsQuiet (change_start r u (ending_now r u))
  ends_quiet = change_quiet r u (ending_now r u) (λ s e. record { number = refl; kept = refl; renewal = refl }) (stopped (ending_now r u))

pub first_pulls_stay_quiet : FirstPullsStayQuiet
first_pulls_stay_quiet r v (Fulfilled u x) is few quiet = shows_quiet r u (subst (λ (w : ℕ). pulls_of r w ≤ 1) (sym (eqb-true u v is)) few) (Shows x) quiet
first_pulls_stay_quiet r v (Rejected u x) is few quiet = shows_quiet r u (subst (λ (w : ℕ). pulls_of r w ≤ 1) (sym (eqb-true u v is)) few) (Fails x) quiet
first_pulls_stay_quiet r v (Asked u t key) is few quiet = asks_quiet r u (subst (λ (w : ℕ). pulls_of r w ≤ 1) (sym (eqb-true u v is)) few) t quiet
first_pulls_stay_quiet r v (Ended u) is few quiet = ends_quiet r u (subst (λ (w : ℕ). pulls_of r w ≤ 1) (sym (eqb-true u v is)) few) quiet
first_pulls_stay_quiet r v e is few quiet = absurd (false≢true is)
