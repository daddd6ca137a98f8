-- Between an external entry before which nothing is pulling and the next one, each variable starts at most once.
use Rattle.std.proofs.Common.{inl, inr, ℕ, ◌+◌, ◌≡◌, ◌≢◌, ◌≤◌, refl, sym, ◌∙◌, ap, subst, true, false, not, ◌&&◌, List, [], ◌∷◌, arith, Option, Some, None, is_some}
use Rattle.std.specs.Prelude.{nat_le}
use Rattle.std.proofs.lemmas.Bool.{and_from, cases_Bool, cases_eq, false≢true, false_from_ne_true, true_from_ne_false, not_from_false, eqb-true, le-leb, leb-true}
use Rattle.std.proofs.lemmas.Option.{none-some, same_Some}
use Rattle.nb_graph.specs.Needs.{has}
use Rattle.nb_graph.proofs.Reaches.{has_any}
use Rattle.nb_value.specs.declared.value.Value.{Value}
use Rattle.nb_value.specs.declared.outcome.Outcome.{Outcome}
use Rattle.nb_value.specs.declared.outcome.Outcome.TheVariants.{Value as Shows, Error as Fails}
use Rattle.nb_sheet.specs.Lists.{nth, numbers, from_option, option_then}
use Rattle.nb_resolve.specs.Names.{direct}
use Rattle.nb_history.specs.Needs.{circular}
use Rattle.nb_history.specs.Reading.{Reading, Start, Footing, start_of, is_idle, number, renewal}
use Rattle.nb_history.specs.Rules.{footing, same_footing, leaving, is_behind, is_running, pulls_of, is_pulling, pulls_on, may_start, ready}
use Rattle.nb_history.specs.Log.{after, change_start, new_start, showing, asking, ending_now, Fits, LegalFrom}
use Rattle.nb_history.specs.Starts.{is_of_variable, AllOfVariables, starts, pending_count}
use Rattle.nb_log.specs.declared.entry.Entry.{Entry}
use Rattle.nb_log.specs.declared.entry.Entry.TheVariants.{Pending, Fulfilled, Rejected, Asked, Ended, Left}
use Rattle.nb_history.proofs.Closing.{nth_put_same, footing_agree, behind_by, start_other, start_self, behind_apart, due_has, leaving_has, started_has}
use Rattle.nb_history.proofs.Leaving.{start_else, behind_unrested}
use Rattle.nb_history.proofs.Shapes.{Sound}
use Rattle.nb_history.proofs.StartsAfter.{changed_part}
use Rattle.nb_history.proofs.Lawful.{Lawful, lawful_after, IsPulling, pulling_parts, ready_parts, kept_now, starts_footing, number_at, change_cases}
use Rattle.nb_history.proofs.Runs.{some_start, may_due, Served, served_pending, served_left, served_begun, starts_not, one_more}

-- ---- nothing is pulling

abbrev pub PullsNothing : Reading → Type 0
PullsNothing r = (v : ℕ) → is_pulling r v ≡ false

pub pulling_from : (r : Reading) (v : ℕ) → IsPulling r v → is_pulling r v ≡ true
pulling_from r v p =
    and_from (is_running r v && not (is_behind r v)) (nat_le 2 (pulls_of r v))
    (and_from (is_running r v) (not (is_behind r v)) (ap (λ (o : Option Start). from_option false (λ (s : Start). s.running) o) p.there ∙ p.running) (not_from_false (is_behind r v) p.calm))
    (ap (λ (o : Option Start). nat_le 2 (from_option 0 (λ (s : Start). s.pulls) o)) p.there ∙ le-leb 2 p.start.pulls p.later)

pub pulls_nothing : (r : Reading) → Sound r → pulls_on r ≡ false → PullsNothing r
pulls_nothing r sound h v =
    false_from_ne_true (is_pulling r v) (λ k.
    let p : IsPulling r v = pulling_parts r v k in
    let started : is_idle (start_of r v) ≡ false = ap is_idle p.there in
    false≢true (sym h ∙ has_any (is_pulling r) (numbers r.sheet.rows) v (started_has r sound.shaped v started) k))

-- what runs at a later pull is behind
abbrev pub LaterBehind : Reading → Type 0
LaterBehind r = (v : ℕ) (s : Start) → start_of r v ≡ Some s → s.running ≡ true → 2 ≤ s.pulls → is_behind r v ≡ true

pub later_behind : (r : Reading) → PullsNothing r → LaterBehind r
later_behind r none v s there runs more =
    true_from_ne_false (is_behind r v) (λ c. false≢true (sym (none v) ∙ pulling_from r v (record { start = s; there = there; running = runs; calm = c; later = more })))

pub nothing_from : (r : Reading) → LaterBehind r → PullsNothing r
nothing_from r behind v =
    false_from_ne_true (is_pulling r v) (λ k.
    let p : IsPulling r v = pulling_parts r v k in
    false≢true (sym p.calm ∙ behind v p.start p.there p.running p.later))

-- what isn't behind has a start
pub calm_start : (r : Reading) (v : ℕ) → is_behind r v ≡ false → (s : Start) × (start_of r v ≡ Some s)
calm_start r v h = go (start_of r v) refl
  where
    go : (o : Option Start) → start_of r v ≡ o → (s : Start) × (start_of r v ≡ Some s)
    go None e = absurd (false≢true (sym h ∙ ap (λ (o : Option Start). from_option true (λ (s : Start). not (same_footing (footing r v) s.kept)) o) e))
    go (Some s) e = (s, e)

-- ---- what is behind stays so while others start and leave

module _ (r : Reading) (law : Lawful r) (u : ℕ) (d : List Value) where
  behind_pending : may_start r u ≡ true → (v : ℕ) → u ≢ v → is_behind r v ≡ true → is_behind (after r (Pending u d)) v ≡ true
  behind_pending may v other h =
      elim (cases_Bool (circular r.sheet v)) [
        | inl c ↦ behind_apart r u d v other (λ n. absurd (false≢true (sym n ∙ c))) ∙ h
        | inr c ↦ elim (cases_Bool (has (direct r.sheet v) u)) [
          | inr none ↦ behind_apart r u d v other (λ _. none) ∙ h
          | inl some ↦ true_from_ne_false (is_behind (after r (Pending u d)) v) (λ calm. rests_on c some calm)
        ]
      ]
    where
      -- it would have kept the new number
      rests_on : circular r.sheet v ≡ false → has (direct r.sheet v) u ≡ true → is_behind (after r (Pending u d)) v ≡ false → ⊥
      rests_on c some calm =
          let q : Reading = after r (Pending u d) in
          let t : (s : Start) × (start_of q v ≡ Some s) = calm_start q v calm in
          let old : start_of r v ≡ Some t.0 = sym (start_other r u d v other) ∙ t.1 in
          let here : (o : Option Start) × (nth r.starts u ≡ Some o) = some_start r law.sound u (due_has r u (may_due r u may)) in
          let new : number q u ≡ r.entries + 1 = number_at q u (new_start (r.entries + 1) (footing r u)) (start_self r u d here.0 here.1) in
          let in_it : has t.0.kept.starts (number q u) ≡ true = subst (λ (f : Footing). has f.starts (number q u) ≡ true) (sym (kept_now q v t.0 t.1 calm)) (starts_footing q v u c some) in
          omega (arith, law.before v t.0 old (number q u) in_it, new)

  behind_leaving : leaving r u ≡ true → (v : ℕ) (s : Start) → start_of r v ≡ Some s → is_some s.shown ≡ true → u ≢ v → is_behind r v ≡ true → is_behind (after r (Left u d)) v ≡ true
  behind_leaving leaves v s there shows other h =
      elim (cases_Bool (circular r.sheet v)) [
        | inl c ↦ behind_unrested r law.sound.named u d leaves v (other, λ n. absurd (false≢true (sym n ∙ c))) ∙ h
        | inr c ↦ elim (cases_Bool (has (direct r.sheet v) u)) [
          | inr none ↦ behind_unrested r law.sound.named u d leaves v (other, λ _. none) ∙ h
          | inl some ↦ true_from_ne_false (is_behind (after r (Left u d)) v) (λ calm. rests_on c some calm)
        ]
      ]
    where
      -- it would have kept the number of an idle one
      rests_on : circular r.sheet v ≡ false → has (direct r.sheet v) u ≡ true → is_behind (after r (Left u d)) v ≡ false → ⊥
      rests_on c some calm =
          let q : Reading = after r (Left u d) in
          let now : start_of q v ≡ Some s = start_else r law.sound.named u d leaves v other ∙ there in
          let here : (o : Option Start) × (nth r.starts u ≡ Some o) = some_start r law.sound u (leaving_has r law.sound.shaped u leaves) in
          let gone : number q u ≡ 0 = ap (λ (z : Option (Option Start)). from_option 0 (λ (s : Start). s.number) (option_then z (λ s. s))) (nth_put_same r.starts u here.0 None here.1) in
          let in_it : has s.kept.starts (number q u) ≡ true = subst (λ (f : Footing). has f.starts (number q u) ≡ true) (sym (kept_now q v s now calm)) (starts_footing q v u c some) in
          omega (arith, (law.based v s there shows (number q u) in_it).0, gone)

-- ---- a start that changes and keeps its number, footing and renewal

pub record Keeps (s t : Start) : Type 0 where
  pub number : t.number ≡ s.number
  pub kept : t.kept ≡ s.kept
  pub renewal : t.renewal ≡ s.renewal

module _ (r : Reading) (u : ℕ) (change : Start → Start) where
  pub view : {A : Type 0} (g : Option Start → A) → ((s : Start) → start_of r u ≡ Some s → g (Some (change s)) ≡ g (Some s)) → (v : ℕ)
      → g (start_of (change_start r u change) v) ≡ g (start_of r v)
  view {A} g h v = changed_part g r u v change (go (start_of r u) refl)
    where
      go : (o : Option Start) → start_of r u ≡ o → g (option_then (start_of r u) (λ s. Some (change s))) ≡ g (start_of r u)
      go None e = ap (λ (o : Option Start). g (option_then o (λ s. Some (change s)))) e ∙ sym (ap g e)
      go (Some s) e = ap (λ (o : Option Start). g (option_then o (λ s. Some (change s)))) e ∙ h s e ∙ sym (ap g e)

  pub behind_change : ((s : Start) → start_of r u ≡ Some s → Keeps s (change s)) → (v : ℕ) → is_behind (change_start r u change) v ≡ is_behind r v
  behind_change keeps v =
      let q : Reading = change_start r u change in
      let footings : footing q v ≡ footing r v =
      footing_agree r.sheet (number q) (number r) (renewal q) (renewal r) v
      (λ c x h. view (λ (o : Option Start). from_option 0 (λ (s : Start). s.number) o) (λ s e. (keeps s e).number) x)
      (λ c x h. view (λ (o : Option Start). from_option 0 (λ (s : Start). s.renewal) o) (λ s e. (keeps s e).renewal) x) in
      ap (λ (f : Footing). behind_by f (start_of q v)) footings
      ∙ view (behind_by (footing r v)) (λ s e. ap (λ (k : Footing). not (same_footing (footing r v) k)) (keeps s e).kept) v

  later_change : ((s : Start) → start_of r u ≡ Some s → Keeps s (change s)) → ((s : Start) → (change s).running ≡ false) → LaterBehind r → LaterBehind (change_start r u change)
  later_change keeps still behind v t there runs more =
      elim (change_cases r u change v t there) [
        | inl old ↦ behind_change keeps v ∙ behind v t old runs more
        | inr p ↦ absurd (false≢true (sym (ap (λ (x : Start). x.running) p.3 ∙ still p.0) ∙ runs))
      ]

  served_change : ((s : Start) → start_of r u ≡ Some s → Keeps s (change s)) → (v : ℕ) → Served r v → Served (change_start r u change) v
  served_change keeps v h = (h.0, (behind_change keeps v ∙ h.1.0, λ c w n. behind_change keeps w ∙ h.1.1 c w n))

-- ---- where nothing is pulling, nothing is until the next external entry

pub record Still (r : Reading) : Type 0 where
  pub law : Lawful r
  pub pulls : PullsNothing r

-- a ready variable is at its first pull
pub first_pull : (r : Reading) → Still r → (u : ℕ) → ready r u ≡ true → (s : Start) → start_of r u ≡ Some s → nat_le 2 s.pulls ≡ false
first_pull r still u h s there =
    false_from_ne_true (nat_le 2 s.pulls) (λ k.
    let runs : s.running ≡ true = sym (ap (λ (o : Option Start). from_option false (λ (s : Start). s.running) o) there) ∙ (ready_parts r u h).running in
    false≢true (sym (ready_parts r u h).calm ∙ later_behind r still.pulls u s there runs (leb-true 2 s.pulls k)))

keeps_showing : (r : Reading) → Still r → (u : ℕ) (x : Outcome) → ready r u ≡ true → (s : Start) → start_of r u ≡ Some s → Keeps s (showing r u x s)
keeps_showing r still u x h s there = record { number = refl; kept = refl; renewal = rw (first_pull r still u h s there) refl }

later_after : (r : Reading) (e : Entry) → Still r → is_of_variable e ≡ true → Fits r e → LaterBehind (after r e)
later_after r (Pending u d) still is fits v t there runs more =
    elim (cases_eq u v) [
      | inl same ↦
          let here : (o : Option Start) × (nth r.starts u ≡ Some o) = some_start r still.law.sound u (due_has r u (may_due r u fits.0)) in
          let new : new_start (r.entries + 1) (footing r u) ≡ t = same_Some (new_start (r.entries + 1) (footing r u)) t (sym (start_self r u d here.0 here.1) ∙ (ap (start_of (after r (Pending u d))) same ∙ there)) in
          absurd (omega (arith, more, ap (λ (s : Start). s.pulls) new))
      | inr other ↦ behind_pending r still.law u d fits.0 v other (later_behind r still.pulls v t (sym (start_other r u d v other) ∙ there) runs more)
    ]
later_after r (Left u d) still is fits v t there runs more =
    elim (cases_eq u v) [
      | inl same ↦
          let here : (o : Option Start) × (nth r.starts u ≡ Some o) = some_start r still.law.sound u (leaving_has r still.law.sound.shaped u fits.0) in
          let gone : start_of (after r (Left u d)) u ≡ None = ap (λ (z : Option (Option Start)). option_then z (λ s. s)) (nth_put_same r.starts u here.0 None here.1) in
          absurd (none-some t (sym gone ∙ (ap (start_of (after r (Left u d))) same ∙ there)))
      | inr other ↦
          let old : start_of r v ≡ Some t = sym (start_else r still.law.sound.named u d fits.0 v other) ∙ there in
          behind_leaving r still.law u d fits.0 v t old (still.law.later v t old more) other (later_behind r still.pulls v t old runs more)
    ]
later_after r (Fulfilled u x) still is fits v t there runs more =
    later_change r u (showing r u (Shows x)) (keeps_showing r still u (Shows x) fits.1) (λ s. refl) (later_behind r still.pulls) v t there runs more
later_after r (Rejected u x) still is fits v t there runs more =
    later_change r u (showing r u (Fails x)) (keeps_showing r still u (Fails x) fits.1) (λ s. refl) (later_behind r still.pulls) v t there runs more
later_after r (Asked u k key) still is fits v t there runs more =
    later_change r u (asking r u k) (λ s e. record { number = refl; kept = refl; renewal = refl }) (λ s. refl) (later_behind r still.pulls) v t there runs more
later_after r (Ended u) still is fits v t there runs more =
    later_change r u (ending_now r u) (λ s e. record { number = refl; kept = refl; renewal = refl }) (λ s. refl) (later_behind r still.pulls) v t there runs more
later_after r e still is fits v t there runs more = absurd (false≢true is)

pub still_after : (r : Reading) (e : Entry) → Still r → is_of_variable e ≡ true → Fits r e → Still (after r e)
still_after r e still is fits = record { law = lawful_after r e still.law fits; pulls = nothing_from (after r e) (later_after r e still is fits) }

served_after : (r : Reading) (e : Entry) → Still r → is_of_variable e ≡ true → Fits r e → (v : ℕ) → Served r v → Served (after r e) v
served_after r (Pending u d) still is fits v h = served_pending r u d v fits.0 h
served_after r (Left u d) still is fits v h = served_left r still.law.sound u d v fits.0 h
served_after r (Fulfilled u x) still is fits v h = served_change r u (showing r u (Shows x)) (keeps_showing r still u (Shows x) fits.1) v h
served_after r (Rejected u x) still is fits v h = served_change r u (showing r u (Fails x)) (keeps_showing r still u (Fails x) fits.1) v h
served_after r (Asked u k key) still is fits v h = served_change r u (asking r u k) (λ s e. record { number = refl; kept = refl; renewal = refl }) v h
served_after r (Ended u) still is fits v h = served_change r u (ending_now r u) (λ s e. record { number = refl; kept = refl; renewal = refl }) v h
served_after r e still is fits v h = absurd (false≢true is)

-- what was served doesn't start
no_start : (r : Reading) (e : Entry) → is_of_variable e ≡ true → Fits r e → (v : ℕ) → Served r v → starts v e ≡ false
no_start r (Pending u d) is fits v h = starts_not r u v fits.0 h
no_start r (Left u d) is fits v h = refl
no_start r (Fulfilled u x) is fits v h = refl
no_start r (Rejected u x) is fits v h = refl
no_start r (Asked u k key) is fits v h = refl
no_start r (Ended u) is fits v h = refl
no_start r e is fits v h = absurd (false≢true is)

not_again : (r : Reading) (es : List Entry) (v : ℕ) → Still r → Served r v → AllOfVariables es → LegalFrom r es → pending_count v es ≡ 0
not_again r [] v still h all legal = refl
not_again r (e ∷ es) v still h all legal =
    let rest : pending_count v es ≡ 0 = not_again (after r e) es v (still_after r e still all.0 legal.0) (served_after r e still all.0 legal.0 v h) all.1 legal.1 in
    rw (no_start r e all.0 legal.0 v h) (omega (arith, rest))

-- what starts is served then
served_start : (r : Reading) (e : Entry) → Still r → is_of_variable e ≡ true → Fits r e → (v : ℕ) → starts v e ≡ true → Served (after r e) v
served_start r (Pending u d) still is fits v h = subst (Served (after r (Pending u d))) (eqb-true u v h) (served_begun r still.law.sound u d fits.0)
served_start r (Left u d) still is fits v h = absurd (false≢true h)
served_start r (Fulfilled u x) still is fits v h = absurd (false≢true h)
served_start r (Rejected u x) still is fits v h = absurd (false≢true h)
served_start r (Asked u k key) still is fits v h = absurd (false≢true h)
served_start r (Ended u) still is fits v h = absurd (false≢true h)
served_start r e still is fits v h = absurd (false≢true is)

pub once_still : (r : Reading) (es : List Entry) → Still r → AllOfVariables es → LegalFrom r es → (v : ℕ) → pending_count v es ≤ 1
once_still r [] still all legal v = omega arith
once_still r (e ∷ es) still all legal v =
    let q : Still (after r e) = still_after r e still all.0 legal.0 in
    elim (cases_Bool (starts v e)) [
      | inl is ↦ one_more (starts v e) (pending_count v es) (not_again (after r e) es v q (served_start r e still all.0 legal.0 v is) all.1 legal.1)
      | inr other ↦ rw other (omega (arith, once_still (after r e) es q all.1 legal.1 v))
    ]
