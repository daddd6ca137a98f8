-- What holds of a start at its site holds after each entry that changes the start.
use Rattle.std.proofs.Common.{inl, inr, ℕ, ◌≡◌, ◌≢◌, ◌+◌, ◌-◌, ◌<◌, ◌≤◌, eqb, refl, sym, ◌∙◌, ap, Bool, true, false, ◌||◌, List, [], ◌∷◌, ◌++◌, append-nil, append_assoc, length, length-append, arith, Option, Some, None, is_some}
use Rattle.std.proofs.lemmas.Bool.{cases_Bool, false≢true, eq-eqb, eqb-true}
use Rattle.std.proofs.lemmas.Option.{none-some}
use Rattle.nb_value.specs.declared.value.Value.{Value}
use Rattle.nb_value.specs.declared.outcome.Answer.{Answer}
use Rattle.nb_value.specs.declared.outcome.CellError.{CellError}
use Rattle.nb_value.specs.declared.outcome.Outcome.{Outcome}
use Rattle.nb_value.specs.declared.outcome.Outcome.TheVariants.{Value as Shows, Error as Fails}
use Rattle.nb_eval.specs.Laws.{IsFront}
use Rattle.nb_eval.specs.declared.given.Ending.{Ending}
use Rattle.nb_eval.specs.declared.given.Ending.TheVariants.{Paused, Needs, Done}
use Rattle.nb_sheet.specs.Lists.{Name}
use Rattle.nb_history.specs.Reading.{Start, Footing}
use Rattle.nb_history.specs.Rules.{first_error, generates, outcome_of}
use Rattle.nb_history.specs.Log.{new_start, answering, shows_value}
use Rattle.nb_log.specs.declared.entry.Entry.{Entry}
use Rattle.nb_log.specs.declared.entry.Entry.TheVariants.{Fulfilled, Rejected, Asked, Ended}
use Rattle.nb_eval.proofs.Yields.{most}
use Rattle.nb_history.proofs.Bodies.{answer_extends, pull_extends, paused_count, other_count, never_paused}
use Rattle.nb_history.proofs.Sites.{Site, end_at, local_by, local_at, shown_of, none_shown, Pulled, Holds}
use Rattle.nb_history.proofs.Outcomes.{next_by, ends_by, outcome_needs, outcome_done, fulfilled_local, fulfilled_paused, rejected_local, asked_parts, ended_parts, value_local}

-- ---- fronts

front_trans : (xs ys zs : List Value) → IsFront xs ys → IsFront ys zs → IsFront xs zs
front_trans xs ys zs h k = (h.0 ++ k.0, k.1 ∙ ap (λ (l : List Value). l ++ k.0) h.1 ∙ append_assoc xs h.0 k.0)

no_length : (ys : List Value) → length ys ≤ 0 → ys ≡ []
no_length [] h = refl
no_length (y ∷ ys) h = absurd (omega (arith, h))

-- a front as long as the whole
whole_front : (xs ys : List Value) → IsFront xs ys → length ys ≤ length xs → ys ≡ xs
whole_front xs ys f h =
    let e : length ys ≡ length xs + length f.0 = ap (λ (l : List Value). length l) f.1 ∙ length-append xs f.0 in
    f.1 ∙ ap (λ (l : List Value). xs ++ l) (no_length f.0 (omega (arith, h, e))) ∙ append-nil xs

some_length : (ys : List Value) (n : ℕ) → length ys ≡ 1 + n → ys ≢ []
some_length [] n h e = absurd (omega (arith, h))
some_length (y ∷ ys) n h e = cc

-- ---- a new start, an answer and a pull

pub new_holds : (x : Site) (n : ℕ) (f : Footing) → Holds x (new_start n f)
new_holds x n f =
    let idle : true ≡ false → ⊥ = λ k. cc in
    let nothing : false ≡ true → ⊥ = λ k. cc in
    record {
      some_pull = omega arith;
      alone = λ k. refl;
      inputs_show = λ c. absurd (elim c [ inl k ↦ idle k | inr k ↦ nothing k ]);
      pulled = λ c. record { made = []; pulls = refl; shows = refl; front = λ k. absurd (nothing k) };
      local = λ k. absurd (idle k);
      paused = λ k. absurd (idle k);
    }

pub answer_holds : (x : Site) (s : Start) (a : Answer) → is_some s.ticket ≡ true → Holds x s → Holds x (answering a s)
answer_holds x s a asks h =
    let p : Pulled x s = h.pulled (inr asks) in
    let idle : true ≡ false → ⊥ = λ k. cc in
    record {
      some_pull = h.some_pull;
      alone = λ k. refl;
      inputs_show = λ c. elim c [ inl k ↦ absurd (idle k) | inr k ↦ h.inputs_show (inr k) ];
      pulled = λ c. record {
        made = p.made;
        pulls = p.pulls;
        shows = p.shows;
        front = λ k.
            let q : (x.marked ≡ None) × (generates x.body ≡ true) × IsFront p.made (end_at x s).yields = p.front k in
            (q.0, q.1, front_trans p.made (end_at x s).yields (end_at x (answering a s)).yields q.2 (answer_extends x.body x.values s.answers a s.pulls));
      };
      local = λ k. absurd (idle k);
      paused = λ k. absurd (idle k);
    }

abbrev pub pulled_on : Start → Start
pulled_on s = record s { pulls = s.pulls + 1; running = true }

pub pull_holds : (x : Site) (s : Start) → generates x.body ≡ true → shows_value s.shown ≡ true → s.ended ≡ false → s.running ≡ false → s.ticket ≡ None → Holds x s → Holds x (pulled_on s)
pull_holds x s generator value more idle calm h =
    let running : true ≡ false → ⊥ = λ k. cc in
    let pauses : (end_at x s).ending ≡ Paused = h.paused idle calm more generator value in
    let count : length (end_at x s).yields ≡ most s.pulls = paused_count x.values s.answers s.pulls x.body pauses in
    let is_local : s.shown ≡ local_by x.marked x.waits (first_error x.givens) true (end_at x s).yields Paused =
    h.local idle
    ∙ ap (λ (b : Bool). local_by x.marked x.waits (first_error x.givens) b (end_at x s).yields (end_at x s).ending) generator
    ∙ ap (λ (e : Ending). local_by x.marked x.waits (first_error x.givens) true (end_at x s).yields e) pauses in
    let v : (x.marked ≡ None) × (local_by x.marked x.waits (first_error x.givens) true (end_at x s).yields Paused ≡ shown_of (end_at x s).yields) =
    value_local x.marked (first_error x.givens) x.waits (end_at x s).yields (ap shows_value (sym is_local) ∙ value) in
    record {
      some_pull = omega (arith, h.some_pull);
      alone = λ k. calm;
      inputs_show = λ c. h.inputs_show (inl idle);
      pulled = λ c. record {
        made = (end_at x s).yields;
        pulls = omega (arith, count, h.some_pull);
        shows = is_local ∙ v.1;
        front = λ k. (v.0, generator, pull_extends x.body x.values s.answers s.pulls);
      };
      local = λ k. absurd (running k);
      paused = λ k. absurd (running k);
    }

-- ---- what comes next of a start

abbrev pub next_at : ℕ → ℕ → Site → Start → Entry
next_at t v x s = next_by t v x.marked (first_error x.givens) (generates x.body) (eqb s.pulls 1) (end_at x s) (end_at x s).ending

abbrev pub ends_at : Site → Start → Bool
ends_at x s = ends_by x.marked (first_error x.givens) (generates x.body) (end_at x s).ending

abbrev pub shown_start : Outcome → Bool → List Value → ℕ → Start → Start
shown_start o ended owed renewal s = record s { shown = Some o; running = false; ended = ended; owed = owed; renewal = renewal }

abbrev pub asked_start : ℕ → List Value → Start → Start
asked_start n owed s = record s { ticket = Some n; running = false; owed = owed }

abbrev pub ended_start : List Value → Start → Start
ended_start owed s = record s { running = false; ended = true; owed = owed }

module _ (t v w : ℕ) (x : Site) (s : Start) (h : Holds x s) (runs : s.running ≡ true) (ready : x.marked ≡ None → x.waits ≡ false) where
  abbrev p : Pulled x s
  p = h.pulled (inl runs)

  running : false ≡ true → ⊥
  running k = cc

  -- it yielded no more than it was pulled for, where it didn't pause
  as_made : generates x.body ≡ true → (end_at x s).ending ≢ Paused → (end_at x s).yields ≡ p.made
  as_made generator other = go p.made refl
    where
      few : length (end_at x s).yields < most s.pulls
      few = other_count x.values s.answers s.pulls x.body other

      go : (made : List Value) → p.made ≡ made → (end_at x s).yields ≡ p.made
      go [] e =
          let none : length p.made ≡ 0 = ap (λ (l : List Value). length l) e in
          no_length (end_at x s).yields (omega (arith, few, p.pulls, none)) ∙ sym e
      go (m ∷ ms) e =
          let some : is_some s.shown ≡ true = ap (λ (o : Option Outcome). is_some o) (p.shows ∙ ap shown_of e) in
          whole_front p.made (end_at x s).yields (p.front some).2 (omega (arith, few, p.pulls))

  none_asks : is_some s.ticket ≡ true → ⊥
  none_asks k = false≢true (ap (λ (o : Option ℕ). is_some o) (sym (h.alone runs)) ∙ k)

  pub fulfilled_holds : (o : Value) (owed : List Value) (renewal : ℕ) → next_at t v x s ≡ Fulfilled w o → Holds x (shown_start (Shows o) (s.ended || ends_at x s) owed renewal s)
  fulfilled_holds o owed renewal e = record {
    some_pull = h.some_pull;
    alone = λ k. absurd (running k);
    inputs_show = λ c. ready;
    pulled = λ c. absurd (elim c [ inl k ↦ running k | inr k ↦ none_asks k ]);
    local = λ k. sym (fulfilled_local t v w (end_at x s) x.marked (first_error x.givens) x.waits (generates x.body) (eqb s.pulls 1) (end_at x s).ending o ready pauses begins e);
    paused = λ k calm more generator value.
        let g : next_by t v x.marked (first_error x.givens) true (eqb s.pulls 1) (end_at x s) (end_at x s).ending ≡ Fulfilled w o =
        ap (λ (b : Bool). next_by t v x.marked (first_error x.givens) b (eqb s.pulls 1) (end_at x s) (end_at x s).ending) (sym generator) ∙ e in
        let n : (s.ended || ends_by x.marked (first_error x.givens) true (end_at x s).ending) ≡ false =
        ap (λ (b : Bool). s.ended || ends_by x.marked (first_error x.givens) b (end_at x s).ending) (sym generator) ∙ more in
        fulfilled_paused t v w (end_at x s) x.marked (first_error x.givens) (eqb s.pulls 1) (end_at x s).ending o s.ended g n;
  }
    where
      pauses : (end_at x s).ending ≡ Paused → (generates x.body ≡ true) × ((end_at x s).yields ≢ [])
      pauses k = elim (cases_Bool (generates x.body)) [
        | inl generator ↦ (generator, some_length (end_at x s).yields (s.pulls - 1) (paused_count x.values s.answers s.pulls x.body k))
        | inr other ↦ absurd (never_paused x.values s.answers s.pulls x.body other k)
      ]

      begins : eqb s.pulls 1 ≡ true → (end_at x s).ending ≢ Paused → (end_at x s).yields ≡ []
      begins one other =
          let first : s.pulls ≡ 1 = eqb-true s.pulls 1 one in
          no_length (end_at x s).yields (omega (arith, first, other_count x.values s.answers s.pulls x.body other))

  pub rejected_holds : (d : CellError) (ended : Bool) (owed : List Value) (renewal : ℕ) → next_at t v x s ≡ Rejected w d → Holds x (shown_start (Fails d) ended owed renewal s)
  rejected_holds d ended owed renewal e = record {
    some_pull = h.some_pull;
    alone = λ k. absurd (running k);
    inputs_show = λ c. ready;
    pulled = λ c. absurd (elim c [ inl k ↦ running k | inr k ↦ none_asks k ]);
    local = λ k. sym (rejected_local t v w (end_at x s) x.marked (first_error x.givens) x.waits (generates x.body) (eqb s.pulls 1) (end_at x s).ending d ready e);
    paused = λ k calm more generator value. absurd (running value);
  }

  -- past the marks and the inputs' errors
  plain_local : (e : Ending) → x.marked ≡ None → first_error x.givens ≡ None → (end_at x s).ending ≡ e → local_at x s ≡ outcome_of (generates x.body) (end_at x s).yields e
  plain_local e m f k =
      ap (λ (z : Option CellError). local_by z x.waits (first_error x.givens) (generates x.body) (end_at x s).yields (end_at x s).ending) m
      ∙ ap (λ (b : Bool). local_by None b (first_error x.givens) (generates x.body) (end_at x s).yields (end_at x s).ending) (ready m)
      ∙ ap (λ (z : Option CellError). local_by None false z (generates x.body) (end_at x s).yields (end_at x s).ending) f
      ∙ ap (λ (z : Ending). outcome_of (generates x.body) (end_at x s).yields z) k

  pub asked_holds : (n : ℕ) (key : Name) (owed : List Value) → next_at t v x s ≡ Asked w n key → Holds x (asked_start n owed s)
  asked_holds n key owed e =
      let q : (x.marked ≡ None) × (first_error x.givens ≡ None) × ((k : Name) × ((end_at x s).ending ≡ Needs k)) =
      asked_parts t v w (end_at x s) x.marked (first_error x.givens) (generates x.body) (eqb s.pulls 1) (end_at x s).ending n key e in
      record {
        some_pull = h.some_pull;
        alone = λ k. absurd (running k);
        inputs_show = λ c. ready;
        pulled = λ c. record { made = p.made; pulls = p.pulls; shows = p.shows; front = p.front };
        local = λ k. by_kind q.2.0 q.2.1 ∙ sym (plain_local (Needs q.2.0) q.0 q.1 q.2.1);
        paused = λ k calm more generator value. absurd (none-some n (sym calm));
      }
    where
      by_kind : (key : Name) → (end_at x s).ending ≡ Needs key → s.shown ≡ outcome_of (generates x.body) (end_at x s).yields (Needs key)
      by_kind key k =
          let other : (end_at x s).ending ≢ Paused = λ j. cc in
          elim (cases_Bool (generates x.body)) [
            | inl generator ↦
                p.shows ∙ ap shown_of (sym (as_made generator other)) ∙ sym (outcome_needs (end_at x s).yields key)
                ∙ ap (λ (b : Bool). outcome_of b (end_at x s).yields (Needs key)) (sym generator)
            | inr plain ↦ elim (cases_Bool (is_some s.shown)) [
              | inl some ↦ absurd (false≢true (sym plain ∙ (p.front some).1))
              | inr none ↦ none_shown s.shown none ∙ ap (λ (b : Bool). outcome_of b (end_at x s).yields (Needs key)) (sym plain)
            ]
          ]

  pub ended_holds : (owed : List Value) → next_at t v x s ≡ Ended w → Holds x (ended_start owed s)
  ended_holds owed e =
      let q : (x.marked ≡ None) × (first_error x.givens ≡ None) × (generates x.body ≡ true) × (eqb s.pulls 1 ≡ false) × ((y : Value) × ((end_at x s).ending ≡ Done y)) =
      ended_parts t v w (end_at x s) x.marked (first_error x.givens) (generates x.body) (eqb s.pulls 1) (end_at x s).ending e in
      let ending : (end_at x s).ending ≡ Done q.4.0 = q.4.1 in
      let other : (end_at x s).ending ≢ Paused = λ j. cc in
      let made : (end_at x s).yields ≡ p.made = as_made q.2 other in
      let some : (end_at x s).yields ≢ [] = λ j.
      let none : length p.made ≡ 0 = ap (λ (l : List Value). length l) (sym made ∙ j) in
      let one : s.pulls ≡ 1 = omega (arith, p.pulls, none) in
      false≢true (sym q.3 ∙ eq-eqb s.pulls 1 one) in
      let is_local : s.shown ≡ local_at x s =
      p.shows ∙ ap shown_of (sym made) ∙ sym (outcome_done (end_at x s).yields q.4.0 some)
      ∙ ap (λ (b : Bool). outcome_of b (end_at x s).yields (Done q.4.0)) (sym q.2)
      ∙ sym (plain_local (Done q.4.0) q.0 q.1 ending) in
      record {
        some_pull = h.some_pull;
        alone = λ k. absurd (running k);
        inputs_show = λ c. ready;
        pulled = λ c. absurd (elim c [ inl k ↦ running k | inr k ↦ none_asks k ]);
        local = λ k. is_local;
        paused = λ k calm more generator value. absurd (running (sym more));
      }
