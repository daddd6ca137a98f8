-- A start with an open ticket has fewer answers than its pulls may fetch, so that its answer leaves less work.
use Rattle.std.proofs.Common.{ℕ, ◌+◌, ◌-◌, ◌*◌, ◌≡◌, ◌≤◌, ◌<◌, refl, sym, ◌∙◌, ap, subst, Bool, true, false, cond, ◌&&◌, ◌||◌, List, [], ◌∷◌, ◌++◌, length, length-append, Option, Some, None, is_some, arith}
use Rattle.std.specs.Prelude.{nat_le, ◌==◌}
use Rattle.std.proofs.lemmas.Bool.{false≢true, false_from_ne_true}
use Rattle.nb_value.specs.declared.pairs.Field.{Field}
use Rattle.nb_value.specs.declared.value.Value.{Value}
use Rattle.nb_value.specs.declared.outcome.Answer.{Answer}
use Rattle.nb_value.specs.declared.outcome.CellError.{CellError}
use Rattle.nb_eval.specs.Evaluation.{Evaluated}
use Rattle.nb_eval.specs.declared.given.Ending.{Ending}
use Rattle.nb_eval.specs.declared.given.Ending.TheVariants.{Paused, Needs, Done, Failed}
use Rattle.nb_sheet.specs.Lists.{Name, put, from_option, option_then}
use Rattle.nb_sheet.specs.declared.row.BodyOf.{BodyOf}
use Rattle.nb_sheet.specs.declared.row.BodyOf.TheVariants.{Cell as CellBody, Import as ImportBody}
use Rattle.nb_resolve.specs.Names.{inputs}
use Rattle.nb_history.specs.Reading.{Reading, Start, start_of, shown}
use Rattle.nb_history.specs.Rules.{due, run_body, values_given, body_of, generates, answers_of, pulls_of, evaluation, deciding_error, entry_of, evaluated, next}
use Rattle.nb_history.specs.Log.{after, is_live, ticket_var, settle, answering, IsQuiet, Rests, Fits}
use Rattle.nb_history.specs.Work.{later_pull, fetches_left, entries_left, over_starts, later_pulls, all_entries_left, open_count}
use Rattle.nb_log.specs.declared.entry.Entry.{Entry}
use Rattle.nb_log.specs.declared.entry.Entry.TheVariants.{Fulfilled, Rejected, Asked, Ended, Loaded}
use Rattle.nb_history.proofs.Closing.{IsDue, due_parts}
use Rattle.nb_history.proofs.Lawful.{Lawful, rest_none_behind}
use Rattle.nb_history.proofs.Between.{Keeps, behind_change}
use Rattle.nb_history.proofs.Opens.{leaving_change, open_change}
use Rattle.nb_history.proofs.NextEntry.{IsOutcome, outcome_start}
use Rattle.nb_history.proofs.EachStart.{Kept, IsTidy}
use Rattle.nb_history.proofs.Working.{over_put, there_in}
use Rattle.nb_history.proofs.Asks.{asks_few}

-- one with an open ticket may get an answer
pub record MayBeAnswered (s : Start) : Type 0 where
  pub pulled : 1 ≤ s.pulls
  pub few : is_some s.ticket ≡ true → length s.answers < 64 * s.pulls

-- ---- what asks needs an answer

asked_needs : (t v : ℕ) (generator first : Bool) (end : Evaluated) (ending : Ending) (u n : ℕ) (key : Name) → Asked u n key ≡ entry_of t v generator first end ending → (k : Name) × (ending ≡ Needs k)
asked_needs t v generator first end (Needs k) u n key h = (k, refl)
asked_needs t v generator first end (Failed e) u n key h = absurd (cc)
asked_needs t v generator first end Paused u n key h = absurd (cc)
asked_needs t v false first end (Done x) u n key h = absurd (cc)
asked_needs t v true true end (Done x) u n key h = absurd (cc)
asked_needs t v true false end (Done x) u n key h = absurd (cc)

body_asks : (b : Option BodyOf) (values : List (Field Value)) (answers : List Answer) (pulls : ℕ) (key : Name) → 1 ≤ pulls → (run_body b values answers pulls).ending ≡ Needs key → length answers < 64 * pulls
body_asks None values answers pulls key one h = absurd (cc)
body_asks (Some (ImportBody name from)) values answers pulls key one h = absurd (cc)
body_asks (Some (CellBody cell)) values answers pulls key one h = asks_few cell values answers pulls key one h

pub asked_few : (r : Reading) (u n : ℕ) (key : Name) (s : Start) → start_of r u ≡ Some s → 1 ≤ s.pulls → Asked u n key ≡ next r u → length s.answers < 64 * s.pulls
asked_few r u n key s there one h = go (deciding_error r (shown r) u) refl
  where
    answers : answers_of r u ≡ s.answers
    answers = ap (λ (o : Option Start). from_option [] (λ (s : Start). s.answers) o) there

    pulls : pulls_of r u ≡ s.pulls
    pulls = ap (λ (o : Option Start). from_option 0 (λ (s : Start). s.pulls) o) there

    go : (o : Option CellError) → deciding_error r (shown r) u ≡ o → length s.answers < 64 * s.pulls
    go (Some e) p =
        let is : Asked u n key ≡ Rejected u e = h ∙ ap (λ (o : Option CellError). from_option (evaluated r u) (λ e. Rejected u e) o) p in absurd (cc)
    go None p =
        let is : Asked u n key ≡ evaluated r u = h ∙ ap (λ (o : Option CellError). from_option (evaluated r u) (λ e. Rejected u e) o) p in
        let needs : (k : Name) × ((evaluation r (shown r) u).ending ≡ Needs k) =
        asked_needs (length r.tickets + 1) u (generates (body_of r.sheet u)) (pulls_of r u == 1) (evaluation r (shown r) u) (evaluation r (shown r) u).ending u n key is in
        let some : 1 ≤ pulls_of r u = subst (λ (p : ℕ). 1 ≤ p) (sym pulls) one in
        let few : length (answers_of r u) < 64 * pulls_of r u =
        body_asks (body_of r.sheet u) (values_given r.sheet (shown r) (inputs r.sheet u)) (answers_of r u) (pulls_of r u) needs.0 some needs.1 in
        subst (λ (p : ℕ). length s.answers < 64 * p) pulls (subst (λ (xs : List Answer). length xs < 64 * pulls_of r u) answers few)

-- ---- each start keeps it

of_outcome : (r : Reading) (v : ℕ) (e : Entry) (s : Start) → IsOutcome v e → Fits r e → start_of r v ≡ Some s → MayBeAnswered s → MayBeAnswered (outcome_start r e s)
of_outcome r v (Asked u t key) s h fits there p =
    let there_u : start_of r u ≡ Some s = ap (start_of r) h ∙ there in
    record { pulled = p.pulled; few = λ waits. asked_few r u t key s there_u p.pulled fits.2 }
of_outcome r v (Fulfilled u x) s h fits there p = record { pulled = p.pulled; few = p.few }
of_outcome r v (Rejected u x) s h fits there p = record { pulled = p.pulled; few = p.few }
of_outcome r v (Ended u) s h fits there p = record { pulled = p.pulled; few = p.few }
of_outcome r v e s h fits there p = absurd h

pub answers_kept : Kept MayBeAnswered
answers_kept = record {
  begins = λ n kept. record { pulled = omega arith; few = λ h. absurd (false≢true h) };
  pulls = λ s none p. record { pulled = omega arith; few = λ h. absurd (false≢true (sym none ∙ h)) };
  answers = λ a s p. record { pulled = p.pulled; few = λ h. absurd (false≢true h) };
  outcomes = of_outcome;
}

-- ---- the answer of a loader

-- the start of a live ticket's variable
pub record Open (r : Reading) (t : ℕ) : Type 0 where
  pub start : Start
  pub there : start_of r (ticket_var r t) ≡ Some start
  pub ticket : is_some start.ticket ≡ true

pub live_open : (r : Reading) (t : ℕ) → is_live r t ≡ true → Open r t
live_open r t h = go (start_of r (ticket_var r t)) refl
  where
    go : (o : Option Start) → start_of r (ticket_var r t) ≡ o → Open r t
    go None e = absurd (false≢true (ap (λ (o : Option Start). from_option false (λ n. n == t) (option_then o (λ s. s.ticket))) (sym e) ∙ h))
    go (Some s) e = at s.ticket refl
      where
        live : from_option false (λ n. n == t) s.ticket ≡ true
        live = ap (λ (o : Option Start). from_option false (λ n. n == t) (option_then o (λ s. s.ticket))) (sym e) ∙ h

        at : (o : Option ℕ) → s.ticket ≡ o → Open r t
        at None p = absurd (false≢true (ap (λ (o : Option ℕ). from_option false (λ n. n == t) o) (sym p) ∙ live))
        at (Some n) p = record { start = s; there = e; ticket = ap (λ (o : Option ℕ). is_some o) p }

answer_less : (a : Answer) (s : Start) → IsTidy s → MayBeAnswered s → is_some s.ticket ≡ true → entries_left (Some (answering a s)) < entries_left (Some s)
answer_less a s tidy may asks =
    let more : length (s.answers ++ a ∷ []) ≡ length s.answers + 1 = omega (arith, length-append s.answers (a ∷ [])) in
    let stopped : s.running ≡ false = not_running s.running tidy in
    let before : entries_left (Some s) ≡ 2 * (64 * s.pulls - length s.answers) =
    ap (λ (b : Bool). cond b (1 + 2 * fetches_left s) (cond (is_some s.ticket) (2 * fetches_left s) 0)) stopped
    ∙ ap (λ (b : Bool). cond b (2 * fetches_left s) 0) asks in
    less (entries_left (Some s)) s.pulls (length s.answers) (length (s.answers ++ a ∷ [])) before more (may.few asks)
  where
    not_running : (b : Bool) → (b ≡ true → is_some s.ticket ≡ false) → b ≡ false
    not_running false h = refl
    not_running true h = absurd (false≢true (sym (h refl) ∙ asks))

    less : (b p m n : ℕ) → b ≡ 2 * (64 * p - m) → n ≡ m + 1 → m < 64 * p → 1 + 2 * (64 * p - n) < b
    less b p m n q k h = omega arith

answer_pulls : (a : Answer) (s : Start) → is_some s.ticket ≡ true → later_pull (Some (answering a s)) ≡ later_pull (Some s)
answer_pulls a s asks = sym (ap (λ (b : Bool). cond (b && nat_le 2 s.pulls) 1 0) (at_work s.running (is_some s.ticket) asks))
  where
    at_work : (a b : Bool) → b ≡ true → (a || b) ≡ true
    at_work true b h = refl
    at_work false b h = h

module _ (r : Reading) (t : ℕ) (a : Answer) (o : Open r t) where
  abbrev v : ℕ
  v = ticket_var r t

  starts_are : (after r (Loaded t a)).starts ≡ put r.starts v (Some (answering a o.start))
  starts_are = ap (λ (x : Option Start). put r.starts v (option_then x (λ s. Some (answering a s)))) o.there

  over_now : (f : Option Start → ℕ) → over_starts f (after r (Loaded t a)).starts + f (Some o.start) ≡ over_starts f r.starts + f (Some (answering a o.start))
  over_now f =
      ap (λ (xs : List (Option Start)). over_starts f xs + f (Some o.start)) starts_are
      ∙ over_put f r.starts v (Some o.start) (Some (answering a o.start)) (there_in r.starts v o.start o.there)

  -- it opens nothing
  pub loaded_open : open_count (after r (Loaded t a)) ≤ open_count r
  loaded_open = open_change (settle r t) (ticket_var r t) (answering a) (λ s e. record { number = refl; kept = refl; renewal = refl })

  pub loaded_pulls : later_pulls (after r (Loaded t a)) ≤ later_pulls r
  loaded_pulls =
      at_most (later_pulls (after r (Loaded t a))) (later_pulls r) (later_pull (Some o.start)) (later_pull (Some (answering a o.start))) (over_now later_pull) (answer_pulls a o.start o.ticket)
    where
      at_most : (a b c d : ℕ) → a + c ≡ b + d → d ≡ c → a ≤ b
      at_most a b c d p q = omega arith

  pub loaded_fewer : IsTidy o.start → MayBeAnswered o.start → all_entries_left (after r (Loaded t a)) < all_entries_left r
  loaded_fewer tidy may =
      less (all_entries_left (after r (Loaded t a))) (all_entries_left r) (entries_left (Some o.start)) (entries_left (Some (answering a o.start))) (over_now entries_left) (answer_less a o.start tidy may o.ticket)
    where
      less : (a b c d : ℕ) → a + c ≡ b + d → d < c → a < b
      less a b c d p q = omega arith

-- where the log rests it makes nothing leave, and nothing due
pub loaded_quiet : (r : Reading) (t : ℕ) (a : Answer) → Lawful r → Rests r → IsQuiet (after r (Loaded t a))
loaded_quiet r t a law rests v =
    let q : Reading = after r (Loaded t a) in (
      leaving_change (settle r t) (ticket_var r t) (answering a) keeps v ∙ (rests.0 v).0,
      false_from_ne_true (due q v) (λ d.
          let is : IsDue q v = due_parts q v d in
          false≢true (sym (behind_change (settle r t) (ticket_var r t) (answering a) keeps v ∙ rest_none_behind r law rests v is.wanted) ∙ is.behind)),
    )
  where
    keeps : (s : Start) → start_of (settle r t) (ticket_var r t) ≡ Some s → Keeps s (answering a s)
    keeps s e = record { number = refl; kept = refl; renewal = refl }
