-- What every reading of a legal log keeps of its starts: so what is pulling is ready.
use Rattle.std.proofs.Common.{inl, inr, ℕ, zero, suc, ◌+◌, ◌≡◌, ◌≤◌, refl, sym, ◌∙◌, ap, subst, Bool, true, false, not, ◌&&◌, ◌||◌, ◌⊎◌, List, [], ◌∷◌, map, arith, Option, Some, None, is_some}
use Rattle.std.specs.Prelude.{nat_le}
use Rattle.std.specs.List.{list_all, filter_map}
use Rattle.std.proofs.lemmas.Bool.{or_cases, or_left, or_right, and_parts, and_from, cases_Bool, cases_eq, false≢true, false_from_ne_true, not-true, not-false, not_from_false, leb-true}
use Rattle.std.proofs.lemmas.Option.{none-some, same_Some}
use Rattle.nb_graph.specs.Needs.{has}
use Rattle.nb_graph.proofs.Reaches.{has_head, has_tail, has_cases, any_has}
use Rattle.nb_value.specs.declared.pairs.Field.{Field}
use Rattle.nb_value.specs.declared.value.Value.{Value}
use Rattle.nb_value.specs.declared.outcome.Outcome.{Outcome}
use Rattle.nb_value.specs.declared.outcome.Outcome.TheVariants.{Value as Shows, Error as Fails}
use Rattle.nb_sheet.specs.Lists.{nth, numbers, from_option, option_then}
use Rattle.nb_sheet.specs.Sheet.{Sheet}
use Rattle.nb_sheet.specs.declared.row.VarRow.{VarRow}
use Rattle.nb_resolve.specs.Names.{inputs_of_row, is_duplicate_row, direct, duplicate, variable_of}
use Rattle.nb_history.specs.Needs.{circular}
use Rattle.nb_history.specs.Reading.{Reading, Start, Footing, start_of, shown, number}
use Rattle.nb_history.specs.Rules.{footing, same_footing, wanted, is_behind, is_running, pulls_of, is_pulling, pulls_on, ready, generates, body_of}
use Rattle.nb_history.specs.Log.{nothing_yet, after, read_from, reading, with_sheet, with_start, change_start, new_start, showing, asking, ending_now, answering, ticket_var, pulled, pulled_from, shows_value, Rests, Fits, LegalFrom, IsLegal}
use Rattle.nb_log.specs.declared.entry.Entry.{Entry}
use Rattle.nb_log.specs.declared.entry.Entry.TheVariants.{Edit as EditEntry, Frame, Settled, Late, Loaded, Refused, Rest, Dispose, Pending, Fulfilled, Rejected, Asked, Ended, Left}
use Rattle.nb_history.proofs.Footings.{same_footing_eq}
use Rattle.nb_history.proofs.StartsAfter.{inside, nth_put_none, start_put_other, start_put, start_sheet, start_pulled}
use Rattle.nb_history.proofs.Histories.{legal_keeps}
use Rattle.nb_history.proofs.Held.{none_behind}
use Rattle.nb_history.proofs.Shapes.{Sound, sound_after, sound_first}

-- ---- on lists

pub map_has : (f : ℕ → ℕ) (xs : List ℕ) (n : ℕ) → has (map f xs) n ≡ true → (x : ℕ) × (has xs x ≡ true) × (f x ≡ n)
map_has f [] n h = absurd (false≢true h)
map_has f (x ∷ xs) n h =
    elim (has_cases (f x) (map f xs) n h) [
      | inl same ↦ (x, has_head x xs x refl, same)
      | inr later ↦ let t : (y : ℕ) × (has xs y ≡ true) × (f y ≡ n) = map_has f xs n later in (t.0, has_tail x xs t.0 t.1, t.2)
    ]

pub has_map : (f : ℕ → ℕ) (xs : List ℕ) (x : ℕ) → has xs x ≡ true → has (map f xs) (f x) ≡ true
has_map f [] x h = absurd (false≢true h)
has_map f (y ∷ xs) x h =
    elim (has_cases y xs x h) [
      | inl same ↦ has_head (f y) (map f xs) (f x) (ap f same)
      | inr later ↦ has_tail (f y) (map f xs) (f x) (has_map f xs x later)
    ]

pub all_from : (p : ℕ → Bool) (xs : List ℕ) → ((x : ℕ) → has xs x ≡ true → p x ≡ true) → list_all p xs ≡ true
all_from p [] h = refl
all_from p (x ∷ xs) h = and_from (p x) (list_all p xs) (h x (has_head x xs x refl)) (all_from p xs (λ y k. h y (has_tail x xs y k)))

pub all_has : (p : ℕ → Bool) (xs : List ℕ) → list_all p xs ≡ true → (x : ℕ) → has xs x ≡ true → p x ≡ true
all_has p [] h x k = absurd (false≢true k)
all_has p (y ∷ xs) h x k =
    let t : (p y ≡ true) × (list_all p xs ≡ true) = and_parts (p y) (list_all p xs) h in
    elim (has_cases y xs x k) [ inl same ↦ ap p (sym same) ∙ t.0 | inr later ↦ all_has p xs t.1 x later ]

-- ---- a duplicate has no inputs

duplicate_bare : (s : Sheet) (v u : ℕ) → duplicate s v ≡ true → has (direct s v) u ≡ false
duplicate_bare s v u h = go (nth s.rows v) h
  where
    go : (o : Option VarRow) → from_option false (is_duplicate_row s) o ≡ true → has (filter_map variable_of (from_option [] (inputs_of_row s) o)) u ≡ false
    go None h = refl
    go (Some row) h = rw h refl

-- ---- which start a start goes on from

-- t is s, as an entry after r leaves it
pub record GoesOn (r : Reading) (v : ℕ) (s t : Start) : Type 0 where
  pub number : t.number ≡ s.number
  pub kept : t.kept ≡ s.kept
  pub shown : is_some s.shown ≡ true → is_some t.shown ≡ true
  pub shows : is_some t.shown ≡ true → (is_some s.shown ≡ true) ⊎ (ready r v ≡ true)
  pub pulls : 2 ≤ t.pulls → (2 ≤ s.pulls) ⊎ (is_some s.shown ≡ true)

pub stays : (r : Reading) (v : ℕ) (s : Start) → GoesOn r v s s
stays r v s = record { number = refl; kept = refl; shown = λ h. h; shows = λ h. inl h; pulls = λ h. inl h }

-- the start of v before, that t goes on from
pub record Earlier (r : Reading) (v : ℕ) (t : Start) : Type 0 where
  pub start : Start
  pub there : start_of r v ≡ Some start
  pub goes_on : GoesOn r v start t

-- the variable that starts
abbrev pub pended_var : Entry → ℕ
pended_var (Pending v d) = v
pended_var e = 0

pub record New (r : Reading) (e : Entry) (v : ℕ) (t : Start) : Type 0 where
  pub var : pended_var e ≡ v
  pub start : t ≡ new_start (r.entries + 1) (footing r v)

-- a changed start is v's, and any other is as it was
pub put_cases : (r : Reading) (u : ℕ) (o : Option Start) (v : ℕ) → (start_of (with_start r u o) v ≡ start_of r v) ⊎ ((u ≡ v) × (start_of (with_start r u o) v ≡ o))
put_cases r u o v =
    elim (cases_eq u v) [
      | inr other ↦ inl (start_put_other r.starts u v o other)
      | inl same ↦ subst (λ (x : ℕ). (start_of (with_start r u o) x ≡ start_of r x) ⊎ ((u ≡ x) × (start_of (with_start r u o) x ≡ o))) same (go (nth r.starts u) refl)
    ]
  where
    go : (z : Option (Option Start)) → nth r.starts u ≡ z → (start_of (with_start r u o) u ≡ start_of r u) ⊎ ((u ≡ u) × (start_of (with_start r u o) u ≡ o))
    go None e = inl (ap inside (nth_put_none r.starts u o e) ∙ sym (ap inside e))
    go (Some x) e = inr (refl, start_put r.starts u o x e)

-- a start after `change`
pub change_cases : (r : Reading) (u : ℕ) (change : Start → Start) (v : ℕ) (t : Start) → start_of (change_start r u change) v ≡ Some t
    → (start_of r v ≡ Some t) ⊎ ((s : Start) × (u ≡ v) × (start_of r v ≡ Some s) × (t ≡ change s))
change_cases r u change v t h =
    elim (put_cases r u (option_then (start_of r u) (λ s. Some (change s))) v) [
      | inl same ↦ inl (sym same ∙ h)
      | inr p ↦ go (start_of r u) refl p.0 (sym p.1 ∙ h)
    ]
  where
    go : (o : Option Start) → start_of r u ≡ o → u ≡ v → option_then (start_of r u) (λ s. Some (change s)) ≡ Some t
        → (start_of r v ≡ Some t) ⊎ ((s : Start) × (u ≡ v) × (start_of r v ≡ Some s) × (t ≡ change s))
    go None e same k = absurd (none-some t (sym (ap (λ (o : Option Start). option_then o (λ s. Some (change s))) e) ∙ k))
    go (Some s) e same k =
        inr (s, same, ap (start_of r) (sym same) ∙ e, sym (same_Some (change s) t (sym (ap (λ (o : Option Start). option_then o (λ s. Some (change s))) e) ∙ k)))

changed_earlier : (r : Reading) (u : ℕ) (change : Start → Start) → ((s : Start) → start_of r u ≡ Some s → GoesOn r u s (change s))
    → (v : ℕ) (t : Start) → start_of (change_start r u change) v ≡ Some t → Earlier r v t
changed_earlier r u change on v t h =
    elim (change_cases r u change v t h) [
      | inl old ↦ record { start = t; there = old; goes_on = stays r v t }
      | inr p ↦
          let there : start_of r u ≡ Some p.0 = ap (start_of r) p.1 ∙ p.2 in
          record {
            start = p.0;
            there = p.2;
            goes_on = subst (λ (x : Start). GoesOn r v p.0 x) (sym p.3) (subst (λ (x : ℕ). GoesOn r x p.0 (change p.0)) p.1 (on p.0 there));
          }
    ]

-- new variables are idle
pub grown_earlier : (r : Reading) (s : Sheet) (v : ℕ) (t : Start) → start_of (with_sheet r s) v ≡ Some t → start_of r v ≡ Some t
grown_earlier r s v t h = sym (start_sheet r s v) ∙ h

-- a pulled start
pulled_on : (r : Reading) (v w : ℕ) (o : Option Start) (t : Start) → pulled r w o ≡ Some t → (s : Start) × (o ≡ Some s) × GoesOn r v s t
pulled_on r v w None t h = absurd (none-some t h)
pulled_on r v w (Some s) t h =
    elim (cases_Bool (generates (body_of r.sheet w) && shows_value s.shown && not s.ended && not s.running && not (is_some s.ticket))) [
      | inr n ↦ (s, refl, subst (GoesOn r v s) (same_Some s t (rw n at h)) (stays r v s))
      | inl y ↦ (
        s,
        refl,
        subst (GoesOn r v s) (same_Some (record s { pulls = s.pulls + 1; running = true }) t (rw y at h)) (record {
          number = refl;
          kept = refl;
          shown = λ k. k;
          shows = λ k. inl k;
          pulls = λ k. inr (showing_value s.shown (test y));
        }),
      )
    ]
  where
    showing_value : (o : Option Outcome) → shows_value o ≡ true → is_some o ≡ true
    showing_value None k = absurd (false≢true k)
    showing_value (Some x) k = refl

    test : (generates (body_of r.sheet w) && shows_value s.shown && not s.ended && not s.running && not (is_some s.ticket)) ≡ true → shows_value s.shown ≡ true
    test y =
        let a = and_parts (generates (body_of r.sheet w) && shows_value s.shown && not s.ended && not s.running) (not (is_some s.ticket)) y in
        let b = and_parts (generates (body_of r.sheet w) && shows_value s.shown && not s.ended) (not s.running) a.0 in
        let c = and_parts (generates (body_of r.sheet w) && shows_value s.shown) (not s.ended) b.0 in
        (and_parts (generates (body_of r.sheet w)) (shows_value s.shown) c.0).1

pulled_earlier : (r : Reading) (v : ℕ) (t : Start) → inside (nth (pulled_from r 1 r.starts) v) ≡ Some t → Earlier r v t
pulled_earlier r v t h =
    let p : (s : Start) × (start_of r v ≡ Some s) × GoesOn r v s t = pulled_on r v v (start_of r v) t (sym (start_pulled r v) ∙ h) in
    record { start = p.0; there = p.1; goes_on = p.2 }

-- each start after an entry that fits goes on from one before, or is the new one
pub start_step : (r : Reading) (e : Entry) → Fits r e → (v : ℕ) (t : Start) → start_of (after r e) v ≡ Some t → Earlier r v t ⊎ New r e v t
start_step r (EditEntry editor edit) fits v t h =
    inl (record { start = t; there = grown_earlier r (after r (EditEntry editor edit)).sheet v t h; goes_on = stays r v t })
start_step r (Frame editor) fits v t h = inl (pulled_earlier r v t h)
start_step r (Settled editor k a) fits v t h =
    inl (changed_earlier r (ticket_var r k) (answering a) (λ s there. record { number = refl; kept = refl; shown = λ x. x; shows = λ x. inl x; pulls = λ x. inl x }) v t h)
start_step r (Loaded k a) fits v t h =
    inl (changed_earlier r (ticket_var r k) (answering a) (λ s there. record { number = refl; kept = refl; shown = λ x. x; shows = λ x. inl x; pulls = λ x. inl x }) v t h)
start_step r (Late editor k) fits v t h = inl (record { start = t; there = h; goes_on = stays r v t })
start_step r (Refused editor reason event) fits v t h = inl (record { start = t; there = h; goes_on = stays r v t })
start_step r (Rest editor) fits v t h = inl (record { start = t; there = h; goes_on = stays r v t })
start_step r (Dispose editor) fits v t h = inl (record { start = t; there = h; goes_on = stays r v t })
start_step r (Fulfilled u x) fits v t h =
    inl (changed_earlier r u (showing r u (Shows x)) (λ s there. record { number = refl; kept = refl; shown = λ k. refl; shows = λ k. inr fits.1; pulls = λ k. inl k }) v t h)
start_step r (Rejected u x) fits v t h =
    inl (changed_earlier r u (showing r u (Fails x)) (λ s there. record { number = refl; kept = refl; shown = λ k. refl; shows = λ k. inr fits.1; pulls = λ k. inl k }) v t h)
start_step r (Asked u k key) fits v t h =
    inl (changed_earlier r u (asking r u k) (λ s there. record { number = refl; kept = refl; shown = λ x. x; shows = λ x. inl x; pulls = λ x. inl x }) v t h)
start_step r (Ended u) fits v t h =
    inl (changed_earlier r u (ending_now r u) (λ s there. record { number = refl; kept = refl; shown = λ x. x; shows = λ x. inl x; pulls = λ x. inl x }) v t h)
start_step r (Left u d) fits v t h =
    elim (put_cases r u None v) [
      | inl same ↦ inl (record { start = t; there = sym same ∙ h; goes_on = stays r v t })
      | inr p ↦ absurd (none-some t (sym p.1 ∙ h))
    ]
start_step r (Pending u d) fits v t h =
    elim (put_cases r u (Some (new_start (r.entries + 1) (footing r u))) v) [
      | inl same ↦ inl (record { start = t; there = sym same ∙ h; goes_on = stays r v t })
      | inr p ↦
          let q : new_start (r.entries + 1) (footing r u) ≡ t = same_Some (new_start (r.entries + 1) (footing r u)) t (sym p.1 ∙ h) in
          inr (record { var = p.0; start = sym q ∙ ap (λ (x : ℕ). new_start (r.entries + 1) (footing r x)) p.0 })
    ]

pub one_more_entry : (r : Reading) (e : Entry) → (after r e).entries ≡ r.entries + 1
one_more_entry r (EditEntry editor edit) = refl
one_more_entry r (Frame editor) = refl
one_more_entry r (Settled editor t a) = refl
one_more_entry r (Late editor t) = refl
one_more_entry r (Loaded t a) = refl
one_more_entry r (Refused editor reason event) = refl
one_more_entry r (Rest editor) = refl
one_more_entry r (Dispose editor) = refl
one_more_entry r (Pending v d) = refl
one_more_entry r (Fulfilled v x) = refl
one_more_entry r (Rejected v e) = refl
one_more_entry r (Asked v t key) = refl
one_more_entry r (Ended v) = refl
one_more_entry r (Left v d) = refl

-- ---- what every legal log keeps

pub record Lawful (r : Reading) : Type 0 where
  pub sound : Sound r
  -- a start's number is a place of the log, and no other start has it
  pub placed : (v : ℕ) (s : Start) → start_of r v ≡ Some s → (1 ≤ s.number) × (s.number ≤ r.entries)
  pub alone : (v w : ℕ) (s t : Start) → start_of r v ≡ Some s → start_of r w ≡ Some t → s.number ≡ t.number → v ≡ w
  -- it rests on starts of before
  pub before : (v : ℕ) (s : Start) → start_of r v ≡ Some s → (n : ℕ) → has s.kept.starts n ≡ true → n ≤ r.entries
  -- a later pull comes only where something shows
  pub later : (v : ℕ) (s : Start) → start_of r v ≡ Some s → 2 ≤ s.pulls → is_some s.shown ≡ true
  -- what shows rests on starts that were there, and those of them that are there show
  pub based : (v : ℕ) (s : Start) → start_of r v ≡ Some s → is_some s.shown ≡ true → (n : ℕ) → has s.kept.starts n ≡ true
      → (1 ≤ n) × ((w : ℕ) (t : Start) → start_of r w ≡ Some t → t.number ≡ n → is_some t.shown ≡ true)

-- a start that isn't behind keeps the footing now
pub kept_now : (r : Reading) (v : ℕ) (s : Start) → start_of r v ≡ Some s → is_behind r v ≡ false → s.kept ≡ footing r v
kept_now r v s there h =
    sym (same_footing_eq (footing r v) s.kept
    (not-false (same_footing (footing r v) s.kept) (sym (ap (λ (o : Option Start). from_option true (λ (s : Start). not (same_footing (footing r v) s.kept)) o) there) ∙ h)))

-- the start numbers among a footing are those of its inputs
pub footing_starts : (r : Reading) (v n : ℕ) → has (footing r v).starts n ≡ true → (circular r.sheet v ≡ false) × ((u : ℕ) × (has (direct r.sheet v) u ≡ true) × (number r u ≡ n))
footing_starts r v n h =
    elim (cases_Bool (circular r.sheet v)) [
      | inl c ↦ absurd (false≢true (rw c at h))
      | inr c ↦ (c, map_has (number r) (direct r.sheet v) n (rw c at h))
    ]

pub starts_footing : (r : Reading) (v u : ℕ) → circular r.sheet v ≡ false → has (direct r.sheet v) u ≡ true → has (footing r v).starts (number r u) ≡ true
starts_footing r v u c h = rw c (has_map (number r) (direct r.sheet v) u h)

-- what a ready variable is
pub record IsReady (r : Reading) (v : ℕ) : Type 0 where
  pub running : is_running r v ≡ true
  pub calm : is_behind r v ≡ false
  pub shows : circular r.sheet v ≡ false → (u : ℕ) → has (direct r.sheet v) u ≡ true → is_some (shown r u) ≡ true

pub ready_parts : (r : Reading) (v : ℕ) → ready r v ≡ true → IsReady r v
ready_parts r v h =
    let all = list_all (λ u. is_some (shown r u)) (direct r.sheet v) in
    let p : ((is_running r v && not (is_behind r v)) ≡ true) × ((duplicate r.sheet v || circular r.sheet v || all) ≡ true)
    = and_parts (is_running r v && not (is_behind r v)) (duplicate r.sheet v || circular r.sheet v || all) h in
    let q : (is_running r v ≡ true) × (not (is_behind r v) ≡ true) = and_parts (is_running r v) (not (is_behind r v)) p.0 in
    record {
      running = q.0;
      calm = not-true (is_behind r v) q.1;
      shows = λ c u k. elim (or_cases (duplicate r.sheet v || circular r.sheet v) all p.1) [
        | inl marked ↦ elim (or_cases (duplicate r.sheet v) (circular r.sheet v) marked) [
          | inl d ↦ absurd (false≢true (sym (duplicate_bare r.sheet v u d) ∙ k))
          | inr circ ↦ absurd (false≢true (sym c ∙ circ))
        ]
        | inr each ↦ all_has (λ u. is_some (shown r u)) (direct r.sheet v) each u k
      ];
    }

pub ready_from : (r : Reading) (v : ℕ) → IsReady r v → ready r v ≡ true
ready_from r v h =
    let all = list_all (λ u. is_some (shown r u)) (direct r.sheet v) in
    and_from (is_running r v && not (is_behind r v)) (duplicate r.sheet v || circular r.sheet v || all)
    (and_from (is_running r v) (not (is_behind r v)) h.running (not_from_false (is_behind r v) h.calm))
    (elim (cases_Bool (circular r.sheet v)) [
      | inl c ↦ or_left (duplicate r.sheet v || circular r.sheet v) all (or_right (duplicate r.sheet v) (circular r.sheet v) c)
      | inr c ↦ or_right (duplicate r.sheet v || circular r.sheet v) all (all_from (λ u. is_some (shown r u)) (direct r.sheet v) (h.shows c))
    ])

-- a variable that shows has a start
shown_start : (r : Reading) (u : ℕ) → is_some (shown r u) ≡ true → (s : Start) × (start_of r u ≡ Some s) × (is_some s.shown ≡ true)
shown_start r u h = go (start_of r u) refl h
  where
    go : (o : Option Start) → start_of r u ≡ o → is_some (option_then o (λ s. s.shown)) ≡ true → (s : Start) × (start_of r u ≡ Some s) × (is_some s.shown ≡ true)
    go None e k = absurd (false≢true k)
    go (Some s) e k = (s, e, k)

pub number_at : (r : Reading) (u : ℕ) (s : Start) → start_of r u ≡ Some s → number r u ≡ s.number
number_at r u s e = ap (λ (o : Option Start). from_option 0 (λ (s : Start). s.number) o) e

module _ (r : Reading) (e : Entry) (law : Lawful r) (fits : Fits r e) where
  number_within : (u : ℕ) → number r u ≤ r.entries
  number_within u = go (start_of r u) refl
    where
      go : (o : Option Start) → start_of r u ≡ o → from_option 0 (λ (s : Start). s.number) o ≤ r.entries
      go None k = omega arith
      go (Some s) k = (law.placed u s k).1

  placed_after : (v : ℕ) (t : Start) → start_of (after r e) v ≡ Some t → (1 ≤ t.number) × (t.number ≤ r.entries + 1)
  placed_after v t h =
      elim (start_step r e fits v t h) [
        | inl old ↦
            let p : (1 ≤ old.start.number) × (old.start.number ≤ r.entries) = law.placed v old.start old.there in
            (omega (arith, p.0, old.goes_on.number), omega (arith, p.1, old.goes_on.number))
        | inr new ↦
            let p : t.number ≡ r.entries + 1 = ap (λ (x : Start). x.number) new.start in
            (omega (arith, p), omega (arith, p))
      ]

  alone_after : (v w : ℕ) (s t : Start) → start_of (after r e) v ≡ Some s → start_of (after r e) w ≡ Some t → s.number ≡ t.number → v ≡ w
  alone_after v w s t h k same =
      elim (start_step r e fits v s h) [
        | inl a ↦ elim (start_step r e fits w t k) [
          | inl b ↦ law.alone v w a.start b.start a.there b.there (sym a.goes_on.number ∙ same ∙ b.goes_on.number)
          | inr b ↦
              let p : (1 ≤ a.start.number) × (a.start.number ≤ r.entries) = law.placed v a.start a.there in
              let q : t.number ≡ r.entries + 1 = ap (λ (x : Start). x.number) b.start in
              absurd (omega (arith, p.1, q, same, a.goes_on.number))
        ]
        | inr a ↦ elim (start_step r e fits w t k) [
          | inl b ↦
              let p : (1 ≤ b.start.number) × (b.start.number ≤ r.entries) = law.placed w b.start b.there in
              let q : s.number ≡ r.entries + 1 = ap (λ (x : Start). x.number) a.start in
              absurd (omega (arith, p.1, q, same, b.goes_on.number))
          | inr b ↦ sym a.var ∙ b.var
        ]
      ]

  before_after : (v : ℕ) (t : Start) → start_of (after r e) v ≡ Some t → (n : ℕ) → has t.kept.starts n ≡ true → n ≤ r.entries
  before_after v t h n k =
      elim (start_step r e fits v t h) [
        | inl old ↦ law.before v old.start old.there n (subst (λ (f : Footing). has f.starts n ≡ true) old.goes_on.kept k)
        | inr new ↦
            let p : t.kept ≡ footing r v = ap (λ (x : Start). x.kept) new.start in
            let q : (circular r.sheet v ≡ false) × ((u : ℕ) × (has (direct r.sheet v) u ≡ true) × (number r u ≡ n)) = footing_starts r v n (subst (λ (f : Footing). has f.starts n ≡ true) p k) in
            subst (λ (x : ℕ). x ≤ r.entries) q.1.2 (number_within q.1.0)
      ]

  later_after : (v : ℕ) (t : Start) → start_of (after r e) v ≡ Some t → 2 ≤ t.pulls → is_some t.shown ≡ true
  later_after v t h k =
      elim (start_step r e fits v t h) [
        | inl old ↦ old.goes_on.shown (elim (old.goes_on.pulls k) [ inl p ↦ law.later v old.start old.there p | inr p ↦ p ])
        | inr new ↦ let p : t.pulls ≡ 1 = ap (λ (x : Start). x.pulls) new.start in absurd (omega (arith, k, p))
      ]

  -- a start with a number of before shows, where it did
  still_shows : (n : ℕ) → n ≤ r.entries → ((w : ℕ) (s : Start) → start_of r w ≡ Some s → s.number ≡ n → is_some s.shown ≡ true)
      → (w : ℕ) (t : Start) → start_of (after r e) w ≡ Some t → t.number ≡ n → is_some t.shown ≡ true
  still_shows n small all w t h same =
      elim (start_step r e fits w t h) [
        | inl old ↦ old.goes_on.shown (all w old.start old.there (sym old.goes_on.number ∙ same))
        | inr new ↦ let p : t.number ≡ r.entries + 1 = ap (λ (x : Start). x.number) new.start in absurd (omega (arith, p, same, small))
      ]

  -- what is ready rests on starts that show
  ready_based : (v : ℕ) → ready r v ≡ true → (n : ℕ) → has (footing r v).starts n ≡ true
      → (1 ≤ n) × ((w : ℕ) (s : Start) → start_of r w ≡ Some s → s.number ≡ n → is_some s.shown ≡ true)
  ready_based v h n k =
      let q : (circular r.sheet v ≡ false) × ((u : ℕ) × (has (direct r.sheet v) u ≡ true) × (number r u ≡ n)) = footing_starts r v n k in
      let s : (s : Start) × (start_of r q.1.0 ≡ Some s) × (is_some s.shown ≡ true) = shown_start r q.1.0 ((ready_parts r v h).shows q.0 q.1.0 q.1.1) in
      let is : s.0.number ≡ n = sym (number_at r q.1.0 s.0 s.1) ∙ q.1.2 in (
        subst (λ (x : ℕ). 1 ≤ x) is (law.placed q.1.0 s.0 s.1).0,
        λ w t at same.
            let one : q.1.0 ≡ w = law.alone q.1.0 w s.0 t s.1 at (is ∙ sym same) in
            let same_start : s.0 ≡ t = same_Some s.0 t (sym s.1 ∙ ap (start_of r) one ∙ at) in
            subst (λ (x : Start). is_some x.shown ≡ true) same_start s.2,
      )

  based_after : (v : ℕ) (t : Start) → start_of (after r e) v ≡ Some t → is_some t.shown ≡ true → (n : ℕ) → has t.kept.starts n ≡ true
      → (1 ≤ n) × ((w : ℕ) (x : Start) → start_of (after r e) w ≡ Some x → x.number ≡ n → is_some x.shown ≡ true)
  based_after v t h shows n k =
      elim (start_step r e fits v t h) [
        | inr new ↦ absurd (false≢true (sym (ap (λ (x : Start). is_some x.shown) new.start) ∙ shows))
        | inl old ↦
            let k' : has old.start.kept.starts n ≡ true = subst (λ (f : Footing). has f.starts n ≡ true) old.goes_on.kept k in
            let small : n ≤ r.entries = law.before v old.start old.there n k' in
            let was : (1 ≤ n) × ((w : ℕ) (s : Start) → start_of r w ≡ Some s → s.number ≡ n → is_some s.shown ≡ true) = elim (old.goes_on.shows shows) [
              | inl before ↦ law.based v old.start old.there before n k'
              | inr now ↦ ready_based v now n (subst (λ (f : Footing). has f.starts n ≡ true) (kept_now r v old.start old.there (ready_parts r v now).calm) k')
            ] in
            (was.0, still_shows n small was.1)
      ]

  pub lawful_after : Lawful (after r e)
  lawful_after = record {
    sound = sound_after r e law.sound;
    placed = λ v t h. let p : (1 ≤ t.number) × (t.number ≤ r.entries + 1) = placed_after v t h in (p.0, omega (arith, p.1, one_more_entry r e));
    alone = alone_after;
    before = λ v t h n k. omega (arith, before_after v t h n k, one_more_entry r e);
    later = later_after;
    based = based_after;
  }

pub lawful_first : (builtins : List (Field Value)) → Lawful (nothing_yet builtins)
lawful_first builtins = record {
  sound = sound_first builtins;
  placed = λ v s h. absurd (idle v s h);
  alone = λ v w s t h k e. absurd (idle v s h);
  before = λ v s h n k. absurd (idle v s h);
  later = λ v s h k. absurd (idle v s h);
  based = λ v s h shows n k. absurd (idle v s h);
}
  where
    idle : (v : ℕ) (s : Start) → start_of (nothing_yet builtins) v ≡ Some s → ⊥
    idle zero s h = none-some s h
    idle (suc i) s h = none-some s h

pub lawful_from : (r : Reading) (es : List Entry) → Lawful r → LegalFrom r es → Lawful (read_from r es)
lawful_from r es h legal = legal_keeps Lawful (λ q e law fits. lawful_after q e law fits) r es h legal

pub lawful_log : (builtins : List (Field Value)) (log : List Entry) → IsLegal builtins log → Lawful (reading builtins log)
lawful_log builtins log legal = lawful_from (nothing_yet builtins) log (lawful_first builtins) legal

-- ---- what is pulling is ready, because its inputs keep their starts and renewals

-- what is pulling
pub record IsPulling (r : Reading) (v : ℕ) : Type 0 where
  pub start : Start
  pub there : start_of r v ≡ Some start
  pub running : start.running ≡ true
  pub calm : is_behind r v ≡ false
  pub later : 2 ≤ start.pulls

pub pulling_parts : (r : Reading) (v : ℕ) → is_pulling r v ≡ true → IsPulling r v
pulling_parts r v h =
    let p : ((is_running r v && not (is_behind r v)) ≡ true) × (nat_le 2 (pulls_of r v) ≡ true) = and_parts (is_running r v && not (is_behind r v)) (nat_le 2 (pulls_of r v)) h in
    let q : (is_running r v ≡ true) × (not (is_behind r v) ≡ true) = and_parts (is_running r v) (not (is_behind r v)) p.0 in
    go (start_of r v) refl q.0 (not-true (is_behind r v) q.1) p.1
  where
    go : (o : Option Start) → start_of r v ≡ o → from_option false (λ (s : Start). s.running) o ≡ true → is_behind r v ≡ false
        → nat_le 2 (from_option 0 (λ (s : Start). s.pulls) o) ≡ true → IsPulling r v
    go None e runs calm pulls = absurd (false≢true runs)
    go (Some s) e runs calm pulls = record { start = s; there = e; running = runs; calm = calm; later = leb-true 2 s.pulls pulls }

pub pulling_ready : (r : Reading) → Lawful r → (v : ℕ) → is_pulling r v ≡ true → ready r v ≡ true
pulling_ready r law v h =
    let p : IsPulling r v = pulling_parts r v h in
    let shows : is_some p.start.shown ≡ true = law.later v p.start p.there p.later in
    let kept : p.start.kept ≡ footing r v = kept_now r v p.start p.there p.calm in
    ready_from r v (record {
      running = ap (λ (o : Option Start). from_option false (λ (s : Start). s.running) o) p.there ∙ p.running;
      calm = p.calm;
      shows = λ c u k.
          let in_it : has p.start.kept.starts (number r u) ≡ true = subst (λ (f : Footing). has f.starts (number r u) ≡ true) (sym kept) (starts_footing r v u c k) in
          let b : (1 ≤ number r u) × ((w : ℕ) (t : Start) → start_of r w ≡ Some t → t.number ≡ number r u → is_some t.shown ≡ true) = law.based v p.start p.there shows (number r u) in_it in
          input_shows u b.0 b.1;
    })
  where
    input_shows : (u : ℕ) → 1 ≤ number r u → ((w : ℕ) (t : Start) → start_of r w ≡ Some t → t.number ≡ number r u → is_some t.shown ≡ true) → is_some (shown r u) ≡ true
    input_shows u some all = go (start_of r u) refl some
      where
        go : (o : Option Start) → start_of r u ≡ o → 1 ≤ from_option 0 (λ (s : Start). s.number) o → is_some (shown r u) ≡ true
        go None e k = absurd (omega (arith, k))
        go (Some s) e k = ap (λ (o : Option Start). is_some (option_then o (λ s. s.shown))) e ∙ all u s e (sym (number_at r u s e))

-- ---- at a rest

-- nothing is pulling, and so nothing is held
pub rest_pulls_nothing : (r : Reading) → Lawful r → Rests r → pulls_on r ≡ false
rest_pulls_nothing r law rests =
    false_from_ne_true (pulls_on r) (λ h.
    let t : (w : ℕ) × (has (numbers r.sheet.rows) w ≡ true) × (is_pulling r w ≡ true) = any_has (is_pulling r) (numbers r.sheet.rows) h in
    false≢true (sym (rests.1 t.0) ∙ pulling_ready r law t.0 t.2))

-- and no wanted variable is behind
pub rest_none_behind : (r : Reading) → Lawful r → Rests r → (v : ℕ) → wanted r v ≡ true → is_behind r v ≡ false
rest_none_behind r law rests = none_behind r rests.0 (rest_pulls_nothing r law rests)
