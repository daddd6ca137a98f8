-- The `left` and `pending` entries that follow an entry: each starts a variable for good, and in the end nothing is leaving or due.
use Rattle.std.proofs.Common.{ℕ, zero, suc, ◌≡◌, ◌≢◌, ◌+◌, ◌<◌, ◌≤◌, refl, sym, ◌∙◌, ap, subst, Bool, true, false, cond, not, ◌&&◌, ◌||◌, ◌⊎◌, inl, inr, ltb, List, [], ◌∷◌, map, length, arith, Option, Some, None, is_some}
use Rattle.std.specs.Prelude.{slice_get, set}
use Rattle.std.specs.List.{list_any, range_with_len}
use Rattle.std.proofs.lemmas.Bool.{or_cases, or_left, or_right, and_parts, and_from, cases_Bool, cases_eq, cases_lt, false≢true, false_from_ne_true, not-true}
use Rattle.std.proofs.lemmas.List.{length-set}
use Rattle.nb_graph.specs.Needs.{has}
use Rattle.nb_sheet.specs.Lists.{nth, put, numbers, from_option, option_then}
use Rattle.nb_history.specs.Lists.{first_where}
use Rattle.nb_sheet.specs.Sheet.{Sheet}
use Rattle.nb_resolve.specs.Names.{direct, duplicate, inputs}
use Rattle.nb_history.specs.Needs.{circular, needed, needs, is_used, is_defined, is_observed, is_root}
use Rattle.nb_history.specs.Reading.{Reading, Start, Footing, start_of, is_idle, number, renewal, owed}
use Rattle.nb_history.specs.Rules.{place_of, footing, same_footing, wanted, leaving, is_behind, is_held, due, may_start, input_code}
use Rattle.nb_history.specs.Log.{after, new_start, IsQuiet}
use Rattle.nb_history.specs.Serial.{least_var, closing}
use Rattle.nb_value.specs.declared.value.Value.{Value}
use Rattle.nb_sheet.specs.declared.row.VarRow.{VarRow}
use Rattle.nb_log.specs.declared.entry.Entry.TheVariants.{Pending, Left}
use Rattle.nb_graph.proofs.Reaches.{has_head, has_tail, has_cases, any_has, has_any, passing, needed_direct, needed_step, needed_fewer}
use Rattle.nb_history.proofs.Direct.{direct_within}
use Rattle.nb_history.proofs.Footings.{same_footing_refl}

-- ---- places in lists

get_set_same : {A : Type 0} (xs : List A) (i : ℕ) (x y : A) → slice_get xs i ≡ Some x → slice_get (set xs i y) i ≡ Some y
get_set_same [] i x y h = cc
get_set_same (z ∷ xs) zero x y h = refl
get_set_same (z ∷ xs) (suc i) x y h = get_set_same xs i x y h

get_set_other : {A : Type 0} (xs : List A) (i j : ℕ) (y : A) → i ≢ j → slice_get (set xs i y) j ≡ slice_get xs j
get_set_other [] i j y h = refl
get_set_other (z ∷ xs) zero zero y h = absurd (h refl)
get_set_other (z ∷ xs) zero (suc j) y h = refl
get_set_other (z ∷ xs) (suc i) zero y h = refl
get_set_other (z ∷ xs) (suc i) (suc j) y h = get_set_other xs i j y (λ e. h (ap suc e))

pub nth_put_same : {A : Type 0} (xs : List A) (v : ℕ) (x y : A) → nth xs v ≡ Some x → nth (put xs v y) v ≡ Some y
nth_put_same xs zero x y h = cc
nth_put_same xs (suc i) x y h = get_set_same xs i x y h

pub nth_put_other : {A : Type 0} (xs : List A) (v w : ℕ) (y : A) → v ≢ w → nth (put xs v y) w ≡ nth xs w
nth_put_other xs zero w y h = refl
nth_put_other xs (suc i) zero y h = refl
nth_put_other xs (suc i) (suc j) y h = get_set_other xs i j y (λ e. h (ap suc e))

pub length_put : {A : Type 0} (xs : List A) (v : ℕ) (y : A) → length (put xs v y) ≡ length xs
length_put xs zero y = refl
length_put xs (suc i) y = length-set xs i y

-- the numbers are those that have an element
get_some : {A : Type 0} (xs : List A) (i : ℕ) → i < length xs → (x : A) × (slice_get xs i ≡ Some x)
get_some [] i h = absurd (omega (arith, h))
get_some (z ∷ xs) zero h = (z, refl)
get_some (z ∷ xs) (suc i) h = get_some xs i (omega (arith, h))

get_none : {A : Type 0} (xs : List A) (i : ℕ) → length xs ≤ i → slice_get xs i ≡ None
get_none [] i h = refl
get_none (z ∷ xs) zero h = absurd (omega (arith, h))
get_none (z ∷ xs) (suc i) h = get_none xs i (omega (arith, h))

pub range_has : (a n u : ℕ) → has (range_with_len a n) u ≡ true → (a ≤ u) × (u < a + n)
range_has a zero u h = absurd (false≢true h)
range_has a (suc n) u h =
    elim (has_cases a (range_with_len (a + 1) n) u h) [
      | inl same ↦ (omega arith, omega arith)
      | inr later ↦ let t : (a + 1 ≤ u) × (u < a + 1 + n) = range_has (a + 1) n u later in (omega (arith, t.0), omega (arith, t.1))
    ]

has_range : (a n u : ℕ) → a ≤ u → u < a + n → has (range_with_len a n) u ≡ true
has_range a zero u h k = absurd (omega arith)
has_range a (suc n) u h k =
    elim (cases_eq a u) [
      | inl same ↦ has_head a (range_with_len (a + 1) n) u same
      | inr other ↦ has_tail a (range_with_len (a + 1) n) u (has_range (a + 1) n u (omega (arith, other)) (omega arith))
    ]

pub number_has : {A : Type 0} (xs : List A) (v : ℕ) → has (numbers xs) v ≡ true → (x : A) × (nth xs v ≡ Some x)
number_has xs zero h = let t : (1 ≤ 0) × (0 < 1 + length xs) = range_has 1 (length xs) 0 h in absurd (omega (arith, t.0))
number_has xs (suc i) h =
    let t : (1 ≤ suc i) × (suc i < 1 + length xs) = range_has 1 (length xs) (suc i) h in get_some xs i (omega (arith, t.1))

pub has_number : {A : Type 0} (xs : List A) (v : ℕ) (x : A) → nth xs v ≡ Some x → has (numbers xs) v ≡ true
has_number xs zero x h = cc
has_number xs (suc i) x h =
    elim (cases_lt i (length xs)) [
      | inl less ↦ has_range 1 (length xs) (suc i) (omega arith) (omega (arith, less))
      | inr past ↦ let e : slice_get xs i ≡ None = get_none xs i past in cc
    ]

-- a list as long has an element there too
pub nth_as_long : {A B : Type 0} (xs : List A) (ys : List B) (v : ℕ) (x : A) → length ys ≡ length xs → nth xs v ≡ Some x → (y : B) × (nth ys v ≡ Some y)
nth_as_long xs ys v x e h = number_has ys v (rw e (has_number xs v x h))

-- ---- the first that passes

pub first_some : (test : ℕ → Bool) (xs : List ℕ) (v : ℕ) → first_where test xs ≡ Some v → (test v ≡ true) × (has xs v ≡ true)
first_some test [] v h = cc
first_some test (x ∷ xs) v h =
    elim (cases_Bool (test x)) [
      | inl here ↦ let g : Some x ≡ Some v = rw here at h in let e : x ≡ v = cc in (ap test (sym e) ∙ here, has_head x xs v e)
      | inr not_here ↦ let t : (test v ≡ true) × (has xs v ≡ true) = first_some test xs v (rw not_here at h) in (t.0, has_tail x xs v t.1)
    ]

pub first_none : (test : ℕ → Bool) (xs : List ℕ) → first_where test xs ≡ None → (v : ℕ) → has xs v ≡ true → test v ≡ false
first_none test [] h v k = absurd (false≢true k)
first_none test (x ∷ xs) h v k =
    elim (cases_Bool (test x)) [
      | inl here ↦ let g : Some x ≡ None = rw here at h in cc
      | inr not_here ↦ elim (has_cases x xs v k) [
        | inl same ↦ ap test (sym same) ∙ not_here
        | inr later ↦ first_none test xs (rw not_here at h) v later
      ]
    ]

-- ---- what a `pending` entry leaves as it was

-- as many starts as variables
abbrev pub Shaped : Reading → Type 0
Shaped r = length r.starts ≡ length r.sheet.rows

-- v rests on these start numbers and renewals alone
abbrev pub footing_by : Sheet → (ℕ → ℕ) → (ℕ → ℕ) → ℕ → Footing
footing_by s numbered renewed v =
    record {
      place = place_of s v;
      is_duplicate = duplicate s v;
      is_circular = circular s v;
      inputs = map input_code (inputs s v);
      starts = cond (circular s v) [] (map numbered (direct s v));
      renewals = cond (circular s v) [] (map renewed (direct s v));
    }

map_agree : (f g : ℕ → ℕ) (xs : List ℕ) → ((x : ℕ) → has xs x ≡ true → f x ≡ g x) → map f xs ≡ map g xs
map_agree f g [] h = refl
map_agree f g (x ∷ xs) h =
    let e : f x ≡ g x = h x (has_head x xs x refl) in
    let t : map f xs ≡ map g xs = map_agree f g xs (λ y k. h y (has_tail x xs y k)) in cc

-- the two agree on what an unmarked v rests on
abbrev pub AgreeAt : Sheet → ℕ → (ℕ → ℕ) → (ℕ → ℕ) → Type 0
AgreeAt s v f g = circular s v ≡ false → (x : ℕ) → has (direct s v) x ≡ true → f x ≡ g x

inputs_agree : (s : Sheet) (f g : ℕ → ℕ) (v : ℕ) → AgreeAt s v f g → cond (circular s v) [] (map f (direct s v)) ≡ cond (circular s v) [] (map g (direct s v))
inputs_agree s f g v h =
    elim (cases_Bool (circular s v)) [ inl c ↦ rw c refl | inr c ↦ rw c (map_agree f g (direct s v) (h c)) ]

-- the base alone
pub base_agree : (s : Sheet) (m n f : ℕ → ℕ) (v : ℕ) → AgreeAt s v m n → footing_by s m f v ≡ footing_by s n f v
base_agree s m n f v h =
    ap (λ (x : List ℕ). record { place = place_of s v; is_duplicate = duplicate s v; is_circular = circular s v; inputs = map input_code (inputs s v); starts = x; renewals = cond (circular s v) [] (map f (direct s v)) })
    (inputs_agree s m n v h)

pub footing_agree : (s : Sheet) (m n f g : ℕ → ℕ) (v : ℕ) → AgreeAt s v m n → AgreeAt s v f g → footing_by s m f v ≡ footing_by s n g v
footing_agree s m n f g v h k =
    base_agree s m n f v h
    ∙ ap (λ (x : List ℕ). record { place = place_of s v; is_duplicate = duplicate s v; is_circular = circular s v; inputs = map input_code (inputs s v); starts = cond (circular s v) [] (map n (direct s v)); renewals = x })
    (inputs_agree s f g v k)

-- whether a start with this footing now is behind
abbrev pub behind_by : Footing → Option Start → Bool
behind_by f o = from_option true (λ (s : Start). not (same_footing f s.kept)) o

module _ (r : Reading) (u : ℕ) (d : List Value) where
  pub start_other : (v : ℕ) → u ≢ v → start_of (after r (Pending u d)) v ≡ start_of r v
  start_other v h = ap (λ (o : Option (Option Start)). option_then o (λ s. s)) (nth_put_other r.starts u v (Some (new_start (r.entries + 1) (footing r u))) h)

  pub start_self : (o : Option Start) → nth r.starts u ≡ Some o → start_of (after r (Pending u d)) u ≡ Some (new_start (r.entries + 1) (footing r u))
  start_self o h = ap (λ (o : Option (Option Start)). option_then o (λ s. s)) (nth_put_same r.starts u o (Some (new_start (r.entries + 1) (footing r u))) h)

  number_other : (v : ℕ) → u ≢ v → number (after r (Pending u d)) v ≡ number r v
  number_other v h = ap (λ (o : Option Start). from_option 0 (λ (s : Start). s.number) o) (start_other v h)

  renewal_other : (v : ℕ) → u ≢ v → renewal (after r (Pending u d)) v ≡ renewal r v
  renewal_other v h = ap (λ (o : Option Start). from_option 0 (λ (s : Start). s.renewal) o) (start_other v h)

  -- u isn't among v's inputs, or v rests on none
  abbrev Apart : ℕ → Type 0
  Apart v = circular r.sheet v ≡ false → has (direct r.sheet v) u ≡ false

  footing_apart : (v : ℕ) → Apart v → footing (after r (Pending u d)) v ≡ footing r v
  footing_apart v apart =
      footing_agree r.sheet (number (after r (Pending u d))) (number r) (renewal (after r (Pending u d))) (renewal r) v
      (λ c x h. number_other x (other c x h))
      (λ c x h. renewal_other x (other c x h))
    where
      other : circular r.sheet v ≡ false → (x : ℕ) → has (direct r.sheet v) x ≡ true → u ≢ x
      other c x h e = false≢true (sym (apart c) ∙ (ap (has (direct r.sheet v)) e ∙ h))

  -- v is behind after it exactly where it was
  pub behind_apart : (v : ℕ) → u ≢ v → Apart v → is_behind (after r (Pending u d)) v ≡ is_behind r v
  behind_apart v other apart =
      ap (λ (f : Footing). behind_by f (start_of (after r (Pending u d)) v)) (footing_apart v apart) ∙ ap (behind_by (footing r v)) (start_other v other)

  -- u isn't behind after it
  pub behind_self : (o : Option Start) → nth r.starts u ≡ Some o → Apart u → is_behind (after r (Pending u d)) u ≡ false
  behind_self o here apart =
      ap (λ (f : Footing). behind_by f (start_of (after r (Pending u d)) u)) (footing_apart u apart)
      ∙ ap (behind_by (footing r u)) (start_self o here)
      ∙ ap not (same_footing_refl (footing r u))

-- ---- needs, in a sheet

module _ (s : Sheet) where
  pub needs_direct : (v u : ℕ) → has (direct s v) u ≡ true → has (needed s v) u ≡ true
  needs_direct v u h = needed_direct (direct s) (numbers s.rows) (direct_within s) v u h

  pub needs_step : (v w u : ℕ) → has (needed s v) w ≡ true → has (direct s w) u ≡ true → has (needed s v) u ≡ true
  needs_step v w u n h = needed_step (direct s) (numbers s.rows) (direct_within s) v w u n h

  pub needs_fewer : (v w : ℕ) → has (needed s v) w ≡ true → circular s w ≡ false → passing (has (needed s w)) (numbers s.rows) < passing (has (needed s v)) (numbers s.rows)
  needs_fewer v w n c = needed_fewer (direct s) (numbers s.rows) (direct_within s) v w n c

  pub not_direct : (v u : ℕ) → has (needed s v) u ≡ false → has (direct s v) u ≡ false
  not_direct v u h = false_from_ne_true (has (direct s v) u) (λ k. false≢true (sym h ∙ needs_direct v u k))

-- ---- each variable starts at most once

-- v has a start from after place p
abbrev pub is_since : ℕ → Reading → ℕ → Bool
is_since p r v = from_option false (λ (s : Start). ltb p s.number) (start_of r v)

-- v isn't behind, and nothing that it needs is
abbrev pub Calm : Reading → ℕ → Type 0
Calm r v = (is_behind r v ≡ false) × (circular r.sheet v ≡ false → (w : ℕ) → has (needed r.sheet v) w ≡ true → is_behind r w ≡ false)

-- so are those that started after place p
abbrev pub Settled : ℕ → Reading → Type 0
Settled p r = (v : ℕ) → is_since p r v ≡ true → Calm r v

-- v is circular, or nothing that it needs is behind
abbrev pub MayBegin : Reading → ℕ → Type 0
MayBegin r v = (circular r.sheet v ≡ true) ⊎ ((w : ℕ) → has (needed r.sheet v) w ≡ true → is_behind r w ≡ false)

-- what a due variable is
pub record IsDue (r : Reading) (v : ℕ) : Type 0 where
  pub wanted : wanted r v ≡ true
  pub behind : is_behind r v ≡ true
  pub free : is_held r v ≡ false

pub due_parts : (r : Reading) (v : ℕ) → due r v ≡ true → IsDue r v
due_parts r v h =
    let p : ((wanted r v && is_behind r v) ≡ true) × (not (is_held r v) ≡ true) = and_parts (wanted r v && is_behind r v) (not (is_held r v)) h in
    let q : (wanted r v ≡ true) × (is_behind r v ≡ true) = and_parts (wanted r v) (is_behind r v) p.0 in
    record { wanted = q.0; behind = q.1; free = not-true (is_held r v) p.1 }

pub due_from : (r : Reading) (v : ℕ) → wanted r v ≡ true → is_behind r v ≡ true → is_held r v ≡ false → due r v ≡ true
due_from r v w b f = rw (w, b, f) refl

-- a due v may start where it is circular or nothing that it needs is due
pub may_start_cases : (r : Reading) (v : ℕ) → may_start r v ≡ true
    → (due r v ≡ true) × ((circular r.sheet v ≡ true) ⊎ ((w : ℕ) → has (needed r.sheet v) w ≡ true → due r w ≡ false))
may_start_cases r v h =
    let t : (due r v ≡ true) × ((circular r.sheet v || not (list_any (due r) (needed r.sheet v))) ≡ true) = and_parts (due r v) (circular r.sheet v || not (list_any (due r) (needed r.sheet v))) h in (
      t.0,
      elim (or_cases (circular r.sheet v) (not (list_any (due r) (needed r.sheet v))) t.1) [
        | inl c ↦ inl c
        | inr none ↦ inr (λ w n. false_from_ne_true (due r w) (λ k. false≢true (sym (not-true (list_any (due r) (needed r.sheet v)) none) ∙ has_any (due r) (needed r.sheet v) w n k)))
      ],
    )

module _ (r : Reading) (u : ℕ) (d : List Value) where
  -- what starts is calm then
  pub calm_self : (o : Option Start) → nth r.starts u ≡ Some o → MayBegin r u → Calm (after r (Pending u d)) u
  calm_self o here may = (
    behind_self r u d o here (λ c. not_direct s u u c),
    λ c w n. elim may [
      | inl circ ↦ absurd (false≢true (sym c ∙ circ))
      | inr none ↦
          let other : u ≢ w = λ e. false≢true (sym c ∙ (ap (has (needed s u)) e ∙ n)) in
          let apart : has (direct s w) u ≡ false = false_from_ne_true (has (direct s w) u) (λ k. false≢true (sym c ∙ needs_step s u w u n k)) in
          behind_apart r u d w other (λ _. apart) ∙ none w n
    ],
  )
    where
      s : Sheet
      s = r.sheet

  -- what was calm stays so
  pub calm_other : (v : ℕ) → is_behind r u ≡ true → Calm r v → Calm (after r (Pending u d)) v
  calm_other v behind calm =
      let s = r.sheet in
      let other : u ≢ v = λ e. false≢true (sym calm.0 ∙ (ap (is_behind r) (sym e) ∙ behind)) in
      -- v doesn't need u, which is behind
      let unneeded : circular s v ≡ false → has (needed s v) u ≡ false = λ c. false_from_ne_true (has (needed s v) u) (λ k. false≢true (sym (calm.1 c u k) ∙ behind)) in (
        behind_apart r u d v other (λ c. not_direct s v u (unneeded c)) ∙ calm.0,
        λ c w n.
            let apart : has (direct s w) u ≡ false = false_from_ne_true (has (direct s w) u) (λ k. false≢true (sym (unneeded c) ∙ needs_step s v w u n k)) in
            let w_other : u ≢ w = λ e. false≢true (sym (unneeded c) ∙ (ap (has (needed s v)) e ∙ n)) in
            behind_apart r u d w w_other (λ _. apart) ∙ calm.1 c w n,
      )

pub settled_pending : (p : ℕ) (r : Reading) (u : ℕ) (d : List Value) (o : Option Start)
    → nth r.starts u ≡ Some o → is_behind r u ≡ true → MayBegin r u → Settled p r → Settled p (after r (Pending u d))
settled_pending p r u d o here behind may settled v since =
    elim (cases_eq u v) [
      | inl same ↦ subst (Calm (after r (Pending u d))) same (calm_self r u d o here may)
      | inr other ↦
          let old : is_since p r v ≡ true = ap (λ (x : Option Start). from_option false (λ (s : Start). ltb p s.number) x) (sym (start_other r u d v other)) ∙ since in
          calm_other r u d v behind (settled v old)
    ]

-- ---- while anything is due, something may start

pub due_may_start : (r : Reading) (n v : ℕ) → passing (has (needed r.sheet v)) (numbers r.sheet.rows) < n → due r v ≡ true → (w : ℕ) × (may_start r w ≡ true)
due_may_start r zero v less h = absurd (omega (arith, less))
due_may_start r (suc n) v less h =
    let s = r.sheet in
    elim (cases_Bool (circular s v)) [
      | inl c ↦ (v, and_from (due r v) (circular s v || not (list_any (due r) (needed s v))) h (or_left (circular s v) (not (list_any (due r) (needed s v))) c))
      | inr c ↦ elim (cases_Bool (list_any (due r) (needed s v))) [
        | inr none ↦ (v, and_from (due r v) (circular s v || not (list_any (due r) (needed s v))) h (or_right (circular s v) (not (list_any (due r) (needed s v))) (ap not none)))
        | inl some ↦
            let t : (w : ℕ) × (has (needed s v) w ≡ true) × (due r w ≡ true) = any_has (due r) (needed s v) some in
            elim (cases_Bool (circular s t.0)) [
              | inl cw ↦ (t.0, and_from (due r t.0) (circular s t.0 || not (list_any (due r) (needed s t.0))) t.2 (or_left (circular s t.0) (not (list_any (due r) (needed s t.0))) cw))
              | inr cw ↦ due_may_start r n t.0 (omega (arith, less, needs_fewer s v t.0 t.1 cw)) t.2
            ]
      ]
    ]

-- ---- what is leaving or due is a variable of the sheet

defined_has : (s : Sheet) (v : ℕ) → is_defined s v ≡ true → has (numbers s.rows) v ≡ true
defined_has s v h = go (nth s.rows v) refl
  where
    go : (o : Option VarRow) → nth s.rows v ≡ o → has (numbers s.rows) v ≡ true
    go None e = absurd (false≢true (ap (λ (o : Option VarRow). from_option false (λ (row : VarRow). is_some row.body) o) (sym e) ∙ h))
    go (Some row) e = has_number s.rows v row e

pub wanted_has : (r : Reading) (v : ℕ) → wanted r v ≡ true → has (numbers r.sheet.rows) v ≡ true
wanted_has r v h =
    let t : (not r.disposed ≡ true) × (is_used r.sheet v ≡ true) = and_parts (not r.disposed) (is_used r.sheet v) h in
    let used = list_any (λ w. is_root r.sheet w && needs r.sheet w v) (numbers r.sheet.rows) in
    let p : (is_defined r.sheet v ≡ true) × ((is_observed r.sheet v || used) ≡ true) = and_parts (is_defined r.sheet v) (is_observed r.sheet v || used) t.1 in
    defined_has r.sheet v p.0

pub due_has : (r : Reading) (v : ℕ) → due r v ≡ true → has (numbers r.sheet.rows) v ≡ true
due_has r v h = wanted_has r v (due_parts r v h).wanted

pub started_has : (r : Reading) → Shaped r → (v : ℕ) → is_idle (start_of r v) ≡ false → has (numbers r.sheet.rows) v ≡ true
started_has r shaped v h = go (nth r.starts v) refl
  where
    go : (o : Option (Option Start)) → nth r.starts v ≡ o → has (numbers r.sheet.rows) v ≡ true
    go None e = absurd (false≢true (sym (ap (λ (o : Option (Option Start)). is_idle (option_then o (λ s. s))) (sym e) ∙ h)))
    go (Some o) e = let t : (y : VarRow) × (nth r.sheet.rows v ≡ Some y) = nth_as_long r.starts r.sheet.rows v o (sym shaped) e in has_number r.sheet.rows v t.0 t.1

pub leaving_has : (r : Reading) → Shaped r → (v : ℕ) → leaving r v ≡ true → has (numbers r.sheet.rows) v ≡ true
leaving_has r shaped v h =
    let t : (not (wanted r v) ≡ true) × (not (is_idle (start_of r v)) ≡ true) = and_parts (not (wanted r v)) (not (is_idle (start_of r v))) h in
    started_has r shaped v (not-true (is_idle (start_of r v)) t.1)

-- ---- the first `left` or `pending`

pub closing_left : (r : Reading) (v : ℕ) → least_var r (leaving r) ≡ Some v → closing r ≡ Some (Left v (owed r v))
closing_left r v h = rw h refl

pub closing_pending : (r : Reading) (v : ℕ) → least_var r (leaving r) ≡ None → least_var r (may_start r) ≡ Some v → closing r ≡ Some (Pending v (owed r v))
closing_pending r v h k = rw (h, k) refl

pub closing_none : (r : Reading) → least_var r (leaving r) ≡ None → least_var r (may_start r) ≡ None → closing r ≡ None
closing_none r h k = rw (h, k) refl

-- where neither may come, nothing is leaving or due
pub quiet_from_none : (r : Reading) → Shaped r → least_var r (leaving r) ≡ None → least_var r (may_start r) ≡ None → IsQuiet r
quiet_from_none r shaped h k v = (
  false_from_ne_true (leaving r v) (λ l. false≢true (sym (first_none (leaving r) (numbers r.sheet.rows) h v (leaving_has r shaped v l)) ∙ l)),
  false_from_ne_true (due r v) (λ l.
      let t : (w : ℕ) × (may_start r w ≡ true) = due_may_start r (suc (passing (has (needed r.sheet v)) (numbers r.sheet.rows))) v (omega arith) l in
      let due_t : due r t.0 ≡ true = (and_parts (due r t.0) (circular r.sheet t.0 || not (list_any (due r) (needed r.sheet t.0))) t.1).0 in
      false≢true (sym (first_none (may_start r) (numbers r.sheet.rows) k t.0 (due_has r t.0 due_t)) ∙ t.1)),
)
