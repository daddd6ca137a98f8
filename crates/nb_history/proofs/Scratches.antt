-- Where every wanted variable shows its local value, it shows what evaluating from scratch gives.
use Rattle.std.proofs.Common.{ℕ, zero, suc, ◌≡◌, ◌+◌, ◌<◌, ◌≤◌, refl, sym, ◌∙◌, ap, subst, Bool, true, false, cond, not, ◌&&◌, ◌||◌, ◌⊎◌, inl, inr, eqb, List, [], ◌∷◌, map, length, arith, Option, Some, None, is_some}
use Rattle.std.specs.List.{list_any, filter_map}
use Rattle.std.proofs.lemmas.Bool.{or_cases, or_right, and_parts, and_from, cases_Bool, false≢true}
use Rattle.std.proofs.lemmas.Option.{none-some}
use Rattle.std.specs.Prelude.{slice_get}
use Rattle.std.proofs.lemmas.List.FromFn.{length-range_with_len}
use Rattle.nb_value.specs.declared.pairs.Field.{Field}
use Rattle.nb_value.specs.Fields as fields
use Rattle.nb_sheet.specs.Lists.{Name, nth, numbers, numbers_from, is_name, from_option, option_then}
use Rattle.nb_graph.specs.Needs.{has}
use Rattle.nb_sheet.specs.Sheet.{Sheet}
use Rattle.nb_resolve.specs.Names.{direct, duplicate, inputs, variable_of}
use Rattle.nb_history.specs.Needs.{circular, needed, needs, is_used, is_defined, is_observed, is_root}
use Rattle.nb_history.specs.Reading.{Reading, shown}
use Rattle.nb_eval.specs.Evaluation.{Evaluated}
use Rattle.nb_history.specs.Rules.{wanted, given, values_given, value_given, first_error, waits, run_body, body_of, answers_of, pulls_of, outcome_of, generates, marked_error, unmarked_value, local_value, scratch_within, scratch, plain_error, name_of, through_input}
use Rattle.nb_value.specs.declared.value.Value.{Value}
use Rattle.nb_value.specs.declared.outcome.CellError.{CellError}
use Rattle.nb_value.specs.declared.outcome.ErrorKind.TheVariants.{DefinedTwice, Circular}
use Rattle.nb_value.specs.declared.outcome.Outcome.{Outcome}
use Rattle.nb_value.specs.declared.outcome.Outcome.TheVariants.{Error as Fails}
use Rattle.nb_sheet.specs.declared.row.VarRow.{VarRow}
use Rattle.nb_resolve.specs.declared.resolution.Resolution.{Resolution}
use Rattle.nb_resolve.specs.declared.resolution.Resolution.TheVariants.{Var, Builtin, Twice, Missing}
use Rattle.nb_graph.proofs.Reaches.{has_head, has_tail, has_cases, any_has, has_any, passing, passing_le, needed_below}
use Rattle.nb_history.proofs.Direct.{OneNamed, direct_named, direct_within}
use Rattle.nb_history.proofs.Closing.{needs_direct, needs_step, needs_fewer, number_has, wanted_has}

-- ---- a local value rests on what the inputs show

module _ (s : Sheet) (f g : ℕ → Option Outcome) where
  abbrev pub Agree : List (Name × Resolution) → Type 0
  Agree is = (u : ℕ) → has (filter_map variable_of is) u ≡ true → f u ≡ g u

  given_agree : (i : Name × Resolution) (is : List (Name × Resolution)) → Agree (i ∷ is) → given s f i ≡ given s g i
  given_agree (n, Var u) is h = ap (λ (o : Option Outcome). option_then o (λ x. Some (through_input n x))) (h u (has_head u (filter_map variable_of is) u refl))
  given_agree (n, Builtin b) is h = refl
  given_agree (n, Twice) is h = refl
  given_agree (n, Missing) is h = refl

  rest_agree : (i : Name × Resolution) (is : List (Name × Resolution)) → Agree (i ∷ is) → Agree is
  rest_agree (n, Var v) is h u k = h u (has_tail v (filter_map variable_of is) u k)
  rest_agree (n, Builtin b) is h u k = h u k
  rest_agree (n, Twice) is h u k = h u k
  rest_agree (n, Missing) is h u k = h u k

  pub all_given_agree : (is : List (Name × Resolution)) → Agree is → map (given s f) is ≡ map (given s g) is
  all_given_agree [] h = refl
  all_given_agree (i ∷ is) h =
      ap (λ (x : Option Outcome). x ∷ map (given s f) is) (given_agree i is h)
      ∙ ap (λ (xs : List (Option Outcome)). given s g i ∷ xs) (all_given_agree is (rest_agree i is h))

  pub values_agree : (is : List (Name × Resolution)) → Agree is → values_given s f is ≡ values_given s g is
  values_agree [] h = refl
  values_agree (i ∷ is) h =
      ap (λ (x : Option Outcome). fields.put (record { name = i.0; value = value_given x }) (values_given s f is)) (given_agree i is h)
      ∙ ap (λ (xs : List (Field Value)). fields.put (record { name = i.0; value = value_given (given s g i) }) xs) (values_agree is (rest_agree i is h))

  pub any_agree : (us : List ℕ) → ((u : ℕ) → has us u ≡ true → f u ≡ g u) → list_any (λ u. not (is_some (f u))) us ≡ list_any (λ u. not (is_some (g u))) us
  any_agree [] h = refl
  any_agree (u ∷ us) h =
      ap (λ (x : Option Outcome). not (is_some x) || list_any (λ u. not (is_some (f u))) us) (h u (has_head u us u refl))
      ∙ ap (λ (b : Bool). not (is_some (g u)) || b) (any_agree us (λ x k. h x (has_tail u us x k)))

-- a local value of an evaluation's parts
abbrev by_parts : Reading → ℕ → Bool → List (Option Outcome) → List (Field Value) → Option Outcome
by_parts r v waiting givens values =
    let end : Evaluated = run_body (body_of r.sheet v) values (answers_of r v) (pulls_of r v) in
    unmarked_value waiting (first_error givens) (outcome_of (generates (body_of r.sheet v)) end.yields end.ending)

abbrev pub unmarked : Reading → (ℕ → Option Outcome) → ℕ → Option Outcome
unmarked r f v = by_parts r v (waits r f v) (map (given r.sheet f) (inputs r.sheet v)) (values_given r.sheet f (inputs r.sheet v))

unmarked_agree : (r : Reading) (f g : ℕ → Option Outcome) (v : ℕ) → ((u : ℕ) → has (direct r.sheet v) u ≡ true → f u ≡ g u) → unmarked r f v ≡ unmarked r g v
unmarked_agree r f g v h =
    let is = inputs r.sheet v in
    ap (λ (b : Bool). by_parts r v b (map (given r.sheet f) is) (values_given r.sheet f is)) (any_agree r.sheet f g (direct r.sheet v) h)
    ∙ ap (λ (x : List (Option Outcome)). by_parts r v (waits r g v) x (values_given r.sheet f is)) (all_given_agree r.sheet f g is h)
    ∙ ap (λ (x : List (Field Value)). by_parts r v (waits r g v) (map (given r.sheet g) is) x) (values_agree r.sheet f g is h)

-- past the marks it rests on the inputs alone
pub local_agree : (r : Reading) (f g : ℕ → Option Outcome) (v : ℕ) → (marked_error r.sheet v ≡ None → (u : ℕ) → has (direct r.sheet v) u ≡ true → f u ≡ g u) → local_value r f v ≡ local_value r g v
local_agree r f g v h = go (marked_error r.sheet v) refl
  where
    go : (o : Option CellError) → marked_error r.sheet v ≡ o → from_option (unmarked r f v) (λ e. Some (Fails e)) (marked_error r.sheet v) ≡ from_option (unmarked r g v) (λ e. Some (Fails e)) (marked_error r.sheet v)
    go (Some e) p = ap (λ (o : Option CellError). from_option (unmarked r f v) (λ e. Some (Fails e)) o) p ∙ sym (ap (λ (o : Option CellError). from_option (unmarked r g v) (λ e. Some (Fails e)) o) p)
    go None p = ap (λ (x : Option Outcome). from_option x (λ e. Some (Fails e)) (marked_error r.sheet v)) (unmarked_agree r f g v (h p))

-- what isn't marked isn't circular
pub not_circular : (s : Sheet) (v : ℕ) → marked_error s v ≡ None → circular s v ≡ false
not_circular s v h = go (duplicate s v) (circular s v) refl h
  where
    go : (d c : Bool) → circular s v ≡ c → cond d (Some (plain_error DefinedTwice (name_of s v))) (cond c (Some (plain_error Circular (name_of s v))) None) ≡ None → circular s v ≡ false
    go d false e k = e
    go false true e k = absurd (none-some (plain_error Circular (name_of s v)) (sym k))
    go true true e k = absurd (none-some (plain_error DefinedTwice (name_of s v)) (sym k))

-- ---- the inputs of a wanted variable are wanted

-- a variable has a name only while it is defined
abbrev pub NamedDefined : Sheet → Type 0
NamedDefined s = (v : ℕ) (row : VarRow) → nth s.rows v ≡ Some row → is_some row.name ≡ true → is_some row.body ≡ true

-- an element that passes, at place j
record PassesAt {A : Type 0} (test : A → Bool) (k : ℕ) (xs : List A) (u : ℕ) : Type 0 where
  j : ℕ
  x : A
  place : u ≡ k + j
  there : slice_get xs j ≡ Some x
  passes : test x ≡ true

passes_later : {A : Type 0} (test : A → Bool) (k : ℕ) (x : A) (xs : List A) (u : ℕ) → PassesAt test (k + 1) xs u → PassesAt test k (x ∷ xs) u
passes_later test k x xs u p = record { j = suc p.j; x = p.x; place = omega (arith, p.place); there = p.there; passes = p.passes }

numbers_from_test : {A : Type 0} (test : A → Bool) (k : ℕ) (xs : List A) (u : ℕ) → has (numbers_from k test xs) u ≡ true → PassesAt test k xs u
numbers_from_test test k [] u h = absurd (false≢true h)
numbers_from_test test k (x ∷ xs) u h =
    elim (cases_Bool (test x)) [
      | inl here ↦ elim (has_cases k (numbers_from (k + 1) test xs) u (rw here at h)) [
        | inl same ↦ record { j = 0; x = x; place = omega (arith, same); there = refl; passes = here }
        | inr later ↦ passes_later test k x xs u (numbers_from_test test (k + 1) xs u later)
      ]
      | inr not_here ↦ passes_later test k x xs u (numbers_from_test test (k + 1) xs u (rw not_here at h))
    ]

name_is_some : (o : Option Name) (n : Name) → is_name o n ≡ true → is_some o ≡ true
name_is_some None n h = absurd (false≢true h)
name_is_some (Some m) n h = refl

one_named_defined : (s : Sheet) → NamedDefined s → (u : ℕ) → OneNamed s u → is_defined s u ≡ true
one_named_defined s named_defined u one =
    let test : VarRow → Bool = λ (row : VarRow). eqb row.«module» one.in_module && is_name row.name one.name in
    let p : PassesAt test 1 s.rows u = numbers_from_test test 1 s.rows u (rw one.alone (has_head u [] u refl)) in
    let e : u ≡ suc p.j = omega (arith, p.place) in
    let at : nth s.rows u ≡ Some p.x = ap (nth s.rows) e ∙ p.there in
    let named_x : is_some p.x.name ≡ true = name_is_some p.x.name one.name (and_parts (eqb p.x.«module» one.in_module) (is_name p.x.name one.name) p.passes).1 in
    ap (λ (o : Option VarRow). from_option false (λ (row : VarRow). is_some row.body) o) at ∙ named_defined u p.x at named_x

-- used by an observed one
abbrev roots : Sheet → ℕ → Bool
roots s v = list_any (λ w. is_root s w && needs s w v) (numbers s.rows)

used_parts : (s : Sheet) (v : ℕ) → is_used s v ≡ true → (is_defined s v ≡ true) × ((is_observed s v ≡ true) ⊎ (roots s v ≡ true))
used_parts s v h =
    let t : (is_defined s v ≡ true) × ((is_observed s v || roots s v) ≡ true) = and_parts (is_defined s v) (is_observed s v || roots s v) h in
    (t.0, or_cases (is_observed s v) (roots s v) t.1)

pub used_input : (s : Sheet) → NamedDefined s → (v u : ℕ) → has (numbers s.rows) v ≡ true → is_used s v ≡ true → has (direct s v) u ≡ true → is_used s u ≡ true
used_input s named_defined v u number used h =
    let t : (is_defined s v ≡ true) × ((is_observed s v ≡ true) ⊎ (roots s v ≡ true)) = used_parts s v used in
    let root : roots s u ≡ true = elim t.1 [
      | inl observed ↦ has_any (λ w. is_root s w && needs s w u) (numbers s.rows) v number
          (and_from (is_root s v) (needs s v u) (and_from (is_defined s v) (is_observed s v) t.0 observed) (needs_direct s v u h))
      | inr rooted ↦
          let w : (w : ℕ) × (has (numbers s.rows) w ≡ true) × ((is_root s w && needs s w v) ≡ true) = any_has (λ w. is_root s w && needs s w v) (numbers s.rows) rooted in
          let p : (is_root s w.0 ≡ true) × (needs s w.0 v ≡ true) = and_parts (is_root s w.0) (needs s w.0 v) w.2 in
          has_any (λ w. is_root s w && needs s w u) (numbers s.rows) w.0 w.1 (and_from (is_root s w.0) (needs s w.0 u) p.0 (needs_step s w.0 v u p.1 h))
    ] in
    and_from (is_defined s u) (is_observed s u || roots s u) (one_named_defined s named_defined u (direct_named s v u h)) (or_right (is_observed s u) (roots s u) root)

pub wanted_input : (r : Reading) → NamedDefined r.sheet → (v u : ℕ) → wanted r v ≡ true → has (direct r.sheet v) u ≡ true → wanted r u ≡ true
wanted_input r named_defined v u w h =
    let t : (not r.disposed ≡ true) × (is_used r.sheet v ≡ true) = and_parts (not r.disposed) (is_used r.sheet v) w in
    and_from (not r.disposed) (is_used r.sheet u) t.0 (used_input r.sheet named_defined v u (wanted_has r v w) t.1 h)

-- ---- the induction over the depth of names

-- each wanted variable shows its local value
abbrev pub ShowsLocal : Reading → Type 0
ShowsLocal r = (v : ℕ) → wanted r v ≡ true → shown r v ≡ local_value r (shown r) v

passing_some : (p : ℕ → Bool) (xs : List ℕ) (u : ℕ) → has xs u ≡ true → p u ≡ true → 1 ≤ passing p xs
passing_some p [] u h k = absurd (false≢true h)
passing_some p (x ∷ xs) u h k =
    elim (cases_Bool (p x)) [
      | inl here ↦ rw here (omega arith)
      | inr not_here ↦ elim (has_cases x xs u h) [
        | inl same ↦ absurd (false≢true (sym not_here ∙ (ap p same ∙ k)))
        | inr later ↦ rw not_here (passing_some p xs u later k)
      ]
    ]

module _ (r : Reading) (named_defined : NamedDefined r.sheet) (shows : ShowsLocal r) where
  abbrev depth : ℕ → ℕ
  depth v = passing (has (needed r.sheet v)) (numbers r.sheet.rows)

  within : (k v : ℕ) → wanted r v ≡ true → 1 ≤ k → (circular r.sheet v ≡ false → depth v < k) → scratch_within r k v ≡ shown r v
  within zero v w one deep = absurd (omega (arith, one))
  within (suc k) v w one deep =
      local_agree r (scratch_within r k) (shown r) v (λ unmarked u h.
      let plain : circular r.sheet v ≡ false = not_circular r.sheet v unmarked in
      let n : has (needed r.sheet v) u ≡ true = needs_direct r.sheet v u h in
      let wu : wanted r u ≡ true = wanted_input r named_defined v u w h in
      let some : 1 ≤ depth v = passing_some (has (needed r.sheet v)) (numbers r.sheet.rows) u (wanted_has r u wu) n in
      let less : depth v < suc k = deep plain in
      within k u wu (omega (arith, some, less)) (λ c. omega (arith, less, needs_fewer r.sheet v u n c)))
      ∙ sym (shows v w)

  -- it shows what evaluating from scratch gives, and nothing exactly where that waits
  pub shows_scratch : (v : ℕ) → wanted r v ≡ true → shown r v ≡ scratch r v
  shows_scratch v w =
      let t : (x : VarRow) × (nth r.sheet.rows v ≡ Some x) = number_has r.sheet.rows v (wanted_has r v w) in
      let number : has (numbers r.sheet.rows) v ≡ true = wanted_has r v w in
      let len : length (numbers r.sheet.rows) ≡ length r.sheet.rows = length-range_with_len 1 (length r.sheet.rows) in
      let one : 1 ≤ length r.sheet.rows = omega (arith, sym len, passing_some (λ x. true) (numbers r.sheet.rows) v number refl, passing_le (λ x. true) (numbers r.sheet.rows)) in
      sym (within (length r.sheet.rows) v w one (λ c.
      let less : depth v < length (numbers r.sheet.rows) = needed_below (direct r.sheet) (numbers r.sheet.rows) (direct_within r.sheet) v number c in
      subst (λ (n : ℕ). depth v < n) len less))
