-- A variable's site: what its sheet and what its inputs show make of it. What holds of a start at its site goes on
-- holding where the site stays, and where nothing was taken from it yet.
use Rattle.std.proofs.Common.{inl, inr, ℕ, ◌≡◌, ◌+◌, ◌≤◌, refl, sym, ◌∙◌, ap, subst, Bool, true, false, not, ◌⊎◌, List, [], ◌∷◌, map, length, Option, Some, None, is_some}
use Rattle.std.specs.List.{list_any}
use Rattle.std.proofs.lemmas.Bool.{cases_Bool, false≢true}
use Rattle.std.proofs.lemmas.Option.{none-some}
use Rattle.nb_value.specs.declared.value.Value.{Value}
use Rattle.nb_value.specs.declared.pairs.Field.{Field}
use Rattle.nb_value.specs.declared.outcome.CellError.{CellError}
use Rattle.nb_value.specs.declared.outcome.Outcome.{Outcome}
use Rattle.nb_value.specs.declared.outcome.Outcome.TheVariants.{Value as Shows, Error as Fails}
use Rattle.nb_eval.specs.Evaluation.{Evaluated}
use Rattle.nb_eval.specs.Laws.{IsFront}
use Rattle.nb_eval.specs.declared.given.Ending.{Ending}
use Rattle.nb_eval.specs.declared.given.Ending.TheVariants.{Paused}
use Rattle.nb_sheet.specs.Sheet.{Sheet}
use Rattle.nb_sheet.specs.declared.row.BodyOf.{BodyOf}
use Rattle.nb_sheet.specs.Lists.{from_option}
use Rattle.nb_resolve.specs.Names.{direct, inputs}
use Rattle.nb_history.specs.Reading.{Start}
use Rattle.nb_history.specs.Rules.{given, values_given, first_error, marked_error, body_of, generates, run_body, outcome_of, unmarked_value, last_or_null}
use Rattle.nb_history.specs.Log.{shows_value}

pub record Site : Type 0 where
  pub marked : Option CellError
  pub body : Option BodyOf
  -- an input that is a variable shows nothing
  pub waits : Bool
  pub givens : List (Option Outcome)
  pub values : List (Field Value)

abbrev pub site_of : Sheet → (ℕ → Option Outcome) → ℕ → Site
site_of s shows v =
    record {
      marked = marked_error s v;
      body = body_of s v;
      waits = list_any (λ u. not (is_some (shows u))) (direct s v);
      givens = map (given s shows) (inputs s v);
      values = values_given s shows (inputs s v);
    }

-- the evaluation at a start's answers and pulls
abbrev pub end_at : Site → Start → Evaluated
end_at x s = run_body x.body x.values s.answers s.pulls

abbrev pub local_by : Option CellError → Bool → Option CellError → Bool → List Value → Ending → Option Outcome
local_by marked waits failing generator yields ending =
    from_option (unmarked_value waits failing (outcome_of generator yields ending)) (λ e. Some (Fails e)) marked

-- the local value of a start
abbrev pub local_at : Site → Start → Option Outcome
local_at x s = local_by x.marked x.waits (first_error x.givens) (generates x.body) (end_at x s).yields (end_at x s).ending

-- what a generator shows that yielded these
abbrev pub shown_of : List Value → Option Outcome
shown_of [] = None
shown_of (x ∷ xs) = Some (Shows (last_or_null (x ∷ xs)))

-- a start that goes on from the yields that it was pulled for, each before the last pull
pub record Pulled (x : Site) (s : Start) : Type 0 where
  pub made : List Value
  pub pulls : s.pulls ≡ 1 + length made
  pub shows : s.shown ≡ shown_of made
  pub front : is_some s.shown ≡ true → (x.marked ≡ None) × (generates x.body ≡ true) × IsFront made (end_at x s).yields

-- what holds of a start that isn't behind
pub record Holds (x : Site) (s : Start) : Type 0 where
  pub some_pull : 1 ≤ s.pulls
  -- what runs asks for nothing
  pub alone : s.running ≡ true → s.ticket ≡ None
  -- once anything came of it, its inputs show something
  pub inputs_show : (s.running ≡ false) ⊎ (is_some s.shown ≡ true) → x.marked ≡ None → x.waits ≡ false
  -- what runs or asks shows what it showed when it was pulled
  pub pulled : (s.running ≡ true) ⊎ (is_some s.ticket ≡ true) → Pulled x s
  -- what doesn't run shows its local value
  pub local : s.running ≡ false → s.shown ≡ local_at x s
  -- what may be pulled paused
  pub paused : s.running ≡ false → s.ticket ≡ None → s.ended ≡ false → generates x.body ≡ true → shows_value s.shown ≡ true → (end_at x s).ending ≡ Paused

pub none_shown : (o : Option Outcome) → is_some o ≡ false → o ≡ None
none_shown None h = refl
none_shown (Some x) h = absurd (false≢true (sym h))

-- a start that has taken nothing from its site
pub untaken : (x y : Site) (s : Start) → s.running ≡ true → s.shown ≡ None → Holds x s → Holds y s
untaken x y s runs nothing h =
    let p : Pulled x s = h.pulled (inl runs) in
    let not_shown : is_some s.shown ≡ true → ⊥ = λ k. false≢true (ap (λ (o : Option Outcome). is_some o) (sym nothing) ∙ k) in
    let idle : s.running ≡ false → ⊥ = λ k. false≢true (sym k ∙ runs) in
    record {
      some_pull = h.some_pull;
      alone = h.alone;
      inputs_show = λ c. absurd (elim c [ inl k ↦ idle k | inr k ↦ not_shown k ]);
      pulled = λ c. record { made = p.made; pulls = p.pulls; shows = p.shows; front = λ k. absurd (not_shown k) };
      local = λ k. absurd (idle k);
      paused = λ k. absurd (idle k);
    }

-- a marked start shows its mark
pub marked_stays : (x y : Site) (s : Start) (e : CellError) → x.marked ≡ Some e → y.marked ≡ x.marked → Holds x s → Holds y s
marked_stays x y s e marked same h =
    let unmarked : x.marked ≡ None → ⊥ = λ k. none-some e (sym k ∙ marked) in
    let local_is : (z : Site) → z.marked ≡ Some e → local_at z s ≡ Some (Fails e) = λ z k.
    ap (λ (m : Option CellError). local_by m z.waits (first_error z.givens) (generates z.body) (end_at z s).yields (end_at z s).ending) k in
    record {
      some_pull = h.some_pull;
      alone = h.alone;
      inputs_show = λ c k. absurd (unmarked (sym same ∙ k));
      pulled = λ c. let p : Pulled x s = h.pulled c in record { made = p.made; pulls = p.pulls; shows = p.shows; front = λ k. absurd (unmarked (p.front k).0) };
      local = λ k. h.local k ∙ local_is x marked ∙ sym (local_is y (same ∙ marked));
      paused = λ k t n g v. absurd (false≢true (sym (ap shows_value (h.local k ∙ local_is x marked)) ∙ v));
    }

-- what isn't marked stays where its site stays, once its inputs show something
pub moves : (x y : Site) (s : Start) → y.marked ≡ x.marked → (x.marked ≡ None → x.waits ≡ false → y ≡ x) → Holds x s → Holds y s
moves x y s marks same h = go x.marked refl
  where
    go : (m : Option CellError) → x.marked ≡ m → Holds y s
    go (Some e) p = marked_stays x y s e p marks h
    go None p = elim (cases_Bool x.waits) [
      | inr still ↦ subst (λ (z : Site). Holds z s) (sym (same p still)) h
      | inl waiting ↦ elim (cases_Bool s.running) [
        | inr idle ↦ absurd (false≢true (sym (h.inputs_show (inl idle) p) ∙ waiting))
        | inl runs ↦ elim (cases_Bool (is_some s.shown)) [
          | inl some ↦ absurd (false≢true (sym (h.inputs_show (inr some) p) ∙ waiting))
          | inr none ↦ untaken x y s runs (none_shown s.shown none) h
        ]
      ]
    ]
