-- The turns of the loops that close.
use Rattle.std.proofs.Common.{ℕ, ◌+◌, ◌≡◌, ◌<◌, ◌≤◌, refl, sym, ◌∙◌, ap, subst, Bool, List, [], ◌∷◌, ◌++◌, length, arith, Option, Some, None}
use Rattle.std.specs.Prelude.{IfNone}
use Rattle.std.proofs.lemmas.List.{length_push}
use Rattle.nb_wave.specs.declared.row.Row.{Row}
use Rattle.nb_wave.specs.declared.step.Step.{Step}
use Rattle.nb_wave.specs.declared.step.Step.TheVariants.{Left, Pending}
use Rattle.nb_wave.specs.Rules.{leaving, may_start, least, IsSound}
use Rattle.nb_wave.specs.Steps.{ended, begun, stepped, Runs}
use Rattle.nb_wave.specs.Wave.{IsRows}
use Rattle.nb_wave.proofs.Stepped.{mild_begun, mild_ended, rows_stepped, sound_stepped}
use Rattle.nb_wave.proofs.Runs.{IsLeast, least_some, next_left, next_start, runs_more, still_leaving, still_starting, leaving_fewer, starting_fewer, none_leaving_begun}

-- what was found among rows that were lent
pub found : (test : List Row → ℕ → Bool) (l rows : List Row) (o p : Option ℕ) → o ≡ least test l → l ≡ rows → o ≡ p → least test rows ≡ p
found test l rows o p h e f = ap (least test) (sym e) ∙ sym h ∙ f

-- v leaves
module _ (first rows new : List Row) (steps new_steps : List Step) (v : ℕ) (h : least leaving rows ≡ Some v) (e : new ≡ stepped ended v 0 rows) (f : new_steps ≡ steps ++ Left v ∷ []) where
  pub left_rows : IsRows rows → IsRows new
  left_rows is = subst IsRows (sym e) (rows_stepped ended mild_ended v 0 rows is)

  pub left_sound : IsSound rows → IsSound new
  left_sound sound = subst IsSound (sym e) (sound_stepped ended mild_ended v 0 rows sound)

  pub left_runs : (place : ℕ) → Runs first place steps rows → Runs first place new_steps new
  left_runs place runs = subst (λ (l : List Step). Runs first place l new) (sym f) (runs_more first place steps rows new (Left v) runs (next_left rows v h) e)

  pub left_fewer : still_leaving new < still_leaving rows
  left_fewer = subst (λ (l : List Row). still_leaving l < still_leaving rows) (sym e) (leaving_fewer rows v h)

  pub left_few : length steps + still_leaving rows ≤ 1024 → length new_steps + still_leaving new ≤ 1024
  left_few few = let size : length new_steps ≡ length steps + 1 = ap (λ (l : List Step). length l) f ∙ length_push steps (Left v) in omega (arith, size, left_fewer, few)

-- v starts
module _ (first rows new : List Row) (steps new_steps : List Step) (v next : ℕ) (is : IsRows rows) (sound : IsSound rows) (none : least leaving rows ≡ None) (h : least may_start rows ≡ Some v)
    (e : new ≡ stepped begun v next rows) (f : new_steps ≡ steps ++ Pending v ∷ []) where
  pub begun_rows : IsRows new
  begun_rows = subst IsRows (sym e) (rows_stepped begun mild_begun v next rows is)

  pub begun_sound : IsSound new
  begun_sound = subst IsSound (sym e) (sound_stepped begun mild_begun v next rows sound)

  pub begun_none : least leaving new ≡ None
  begun_none = ap (least leaving) e ∙ none_leaving_begun rows is.needs sound v next (IsLeast.here (least_some may_start rows v h)) none

  pub begun_runs : (place : ℕ) → place + length steps ≡ next → Runs first place steps rows → Runs first place new_steps new
  begun_runs place at runs =
      subst (λ (l : List Step). Runs first place l new) (sym f)
      (runs_more first place steps rows new (Pending v) runs (next_start rows v none h) (e ∙ ap (λ (p : ℕ). stepped begun v p rows) (sym at)))

  pub begun_at : (place : ℕ) → place + length steps ≡ next → place + length new_steps ≡ next + 1
  begun_at place at = let size : length new_steps ≡ length steps + 1 = ap (λ (l : List Step). length l) f ∙ length_push steps (Pending v) in omega (arith, size, at)

  pub begun_fewer : still_starting new < still_starting rows
  begun_fewer = subst (λ (l : List Row). still_starting l < still_starting rows) (sym e) (starting_fewer rows is.needs sound v next h)

-- what holds of a result that is none
pub if_none : (o : Option ℕ) (P : Type 0) → (o ≡ None → P) → IfNone o P
if_none None P f = f refl
if_none (Some x) P f = tt
