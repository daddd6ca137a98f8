-- The laws of evaluation, at the body of any variable.
use Rattle.std.proofs.Common.{ℕ, ◌≡◌, ◌≢◌, ◌+◌, ◌-◌, ◌<◌, sym, false, List, [], ◌∷◌, ◌++◌, append-nil, length, Option, Some, None, arith}
use Rattle.nb_value.specs.declared.value.Value.{Value}
use Rattle.nb_value.specs.declared.value.Value.TheVariants.{Null}
use Rattle.nb_value.specs.declared.pairs.Field.{Field}
use Rattle.nb_value.specs.declared.outcome.Answer.{Answer}
use Rattle.nb_syntax.specs.declared.tree.Cell.{Cell}
use Rattle.nb_eval.specs.declared.given.Ending.TheVariants as ending
use Rattle.nb_eval.specs.declared.given.Segment.{Segment}
use Rattle.nb_eval.specs.Laws.{IsFront}
use Rattle.nb_sheet.specs.declared.row.BodyOf.{BodyOf}
use Rattle.nb_sheet.specs.declared.row.BodyOf.TheVariants.{Cell as CellBody, Import as ImportBody}
use Rattle.nb_history.specs.Rules.{run_body, generates, first_value}
use Rattle.nb_eval.proofs.Laws.{answers_extend, pulls_extend}
use Rattle.nb_eval.proofs.Yields.{most, yields_count, not_paused}

front_refl : (vs : List Value) → IsFront vs vs
front_refl vs = ([], sym (append-nil vs))

abbrev segment : Cell → List (Field Value) → List Answer → ℕ → Segment
segment cell values answers pulls = record { cell = cell; inputs = values; answers = answers; pulls = pulls }

-- an answer more only extends what is yielded
pub answer_extends : (body : Option BodyOf) (values : List (Field Value)) (answers : List Answer) (a : Answer) (pulls : ℕ)
    → IsFront (run_body body values answers pulls).yields (run_body body values (answers ++ a ∷ []) pulls).yields
answer_extends None values answers a pulls = front_refl []
answer_extends (Some (ImportBody name from)) values answers a pulls = front_refl []
answer_extends (Some (CellBody cell)) values answers a pulls = (answers_extend (segment cell values answers pulls) (a ∷ [])).0.yields

-- and so does a pull more
pub pull_extends : (body : Option BodyOf) (values : List (Field Value)) (answers : List Answer) (pulls : ℕ)
    → IsFront (run_body body values answers pulls).yields (run_body body values answers (pulls + 1)).yields
pull_extends None values answers pulls = front_refl []
pull_extends (Some (ImportBody name from)) values answers pulls = front_refl []
pull_extends (Some (CellBody cell)) values answers pulls = (pulls_extend (segment cell values answers pulls) (pulls + 1) (omega arith)).0.yields

module _ (values : List (Field Value)) (answers : List Answer) (pulls : ℕ) where
  -- what paused yielded as often as it was pulled
  pub paused_count : (body : Option BodyOf) → (run_body body values answers pulls).ending ≡ ending.Paused → length (run_body body values answers pulls).yields ≡ most pulls
  paused_count None e = let k : ending.Done Null ≡ ending.Paused = e in absurd (cc)
  paused_count (Some (ImportBody name from)) e = let k : ending.Done (first_value values) ≡ ending.Paused = e in absurd (cc)
  paused_count (Some (CellBody cell)) e = (yields_count cell values answers pulls).0 e

  -- what didn't pause yielded less often
  pub other_count : (body : Option BodyOf) → (run_body body values answers pulls).ending ≢ ending.Paused → length (run_body body values answers pulls).yields < most pulls
  other_count None e = let k : 0 < 1 + (pulls - 1) = omega arith in k
  other_count (Some (ImportBody name from)) e = let k : 0 < 1 + (pulls - 1) = omega arith in k
  other_count (Some (CellBody cell)) e = (yields_count cell values answers pulls).1 e

  -- what is no generator doesn't pause
  pub never_paused : (body : Option BodyOf) → generates body ≡ false → (run_body body values answers pulls).ending ≢ ending.Paused
  never_paused None g e = let k : ending.Done Null ≡ ending.Paused = e in cc
  never_paused (Some (ImportBody name from)) g e = let k : ending.Done (first_value values) ≡ ending.Paused = e in cc
  never_paused (Some (CellBody cell)) g e = not_paused cell values answers pulls g e
