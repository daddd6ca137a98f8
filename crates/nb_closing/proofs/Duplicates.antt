-- A duplicate needs nothing, so it isn't circular, and what needs nothing is alone.
use Rattle.std.proofs.Common.{ℕ, ◌≡◌, refl, sym, ◌∙◌, ap, Bool, true, false, cond, List, [], Option, Some, None}
use Rattle.std.specs.List.{filter_map}
use Rattle.std.proofs.lemmas.Bool.{false≢true, false_from_ne_true}
use Rattle.nb_graph.specs.Needs.{has, Needs, at_once, through}
use Rattle.nb_graph.proofs.Reaches.{needed_sound}
use Rattle.nb_sheet.specs.Lists.{nth, numbers, from_option}
use Rattle.nb_sheet.specs.Sheet.{Sheet}
use Rattle.nb_sheet.specs.declared.row.VarRow.{VarRow}
use Rattle.nb_resolve.specs.Names.{is_duplicate_row, inputs_of_row, inputs_of_body, inputs, direct, duplicate, variable_of}
use Rattle.nb_history.specs.Needs.{circular}

-- who needs something needs something directly
pub needs_nothing : (direct_of : ℕ → List ℕ) (v u : ℕ) → direct_of v ≡ [] → Needs direct_of v u → ⊥
needs_nothing direct_of v u none (at_once h) = false≢true (ap (λ (l : List ℕ). has l u) (sym none) ∙ h)
needs_nothing direct_of v u none (through {w = w} n h) = needs_nothing direct_of v w none n

module _ (s : Sheet) (v : ℕ) where
  pub alone_open : direct s v ≡ [] → circular s v ≡ false
  alone_open none =
      false_from_ne_true (circular s v) (λ c. needs_nothing (direct s) v v none (needed_sound (direct s) (numbers s.rows) v v c))

  pub duplicate_inputs : duplicate s v ≡ true → inputs s v ≡ []
  duplicate_inputs h = go (nth s.rows v) h
    where
      go : (o : Option VarRow) → from_option false (is_duplicate_row s) o ≡ true → from_option [] (inputs_of_row s) o ≡ []
      go None h = refl
      go (Some row) h = ap (λ (b : Bool). cond b [] (inputs_of_body s row.«module» row.body)) h

  pub duplicate_direct : duplicate s v ≡ true → direct s v ≡ []
  duplicate_direct h = ap (filter_map variable_of) (duplicate_inputs h)

  pub duplicate_open : duplicate s v ≡ true → circular s v ≡ false
  duplicate_open h = alone_open (duplicate_direct h)

  -- what has no row needs nothing
  pub nothing_inputs : nth s.rows v ≡ None → inputs s v ≡ []
  nothing_inputs h = ap (λ (o : Option VarRow). from_option [] (inputs_of_row s) o) h

  pub nothing_direct : nth s.rows v ≡ None → direct s v ≡ []
  nothing_direct h = ap (filter_map variable_of) (nothing_inputs h)
