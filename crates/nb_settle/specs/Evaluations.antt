-- The suspended evaluations that are kept.
use Rattle.std.specs.Prelude.{◌≡◌, ◌≢◌, ℕ, Option, Some, None}
use Rattle.std.specs.Ordering.{nat_cmp}
use Rattle.std.specs.BTreeMap.{get_by}
use Rattle.nb_eval.specs.declared.given.Segment.{Segment}
use Rattle.nb_machine.specs.declared.parked.Parked.{Parked}
use Rattle.nb_machine.specs.declared.parked.Parked.TheVariants as parked
use Rattle.nb_machine.specs.Parked.{IsLeftOf}
use Rattle.nb_settle.specs.declared.evaluations.Evaluations.{Evaluations}

-- the evaluation that is kept for a variable, if one is
abbrev pub kept : Evaluations → ℕ → Option Parked
kept es var = get_by (nat_cmp var) es.parked

-- nothing is kept
abbrev pub IsNothing : Evaluations → Type 0
IsNothing es = (var : ℕ) → kept es var ≡ None

-- of every other variable the same is kept as before
abbrev pub KeepsOthers : Evaluations → ℕ → Evaluations → Type 0
KeepsOthers old var new = (other : ℕ) → other ≢ var → kept new other ≡ kept old other

-- what there was without what was kept for a variable
abbrev pub IsWithout : Evaluations → ℕ → Evaluations → Type 0
IsWithout old var new = (kept new var ≡ None) × KeepsOthers old var new

-- what is kept of what an evaluation leaves: nothing where it is over
abbrev pub unless_over : Parked → Option Parked
unless_over parked.Over = None
unless_over p = Some p

-- this is kept of the evaluation of a segment
abbrev pub IsKeptOf : Segment → Option Parked → Type 0
IsKeptOf g None = IsLeftOf g parked.Over
IsKeptOf g (Some p) = IsLeftOf g p × (unless_over p ≡ Some p)

-- what there was, and for a variable what the evaluation of its segment leaves
abbrev pub IsWithRest : Evaluations → ℕ → Segment → Evaluations → Type 0
IsWithRest old var g new = IsKeptOf g (kept new var) × KeepsOthers old var new
