-- Which variables are leaving, behind, held and due, and which may start. A wave has a row for each variable, by number
-- from 0; no variable has the number 0.
use Rattle.std.specs.Prelude.{ℕ, ◌-◌, ◌≡◌, ◌≢◌, ◌≤◌, ◌<◌, Bool, true, false, cond, ◌&&◌, ◌||◌, not, ◌==◌, List, [], ◌∷◌, length, Option, Some, None, is_some, slice_get}
use Rattle.std.specs.List.{list_any, range_with_len}
use Rattle.nb_graph.specs.Needs.{has, Needs, all_needed}
use Rattle.nb_wave.specs.declared.footing.Footing.{Footing}
use Rattle.nb_wave.specs.declared.row.Row.{Row}
use Rattle.nb_wave.specs.Footings.{same_base, same_footing}

abbrev pub from_option : {A B : Type 0} → B → (A → B) → Option A → B
from_option d f None = d
from_option d f (Some x) = f x

-- ---- of a row

abbrev pub is_wanted : Row → Bool
is_wanted r = r.wanted

abbrev pub is_idle : Row → Bool
is_idle r = not (is_some r.kept)

-- it is idle, or its footing now isn't the kept one
abbrev pub is_behind : Row → Bool
is_behind r = from_option true (λ (k : Footing). not (same_footing r.present k)) r.kept

-- only the renewals of what it needs aren't the kept ones
abbrev pub is_overtaken : Row → Bool
is_overtaken r = from_option false (λ (k : Footing). same_base r.present k && not (same_footing r.present k)) r.kept

-- it runs at a second or later pull that still counts
abbrev pub is_pulling : Row → Bool
is_pulling r = r.later && not (is_behind r)

abbrev pub is_leaving : Row → Bool
is_leaving r = not r.wanted && not (is_idle r)

abbrev pub is_circular : Row → Bool
is_circular r = Footing.mark r.present == 2

abbrev pub wants_start : Row → Bool
wants_start r = r.wanted && is_behind r

-- ---- of a variable among the rows

-- its row passes
abbrev pub passes : (Row → Bool) → List Row → ℕ → Bool
passes test rows v = from_option false test (slice_get rows v)

-- what it needs directly
abbrev pub needs_of : List Row → ℕ → List ℕ
needs_of rows v = from_option [] (λ (r : Row). r.needs) (slice_get rows v)

-- the variables, by number
abbrev pub numbers : List Row → List ℕ
numbers rows = range_with_len 1 (length rows - 1)

-- all that it needs
abbrev pub needed : List Row → ℕ → List ℕ
needed rows v = all_needed (needs_of rows) (numbers rows) v

-- it passes, or one that it needs does
abbrev pub rests_on : (ℕ → Bool) → List Row → ℕ → Bool
rests_on test rows v = test v || list_any test (needed rows v)

-- something is pulling
abbrev pub pulls_on : List Row → Bool
pulls_on rows = list_any (passes is_pulling rows) (numbers rows)

-- something is pulling, and it or a variable that it needs is overtaken
abbrev pub held : List Row → ℕ → Bool
held rows v = pulls_on rows && rests_on (passes is_overtaken rows) rows v

abbrev pub leaving : List Row → ℕ → Bool
leaving rows v = passes is_leaving rows v

-- it is wanted, behind and not held
abbrev pub due : List Row → ℕ → Bool
due rows v = passes wants_start rows v && not (held rows v)

-- it is due and circular, or it is due and nothing that it needs is
abbrev pub may_start : List Row → ℕ → Bool
may_start rows v = due rows v && (passes is_circular rows v || not (list_any (due rows) (needed rows v)))

-- ---- the least

abbrev pub first_where : (ℕ → Bool) → List ℕ → Option ℕ
first_where test [] = None
first_where test (x ∷ xs) = cond (test x) (Some x) (first_where test xs)

abbrev pub least : (List Row → ℕ → Bool) → List Row → Option ℕ
least test rows = first_where (test rows) (numbers rows)

-- ---- what is asked of the rows

-- what a variable needs are variables
abbrev pub NeedsVariables : List Row → Type 0
NeedsVariables rows = (v u : ℕ) → has (needs_of rows v) u ≡ true → (1 ≤ u) × (u < length rows)

-- no wanted variable that isn't circular needs itself, and one with a mark rests on no starts and renewals
pub record IsSound (rows : List Row) : Type 0 where
  pub acyclic : (v : ℕ) (r : Row) → slice_get rows v ≡ Some r → r.wanted ≡ true → Footing.mark r.present ≢ 2 → Needs (needs_of rows) v v → ⊥
  pub starts : (v : ℕ) (r : Row) → slice_get rows v ≡ Some r → Footing.mark r.present ≢ 0 → Footing.starts r.present ≡ []
  pub renewals : (v : ℕ) (r : Row) → slice_get rows v ≡ Some r → Footing.mark r.present ≢ 0 → Footing.renewals r.present ≡ []
