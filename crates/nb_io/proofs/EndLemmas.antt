-- The ends that are left from a place on.
use Rattle.std.proofs.Common.{Result, Ok, Err, ◌≡◌, ◌∙◌, ap, ℕ, zero, suc, ◌+◌, ◌≤◌, List, [], ◌∷◌, drop, length, Some, None, add-one, arith, length-drop}
use Rattle.std.specs.List.{slice_get}
use Rattle.std.proofs.lemmas.Option.{slice_get_within, get_or_from_slice_get}
use Rattle.std.proofs.Math.Seq.{drop-cons}
use Rattle.std.proofs.Math.ListN.{drop_of_length-le}
use Rattle.nb_io.specs.declared.spawner.ChildEnd.{ChildEnd}
use Rattle.nb_io.specs.declared.spawner.SpawnFail.{SpawnFail}
use Rattle.nb_io.specs.declared.spawner.SpawnFail.TheVariants.{Failed, TooLong, Memory}
use Rattle.nb_io.specs.Runs.{AnswersRun, ends_taken}

-- what stands at a place is the first from there on
pub first_left : {X : Type 0} (xs : List X) (i : ℕ) (x : X) → slice_get xs i ≡ Some x → drop i xs ≡ x ∷ drop (i + 1) xs
first_left xs i x at = rw (add-one i) (drop-cons xs i x (slice_get_within xs i x at) ∙ ap (λ y. y ∷ drop (suc i) xs) (get_or_from_slice_get xs i x x at))

length_le : {X : Type 0} (xs : List X) (i : ℕ) → slice_get xs i ≡ None → length xs ≤ i
length_le [] i none = omega arith
length_le (x ∷ xs) zero none = absurd (cc)
length_le (x ∷ xs) (suc i) none = omega (arith, length_le xs i none)

-- nothing stands at a place: none is left from there on
pub none_left : {X : Type 0} (xs : List X) (i : ℕ) → slice_get xs i ≡ None → drop i xs ≡ []
none_left xs i none = drop_of_length-le xs (length_le xs i none)

-- an answer uses up no more ends than are left
pub taken_within : (fails : Type 0) (limit : ℕ) (left : List ChildEnd) (answer : Result ChildEnd SpawnFail) → AnswersRun fails limit left answer → ends_taken answer ≤ length left
taken_within fails limit left (Ok end) is = omega (arith, ap length is.1.1)
taken_within fails limit left (Err Failed) is = omega arith
taken_within fails limit left (Err TooLong) is = omega (arith, ap length is.1.2)
taken_within fails limit left (Err Memory) is = omega arith

-- those from a place on: what an answer uses up is within the list
pub place_within : (fails : Type 0) (limit : ℕ) (ends : List ChildEnd) (given : ℕ) (answer : Result ChildEnd SpawnFail) → given ≤ length ends → AnswersRun fails limit (drop given ends) answer → given + ends_taken answer ≤ length ends
place_within fails limit ends given answer within is = omega (arith, within, length-drop given ends, taken_within fails limit (drop given ends) answer is)
