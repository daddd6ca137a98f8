-- Worked answers of loaders.
use Rattle.std.specs.Prelude.{ℕ, ℤ, pos, negsuc, refl, List, [], codes, Result}
use Rattle.std.specs.declared.result.Result.TheVariants.{Ok, Err}
use Rattle.std.specs.Fmt.{digits}
use Rattle.nb_value.specs.declared.outcome.Answer.{Answer}
use Rattle.nb_value.specs.declared.outcome.Answer.TheVariants.{Failure}
use Rattle.nb_io.specs.declared.spawner.ChildEnd.{ChildEnd}
use Rattle.nb_io.specs.declared.spawner.SpawnFail.{SpawnFail}
use Rattle.nb_io.specs.declared.spawner.SpawnFail.TheVariants.{Failed, TooLong, Memory}
use Rattle.nb_history.specs.Loaders.{IsAnswerOf}

abbrev ended : ℤ → List ℕ → Result ChildEnd SpawnFail
ended status output = Ok (record { status = status; output = output })

pub no_program_is_a_failure : IsAnswerOf (Err Failed) (Failure (codes "spawn"))
no_program_is_a_failure = refl

pub too_much_is_a_failure : IsAnswerOf (Err TooLong) (Failure (codes "output"))
too_much_is_a_failure = refl

pub a_status_is_told : IsAnswerOf (ended (pos 3) (codes "5")) (Failure (codes "status 3"))
unfolding digits
a_status_is_told = refl

pub a_signal_is_told : IsAnswerOf (ended (negsuc 0) []) (Failure (codes "status -1"))
unfolding digits
a_signal_is_told = refl

pub want_of_memory_is_no_answer : (a : Answer) → IsAnswerOf (Err Memory) a → ⊥
want_of_memory_is_no_answer a h = h
