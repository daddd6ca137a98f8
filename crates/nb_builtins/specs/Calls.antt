-- What a call gives: a value, or an error with a kind and a detail.
use Rattle.std.specs.Prelude.{◌≡◌, ⊤, ℕ, List, None, Result, Ok, Err}
use Rattle.nb_value.specs.declared.function.Function.{Function}
use Rattle.nb_value.specs.declared.outcome.CellError.{CellError}
use Rattle.nb_value.specs.declared.outcome.ErrorKind.{ErrorKind}
use Rattle.nb_value.specs.declared.outcome.ErrorKind.TheVariants.{WrongKind, Overflow, OutOfRange}
use Rattle.nb_value.specs.Function.{function_name}
use Rattle.nb_builtins.specs.declared.fail.ApplyFail.{ApplyFail}
use Rattle.nb_builtins.specs.declared.fail.ApplyFail.TheVariants.{Error, Memory}

abbrev pub Called : Type 0 → Type 0
Called X = Result X CellError

abbrev pub failed : {X : Type 0} → ErrorKind → List ℕ → Called X
failed kind detail = Err (record { kind = kind; detail = detail; via = None })

-- the three errors of functions, each with the function's name as its detail
abbrev pub wrong_kind : {X : Type 0} → Function → Called X
wrong_kind f = failed WrongKind (function_name f)

abbrev pub out_of_range : {X : Type 0} → Function → Called X
out_of_range f = failed OutOfRange (function_name f)

abbrev pub overflow : {X : Type 0} → Function → Called X
overflow f = failed Overflow (function_name f)

-- a second step, which is given the value of the first; an error of the first is the error of both
abbrev pub and_then : {X Y : Type 0} → Called X → (X → Called Y) → Called Y
and_then (Ok x) f = f x
and_then (Err e) f = Err e

-- what a function of the code answers for a call: just that, or want of memory
abbrev pub Answers : {X : Type 0} → Result X ApplyFail → Called X → Type 0
Answers (Ok x) called = called ≡ Ok x
Answers (Err (Error e)) called = called ≡ Err e
Answers (Err Memory) called = ⊤

-- the failure is this error, or want of memory
abbrev pub Fails : ApplyFail → ErrorKind → List ℕ → Type 0
Fails (Error e) kind detail = e ≡ record { kind = kind; detail = detail; via = None }
Fails Memory kind detail = ⊤
