use Rattle.std.proofs.Common.{rules, ◌≡◌, ◌≢◌, ◌+◌, ◌∙◌, ◌∷◌, length, Ok, Err, sym, ap, arith}
use Rattle.nb_value.specs.declared.outcome.ErrorKind.TheVariants.{OutOfFuel, WrongKind}
use Rattle.nb_value.specs.Function.{arity, function_name}
use Rattle.nb_builtins.specs.Apply.{applied}
use Rattle.nb_eval.specs.Run.{error}
use Rattle.nb_eval.specs.declared.stop.Stop.TheVariants as stops
use Rattle.nb_machine.specs.declared.instr.Slot.TheVariants as slot
use Rattle.nb_machine.specs.Machine.{spot}
use Rattle.nb_machine.proofs.Arms.{at_wrong_count, at_unbilled, goes_unless}
use Rattle.nb_machine.proofs.values.call.Goals as goal

pub returns-then-len-arity : goal.returns-then-len-arity
returns-then-len-arity c = λ other.
    let p = c.args.spot.now in
    let h = c.args.held.now in
    let vs = c.in_ok-values.values in
    let count : length vs ≢ arity c.args.function = λ e. omega (arith, c.if-len-arity.true, c.len.ensures.value, c.arity.ensures, e) in
    let is : c.failure.result ≡ stops.Failed (error WrongKind (function_name c.args.function)) = c.failure.ensures (λ e. other (ap Err e)) ∙ ap (λ n. stops.Failed (error WrongKind n)) c.name.ensures in
    at_wrong_count c.args.given.now p h c.requires.held c.args.function vs c.take_values.new.slots c.in_ok-values.ensures.ok count ∙ ap (λ x. (Err x, h)) (sym is)

pub returns-in-Err-Error : goal.returns-in-Err-Error
returns-in-Err-Error c = λ other.
    let p = c.args.spot.now in
    let h = c.args.held.now in
    let vs = c.in_ok-values.values in
    let rest = c.take_values.new.slots in
    let kind : c.in-Err-Error.error.kind ≡ OutOfFuel = search rules in
    let is : applied c.args.function vs h.state.fuel ≡ Err c.in-Err-Error.error = search rules in
    goes_unless _ h (spot (p.pc + 1) (slot.Unpaid ∷ rest)) c.go_on_with-in-Err-Error.new.spot c.go_on_with-in-Err-Error.result
    (at_unbilled c.args.given.now p h c.requires.held c.args.function vs rest c.in_ok-values.ensures.ok c.in-Err-Error.error is kind) c.go_on_with-in-Err-Error.ensures.ok c.go_on_with-in-Err-Error.ensures.err other
