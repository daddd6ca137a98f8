-- What a call on one line answers. Memory may run out; else the first fault comes, told as its reason.
use Rattle.std.specs.Prelude.{◌≡◌, ◌⊎◌, Option, Some}
use Rattle.nb_parser.specs.declared.error.ParseError.{ParseError}
use Rattle.nb_parser.specs.declared.error.ParseError.TheVariants as parse
use Rattle.nb_lines.specs.declared.script.BadReason.{BadReason}
use Rattle.nb_lines.specs.declared.script.BadReason.TheVariants.{BadCell}
use Rattle.nb_lines.specs.declared.script.OneFail.{OneFail}
use Rattle.nb_lines.specs.declared.script.OneFail.TheVariants.{Bad, Memory}
use Rattle.nb_lines.specs.Reasons.{Fault, Tells}

-- this fault is there, and is told as the reason
abbrev pub IsTold : Option Fault → BadReason → Type 0
IsTold fault reason = (f : Fault) × (fault ≡ Some f) × Tells f reason

abbrev pub Fails : Option Fault → OneFail → Type 0
Fails fault e = (e ≡ Memory) ⊎ ((reason : BadReason) × (e ≡ Bad reason) × IsTold fault reason)

-- the same of a reason that stands by itself
abbrev pub FailsPlainly : Option BadReason → OneFail → Type 0
FailsPlainly reason e = (e ≡ Memory) ⊎ ((r : BadReason) × (e ≡ Bad r) × (reason ≡ Some r))

-- the parser's want of memory is that of the line
abbrev pub cell_fail : ParseError → OneFail
cell_fail parse.Memory = Memory
cell_fail e = Bad (BadCell e)
