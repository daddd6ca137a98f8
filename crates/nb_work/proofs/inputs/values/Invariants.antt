use Rattle.std.proofs.Common.{◌≡◌, ◌-◌, length, drop}
use Rattle.nb_history.specs.Rules.{values_given}
use Rattle.nb_work.specs.Tied.{shown_of}
use Rattle.nb_work.proofs.inputs.values.Given as goal

-- the values of the last k inputs
abbrev pub invariant-loop-k : goal.invariant-loop-k
invariant-loop-k l = l.values ≡ values_given l.sheet.sheet (shown_of l.starts.items) (drop (length l.inputs.items - l.k) l.inputs.items)
