use Rattle.std.proofs.Common.{◌≡◌, drop, map}
use Rattle.nb_history.specs.Rules.{first_error, given}
use Rattle.nb_work.specs.Tied.{shown_of}
use Rattle.nb_work.proofs.inputs.first_error.Given as goal

-- none failed so far
abbrev pub invariant-loop-input : goal.invariant-loop-input
invariant-loop-input l =
    first_error (map (given l.sheet.sheet (shown_of l.starts.items)) (drop l.input-index l.inputs.items)) ≡ first_error (map (given l.sheet.sheet (shown_of l.starts.items)) l.inputs.items)
