use Rattle.std.proofs.Common.{◌≡◌, ◌+◌, ◌++◌, None, replicate}
use Rattle.std.specs.Prelude.{vec_len, vec_capacity}
use Rattle.nb_core.proofs.machine.editing.pad.Given as goal

abbrev pub invariant-loop : goal.invariant-loop
invariant-loop l = record {
  items : l.starts.items ≡ l.fn.starts.items ++ replicate l.counter None;
  len : vec_len l.starts ≡ vec_len l.fn.starts + l.counter;
  capacity : vec_capacity l.starts ≡ vec_capacity l.fn.starts;
}
