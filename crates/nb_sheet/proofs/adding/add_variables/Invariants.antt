use Rattle.std.proofs.Common.{◌≡◌, ◌+◌, ◌≤◌, ◌++◌, map, length}
use Rattle.std.specs.Prelude.{vec_len, vec_capacity}
use Rattle.std.specs.Vec.Iter.{into_iter_items, into_iter_len}
use Rattle.nb_sheet.specs.Derive.{new_row}
use Rattle.nb_sheet.proofs.adding.add_variables.Given as goal

abbrev pub invariant-loop-var : goal.invariant-loop-var
invariant-loop-var l =
    record {
      items : l.rows.items ++ map (new_row l.within l.place) (into_iter_items l.var-iterator) ≡ l.fn.rows.items ++ map (new_row l.within l.place) l.fn.vars;
      capacity : vec_capacity l.rows ≡ vec_capacity l.fn.rows;
      room : vec_len l.rows + length (into_iter_items l.var-iterator) ≤ vec_capacity l.rows;
      left : into_iter_len l.var-iterator ≡ length (into_iter_items l.var-iterator);
    }
