use Rattle.std.proofs.Common.{◌≡◌, ◌+◌, ◌≤◌, ◌++◌, true, map, length}
use Rattle.std.specs.Prelude.{vec_len, vec_capacity}
use Rattle.std.specs.Vec.Iter.{into_iter_items, into_iter_len}
use Rattle.nb_sheet.specs.declared.copies.NewModule.{NewModule}
use Rattle.nb_sheet.specs.Derive.{rows_of, variables_of}
use Rattle.nb_sheet.proofs.adding.add_modules.Given as goal

abbrev pub invariant-loop-copy : goal.invariant-loop-copy
invariant-loop-copy l =
    record {
      modules : l.modules.items ++ map (λ (c : NewModule). true) (into_iter_items l.copy-iterator) ≡ l.fn.modules.items ++ map (λ (c : NewModule). true) l.fn.copies;
      rows : l.rows.items ++ rows_of (length l.modules.items) l.place (into_iter_items l.copy-iterator) ≡ l.fn.rows.items ++ rows_of (length l.fn.modules.items) l.place l.fn.copies;
      room : vec_len l.modules + length (into_iter_items l.copy-iterator) ≤ vec_capacity l.modules;
      few : vec_len l.modules + length (into_iter_items l.copy-iterator) ≤ 64;
      row_room : vec_len l.rows + variables_of (into_iter_items l.copy-iterator) ≤ vec_capacity l.rows;
      left : into_iter_len l.copy-iterator ≡ length (into_iter_items l.copy-iterator);
    }
