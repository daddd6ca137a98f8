use Rattle.std.proofs.Common.{◌≡◌, ◌+◌, ◌≤◌, drop, length}
use Rattle.std.specs.List.{flat_map}
use Rattle.nb_sheet.specs.declared.row.VarRow.{VarRow}
use Rattle.nb_sheet.specs.Derive.{copied_of, copied_var}
use Rattle.nb_sheet.proofs.counting.count_copied.Given as goal

abbrev pub invariant-loop-row : goal.invariant-loop-row
invariant-loop-row l =
    record {
      value :
          l.count + length (flat_map (λ (row : VarRow). copied_var (length l.sheet.sheet.modules) l.copied row.name row.body) (copied_of l.within l.specifiers (drop l.row-index l.sheet.sheet.rows) l.k))
          ≡ length (flat_map (λ (row : VarRow). copied_var (length l.sheet.sheet.modules) l.copied row.name row.body) (copied_of l.within l.specifiers l.sheet.sheet.rows l.k));
      few : l.count ≤ l.row-index;
    }
