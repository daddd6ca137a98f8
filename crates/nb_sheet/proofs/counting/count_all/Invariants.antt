use Rattle.std.proofs.Common.{length, ◌≡◌, ◌≤◌, ◌+◌, ◌-◌, ◌^◌, map, min, drop}
use Rattle.nb_sheet.specs.Derive.{module_copy, variables_of}
use Rattle.nb_sheet.proofs.counting.count_all.Given as goal

abbrev pub invariant-loop-k : goal.invariant-loop-k
invariant-loop-k l =
    record {
      value :
          min (l.count + variables_of (map (module_copy (length l.sheet.sheet.modules) l.sheet.sheet.rows l.within l.specifiers l.source l.copied) (drop l.k-index l.copied))) (2 ^ 64 - 1)
          ≡ min (variables_of (map (module_copy (length l.sheet.sheet.modules) l.sheet.sheet.rows l.within l.specifiers l.source l.copied) l.copied)) (2 ^ 64 - 1);
      fits : l.count ≤ 2 ^ 64 - 1;
    }
