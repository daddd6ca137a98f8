use Rattle.std.proofs.Common.{◌≡◌, ◌++◌, ◌+◌, map, drop}
use Rattle.nb_sheet.specs.Derive.{module_copy, rows_of}
use Rattle.nb_doc.proofs.count.copied_rows.Given as goal

abbrev pub invariant-loop-i : goal.invariant-loop-i
invariant-loop-i l =
    l.rows.items ++ rows_of (l.plan.next + l.i) 0 (map (module_copy l.plan.next l.plan.rows.now l.plan.within l.plan.specifiers.now l.plan.source l.plan.copied.now) (drop l.i l.plan.copied.now))
    ≡ rows_of l.plan.next 0 (map (module_copy l.plan.next l.plan.rows.now l.plan.within l.plan.specifiers.now l.plan.source l.plan.copied.now) l.plan.copied.now)
