use Rattle.std.proofs.Common.{◌≡◌, ◌≤◌, ◌+◌, length, get_or}
use Rattle.nb_lines.specs.Lines.{lines, numbered, numbers, without_last_feed}
use Rattle.nb_lines.proofs.lines.line_number.Given as goal

-- what is looked for among all lines is what is looked for among those that are left
abbrev pub invariant-lines : goal.invariant-lines
invariant-lines l = record {
  found : get_or (numbers (numbered 1 (lines (without_last_feed l.bytes)))) l.place 0 ≡ get_or (numbers (numbered l.number (lines l.rest))) l.left 0;
  room : l.number + length l.rest ≤ length l.bytes + 1;
}

abbrev pub decreases-lines : goal.decreases-lines
decreases-lines l = length l.rest
