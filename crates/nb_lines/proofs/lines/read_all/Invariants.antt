use Rattle.std.proofs.Common.{◌≡◌, ◌++◌, length}
use Rattle.nb_lines.specs.Lines.{lines, numbered, first_among, said}
use Rattle.nb_lines.proofs.lines.read_all.Given as goal

-- what is left has the first fault of all, and says what is still to be found
abbrev pub invariant-lines : goal.invariant-lines
invariant-lines l = record {
  bad : first_among (numbered 1 (lines l.bytes)) ≡ first_among (numbered l.number (lines l.rest));
  so_far : said (numbered 1 (lines l.bytes)) ≡ l.found ++ said (numbered l.number (lines l.rest));
}

abbrev pub decreases-lines : goal.decreases-lines
decreases-lines l = length l.rest
