use Rattle.nb_print.proofs.LinesOnce.{lines_fix_log}
use Rattle.nb_print.proofs.law.law_of_lines.Goals as goal

pub returns : goal.returns
returns c = lines_fix_log
