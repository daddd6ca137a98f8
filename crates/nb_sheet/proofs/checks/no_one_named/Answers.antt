use Rattle.nb_sheet.proofs.Scans.{why_not}
use Rattle.nb_sheet.proofs.checks.no_one_named.Goals as goal

pub returns-in-Some : goal.returns-in-Some
returns-in-Some c =
    why_not c.args.sheet.now.sheet c.args.within c.args.name.now c.in-Some.name c.as_str.result.now c.rows.result.now c.the_one.result c.err.result
    c.in-Some.is c.as_str.ensures.value c.rows.ensures.value c.the_one.ensures c.err.ensures.value
