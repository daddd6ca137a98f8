use Rattle.nb_sheet.proofs.Scans.{the_one_is}
use Rattle.nb_sheet.proofs.checks.the_one_named.Goals as goal

pub returns-in-Some : goal.returns-in-Some
returns-in-Some c =
    let found =
    the_one_is c.args.sheet.now.sheet c.args.within c.args.name.now c.in-Some.name c.as_str.result.now c.rows.result.now c.the_one.result c.unwrap_or.result
    c.requires c.in-Some.is c.as_str.ensures.value c.rows.ensures.value c.the_one.ensures c.unwrap_or.ensures in
    record { value = found.0; there = found.1 }
