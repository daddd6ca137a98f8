use Rattle.std.proofs.Common.{◌≢◌, length, arith}
use Rattle.nb_work.specs.Tied.{number_of}
use Rattle.nb_work.proofs.Same.{differ_length}
use Rattle.nb_work.proofs.readiness.same_starts.Goals as goal

pub returns-then-len-kept : goal.returns-then-len-kept
returns-then-len-kept c =
    let other : length c.args.direct.now.items ≢ length c.args.kept.now = omega (arith, c.len.ensures, c.if-len-kept.true, c.args.direct.now.ok) in
    differ_length (number_of c.args.starts.now.items) c.args.direct.now.items c.args.kept.now other
