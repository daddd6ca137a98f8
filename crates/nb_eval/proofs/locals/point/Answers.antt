use Rattle.std.proofs.Common.{Some, string_bytes}
use Rattle.std.proofs.lemmas.Map.Text.{btree_map_updates_text}
use Rattle.nb_eval.proofs.locals.point.Goals as goal

pub returns-clause-ok : goal.returns-clause-ok
returns-clause-ok c = λ other. btree_map_updates_text (string_bytes c.args.name) c.args.numbers.now c.insert.new.self (Some c.args.number) c.in_ok-insert.ensures.updates other
