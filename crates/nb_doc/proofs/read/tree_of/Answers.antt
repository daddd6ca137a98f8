-- What was read, and that nothing is there to be read.
use Rattle.serde_json.specs.Errors.{IsMemory}
use Rattle.nb_lines.proofs.DataLemmas.{line_data-read}
use Rattle.nb_doc.proofs.FailLemmas.{json_fails}
use Rattle.nb_doc.proofs.read.tree_of.Goals as goal

pub returns-in-Ok-clause-said : goal.returns-in-Ok-clause-said
returns-in-Ok-clause-said c = line_data-read c.args.bytes.now _ c.in-Ok.ensures.ok.0 c.in-Ok.ensures.ok.1

pub returns-in-Err-clause-bad : goal.returns-in-Err-clause-bad
returns-in-Err-clause-bad c = json_fails c.args.bytes.now c.json_fail.result (IsMemory c.in-Err.error) c.json_fail.ensures c.in-Err.ensures.err
