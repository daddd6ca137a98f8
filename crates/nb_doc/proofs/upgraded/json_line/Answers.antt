-- What was written is read again; the line feed after it changes nothing.
use Rattle.std.proofs.Common.{◌∙◌, ap}
use Rattle.serde_json.specs.View.{view}
use Rattle.nb_lines.specs.Reasons.{line_data}
use Rattle.nb_doc.proofs.Trailing.{line_read_again}
use Rattle.nb_doc.proofs.upgraded.json_line.Goals as goal

pub returns-clause-data : goal.returns-clause-data
returns-clause-data c =
    λ shallow. ap line_data (c.from_vec.ensures ∙ c.in_ok-push.ensures.items) ∙ line_read_again c.in_ok-bytes.bytes.items (view c.args.tree.now) c.in_ok-bytes.ensures.utf8 (c.in_ok-bytes.ensures.reads_back shallow)
