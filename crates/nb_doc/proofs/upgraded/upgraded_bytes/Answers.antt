-- No document has a float, and none in version 2; and what is written is read again.
use Rattle.std.proofs.Common.{◌≡◌, ◌≤◌, Some, false, option_map, ◌∙◌, ap, sym, subst}
use Rattle.serde_json.specs.View.{view}
use Rattle.serde_json.specs.Data.{depth}
use Rattle.serde_json.specs.Written.{has_float}
use Rattle.nb_doc.specs.Upgraded.{upgraded_by, upgraded_data}
use Rattle.nb_lines.specs.Reasons.{line_data}
use Rattle.nb_doc.proofs.Floats.{fits_limits}
use Rattle.nb_doc.proofs.UpgradedFits.{upgraded_fits}
use Rattle.nb_doc.proofs.upgraded.upgraded_bytes.Goals as goal

pub json_line-requires : goal.json_line-requires
json_line-requires c =
    let d = view c.in_ok-tree.tree in
    let fits = upgraded_fits 127 c.in_ok-named.field-0.named d (fits_limits c.args.bytes.now d c.in_ok-tree.ensures.said c.in_ok-named.ensures.good) in
    subst (λ e. has_float e ≡ false) (sym c.in_ok-upgrade_tree.ensures) fits.0

pub returns-clause-data : goal.returns-clause-data
returns-clause-data c =
    let d = view c.in_ok-tree.tree in
    let fits = upgraded_fits 127 c.in_ok-named.field-0.named d (fits_limits c.args.bytes.now d c.in_ok-tree.ensures.said c.in_ok-named.ensures.good) in
    let read : line_data c.in_ok-json_line.field-0 ≡ Some (view c.upgrade_tree.new.tree) = c.in_ok-json_line.ensures.data (subst (λ e. depth e ≤ 127) (sym c.in_ok-upgrade_tree.ensures) fits.1) in
    read ∙ ap Some (c.in_ok-upgrade_tree.ensures ∙ ap (λ n. upgraded_by n d) (sym c.in_ok-named.ensures.named)) ∙ ap (option_map upgraded_data) (sym c.in_ok-tree.ensures.said)
