-- A fault of what the field holds.
use Rattle.std.proofs.Common.{ℕ, List, ◌∙◌, ap, sym}
use Rattle.serde_json.specs.Find.{get}
use Rattle.serde_json.specs.View.{view}
use Rattle.nb_doc.specs.declared.form.Field.TheVariants as field
use Rattle.nb_doc.specs.Forms.{needs}
use Rattle.nb_doc.specs.Contents.{cell_fault}
use Rattle.nb_doc.proofs.FailLemmas.{in_field}
use Rattle.nb_doc.proofs.contents.cell.Goals as goal

pub returns-in-Err-clause-bad : goal.returns-in-Err-clause-bad
returns-in-Err-clause-bad c =
    in_field (view c.args.tree.now) (view c.in-Some.found.now) (needs field.Cell cell_fault) c.within_field.result
    (ap (λ (k : List ℕ). get k (view c.args.tree.now)) (sym c.name.ensures) ∙ sym c.in-Some.ensures)
    (c.within_field.ensures (cell_fault (view c.in-Some.found.now)) c.in-Err.ensures.bad)
