use Rattle.std.proofs.Common.{◌∙◌, refl, sym}
use Rattle.nb_index.specs.Keys.{is_source, number_in}
use Rattle.nb_index.specs.Table.{row}
use Rattle.nb_index.proofs.Placed.{same_source, source_or_none, loses_at}
use Rattle.nb_index.proofs.index.Index.unlink.Goals as goal

pub returns-clause-unlinks : goal.returns-clause-unlinks
returns-clause-unlinks c =
    let self = c.args.self.now in
    let sources = self.sources.keys in
    let r = c.source_number-source.result in
    record {
      triples = λ m n v. refl;
      links =
          λ f t.
          loses_at r c.args.to (row self.targets) (row c.remove.new.self) c.remove.ensures.loses (number_in is_source sources f) _
          (λ same. same_source sources c.args.from f same ∙ sym c.source_number-source.ensures)
          (source_or_none self.targets.rows.items sources c.args.from r f self.targets_few c.source_number-source.ensures)
          t;
    }
