use Rattle.std.proofs.Common.{◌∙◌, refl, sym}
use Rattle.nb_index.specs.Table.{row}
use Rattle.nb_index.specs.Index.{place_in}
use Rattle.nb_index.proofs.Placed.{same_row, place_or_none, loses_at}
use Rattle.nb_index.proofs.index.Index.take.Goals as goal

pub returns-clause-loses : goal.returns-clause-loses
returns-clause-loses c =
    let self = c.args.self.now in
    let names = self.names.keys in
    let places = self.places.keys in
    let r = c.place-place.result in
    record {
      triples =
          λ m n v.
          loses_at r c.args.var (row self.holders) (row c.remove.new.self) c.remove.ensures.loses (place_in names places m n) _
          (λ same. same_row names places c.args.«module» m c.args.name.now n same ∙ sym c.place-place.ensures)
          (place_or_none self.holders.rows.items names places c.args.«module» r c.args.name.now self.holders_few self.named c.place-place.ensures m n)
          v;
      links = λ f t. refl;
    }
