use Rattle.std.proofs.Common.{◌∙◌, ap, List, ℕ, [], refl, sym}
use Rattle.std.proofs.lemmas.Result.{on_ok_weaker, on_err_weaker}
use Rattle.nb_index.specs.Numbers.{has}
use Rattle.nb_index.specs.Rows.{present, marked}
use Rattle.nb_index.specs.Keys.{is_source, number_in}
use Rattle.nb_index.specs.Table.{row, Gains, SameRows}
use Rattle.nb_index.proofs.Placed.{read_grown, own_source, same_source, gains_at, on_any_err}
use Rattle.nb_index.proofs.index.Index.link.Goals as goal

pub returns-clause-ok : goal.returns-clause-ok
returns-clause-ok c =
    let self = c.args.self.now in
    let sources = c.add_source.new.sources.keys in
    on_ok_weaker c.insert.result
    (λ (gains : Gains c.in_ok-source.source c.args.to (row self.targets) (row c.insert.new.self)). record {
      triples = λ m n v. refl;
      links =
          λ f t.
          gains_at c.in_ok-source.source c.args.to (row self.targets) (row c.insert.new.self) gains (number_in is_source sources f) _
          (λ same. same_source sources c.args.from f same ∙ sym c.in_ok-source.ensures.number.number)
          (own_source sources c.args.from c.in_ok-source.source c.in_ok-source.ensures.number f)
          _
          (read_grown present [] self.targets.rows.items is_source self.sources.keys sources c.in_ok-source.ensures.grows self.targets_few f)
          t;
    })
    c.insert.ensures.ok

pub returns-clause-err : goal.returns-clause-err
returns-clause-err c =
    let self = c.args.self.now in
    let sources = c.add_source.new.sources.keys in
    on_err_weaker c.insert.result
    (λ (same : SameRows (row self.targets) (row c.insert.new.self)). record {
      triples = λ m n v. refl;
      links =
          λ f t.
          ap (λ (l : List ℕ). has l t)
          (same (number_in is_source sources f)
          ∙ read_grown present [] self.targets.rows.items is_source self.sources.keys sources c.in_ok-source.ensures.grows self.targets_few f);
    })
    c.insert.ensures.err

pub returns-clause-marked : goal.returns-clause-marked
returns-clause-marked c =
    let self = c.args.self.now in
    let sources = c.add_source.new.sources.keys in
    record {
      triples = λ m n v. refl;
      links =
          λ f t.
          ap (λ (l : List ℕ). has l t)
          (c.insert.ensures.marked (number_in is_source sources f)
          ∙ read_grown marked [] self.targets.rows.items is_source self.sources.keys sources c.in_ok-source.ensures.grows self.targets_few f);
    }

pub returns-in_err-source-clause-marked : goal.returns-in_err-source-clause-marked
returns-in_err-source-clause-marked c =
    let self = c.args.self.now in
    record {
      triples = λ m n v. refl;
      links =
          λ f t.
          ap (λ (l : List ℕ). has l t)
          (read_grown marked [] self.targets.rows.items is_source self.sources.keys c.add_source.new.sources.keys c.in_err-source.ensures.grows self.targets_few f);
    }

pub returns-in_err-source-clause-err : goal.returns-in_err-source-clause-err
returns-in_err-source-clause-err c =
    let self = c.args.self.now in
    on_any_err c.from_residual.result
    (record {
      triples = λ m n v. refl;
      links =
          λ f t.
          ap (λ (l : List ℕ). has l t)
          (read_grown present [] self.targets.rows.items is_source self.sources.keys c.add_source.new.sources.keys c.in_err-source.ensures.grows self.targets_few f);
    })
