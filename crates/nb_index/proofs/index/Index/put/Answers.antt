use Rattle.std.proofs.Common.{◌∙◌, ap, List, ℕ, [], refl}
use Rattle.std.proofs.lemmas.Result.{on_ok_weaker, on_err_weaker}
use Rattle.nb_index.specs.Numbers.{has}
use Rattle.nb_index.specs.Rows.{present, marked}
use Rattle.nb_index.specs.Table.{row, Gains, SameRows}
use Rattle.nb_index.specs.Index.{place_in}
use Rattle.nb_index.proofs.Placed.{read_placed, read_renamed, own_place, same_row, same_at, gains_at, on_any_err}
use Rattle.nb_index.proofs.index.Index.put.Goals as goal

pub returns-in_err-number-clause-err : goal.returns-in_err-number-clause-err
returns-in_err-number-clause-err c =
    let self = c.args.self.now in
    on_any_err c.from_residual.result
    (record {
      triples = λ m n v. ap (λ (l : List ℕ). has l v) (read_renamed present [] self.holders.rows.items self.names.keys c.add_name.new.names.keys self.places.keys c.in_err-number.ensures.grows self.named self.holders_few m n);
      links = λ f t. refl;
    })

pub returns-in_err-number-clause-marked : goal.returns-in_err-number-clause-marked
returns-in_err-number-clause-marked c =
    let self = c.args.self.now in
    record {
      triples = λ m n v. ap (λ (l : List ℕ). has l v) (read_renamed marked [] self.holders.rows.items self.names.keys c.add_name.new.names.keys self.places.keys c.in_err-number.ensures.grows self.named self.holders_few m n);
      links = λ f t. refl;
    }

pub returns-in_err-place-clause-err : goal.returns-in_err-place-clause-err
returns-in_err-place-clause-err c =
    let self = c.args.self.now in
    on_any_err c.from_residual-in_err-place.result
    (record {
      triples = λ m n v. ap (λ (l : List ℕ). has l v) (read_placed present [] self.holders.rows.items self.names.keys c.add_name.new.names.keys self.places.keys c.add_place.new.places.keys c.in_ok-number.ensures.grows c.in_err-place.ensures.grows self.named self.holders_few m n);
      links = λ f t. refl;
    })

pub returns-in_err-place-clause-marked : goal.returns-in_err-place-clause-marked
returns-in_err-place-clause-marked c =
    let self = c.args.self.now in
    record {
      triples = λ m n v. ap (λ (l : List ℕ). has l v) (read_placed marked [] self.holders.rows.items self.names.keys c.add_name.new.names.keys self.places.keys c.add_place.new.places.keys c.in_ok-number.ensures.grows c.in_err-place.ensures.grows self.named self.holders_few m n);
      links = λ f t. refl;
    }

pub returns-clause-ok : goal.returns-clause-ok
returns-clause-ok c =
    let self = c.args.self.now in
    let names = c.add_name.new.names.keys in
    let places = c.add_place.new.places.keys in
    let r = c.in_ok-place.place in
    on_ok_weaker c.insert.result
    (λ (gains : Gains r c.args.var (row self.holders) (row c.insert.new.self)). record {
      triples =
          λ m n v.
          gains_at r c.args.var (row self.holders) (row c.insert.new.self) gains (place_in names places m n) _
          (λ same. same_row names places c.args.«module» m c.args.name.now n same ∙ same_at names places c.args.«module» c.in_ok-number.number r c.args.name.now c.in_ok-place.ensures.number c.in_ok-number.ensures.number)
          (own_place names places c.args.«module» c.in_ok-number.number r c.args.name.now c.in_ok-place.ensures.number c.in_ok-number.ensures.number m n)
          _
          (read_placed present [] self.holders.rows.items self.names.keys c.add_name.new.names.keys self.places.keys c.add_place.new.places.keys c.in_ok-number.ensures.grows c.in_ok-place.ensures.grows self.named self.holders_few m n)
          v;
      links = λ f t. refl;
    })
    c.insert.ensures.ok

pub returns-clause-err : goal.returns-clause-err
returns-clause-err c =
    let self = c.args.self.now in
    on_err_weaker c.insert.result
    (λ (same : SameRows (row self.holders) (row c.insert.new.self)). record {
      triples = λ m n v. ap (λ (l : List ℕ). has l v) (same (place_in c.add_name.new.names.keys c.add_place.new.places.keys m n) ∙ read_placed present [] self.holders.rows.items self.names.keys c.add_name.new.names.keys self.places.keys c.add_place.new.places.keys c.in_ok-number.ensures.grows c.in_ok-place.ensures.grows self.named self.holders_few m n);
      links = λ f t. refl;
    })
    c.insert.ensures.err

pub returns-clause-marked : goal.returns-clause-marked
returns-clause-marked c =
    let self = c.args.self.now in
    record {
      triples = λ m n v. ap (λ (l : List ℕ). has l v) (c.insert.ensures.marked (place_in c.add_name.new.names.keys c.add_place.new.places.keys m n) ∙ read_placed marked [] self.holders.rows.items self.names.keys c.add_name.new.names.keys self.places.keys c.add_place.new.places.keys c.in_ok-number.ensures.grows c.in_ok-place.ensures.grows self.named self.holders_few m n);
      links = λ f t. refl;
    }
