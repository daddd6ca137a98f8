use Rattle.std.proofs.Common.{◌≡◌, ◌∙◌, ◌<◌, ap, List, ℕ, [], ◌∷◌, false, length, set, sym, arith}
use Rattle.std.proofs.lemmas.Result.{on_ok_weaker, on_err_weaker}
use Rattle.nb_index.specs.Numbers.{has}
use Rattle.nb_index.specs.Rows.{present, marked, is_touched, present_at, touched_at}
use Rattle.nb_index.proofs.ReadRows.{row_at-read, row_at-set_same, row_at-set_other, row_at-set_kept}
use Rattle.nb_index.proofs.Touched.{IsList, list_kept, untouched-kept}
use Rattle.nb_index.proofs.table.Table.insert.Goals as goal

pub insert-requires : goal.insert-requires
insert-requires c =
    let rows = c.touch.new.self.rows.items in
    let less : c.args.r < length rows = omega (arith, c.in_ok-grow.ensures.ok, c.touch.ensures.len) in
    sym (row_at-read is_touched false rows c.args.r c.index_mut.result.now less c.index_mut.ensures.value) ∙ c.touch.ensures.touched

pub invariant_of-self : goal.invariant_of-self
invariant_of-self c =
    let self = c.touch.new.self in
    let rows = self.rows.items in
    let r = c.args.r in
    let new = c.insert.new.self in
    let less : r < length rows = omega (arith, c.in_ok-grow.ensures.ok, c.touch.ensures.len) in
    let same : new.touched ≡ touched_at rows r = c.insert.ensures.touched ∙ sym c.touch.ensures.touched in
    let l : IsList (set rows r new) self.touched.items = list_kept rows self.touched.items r new less same (record { listed = self.listed; inside = self.inside }) in
    record { listed = l.listed; inside = l.inside; room = omega (arith, self.room, untouched-kept rows r new same) }

pub returns-clause-ok : goal.returns-clause-ok
returns-clause-ok c =
    let rows = c.touch.new.self.rows.items in
    let r = c.args.r in
    let new = c.insert.new.self in
    let less : r < length rows = omega (arith, c.in_ok-grow.ensures.ok, c.touch.ensures.len) in
    let was : present c.index_mut.result.now ≡ present_at c.args.self.now.rows.items r
    = sym (row_at-read present [] rows r c.index_mut.result.now less c.index_mut.ensures.value)
    ∙ c.touch.ensures.present r
    ∙ c.in_ok-grow.ensures.present r in
    on_ok_weaker c.insert.result
    (λ (gains : (x : ℕ) → has (present new) x ≡ has (c.args.number ∷ present c.index_mut.result.now) x). record {
      gained =
          λ x.
          ap (λ (l : List ℕ). has l x) (row_at-set_same present [] rows r new less)
          ∙ gains x
          ∙ ap (λ (l : List ℕ). has (c.args.number ∷ l) x) was;
      others = λ q other. row_at-set_other present [] rows r q new other ∙ c.touch.ensures.present q ∙ c.in_ok-grow.ensures.present q;
    })
    c.insert.ensures.ok

pub returns-clause-err : goal.returns-clause-err
returns-clause-err c =
    let rows = c.touch.new.self.rows.items in
    let r = c.args.r in
    let new = c.insert.new.self in
    let less : r < length rows = omega (arith, c.in_ok-grow.ensures.ok, c.touch.ensures.len) in
    on_err_weaker c.insert.result
    (λ (same : present new ≡ present c.index_mut.result.now). λ q.
    row_at-set_kept present [] rows r new less (same ∙ sym (row_at-read present [] rows r c.index_mut.result.now less c.index_mut.ensures.value)) q
    ∙ c.touch.ensures.present q
    ∙ c.in_ok-grow.ensures.present q)
    c.insert.ensures.err

pub returns-clause-marked : goal.returns-clause-marked
returns-clause-marked c q =
    let rows = c.touch.new.self.rows.items in
    let less : c.args.r < length rows = omega (arith, c.in_ok-grow.ensures.ok, c.touch.ensures.len) in
    row_at-set_kept marked [] rows c.args.r c.insert.new.self less
    (c.insert.ensures.marked ∙ sym (row_at-read marked [] rows c.args.r c.index_mut.result.now less c.index_mut.ensures.value)) q
    ∙ c.touch.ensures.marked q ∙ c.in_ok-grow.ensures.marked q
