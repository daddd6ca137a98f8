use Rattle.std.proofs.Common.{◌≡◌, ◌∙◌, ◌<◌, ap, [], ◌∷◌, ◌++◌, length, set, sym, arith, length-set}
use Rattle.std.proofs.lemmas.List.{length_push}
use Rattle.nb_index.specs.Rows.{present}
use Rattle.nb_index.proofs.ReadRows.{row_at-read, row_at-set_kept}
use Rattle.nb_index.proofs.Touched.{IsList, list_without, last_inside, untouched-set, none_listed}
use Rattle.nb_index.proofs.table.Table.mark.Goals as goal

pub index_mut-requires : goal.index_mut-requires
index_mut-requires c =
    let self = c.loop-r.self in
    omega (
      arith,
      self.rows.ok,
      last_inside self.rows.items c.pop.new.self.items self.touched.items c.in-Some.r c.in-Some.ensures.items
          (record { listed = self.listed; inside = self.inside }),
    )

pub invariant_of-self : goal.invariant_of-self
invariant_of-self c =
    let self = c.loop-r.self in
    let rows = self.rows.items in
    let list = c.pop.new.self.items in
    let r = c.in-Some.r in
    let new = c.mark.new.self in
    let e : self.touched.items ≡ list ++ r ∷ [] = c.in-Some.ensures.items in
    let l : IsList (set rows r new) list
    = list_without rows list self.touched.items r new e c.mark.ensures.touched (record { listed = self.listed; inside = self.inside }) in
    record {
      listed = l.listed;
      inside = l.inside;
      room = omega (arith, ap length e ∙ length_push list r, c.pop.ensures.capacity, self.room, untouched-set rows r new);
    }

pub loop-r-preserved : goal.loop-r-preserved
loop-r-preserved c =
    let self = c.loop-r.self in
    let rows = self.rows.items in
    let r = c.in-Some.r in
    let new = c.mark.new.self in
    let less : r < length rows
    = last_inside rows c.pop.new.self.items self.touched.items r c.in-Some.ensures.items (record { listed = self.listed; inside = self.inside }) in
    record {
      present =
          λ q.
          row_at-set_kept present [] rows r new less
          (c.mark.ensures.present ∙ sym (row_at-read present [] rows r c.index_mut.result.now less c.index_mut.ensures.value)) q
          ∙ c.loop-r.invariant.present q;
      len = length-set rows r new ∙ c.loop-r.invariant.len;
    }

pub returns-clause-marked : goal.returns-clause-marked
returns-clause-marked c q =
    let self = c.loop-r.self in
    let none : length self.touched.items ≡ 0 = omega (arith, self.touched.ok, c.in_default.ensures.cases) in
    none_listed self.rows.items self.touched.items none (record { listed = self.listed; inside = self.inside }) q ∙ c.loop-r.invariant.present q
