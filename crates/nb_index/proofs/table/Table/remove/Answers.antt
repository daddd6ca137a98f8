use Rattle.std.proofs.Common.{◌≡◌, ◌∙◌, ◌<◌, ◌&&◌, ap, List, ℕ, [], refl, false, not, length, set, sym, arith}
use Rattle.std.specs.Prelude.{◌==◌}
use Rattle.nb_index.specs.Numbers.{has}
use Rattle.nb_index.specs.Rows.{present, marked, is_touched, present_at, touched_at}
use Rattle.nb_index.proofs.ReadRows.{row_at-read, row_at-past, row_at-set_same, row_at-set_other, row_at-set_kept, loses_none}
use Rattle.nb_index.proofs.Touched.{IsList, list_kept, untouched-kept}
use Rattle.nb_index.proofs.table.Table.remove.Goals as goal

pub remove-requires : goal.remove-requires
remove-requires c =
    let rows = c.touch.new.self.rows.items in
    let less : c.args.r < length rows = omega (arith, c.args.self.now.rows.ok, c.len.ensures, c.if-r-len.true, c.touch.ensures.len) in
    sym (row_at-read is_touched false rows c.args.r c.index_mut.result.now less c.index_mut.ensures.value) ∙ c.touch.ensures.touched

pub invariant_of-self : goal.invariant_of-self
invariant_of-self c =
    let self = c.touch.new.self in
    let rows = self.rows.items in
    let r = c.args.r in
    let new = c.remove.new.self in
    let less : r < length rows = omega (arith, c.args.self.now.rows.ok, c.len.ensures, c.if-r-len.true, c.touch.ensures.len) in
    let same : new.touched ≡ touched_at rows r = c.remove.ensures.touched ∙ sym c.touch.ensures.touched in
    let l : IsList (set rows r new) self.touched.items = list_kept rows self.touched.items r new less same (record { listed = self.listed; inside = self.inside }) in
    record { listed = l.listed; inside = l.inside; room = omega (arith, self.room, untouched-kept rows r new same) }

pub returns-then-r-len-clause-loses : goal.returns-then-r-len-clause-loses
returns-then-r-len-clause-loses c =
    let rows = c.touch.new.self.rows.items in
    let r = c.args.r in
    let new = c.remove.new.self in
    let less : r < length rows = omega (arith, c.args.self.now.rows.ok, c.len.ensures, c.if-r-len.true, c.touch.ensures.len) in
    let was : present c.index_mut.result.now ≡ present_at c.args.self.now.rows.items r
    = sym (row_at-read present [] rows r c.index_mut.result.now less c.index_mut.ensures.value) ∙ c.touch.ensures.present r in
    record {
      lost =
          λ x.
          ap (λ (l : List ℕ). has l x) (row_at-set_same present [] rows r new less)
          ∙ c.remove.ensures.present x
          ∙ ap (λ (l : List ℕ). not (c.args.number == x) && has l x) was;
      others = λ q other. row_at-set_other present [] rows r q new other ∙ c.touch.ensures.present q;
    }

pub returns-then-r-len-clause-marked : goal.returns-then-r-len-clause-marked
returns-then-r-len-clause-marked c q =
    let rows = c.touch.new.self.rows.items in
    let less : c.args.r < length rows = omega (arith, c.args.self.now.rows.ok, c.len.ensures, c.if-r-len.true, c.touch.ensures.len) in
    row_at-set_kept marked [] rows c.args.r c.remove.new.self less
    (c.remove.ensures.marked ∙ sym (row_at-read marked [] rows c.args.r c.index_mut.result.now less c.index_mut.ensures.value)) q
    ∙ c.touch.ensures.marked q

pub returns-else-r-len-clause-loses : goal.returns-else-r-len-clause-loses
returns-else-r-len-clause-loses c =
    let rows = c.args.self.now.rows.items in
    let past : present_at rows c.args.r ≡ [] = row_at-past present [] rows c.args.r (omega (arith, c.args.self.now.rows.ok, c.len.ensures, c.if-r-len.false)) in
    record { lost = λ x. loses_none _ past (not (c.args.number == x)) x; others = λ q other. refl }
