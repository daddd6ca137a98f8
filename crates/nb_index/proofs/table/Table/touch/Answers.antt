use Rattle.std.proofs.Common.{◌≡◌, ◌∙◌, ap, [], ◌∷◌, ◌++◌, false, length, set, subst, sym, arith}
use Rattle.std.proofs.lemmas.List.{length_push}
use Rattle.nb_index.specs.Rows.{present, marked, is_touched, touched_at}
use Rattle.nb_index.proofs.ReadRows.{row_at-read, row_at-set_same, row_at-set_kept}
use Rattle.nb_index.proofs.Touched.{IsList, list_with, untouched-touch}
use Rattle.nb_index.proofs.table.Table.touch.Goals as goal

pub push_reserved-requires : goal.push_reserved-requires
push_reserved-requires c =
    let rows = c.args.self.now.rows.items in
    let was : touched_at rows c.args.r ≡ false
    = row_at-read is_touched false rows c.args.r c.index.result.now c.requires c.index.ensures ∙ sym c.is_touched.ensures ∙ c.if-not-is_touched.true in
    omega (arith, c.args.self.now.touched.ok, c.args.self.now.room, untouched-touch rows c.args.r c.touch.new.self c.requires was c.touch.ensures.touched)

pub invariant_of-self : goal.invariant_of-self
invariant_of-self c =
    let rows = c.args.self.now.rows.items in
    let list = c.args.self.now.touched.items in
    let new = c.touch.new.self in
    let was : touched_at rows c.args.r ≡ false
    = row_at-read is_touched false rows c.args.r c.index.result.now c.requires c.index.ensures ∙ sym c.is_touched.ensures ∙ c.if-not-is_touched.true in
    let e : c.push_reserved.new.self.items ≡ list ++ c.args.r ∷ [] = c.push_reserved.ensures.items in
    let l : IsList (set rows c.args.r new) c.push_reserved.new.self.items
    = subst (IsList (set rows c.args.r new)) (sym e)
    (list_with rows list c.args.r new c.requires (record { listed = c.args.self.now.listed; inside = c.args.self.now.inside })) in
    record {
      listed = l.listed;
      inside = l.inside;
      room =
          omega (
            arith,
            ap length e ∙ length_push list c.args.r,
            c.push_reserved.ensures.capacity,
            c.args.self.now.room,
            untouched-touch rows c.args.r new c.requires was c.touch.ensures.touched,
          );
    }

pub returns-then-not-is_touched-clause-touched : goal.returns-then-not-is_touched-clause-touched
returns-then-not-is_touched-clause-touched c =
    row_at-set_same is_touched false c.args.self.now.rows.items c.args.r c.touch.new.self c.requires ∙ c.touch.ensures.touched

pub returns-then-not-is_touched-clause-present : goal.returns-then-not-is_touched-clause-present
returns-then-not-is_touched-clause-present c =
    let rows = c.args.self.now.rows.items in
    row_at-set_kept present [] rows c.args.r c.touch.new.self c.requires
    (c.touch.ensures.present ∙ sym (row_at-read present [] rows c.args.r c.index_mut.result.now c.requires c.index_mut.ensures.value))

pub returns-then-not-is_touched-clause-marked : goal.returns-then-not-is_touched-clause-marked
returns-then-not-is_touched-clause-marked c =
    let rows = c.args.self.now.rows.items in
    row_at-set_kept marked [] rows c.args.r c.touch.new.self c.requires
    (c.touch.ensures.marked ∙ sym (row_at-read marked [] rows c.args.r c.index_mut.result.now c.requires c.index_mut.ensures.value))

pub returns-else-not-is_touched-clause-touched : goal.returns-else-not-is_touched-clause-touched
returns-else-not-is_touched-clause-touched c =
    row_at-read is_touched false c.args.self.now.rows.items c.args.r c.index.result.now c.requires c.index.ensures
    ∙ sym c.is_touched.ensures
    ∙ c.if-not-is_touched.false
