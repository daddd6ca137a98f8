use Rattle.std.proofs.Common.{◌∙◌, ap, List, [], ◌+◌, ◌≤◌, length, subst, sym, arith}
use Rattle.nb_index.specs.Rows.{present, marked, present_at, marked_at, untouched}
use Rattle.nb_index.specs.declared.row.Row.{Row}
use Rattle.nb_index.proofs.ReadRows.{row_at-push}
use Rattle.nb_index.proofs.Touched.{IsList, list_push, untouched-tried}
use Rattle.nb_index.proofs.table.Table.add_row.Goals as goal

pub invariant_of-self-2 : goal.invariant_of-self-2
invariant_of-self-2 c =
    let rows = c.args.self.now.rows.items in
    let old : IsList rows c.args.self.now.touched.items = record { listed = c.args.self.now.listed; inside = c.args.self.now.inside } in
    let kept : IsList rows c.reserve.new.self.items = subst (IsList rows) (sym c.reserve.ensures.items) old in
    let l : IsList c.push.new.self.items c.reserve.new.self.items
    = subst (λ (rs : List Row). IsList rs c.reserve.new.self.items) (sym c.push.ensures.items) (list_push _ rows c.reserve.new.self.items c.new.result c.new.ensures.touched kept) in
    record {
      listed = l.listed;
      inside = l.inside;
      room =
          omega (
            arith,
            c.args.self.now.rows.ok,
            c.reserve.new.self.ok,
            c.len.ensures,
            c.in_ok-reserve.ensures.ok,
            subst (λ (rs : List Row). untouched rs ≤ length rows + 1) (sym c.push.ensures.items) (untouched-tried _ rows c.new.result),
          );
    }

pub returns-clause-present : goal.returns-clause-present
returns-clause-present c r =
    ap (λ (rs : List Row). present_at rs r) c.in_ok-push.ensures.items ∙ row_at-push present [] c.args.self.now.rows.items c.new.result r c.new.ensures.present

pub returns-clause-marked : goal.returns-clause-marked
returns-clause-marked c r =
    ap (λ (rs : List Row). marked_at rs r) c.in_ok-push.ensures.items ∙ row_at-push marked [] c.args.self.now.rows.items c.new.result r c.new.ensures.marked
