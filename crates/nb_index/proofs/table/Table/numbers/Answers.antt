use Rattle.std.proofs.Common.{◌∙◌, ap, List, [], sym}
use Rattle.nb_index.specs.Rows.{present, present_at}
use Rattle.nb_index.specs.declared.row.Row.{Row}
use Rattle.nb_index.proofs.ReadRows.{row_at-get_or, row_at-past}
use Rattle.nb_index.proofs.table.Table.numbers.Goals as goal

pub returns-in-Some-clause-numbers : goal.returns-in-Some-clause-numbers
returns-in-Some-clause-numbers c =
    let rows = c.deref.result.now in
    let row = c.in-Some.row.now in
    let found = c.in-Some.ensures.lookup in
    c.numbers.ensures.numbers
    ∙ ap present found.1
    ∙ sym (row_at-get_or present [] rows c.args.r row found.3.0)
    ∙ ap (λ (l : List Row). present_at l c.args.r) c.deref.ensures.value

pub returns-in-None-clause-numbers : goal.returns-in-None-clause-numbers
returns-in-None-clause-numbers c =
    sym (row_at-past present [] c.deref.result.now c.args.r c.in-None.ensures.lookup.3)
    ∙ ap (λ (l : List Row). present_at l c.args.r) c.deref.ensures.value
