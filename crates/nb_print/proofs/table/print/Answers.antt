use Rattle.std.proofs.Common.{◌∙◌, ap, sym, ◌++◌, length, append_assoc}
use Rattle.nb_log.specs.Printing.{entries_text, line_text, done_value}
use Rattle.nb_history.specs.History.{standing}
use Rattle.nb_history.specs.Print.{table_text, printing}
use Rattle.nb_print.proofs.table.print.Goals as goal

pub returns : goal.returns
unfolding printing
returns c =
    let entries = entries_text c.args.core.now.log in
    let table = table_text (standing c.args.core.now) in
    let done = line_text (done_value (length c.args.core.now.log)) in
    c.in_ok-append.ensures.ok ∙ ap (λ text. text ++ c.as_slice.result.now) (c.in_ok-text.ensures ∙ ap entries_text c.log.ensures.value)
    ∙ ap (λ text. entries ++ text) (c.as_slice.ensures ∙ c.in_ok-table.ensures.table) ∙ sym (append_assoc entries table done)
