-- A line that is bad, for each cause, and one that is read.
use Rattle.std.proofs.Common.{option_map, sym, ap, ◌∙◌, refl, arith, ◌++◌, [], append-nil}
use Rattle.std.specs.List.{cons_option}
use Rattle.nb_lines.specs.Reasons.{Fault}
use Rattle.nb_lines.proofs.LineLemmas.{too_many, too_wide, blank_fault, blank_says, own_fault_of, own_script, own_bad}
use Rattle.nb_lines.proofs.lines.add_line.Goals as goal

pub returns-then-number-gt-MOST_LINES : goal.returns-then-number-gt-MOST_LINES
returns-then-number-gt-MOST_LINES c = (_, too_many c.args.number c.args.line.now (omega arith), refl)

pub returns-then-line-gt-LONGEST_LINE : goal.returns-then-line-gt-LONGEST_LINE
returns-then-line-gt-LONGEST_LINE c = (_, too_wide c.args.number c.args.line.now (omega arith) (omega arith), refl)

pub returns-then-is_blank : goal.returns-then-is_blank
returns-then-is_blank c =
    let blank = sym c.is_blank.ensures ∙ c.if-is_blank.true in (
      blank_fault c.args.number c.args.line.now (omega arith) (omega arith) blank,
      sym (ap (λ o. c.args.found.now ++ cons_option o []) (blank_says c.args.line.now blank) ∙ append-nil c.args.found.now),
    )

pub returns-in_ok-push-in-Ok : goal.returns-in_ok-push-in-Ok
returns-in_ok-push-in-Ok c =
    let text = sym c.is_blank.ensures ∙ c.if-is_blank.false in (
      ap (option_map (λ (f : Fault). (c.args.number, f))) (own_fault_of c.args.number c.args.line.now (omega arith) (omega arith) text ∙ c.in-Ok.ensures.good),
      c.in_ok-push-in-Ok.ensures.ok ∙ ap (λ o. c.args.found.now ++ cons_option o []) (sym (own_script c.args.line.now text ∙ c.in-Ok.ensures.said)),
    )

pub returns-in-Err-Bad : goal.returns-in-Err-Bad
returns-in-Err-Bad c =
    let text = sym c.is_blank.ensures ∙ c.if-is_blank.false in
    own_bad c.args.number c.args.line.now c.in-Err-Bad.reason (omega arith) (omega arith) text (rw c.in-Err-Bad.field-0-is at c.in-Err-Bad.ensures.bad)
