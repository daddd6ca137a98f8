-- A line that is bad, the last line, and a line with others behind it.
use Rattle.std.proofs.Common.{◌≡◌, [], ◌∷◌, sym, ◌∙◌, arith, subst, append-nil, IfNone, IfSome}
use Rattle.nb_lines.specs.Lines.{lines, numbered, first_among, said}
use Rattle.nb_lines.proofs.LineLemmas.{few_lines, first_of, stops, passes, later_bad, later_said}
use Rattle.nb_lines.proofs.lines.read_all.Goals as goal

pub returns-in_err-add_line : goal.returns-in_err-add_line
returns-in_err-add_line c =
    let first = first_of c.cut_line.result.1 (λ m. m.now) (lines c.lines.rest.now) c.cut_line.result.0.now c.cut_line.ensures.last c.cut_line.ensures.first in
    passes (first_among (numbered 1 (lines c.args.bytes.now))) (said (numbered 1 (lines c.args.bytes.now))) c.from_residual.result c.in_err-add_line.field-0.0 c.from_residual.ensures.1
    (stops (first_among (numbered 1 (lines c.args.bytes.now))) (said (numbered 1 (lines c.args.bytes.now))) c.lines.number (lines c.lines.rest.now) c.cut_line.result.0.now c.lines.found c.add_line.new.found c.in_err-add_line.field-0.0 c.lines.invariant.bad first c.in_err-add_line.ensures)

pub returns-in-None : goal.returns-in-None
returns-in-None c =
    let last : lines c.lines.rest.now ≡ c.cut_line.result.0.now ∷ [] = subst (λ o. IfNone o (lines c.lines.rest.now ≡ c.cut_line.result.0.now ∷ [])) c.in-None.is c.cut_line.ensures.last in (
      later_bad _ c.lines.number (lines c.lines.rest.now) c.cut_line.result.0.now [] c.lines.invariant.bad last c.in_ok-add_line.ensures.0,
      sym (later_said _ c.lines.number (lines c.lines.rest.now) c.cut_line.result.0.now [] c.lines.found c.add_line.new.found c.lines.invariant.so_far last c.in_ok-add_line.ensures.1
          ∙ append-nil c.add_line.new.found),
    )

pub overflow_add-number : goal.overflow_add-number
overflow_add-number c = omega (arith, few_lines c.lines.number c.cut_line.result.0.now c.in_ok-add_line.ensures.0)

pub lines-preserved : goal.lines-preserved
lines-preserved c =
    let first : lines c.lines.rest.now ≡ c.cut_line.result.0.now ∷ lines c.in-Some.more.now
    = subst (λ o. IfSome o (λ m. lines c.lines.rest.now ≡ c.cut_line.result.0.now ∷ lines m.now)) c.in-Some.is c.cut_line.ensures.first in
    record {
      bad = later_bad _ c.lines.number (lines c.lines.rest.now) c.cut_line.result.0.now _ c.lines.invariant.bad first c.in_ok-add_line.ensures.0;
      so_far = later_said _ c.lines.number (lines c.lines.rest.now) c.cut_line.result.0.now _ c.lines.found c.add_line.new.found c.lines.invariant.so_far first c.in_ok-add_line.ensures.1;
    }
