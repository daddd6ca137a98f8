-- The first line ends at the first line feed, or with the input.
use Rattle.std.proofs.Common.{◌<◌, length, sym, ◌∙◌, arith, ap, nat_eq, ◌∷◌, []}
use Rattle.std.proofs.lemmas.List.{take_all}
use Rattle.std.specs.List.{position_or_len}
use Rattle.nb_lines.proofs.LineLemmas.{lines-first, lines-last}
use Rattle.nb_lines.proofs.lines.cut_line.Goals as goal

pub returns-then-end-bytes-clause-last : goal.returns-then-end-bytes-clause-last
returns-then-end-bytes-clause-last c =
    let all = c.split_at.ensures.front ∙ take_all _ c.args.bytes.now (omega arith) in
    lines-last c.args.bytes.now (sym c.line_end-end.ensures.value ∙ c.if-end-bytes.true) ∙ ap (λ line. line ∷ []) (sym all)

pub returns-clause-first : goal.returns-clause-first
returns-clause-first c =
    let more : position_or_len (λ b. nat_eq b 10) c.args.bytes.now < length c.args.bytes.now = omega (arith, c.line_end-end.ensures.value) in
    rw (c.split_at.ensures.front, c.split_at-2.ensures.back, c.line_end-end.ensures.value) (lines-first c.args.bytes.now more)
