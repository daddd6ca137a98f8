use Rattle.std.proofs.Common.{◌<◌, ◌+◌, ◌∙◌, ◌++◌, ◌∷◌, [], sym, ap, length, arith, List, ℕ, Vec, Global}
use Rattle.std.proofs.lemmas.List.{take_all}
use Rattle.nb_closing.specs.Tables.{roots_of}
use Rattle.nb_closing.proofs.Used.{roots_yes, roots_no}
use Rattle.nb_closing.proofs.ties.roots.Goals as goal
use Rattle.nb_closing.proofs.ties.roots.Goals.{then-is_root+in_ok-push, else-is_root}

pub loop-i-preserved : goal.loop-i-preserved
loop-i-preserved c =
    let rows = c.args.rows.now in
    let i = c.loop-i.i in
    let inside : i < length rows = omega arith in
    elim c.if-is_root.branch [
      | then-is_root+in_ok-push w ↦
          ap (λ (v : Vec ℕ Global). v.items) w.roots-is
          ∙ (w.in_ok-push.ensures.items
          ∙ (ap (λ (l : List ℕ). l ++ (i + 1) ∷ []) c.loop-i.invariant
          ∙ roots_yes rows i c.index-rows-i.result inside c.index-rows-i.is (sym c.is_root.ensures ∙ w.if-is_root.true)))
      | else-is_root w ↦
          ap (λ (v : Vec ℕ Global). v.items) w.roots-is
          ∙ (c.loop-i.invariant ∙ roots_no rows i c.index-rows-i.result inside c.index-rows-i.is (sym c.is_root.ensures ∙ w.if-is_root.false))
    ]

pub returns : goal.returns
returns c = c.loop-i.invariant ∙ ap roots_of (take_all c.loop-i.i c.args.rows.now (omega arith))
