use Rattle.std.proofs.Common.{ℕ, ◌≡◌, ◌+◌, ◌<◌, ◌∙◌, sym, ap, subst, Bool, true, false, List, length, inl, inr, get_or, set, arith}
use Rattle.std.specs.List.{list_any}
use Rattle.nb_wave.specs.declared.row.Row.{Row}
use Rattle.nb_wave.specs.Rules.{needs_of}
use Rattle.nb_wave.specs.Marks.{marked, IsWidening}
use Rattle.nb_wave.proofs.Places.{needs_read}
use Rattle.nb_wave.proofs.Spreads.{widening_begins, widening_skips, widening_marks}
use Rattle.nb_wave.proofs.due.widen.Goals as goal
use Rattle.nb_wave.proofs.due.widen.Goals.{then-not-marks-v+then-any_marked, else-not-marks-v, else-not-marks-v-via-then-not-marks-v+else-any_marked, else-not-marks-v-via-else-not-marks-v}

along : (rows : List Row) (old : List Bool) (i : ℕ) (a b : Bool) (x y : List Bool) → a ≡ b → x ≡ y → IsWidening rows old i b y → IsWidening rows old i a x
along rows old i a b x y e f w = subst (λ (l : List Bool). IsWidening rows old i a l) (sym f) (subst (λ (g : Bool). IsWidening rows old i g y) (sym e) w)

-- what was found among the needs that were read
found : (rows : List Row) (marks : List Bool) (i : ℕ) (x : Row) (needs : List ℕ) (b c : Bool) → i < length rows → x ≡ get_or rows i x → needs ≡ Row.needs (get_or rows i x) → b ≡ list_any (marked marks) needs → b ≡ c
    → list_any (marked marks) (needs_of rows i) ≡ c
found rows marks i x needs b c inside read f g h =
    ap (list_any (marked marks)) (needs_read rows i x inside read ∙ ap (λ (r : Row). r.needs) read ∙ sym f) ∙ sym g ∙ h

pub loop-v-init : goal.loop-v-init
loop-v-init c = widening_begins c.args.rows.now c.args.marks.now

pub loop-v-preserved : goal.loop-v-preserved
loop-v-preserved c =
    let rows = c.args.rows.now in
    let old = c.args.marks.now in
    let i = c.loop-v.v in
    let grew = c.loop-v.grew in
    let new = c.loop-v.marks in
    let inside : i < length rows = omega arith in
    let low : i < length new = omega (arith, c.loop-v.invariant.size) in
    elim c.if-not-marks-v.branch [
      | then-not-marks-v+then-any_marked w ↦
          along rows old (i + 1) c.if-not-marks-v.grew true c.if-not-marks-v.marks (set new i true) w.grew-is w.marks-is
          (widening_marks rows old i grew new c.loop-v.invariant low w.if-not-marks-v.true
          (found rows new i w.index-rows-v.result w.as_slice.result.now w.any_marked.result true inside w.index-rows-v.is w.as_slice.ensures w.any_marked.ensures w.if-any_marked.true))
      | else-not-marks-v w ↦
          along rows old (i + 1) c.if-not-marks-v.grew grew c.if-not-marks-v.marks new w.grew-is w.marks-is
          (elim w.else-not-marks-v.branch [
            | else-not-marks-v-via-then-not-marks-v+else-any_marked y ↦
                widening_skips rows old i grew new c.loop-v.invariant
                (inr (found rows new i y.index-rows-v.result y.as_slice.result.now y.any_marked.result false inside y.index-rows-v.is y.as_slice.ensures y.any_marked.ensures y.if-any_marked.false))
            | else-not-marks-v-via-else-not-marks-v y ↦ widening_skips rows old i grew new c.loop-v.invariant (inl y.if-not-marks-v.false)
          ])
    ]
