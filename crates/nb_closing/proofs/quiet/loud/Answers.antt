use Rattle.std.proofs.Common.{ℕ, ◌≡◌, ◌<◌, ◌+◌, ◌∙◌, ◌++◌, ◌∷◌, [], sym, ap, append-nil, cond, not, false, true, Bool, length, arith, List, Vec, Global}
use Rattle.std.specs.List.{filter, range_with_len}
use Rattle.nb_sheet.specs.declared.row.VarRow.{VarRow}
use Rattle.nb_closing.specs.Quiet.{quiet_at}
use Rattle.nb_closing.proofs.Putting.{ties_length, ties_at}
use Rattle.nb_closing.proofs.Quiets.{found_more}
use Rattle.nb_closing.proofs.quiet.loud.Goals as goal
use Rattle.nb_closing.proofs.quiet.loud.Goals.{then-not-is_quiet+in_ok-push, else-not-is_quiet}

pub index-requires : goal.index-requires
index-requires c =
    let rows_are : length c.rows-n.result.now ≡ length c.args.sheet.now.sheet.rows = ap (λ (l : List VarRow). length l) c.rows-n.ensures.value in
    omega (arith, c.args.ties.now.ok, rows_are, ties_length c.args.sheet.now.sheet c.args.ties.now.items c.requires)

pub is_quiet-requires : goal.is_quiet-requires
is_quiet-requires c =
    let s = c.args.sheet.now.sheet in
    let rows_are : length c.rows-n.result.now ≡ length s.rows = ap (λ (l : List VarRow). length l) c.rows-n.ensures.value in
    let inside : c.loop-k.k < length s.rows = omega (arith, rows_are) in
    ties_at s c.args.ties.now.items c.loop-k.k c.index.result.now c.requires inside c.index.ensures

pub loop-k-preserved : goal.loop-k-preserved
loop-k-preserved c =
    let k = c.loop-k.k in
    let p : ℕ → Bool = λ v. not (quiet_at c.args.sheet.now.sheet c.args.starts.now.items c.args.moment.now v) in
    let before = filter p (range_with_len 1 k) in
    elim c.if-not-is_quiet.branch [
      | then-not-is_quiet+in_ok-push w ↦
          let loud : p (k + 1) ≡ true = ap not (sym c.is_quiet.ensures ∙ w.if-not-is_quiet.true) in
          ap (λ (v : Vec ℕ Global). v.items) w.vars-is
          ∙ (w.in_ok-push.ensures.items
          ∙ (ap (λ (l : List ℕ). l ++ (k + 1) ∷ []) c.loop-k.invariant
          ∙ sym (found_more p k ∙ ap (λ (b : Bool). before ++ cond b ((k + 1) ∷ []) []) loud)))
      | else-not-is_quiet w ↦
          let quiet : p (k + 1) ≡ false = ap not (sym c.is_quiet.ensures ∙ w.if-not-is_quiet.false) in
          ap (λ (v : Vec ℕ Global). v.items) w.vars-is
          ∙ (c.loop-k.invariant ∙ sym (found_more p k ∙ ap (λ (b : Bool). before ++ cond b ((k + 1) ∷ []) []) quiet ∙ append-nil before))
    ]
