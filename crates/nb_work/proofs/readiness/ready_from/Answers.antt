use Rattle.std.proofs.Common.{ℕ, ◌≡◌, ◌+◌, ◌<◌, ◌∙◌, sym, ap, true, ◌&&◌, List, length, arith}
use Rattle.std.specs.Prelude.{nat_le}
use Rattle.std.proofs.lemmas.Bool.{and_from, and_left, and_right, le-leb, lt-leb}
use Rattle.nb_sheet.specs.declared.row.VarRow.{VarRow}
use Rattle.nb_history.specs.Rules.{ready}
use Rattle.nb_work.specs.Tied.{over}
use Rattle.nb_work.proofs.Firsts.{next_found, next_missed, none_left}
use Rattle.nb_work.proofs.Readies.{itself, least_over}
use Rattle.nb_work.proofs.readiness.ready_from.Goals as goal
use Rattle.nb_work.proofs.readiness.ready_from.Goals.{else-v-at_least-via-then-v-at_least+else-is_ready, else-v-at_least-via-else-v-at_least}

pub returns-then-is_ready : goal.returns-then-is_ready
returns-then-is_ready c = λ r h.
    let s = c.args.sheet.now.sheet in
    let starts = c.args.starts.now.items in
    let k = c.loop-k.k in
    let inside : k < length s.rows = omega (arith, c.loop-k-test.true, ap (λ (l : List VarRow). length l) c.rows-rows.ensures.value) in
    let high : nat_le c.args.at_least (k + 1) ≡ true = le-leb c.args.at_least (k + 1) c.if-v-at_least.true in
    let runs : ready (over s starts) (k + 1) ≡ true = sym (c.is_ready.ensures (over s starts) (itself s starts)) ∙ c.if-is_ready.true in
    next_found (λ (v : ℕ). nat_le c.args.at_least v && ready (over s starts) v) k (length s.rows) c.loop-k.invariant
    (and_from (nat_le c.args.at_least (k + 1)) (ready (over s starts) (k + 1)) high runs) inside
    ∙ least_over r s starts c.args.at_least h

pub loop-k-preserved : goal.loop-k-preserved
loop-k-preserved c =
    let s = c.args.sheet.now.sheet in
    let starts = c.args.starts.now.items in
    let k = c.loop-k.k in
    next_missed (λ (v : ℕ). nat_le c.args.at_least v && ready (over s starts) v) k c.loop-k.invariant
    (elim c.else-v-at_least.branch [
      | else-v-at_least-via-then-v-at_least+else-is_ready w ↦
          and_right (nat_le c.args.at_least (k + 1)) (ready (over s starts) (k + 1)) (sym (w.is_ready.ensures (over s starts) (itself s starts)) ∙ w.if-is_ready.false)
      | else-v-at_least-via-else-v-at_least w ↦
          and_left (nat_le c.args.at_least (k + 1)) (ready (over s starts) (k + 1)) (lt-leb c.args.at_least (k + 1) w.if-v-at_least.false)
    ])

pub returns : goal.returns
returns c = λ r h.
    let s = c.args.sheet.now.sheet in
    let starts = c.args.starts.now.items in
    none_left (λ (v : ℕ). nat_le c.args.at_least v && ready (over s starts) v) c.loop-k.k (length s.rows) c.loop-k.invariant
    (omega (arith, c.loop-k-test.false, c.loop-k.auto.k-end, ap (λ (l : List VarRow). length l) c.rows-rows.ensures.value))
    ∙ least_over r s starts c.args.at_least h
