use Rattle.std.proofs.Common.{rules, arith, ◌≡◌, ◌<◌, ◌≤◌, ℕ, suc, ◌+◌, List, ◌∷◌, length, get_or, drop, Ok, ap, sym, ◌∙◌, subst, drop-cons}
use Rattle.nb_value.specs.declared.value.Value.{Value}
use Rattle.nb_eval.specs.Locals.{HasNext}
use Rattle.nb_eval.specs.Run.{Out, tick, keep}
use Rattle.nb_eval.specs.Evaluation.{eval, act_block, loop, each}
use Rattle.nb_eval.proofs.IndexLemmas.{at_least, has_next, same_next}
use Rattle.nb_eval.proofs.Scopes.{block_names}
use Rattle.nb_eval.proofs.Spending.{pays_same}
use Rattle.nb_eval.proofs.Turns.{next_turn, next_item, tick_locals, cut}
use Rattle.nb_eval.proofs.stmt.+exec.Goals as goal

next_of : (vs : List Value) (i : ℕ) (v w : Value) → i < length vs → v ≡ get_or vs i v → w ≡ v → drop i vs ≡ w ∷ drop (i + 1) vs
next_of vs i v w lt is same =
    let next : suc i ≡ i + 1 = omega arith in
    drop-cons vs i v lt ∙ ap (λ n. get_or vs i v ∷ drop n vs) next ∙ ap (λ x. x ∷ drop (i + 1) vs) (sym is ∙ sym same)

pub exec_while-turns-preserved : goal.exec_while-turns-preserved
exec_while-turns-preserved t c = record {
  same =
      let given = c.args.given.now in
      let test = eval given c.args.test.now in
      let body = act_block given c.args.body.now in
      next_turn given test body c.turns.state c.eval_expr.new.state c.exec_block.new.state c.in_ok-value.value c.in_ok-as_truth.field-0 (loop given test body c.args.state.now) c.turns.invariant.same c.in_ok-value.ensures.gives c.in_ok-as_truth.ensures (search rules) c.in_ok-exec_block.ensures.gives (omega (arith, c.in_ok-value.ensures.spends, c.in_ok-exec_block.ensures.spends));
  spends = (
    omega (arith, c.turns.invariant.spends, c.in_ok-value.ensures.spends, c.in_ok-exec_block.ensures.spends),
    omega (arith, c.turns.invariant.spends, c.in_ok-value.ensures.spends, c.in_ok-exec_block.ensures.spends),
  );
}

pub exec_for-loop-item-preserved : goal.exec_for-loop-item-preserved
exec_for-loop-item-preserved measure c =
    let given = c.args.given.now in
    let name = c.args.name.now in
    let body = act_block given c.args.body.now in
    let items = c.as_slice-item-items.result.now in
    let rest = drop (c.loop-item.item-index + 1) items in
    let len = c.len-len.result in
    let s = c.loop-item.state in
    let t = c.charge_turn.new.state in
    let u = c.keep_at.new.state in
    let v = c.exec_block.new.state in
    let w = c.in_ok-copy.field-0 in
    let charged : tick s ≡ (Ok tt, t) = c.in_ok-charge_turn.ensures.ok in
    let kept : keep name w (cut len t) ≡ (Ok tt, u) = c.in_ok-keep_at.ensures.gives (λ e. cc) in
    let done : body u ≡ (Ok tt, v) = c.in_ok-exec_block.ensures.gives (λ e. cc) in
    let enough : len ≤ length t.locals = at_least name len t.locals (subst (HasNext name len) (sym (tick_locals s t charged)) c.loop-item.invariant.next) in
    let more : drop c.loop-item.item-index items ≡ w ∷ rest = next_of items c.loop-item.item-index c.item-item.result w c.loop-item-test.true c.item-item.is c.in_ok-copy.ensures in
    let stands = has_next name len w t.locals enough in
    let quiet = pays_same given t u c.in_ok-keep_at.ensures.quiet.0 c.in_ok-keep_at.ensures.quiet.1 c.in_ok-keep_at.ensures.quiet.2 in
    record {
      same = sym (ap (λ ws. each name body ws (cut len s)) more ∙ next_item name body w rest len s t u v charged kept done enough) ∙ c.loop-item.invariant.same;
      next = same_next name len u.locals v.locals (block_names given c.args.body.now u v done) (subst (HasNext name len) (ap (λ (o : Out (Unit {0})). o.1.locals) kept) stands);
      spends = (
        omega (arith, c.loop-item.invariant.spends, c.in_ok-charge_turn.ensures.spends, quiet, c.in_ok-exec_block.ensures.spends),
        omega (arith, c.loop-item.invariant.spends, c.in_ok-charge_turn.ensures.spends, quiet, c.in_ok-exec_block.ensures.spends),
      );
    }
