-- One turn of each loop, and the faults at which it stops.
use Rattle.std.proofs.Common.{◌≡◌, ◌∙◌, ap, sym, refl, ◌<◌, ℕ, suc, ◌+◌, ◌-◌, Ok, List, ◌∷◌, arith}
use Rattle.nb_syntax.specs.declared.tree.Expr.TheVariants as tree
use Rattle.nb_grammar.specs.Words.{sum_sign, product_sign}
use Rattle.nb_grammar.specs.Reading.{◌>>=◌, product, unary, sum, expr, inside_of, compare_at, or_part, and_part, operand, item, next_pair, close_square, close_curly}
use Rattle.nb_grammar.proofs.Loops.{rounds_turn, or_part_falls, and_part_falls, summand_falls, factor_falls, step_falls, item_falls, pair_falls}
use Rattle.nb_parser.proofs.Turns.{turn, stop, rounds_stop, bind_ok, bind_err, fails, or_at, and_at, item_at, pair_at, operand_at, compared_at, both_ok, both_err, items_begin, pairs_begin, argument_turn, argument_comma, argument_stop}
use Rattle.nb_parser.proofs.expressions.+expressions.Goals as goal

pub or_parts-parts-preserved : goal.or_parts-parts-preserved
or_parts-parts-preserved t c = record {
  same = rounds_turn _ (or_part_falls c.args.room) c.parts.more _ c.parts.rest.now c.in_ok-part.behind.now _ _ _
      (or_at (inside_of c.args.room) c.parts.rest.now c.in-Some.behind.now c.in-Some.ensures.value ∙ bind_ok _ _ _ c.in_ok-part.ensures.gives) refl c.in_ok-push.ensures.ok c.parts.invariant.same;
}

pub or_parts-returns-in_err-part : goal.or_parts-returns-in_err-part
or_parts-returns-in_err-part t c = record {
  gives = fails _ _ _ _ _ c.from_residual.ensures.1 c.in_err-part.ensures.gives (λ f is.
      rounds_stop (or_part (inside_of c.args.room)) c.parts.more c.parts.rest.now f _ (or_at (inside_of c.args.room) c.parts.rest.now c.in-Some.behind.now c.in-Some.ensures.value ∙ bind_err _ _ f is) c.parts.invariant.same);
}

pub and_parts-parts-preserved : goal.and_parts-parts-preserved
and_parts-parts-preserved t c = record {
  same = rounds_turn _ (and_part_falls c.args.room) c.parts.more _ c.parts.rest.now c.in_ok-part.behind.now _ _ _
      (and_at (inside_of c.args.room) c.parts.rest.now c.in-Some.behind.now c.in-Some.ensures.value ∙ bind_ok _ _ _ c.in_ok-part.ensures.gives) refl c.in_ok-push.ensures.ok c.parts.invariant.same;
}

pub and_parts-returns-in_err-part : goal.and_parts-returns-in_err-part
and_parts-returns-in_err-part t c = record {
  gives = fails _ _ _ _ _ c.from_residual.ensures.1 c.in_err-part.ensures.gives (λ f is.
      rounds_stop (and_part (inside_of c.args.room)) c.parts.more c.parts.rest.now f _ (and_at (inside_of c.args.room) c.parts.rest.now c.in-Some.behind.now c.in-Some.ensures.value ∙ bind_err _ _ f is) c.parts.invariant.same);
}

pub summands-operands-preserved : goal.summands-operands-preserved
summands-operands-preserved t c = record {
  same = rounds_turn _ (summand_falls c.args.room) c.operands.more _ c.operands.rest.now c.in_ok-expr.behind.now _ _ _
      (operand_at sum_sign (product (inside_of c.args.room)) c.operands.rest.now c.in-Some.behind.now c.in-Some.sign c.in-Some.ensures.value ∙ bind_ok _ _ _ c.in_ok-expr.ensures.gives) refl c.in_ok-push.ensures.ok c.operands.invariant.same;
}

pub summands-returns-in_err-expr : goal.summands-returns-in_err-expr
summands-returns-in_err-expr t c = record {
  gives = fails _ _ _ _ _ c.from_residual.ensures.1 c.in_err-expr.ensures.gives (λ f is.
      rounds_stop (operand sum_sign (product (inside_of c.args.room))) c.operands.more c.operands.rest.now f _ (operand_at sum_sign (product (inside_of c.args.room)) c.operands.rest.now c.in-Some.behind.now c.in-Some.sign c.in-Some.ensures.value ∙ bind_err _ _ f is) c.operands.invariant.same);
}

pub factors-operands-preserved : goal.factors-operands-preserved
factors-operands-preserved t c = record {
  same = rounds_turn _ (factor_falls c.args.room) c.operands.more _ c.operands.rest.now c.in_ok-expr.behind.now _ _ _
      (operand_at product_sign (unary (inside_of c.args.room)) c.operands.rest.now c.in-Some.behind.now c.in-Some.sign c.in-Some.ensures.value ∙ bind_ok _ _ _ c.in_ok-expr.ensures.gives) refl c.in_ok-push.ensures.ok c.operands.invariant.same;
}

pub factors-returns-in_err-expr : goal.factors-returns-in_err-expr
factors-returns-in_err-expr t c = record {
  gives = fails _ _ _ _ _ c.from_residual.ensures.1 c.in_err-expr.ensures.gives (λ f is.
      rounds_stop (operand product_sign (unary (inside_of c.args.room))) c.operands.more c.operands.rest.now f _ (operand_at product_sign (unary (inside_of c.args.room)) c.operands.rest.now c.in-Some.behind.now c.in-Some.sign c.in-Some.ensures.value ∙ bind_err _ _ f is) c.operands.invariant.same);
}

pub items-more-preserved : goal.items-more-preserved
items-more-preserved t c = record {
  left = turn _ (item_falls c.args.room) _ c.more.items _ c.more.rest.now c.in_ok-item.behind.now _ _ _
      (item_at (expr (inside_of c.args.room)) c.more.rest.now c.in-Some.behind.now c.in-Some.ensures.value ∙ bind_ok _ _ _ c.in_ok-item.ensures.gives) refl c.in_ok-push-2.ensures.ok c.more.invariant.left;
}

pub items-returns-in_err-item : goal.items-returns-in_err-item
items-returns-in_err-item t c = record {
  gives = fails _ _ _ _ _ c.from_residual-in_err-item.ensures.1 c.in_err-item.ensures.gives (λ f is.
      stop _ _ c.more.items c.more.rest.now f _ (item_at (expr (inside_of c.args.room)) c.more.rest.now c.in-Some.behind.now c.in-Some.ensures.value ∙ bind_err _ _ f is) c.more.invariant.left);
}

pub pairs-more-preserved : goal.pairs-more-preserved
pairs-more-preserved t c = record {
  left = turn _ (pair_falls c.args.room) _ c.more.pairs _ c.more.rest.now c.in_ok-next.behind.now _ _ _
      (pair_at (expr (inside_of c.args.room)) c.more.rest.now c.in-Some.behind.now c.in-Some.ensures.value ∙ bind_ok _ _ _ c.in_ok-next.ensures.gives) refl c.in_ok-push-2.ensures.ok c.more.invariant.left;
}

pub pairs-returns-in_err-next : goal.pairs-returns-in_err-next
pairs-returns-in_err-next t c = record {
  gives = fails _ _ _ _ _ c.from_residual-in_err-next.ensures.1 c.in_err-next.ensures.gives (λ f is.
      stop _ _ c.more.pairs c.more.rest.now f _ (pair_at (expr (inside_of c.args.room)) c.more.rest.now c.in-Some.behind.now c.in-Some.ensures.value ∙ bind_err _ _ f is) c.more.invariant.left);
}

pub items-more-init : goal.items-more-init
items-more-init t c = record {
  left = items_begin (inside_of c.args.room) c.args.words.now c.in_ok-first.rest.now c.in_ok-first.first c.new-items.result _
      c.in_ok-first.ensures.gives c.new-items.ensures c.in_ok-push.ensures.ok;
}

pub pairs-more-init : goal.pairs-more-init
pairs-more-init t c = record {
  left = pairs_begin (expr (inside_of c.args.room)) c.args.words.now c.in_ok-first.rest.now c.in_ok-first.first c.new-pairs.result _
      c.in_ok-first.ensures.gives c.new-pairs.ensures c.in_ok-push.ensures.ok;
}

pub path_steps-turns-preserved : goal.path_steps-turns-preserved
path_steps-turns-preserved t c = record {
  same = rounds_turn _ (step_falls c.args.room) c.turns.steps _ c.turns.rest.now c.in_ok-found.behind.now _ _ _ c.in_ok-found.ensures.gives c.in-Some.is
      c.in_ok-push-in-Some.ensures.ok c.turns.invariant.same;
}

pub call-loop-preserved : goal.call-loop-preserved
call-loop-preserved t c =
    let test : c.loop.counter < c.arity-end.result = c.loop-test.true in
    let one : c.arity-end.result - c.loop.counter ≡ suc (c.arity-end.result - (c.loop.counter + 1)) = omega arith in
    record {
      same = argument_turn (expr (inside_of c.args.room)) _ _ _ c.loop.args _ c.loop.rest.now c.in_ok-comma.field-0.now c.in_ok-arg.behind.now c.in_ok-arg.arg _
          one c.in_ok-comma.ensures.gives c.in_ok-arg.ensures.gives c.in_ok-push-2.ensures.ok c.loop.invariant.same;
    }

pub call-returns-in_err-comma : goal.call-returns-in_err-comma
call-returns-in_err-comma t c =
    let test : c.loop.counter < c.arity-end.result = c.loop-test.true in
    let one : c.arity-end.result - c.loop.counter ≡ suc (c.arity-end.result - (c.loop.counter + 1)) = omega arith in
    record {
      gives = fails _ _ _ _ _ c.from_residual-in_err-comma.ensures.1 c.in_err-comma.ensures.gives (λ f is.
          argument_comma (expr (inside_of c.args.room)) _ _ _ c.loop.args c.loop.rest.now f _ one is c.loop.invariant.same);
    }

pub call-returns-in_err-arg : goal.call-returns-in_err-arg
call-returns-in_err-arg t c =
    let test : c.loop.counter < c.arity-end.result = c.loop-test.true in
    let one : c.arity-end.result - c.loop.counter ≡ suc (c.arity-end.result - (c.loop.counter + 1)) = omega arith in
    record {
      gives = fails _ _ _ _ _ c.from_residual-in_err-arg.ensures.1 c.in_err-arg.ensures.gives (λ f is.
          argument_stop (expr (inside_of c.args.room)) _ _ _ c.loop.args c.loop.rest.now c.in_ok-comma.field-0.now f _ one c.in_ok-comma.ensures.gives is c.loop.invariant.same);
    }

pub comparison-returns : goal.comparison-returns
comparison-returns t c =
    let inside = inside_of c.args.room in
    let right = both_ok _ c.in_ok-left.left c.sum-2.result c.in_ok-left-2.left (c.in_ok-left-2.right, c.in_ok-left-2.rest) (sum inside c.in-Some.behind.now)
    c.in_ok-left-2.ensures c.sum-2.ensures.gives in
    record {
      gives = bind_ok _ (λ e. compare_at inside e.0 e.1) _ c.in_ok-left.ensures.gives
          ∙ compared_at inside c.in_ok-left.left c.in_ok-left.rest.now c.in-Some.behind.now c.in-Some.sign c.in-Some.ensures.value
          ∙ bind_ok _ _ _ right.1
          ∙ ap (λ e. Ok (e, c.in_ok-left-2.rest.now)) (sym (c.in_ok-compare_of.ensures ∙ ap (λ e. tree.Compare c.in-Some.sign e c.in_ok-left-2.right) right.0));
    }

pub comparison-returns-in_err-left-2 : goal.comparison-returns-in_err-left-2
comparison-returns-in_err-left-2 t c =
    let inside = inside_of c.args.room in
    record {
      gives = fails _ _ _ _ _ c.from_residual-in_err-left-2.ensures.1
          (both_err _ c.in_ok-left.left c.sum-2.result c.in_err-left-2.field-0.0 (sum inside c.in-Some.behind.now) c.in_err-left-2.ensures c.sum-2.ensures.gives) (λ f is.
          bind_ok _ (λ e. compare_at inside e.0 e.1) _ c.in_ok-left.ensures.gives
          ∙ compared_at inside c.in_ok-left.left c.in_ok-left.rest.now c.in-Some.behind.now c.in-Some.sign c.in-Some.ensures.value
          ∙ bind_err _ _ f is);
    }

-- ---- each turn takes a word

pub or_parts-parts-smaller : goal.or_parts-parts-smaller
or_parts-parts-smaller t c = (or_part_falls c.args.room).falls c.parts.rest.now c.in_ok-part.behind.now c.in_ok-part.part
    (or_at (inside_of c.args.room) c.parts.rest.now c.in-Some.behind.now c.in-Some.ensures.value ∙ bind_ok _ _ _ c.in_ok-part.ensures.gives)

pub and_parts-parts-smaller : goal.and_parts-parts-smaller
and_parts-parts-smaller t c = (and_part_falls c.args.room).falls c.parts.rest.now c.in_ok-part.behind.now c.in_ok-part.part
    (and_at (inside_of c.args.room) c.parts.rest.now c.in-Some.behind.now c.in-Some.ensures.value ∙ bind_ok _ _ _ c.in_ok-part.ensures.gives)

pub summands-operands-smaller : goal.summands-operands-smaller
summands-operands-smaller t c = (summand_falls c.args.room).falls c.operands.rest.now c.in_ok-expr.behind.now (record { sign = c.in-Some.sign; expr = c.in_ok-expr.expr })
    (operand_at sum_sign (product (inside_of c.args.room)) c.operands.rest.now c.in-Some.behind.now c.in-Some.sign c.in-Some.ensures.value
    ∙ bind_ok _ _ _ c.in_ok-expr.ensures.gives)

pub factors-operands-smaller : goal.factors-operands-smaller
factors-operands-smaller t c = (factor_falls c.args.room).falls c.operands.rest.now c.in_ok-expr.behind.now (record { sign = c.in-Some.sign; expr = c.in_ok-expr.expr })
    (operand_at product_sign (unary (inside_of c.args.room)) c.operands.rest.now c.in-Some.behind.now c.in-Some.sign c.in-Some.ensures.value
    ∙ bind_ok _ _ _ c.in_ok-expr.ensures.gives)

pub items-more-smaller : goal.items-more-smaller
items-more-smaller t c = (item_falls c.args.room).falls c.more.rest.now c.in_ok-item.behind.now c.in_ok-item.item
    (item_at (expr (inside_of c.args.room)) c.more.rest.now c.in-Some.behind.now c.in-Some.ensures.value ∙ bind_ok _ _ _ c.in_ok-item.ensures.gives)

pub pairs-more-smaller : goal.pairs-more-smaller
pairs-more-smaller t c = (pair_falls c.args.room).falls c.more.rest.now c.in_ok-next.behind.now c.in_ok-next.next
    (pair_at (expr (inside_of c.args.room)) c.more.rest.now c.in-Some.behind.now c.in-Some.ensures.value ∙ bind_ok _ _ _ c.in_ok-next.ensures.gives)

pub path_steps-turns-smaller : goal.path_steps-turns-smaller
path_steps-turns-smaller t c = (step_falls c.args.room).falls c.turns.rest.now c.in_ok-found.behind.now _
    (c.in_ok-found.ensures.gives ∙ ap (λ o. Ok (o, c.in_ok-found.behind.now)) c.in-Some.is)
