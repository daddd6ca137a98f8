-- One turn of each loop.
use Rattle.std.proofs.Common.{◌∙◌, ap, Ok}
use Rattle.nb_grammar.proofs.Loops.{rounds_turn, else_if_falls, stmt_falls}
use Rattle.nb_parser.proofs.statements.+statements.Goals as goal

pub arms-turns-preserved : goal.arms-turns-preserved
arms-turns-preserved t c = record {
  same = rounds_turn _ (else_if_falls c.args.room) c.turns.arms _ c.turns.rest.now c.in_ok-found.behind.now _ _ _ c.in_ok-found.ensures.gives c.in-Some.is c.in_ok-push-in-Some.ensures.ok c.turns.invariant.same;
}

pub stmts-turns-preserved : goal.stmts-turns-preserved
stmts-turns-preserved t c = record {
  same = rounds_turn _ (stmt_falls c.args.room) c.turns.stmts _ c.turns.rest.now c.in_ok-found.behind.now _ _ _ c.in_ok-found.ensures.gives c.in-Some.is c.in_ok-push-in-Some.ensures.ok c.turns.invariant.same;
}

-- ---- each turn takes a word

pub arms-turns-smaller : goal.arms-turns-smaller
arms-turns-smaller t c = (else_if_falls c.args.room).falls c.turns.rest.now c.in_ok-found.behind.now _
    (c.in_ok-found.ensures.gives ∙ ap (λ o. Ok (o, c.in_ok-found.behind.now)) c.in-Some.is)

pub stmts-turns-smaller : goal.stmts-turns-smaller
stmts-turns-smaller t c = (stmt_falls c.args.room).falls c.turns.rest.now c.in_ok-found.behind.now _
    (c.in_ok-found.ensures.gives ∙ ap (λ o. Ok (o, c.in_ok-found.behind.now)) c.in-Some.is)
