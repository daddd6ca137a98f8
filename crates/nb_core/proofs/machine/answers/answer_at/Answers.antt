use Rattle.std.proofs.Common.{◌≡◌}
use Rattle.std.proofs.lemmas.Result.{on_ok_weaker, on_err_weaker}
use Rattle.nb_history.specs.Log.{answering}
use Rattle.nb_runs.specs.Starts.{change_in}
use Rattle.nb_core.proofs.Steps.{changed_back, given_back}
use Rattle.nb_core.proofs.machine.answers.answer_at.Goals as goal

pub returns-clause-ok : goal.returns-clause-ok
returns-clause-ok c =
    on_ok_weaker c.answer_in-answered.result
    (λ (now : c.answer_in-answered.new.start ≡ change_in c.take-start.result (answering c.args.answer)).
    changed_back c.args.starts.now.items c.take-start.new.starts.items c.put_start.new.starts.items c.args.var c.take-start.result c.answer_in-answered.new.start (answering c.args.answer) c.take-start.ensures.starts c.take-start.ensures.start now c.put_start.ensures)
    c.answer_in-answered.ensures.ok

pub returns-clause-err : goal.returns-clause-err
returns-clause-err c =
    on_err_weaker c.answer_in-answered.result
    (λ (same : c.answer_in-answered.new.start ≡ c.take-start.result).
    given_back c.args.starts.now.items c.take-start.new.starts.items c.put_start.new.starts.items c.args.var c.take-start.result c.answer_in-answered.new.start c.take-start.ensures.starts c.take-start.ensures.start same c.put_start.ensures)
    c.answer_in-answered.ensures.err
