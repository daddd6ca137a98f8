-- The array, with no specifier and with some.
use Rattle.std.proofs.Common.{◌∙◌, ◌++◌, List, ℕ, sym, ap}
use Rattle.std.proofs.lemmas.Result.{on_ok_weaker}
use Rattle.nb_log.proofs.ObjectLemmas.{no_specifiers}
use Rattle.nb_log.proofs.object.push_specifiers.Goals as goal

pub returns-in-None : goal.returns-in-None
returns-in-None c =
    on_ok_weaker c.append.result (λ written. written ∙ ap (λ (text : List ℕ). c.args.out.now ++ text) (sym (no_specifiers c.args.specifiers.now c.in-None.ensures.cases))) c.append.ensures.ok
