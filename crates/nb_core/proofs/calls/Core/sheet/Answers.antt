use Rattle.std.proofs.Common.{◌∙◌, ap}
use Rattle.nb_history.specs.History.{History, standing}
use Rattle.nb_core.proofs.calls.Core.sheet.Goals as goal

pub returns-clause-value : goal.returns-clause-value
returns-clause-value c = c.sheet.ensures.value ∙ ap (λ (h : History). (standing h).sheet) c.self.view_is

pub returns-clause-builtins : goal.returns-clause-builtins
returns-clause-builtins c = c.sheet.ensures.builtins ∙ ap (λ (h : History). h.builtins) c.self.view_is
