use Rattle.std.proofs.Common.{◌+◌, length, sym, ◌∙◌, ap, subst}
use Rattle.nb_history.specs.History.{standing, plus}
use Rattle.nb_work.specs.Notices.{IsNotice}
use Rattle.nb_core.proofs.machine.Machine.enter.Goals as goal

pub show-requires-clause-same : goal.show-requires-clause-same
show-requires-clause-same c =
    c.requires.next ∙ (subst (IsNotice (standing c.args.self.now.history) (length (standing c.args.self.now.history).tickets + 1) c.args.var) c.in-Shows.is c.requires.notice).entry

pub show-requires-clause-cleanups : goal.show-requires-clause-cleanups
show-requires-clause-cleanups c =
    (subst (IsNotice (standing c.args.self.now.history) (length (standing c.args.self.now.history).tickets + 1) c.args.var) c.in-Shows.is c.requires.notice).cleanups

pub show-requires-clause-ends : goal.show-requires-clause-ends
show-requires-clause-ends c =
    (subst (IsNotice (standing c.args.self.now.history) (length (standing c.args.self.now.history).tickets + 1) c.args.var) c.in-Shows.is c.requires.notice).ends

pub ask-requires-clause-same : goal.ask-requires-clause-same
ask-requires-clause-same c =
    c.requires.next ∙ (subst (IsNotice (standing c.args.self.now.history) (length (standing c.args.self.now.history).tickets + 1) c.args.var) c.in-Asks.is c.requires.notice).entry

pub ask-requires-clause-cleanups : goal.ask-requires-clause-cleanups
ask-requires-clause-cleanups c =
    (subst (IsNotice (standing c.args.self.now.history) (length (standing c.args.self.now.history).tickets + 1) c.args.var) c.in-Asks.is c.requires.notice).cleanups

pub end-requires-clause-cleanups : goal.end-requires-clause-cleanups
end-requires-clause-cleanups c =
    (subst (IsNotice (standing c.args.self.now.history) (length (standing c.args.self.now.history).tickets + 1) c.args.var) c.in-Ends.is c.requires.notice).cleanups

pub returns-in-Ends-clause-entry : goal.returns-in-Ends-clause-entry
returns-in-Ends-clause-entry c =
    c.end.ensures.entry
    ∙ ap (plus c.args.self.now.history)
    (sym (c.requires.next ∙ (subst (IsNotice (standing c.args.self.now.history) (length (standing c.args.self.now.history).tickets + 1) c.args.var) c.in-Ends.is c.requires.notice).entry))
