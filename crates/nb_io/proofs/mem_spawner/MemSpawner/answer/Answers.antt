use Rattle.std.proofs.Common.{inr, ◌≡◌, ◌∙◌, ◌+◌, ap, sym, drop, slice_get, Some}
use Rattle.std.specs.Option.{option_copied}
use Rattle.nb_io.proofs.EndLemmas.{first_left, none_left}
use Rattle.nb_io.proofs.mem_spawner.MemSpawner.answer.Goals as goal

pub returns-in-None-clause-answers : goal.returns-in-None-clause-answers
returns-in-None-clause-answers c =
    let s = c.args.self.now in
    inr (none_left s.answers s.given (sym c.get.ensures.value ∙ ap option_copied c.in-None.is))

pub returns-in-Some-clause-answers : goal.returns-in-Some-clause-answers
returns-in-Some-clause-answers c =
    let s = c.args.self.now in
    let end = c.in-Some.end.now in
    let at : slice_get s.answers s.given ≡ Some end = sym c.get.ensures.value ∙ ap option_copied c.in-Some.is in
    rw (first_left s.answers s.given end at) (c.answer_of.ensures (drop (s.given + 1) s.answers))
