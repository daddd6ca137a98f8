use Rattle.std.proofs.Common.{◌∙◌, ap, ℕ}
use Rattle.nb_index.specs.Rows.{present_at}
use Rattle.nb_index.specs.Index.{place_of}
use Rattle.nb_index.proofs.Ascending.{two_at_least}
use Rattle.nb_index.proofs.index.Index.find.Goals as goal

pub returns-in_default : goal.returns-in_default
returns-in_default c =
    let rows = c.args.self.now.holders.rows.items in
    two_at_least (present_at rows (place_of c.args.self.now c.args.«module» c.args.name.now)) c.numbers.result.now
    (c.numbers.ensures.numbers ∙ ap (λ (r : ℕ). present_at rows r) c.place.ensures) c.numbers.ensures.ascends c.in_default.len_at_least
