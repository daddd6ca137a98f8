use Rattle.std.proofs.Common.{◌≡◌, ◌∙◌, ap}
use Rattle.nb_sheet.specs.Lists.{Name}
use Rattle.nb_sheet.specs.Sheet.{Sheet}
use Rattle.nb_resolve.specs.Names.{is_duplicate_row}
use Rattle.nb_resolve.specs.Scan.{found_in}
use Rattle.nb_closing.proofs.Named.{is_twin, no_twin}
use Rattle.nb_closing.proofs.names.Names.is_duplicate.Goals as goal

pub returns-in-Twice : goal.returns-in-Twice
returns-in-Twice c =
    let s = c.self.inside.sheet.now.sheet in
    let row = c.args.row.now in
    let m = row.«module» in
    let found : c.given.result ≡ found_in m c.in-Some.name s.rows =
    c.given.ensures ∙ c.self.invariant (m, c.as_str.result) ∙ ap (λ (n : Name). found_in m n s.rows) c.as_str.ensures.value in
    is_twin s row c.in-Some.name c.given.result c.in-Some.is found c.in-Twice.is ∙ ap (λ (t : Sheet). is_duplicate_row t row) c.self.view_is

pub returns-in_default : goal.returns-in_default
returns-in_default c =
    let s = c.self.inside.sheet.now.sheet in
    let row = c.args.row.now in
    let m = row.«module» in
    let found : c.given.result ≡ found_in m c.in-Some.name s.rows =
    c.given.ensures ∙ c.self.invariant (m, c.as_str.result) ∙ ap (λ (n : Name). found_in m n s.rows) c.as_str.ensures.value in
    no_twin s row c.in-Some.name c.given.result c.in-Some.is found c.in_default.not-Twice ∙ ap (λ (t : Sheet). is_duplicate_row t row) c.self.view_is
