use Rattle.std.proofs.Common.{ℕ, ◌≡◌, ◌∙◌, sym, ap, Option}
use Rattle.nb_sheet.specs.Sheet.{Sheet}
use Rattle.nb_resolve.specs.Names.{resolve}
use Rattle.nb_resolve.specs.Scan.{found_in, builtin_place, or_builtin}
use Rattle.nb_resolve.specs.declared.resolution.Resolution.TheVariants.{Missing}
use Rattle.nb_closing.proofs.Named.{by_builtins, found_already}
use Rattle.nb_closing.proofs.names.Names.resolve.Goals as goal

pub returns-in-Missing : goal.returns-in-Missing
returns-in-Missing c =
    let s = c.self.inside.sheet.now.sheet in
    let m = c.args.within in
    let n = c.args.name.now in
    let found : c.given.result ≡ found_in m n s.rows = c.given.ensures ∙ c.self.invariant (m, c.args.name) in
    c.built_in.ensures
    ∙ ap (λ (o : Option ℕ). or_builtin o Missing) (c.builtin.ensures ∙ ap (builtin_place n) c.builtins.ensures.value)
    ∙ ap (or_builtin (builtin_place n s.builtins)) (sym c.in-Missing.is)
    ∙ by_builtins s m n c.given.result found
    ∙ ap (λ (t : Sheet). resolve t m n) c.self.view_is

pub returns-in_default : goal.returns-in_default
returns-in_default c =
    let s = c.self.inside.sheet.now.sheet in
    let m = c.args.within in
    let n = c.args.name.now in
    let found : c.given.result ≡ found_in m n s.rows = c.given.ensures ∙ c.self.invariant (m, c.args.name) in
    sym (found_already (builtin_place n s.builtins) c.given.result c.in_default.not-Missing)
    ∙ by_builtins s m n c.given.result found
    ∙ ap (λ (t : Sheet). resolve t m n) c.self.view_is
