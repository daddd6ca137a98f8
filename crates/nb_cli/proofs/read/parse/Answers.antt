use Rattle.std.proofs.Common.{◌≡◌, ◌∙◌, List, [], ap, map, subst, sym}
use Rattle.clap.specs.Words.{App, Text, app_of, fault_of, is_simple, is_simple_and_free, kind_of, subcommand_of}
use Rattle.clap.specs.Kinds.{HasKind}
use Rattle.std.specs.Prelude.{Err}
use Rattle.nb_cli.specs.Program.{Finds, fail_by, parts_of, program}
use Rattle.nb_cli.specs.declared.command.WordsFail.{WordsFail}
use Rattle.nb_cli.proofs.ProgramLemmas.{failed, found, known, simple}
use Rattle.nb_cli.proofs.read.parse.Goals as goal

pub returns-in-Ok : goal.returns-in-Ok
returns-in-Ok c =
    let words : List Text = map (λ w. w.now) c.args.words.now in
    let is : app_of c.in_ok-program.field-0 ≡ program = c.in_ok-program.ensures in
    found words c.in-Ok.matches c.requires
    (subst (λ (a : App). fault_of a words ≡ []) is (c.in-Ok.ensures.kinds (ap is_simple_and_free is ∙ known)))
    ((c.in-Ok.ensures.matches (ap is_simple is ∙ simple)).1 ∙ ap (λ (a : App). subcommand_of a words) is)

pub returns-in-Err : goal.returns-in-Err
returns-in-Err c =
    let words : List Text = map (λ w. w.now) c.args.words.now in
    let is : app_of c.in_ok-program.field-0 ≡ program = c.in_ok-program.ensures in
    subst (λ (f : WordsFail). Finds (parts_of words) (Err f)) (sym (c.fail_of.ensures ∙ ap fail_by c.kind.ensures))
    (failed words c.in-Err.error c.requires
    (subst (λ (a : App). HasKind (fault_of a words) c.in-Err.error) is (c.in-Err.ensures.kinds (ap is_simple_and_free is ∙ known))))
