use Rattle.std.proofs.Common.{◌≡◌, ◌∙◌, ap, ap₂}
use Rattle.clap.specs.Words.{App, app_of, with_subcommand}
use Rattle.nb_cli.specs.Program.{bare}
use Rattle.nb_cli.proofs.ProgramLemmas.{is_bare}
use Rattle.nb_cli.proofs.program.program.Goals as goal

pub returns : goal.returns
returns c =
    let bare_is : app_of c.subcommand_required-bare.result ≡ bare = is_bare c.new.result c.no_binary_name.result c.disable_help_flag.result
    c.disable_help_subcommand.result c.disable_version_flag.result c.subcommand_required-bare.result c.new.ensures.app c.no_binary_name.ensures
    c.disable_help_flag.ensures c.disable_help_subcommand.ensures c.disable_version_flag.ensures c.subcommand_required-bare.ensures in
    let run = c.in_ok-subcommand.ensures.shape c.in_ok-run.ensures.1 ∙ ap₂ with_subcommand bare_is (ap (λ (a : App). a.top) c.in_ok-run.ensures.0) in
    let workers = c.in_ok-subcommand-2.ensures.shape c.in_ok-workers.ensures.1 ∙ ap₂ with_subcommand run (ap (λ (a : App). a.top) c.in_ok-workers.ensures.0) in
    let make = c.in_ok-subcommand-3.ensures.shape c.in_ok-make.ensures.1 ∙ ap₂ with_subcommand workers (ap (λ (a : App). a.top) c.in_ok-make.ensures.0) in
    c.in_ok-subcommand-4.ensures.shape c.in_ok-upgrade.ensures.1 ∙ ap₂ with_subcommand make (ap (λ (a : App). a.top) c.in_ok-upgrade.ensures.0)
