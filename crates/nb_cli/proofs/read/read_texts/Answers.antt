use Rattle.std.proofs.Common.{List, map, Option, subst, sym}
use Rattle.clap.specs.Words.{Text}
use Rattle.nb_cli.specs.declared.command.Command.{Command}
use Rattle.nb_cli.specs.Command.{Reads}
use Rattle.nb_cli.proofs.ProgramLemmas.{command_read, fail_read}
use Rattle.nb_cli.proofs.read.read_texts.Goals as goal

pub returns-in-Ok : goal.returns-in-Ok
returns-in-Ok c =
    let words : List Text = map (λ w. w.now) c.args.words.now in
    subst (λ (o : Option Command). Reads o c.command_in.result) (sym (command_read words c.in-Ok.matches c.requires c.in-Ok.ensures)) c.command_in.ensures

pub returns-in-Err : goal.returns-in-Err
returns-in-Err c = fail_read (map (λ w. w.now) c.args.words.now) c.in-Err.fail c.requires c.in-Err.ensures
