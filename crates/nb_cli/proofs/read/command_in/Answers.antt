use Rattle.std.proofs.Common.{◌≡◌, ◌∙◌, ap, subst, sym, codes, Option, Some}
use Rattle.std.specs.Prelude.{option_and_then, option_map}
use Rattle.clap.specs.Words.{Text, found_of, rows_of, subcommand_rows_of}
use Rattle.clap.specs.declared.parser.matches.ArgMatches.TheViews.{out-ArgMatches}
use Rattle.clap.proofs.WalkLemmas.{first_value-rows}
use Rattle.nb_cli.specs.declared.command.Command.{Command}
use Rattle.nb_cli.specs.Command.{Reads}
use Rattle.nb_cli.specs.Program.{command_by, parts_in}
use Rattle.nb_cli.proofs.ProgramLemmas.{none_named, parts_named, parts_read}
use Rattle.nb_cli.proofs.read.command_in.Goals as goal

pub returns-in-Some : goal.returns-in-Some
returns-in-Some c =
    let m = c.args.matches.now in
    let inner = found_of c.in-Some.texts.now in
    let rows = rows_of inner in
    let name : Text = c.in-Some.name.now in
    let count : Option Text = option_map (λ t. t.now) c.get_str-count.result in
    let seed : Option Text = option_map (λ t. t.now) c.get_str-seed.result in
    let file : Option Text = option_map (λ t. t.now) c.get_str-file.result in
    let is : parts_in (subcommand_rows_of m) ≡ parts_in (Some (name, rows)) = parts_named (out-ArgMatches m).subcommand name rows c.in-Some.ensures.name c.in-Some.ensures.rows in
    let read = parts_read name rows count seed file (c.get_str-count.ensures ∙ first_value-rows inner (codes "count"))
    (c.get_str-seed.ensures ∙ first_value-rows inner (codes "seed")) (c.get_str-file.ensures ∙ first_value-rows inner (codes "file")) in
    subst (λ (o : Option Command). Reads o c.command_of.result) (sym (ap (option_and_then command_by) (is ∙ read))) c.command_of.ensures

pub returns-in-None : goal.returns-in-None
returns-in-None c = ap (option_and_then command_by) (none_named (out-ArgMatches c.args.matches.now).subcommand c.in-None.ensures.variant)
