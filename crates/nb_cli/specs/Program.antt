-- The program as a command line has it: subcommands with texts in their places.
use Rattle.std.specs.Prelude.{◌≡◌, ℕ, Bool, true, false, List, [], ◌∷◌, codes, Option, Some, None}
use Rattle.std.specs.Prelude.{Result, Ok, Err, if◌then◌else◌, option_map, option_and_then}
use Rattle.std.specs.Str.{bytes_eq}
use Rattle.clap.specs.Words.{App, Row, Rule, Shape, Text, app_of, first_of, found_of, new_app, new_rule, rows_of}
use Rattle.clap.specs.Words.{subcommand_rows_of, with_rule, with_subcommand}
use Rattle.clap.specs.declared.builder.command.Command.{Command as Clap}
use Rattle.clap.specs.declared.builder.command.Command.TheViews.{out-Command as fields_of}
use Rattle.clap.specs.declared.parser.matches.ArgMatches.{ArgMatches}
use Rattle.clap.specs.declared.error.kind.ErrorKind.{ErrorKind}
use Rattle.clap.specs.declared.error.kind.ErrorKind.TheVariants as kind
use Rattle.nb_cli.specs.declared.command.WordsFail.{WordsFail}
use Rattle.nb_cli.specs.declared.command.WordsFail.TheVariants.{Usage, Memory}
use Rattle.nb_cli.specs.declared.command.Command.{Command}
use Rattle.nb_cli.specs.declared.command.Command.TheVariants.{Run, Workers, Make, Upgrade}
use Rattle.nb_cli.specs.Command.{number}

abbrev pub wanted : Text → Rule
wanted id = record (new_rule id) { required = true }

abbrev pub file : Rule
file = new_rule (codes "file")

abbrev pub run_words : App
run_words = with_rule (new_app (codes "run")) file

abbrev pub workers_words : App
workers_words = with_rule (with_rule (new_app (codes "workers")) (wanted (codes "count"))) file

abbrev pub make_words : App
make_words = with_rule (with_rule (new_app (codes "make")) (wanted (codes "count"))) (wanted (codes "seed"))

abbrev pub upgrade_words : App
upgrade_words = with_rule (new_app (codes "upgrade")) (wanted (codes "file"))

-- without a name of the program among the words, without help and version
abbrev pub bare : App
bare = record {
  top = record (new_app (codes "notebook")).top {
    no_binary_name = true;
    disable_help_flag = true;
    disable_help_subcommand = true;
    disable_version_flag = true;
    subcommand_required = true;
  };
  subs = [];
}

abbrev pub program : App
program = with_subcommand (with_subcommand (with_subcommand (with_subcommand bare run_words.top) workers_words.top) make_words.top) upgrade_words.top

-- the command is this one, and none of its arguments is global
abbrev pub IsApp : App → Clap → Type 0
IsApp app c = (app_of c ≡ app) × ((fields_of c).has_globals ≡ false)

-- what the words say: a name, and the texts behind it
pub record Parts : Type 0 where
  pub name : Text
  pub count : Option Text
  pub seed : Option Text
  pub file : Option Text

abbrev pub run_parts : List Text → Option Parts
run_parts [] = Some (record { name = codes "run"; count = None; seed = None; file = None })
run_parts (file ∷ []) = Some (record { name = codes "run"; count = None; seed = None; file = Some file })
run_parts _ = None

abbrev pub workers_parts : List Text → Option Parts
workers_parts (count ∷ []) = Some (record { name = codes "workers"; count = Some count; seed = None; file = None })
workers_parts (count ∷ file ∷ []) = Some (record { name = codes "workers"; count = Some count; seed = None; file = Some file })
workers_parts _ = None

abbrev pub make_parts : List Text → Option Parts
make_parts (count ∷ seed ∷ []) = Some (record { name = codes "make"; count = Some count; seed = Some seed; file = None })
make_parts _ = None

abbrev pub upgrade_parts : List Text → Option Parts
upgrade_parts (file ∷ []) = Some (record { name = codes "upgrade"; count = None; seed = None; file = Some file })
upgrade_parts _ = None

abbrev pub parts_of : List Text → Option Parts
parts_of [] = None
parts_of (name ∷ rest) =
    if bytes_eq name (codes "run") then run_parts rest
    else if bytes_eq name (codes "workers") then workers_parts rest
    else if bytes_eq name (codes "make") then make_parts rest
    else if bytes_eq name (codes "upgrade") then upgrade_parts rest
    else None

-- the parts that a parse found
abbrev pub parts_in : Option (Text × List Row) → Option Parts
parts_in = option_map (λ p. record {
  name = p.0;
  count = first_of (codes "count") p.1;
  seed = first_of (codes "seed") p.1;
  file = first_of (codes "file") p.1;
})

-- why words that a parse refuses are no command
abbrev pub fail_by : ErrorKind → WordsFail
fail_by kind.OutOfMemory = Memory
fail_by _ = Usage

-- a parse found the parts, up to want of memory
abbrev pub Finds : Option Parts → Result ArgMatches WordsFail → Type 0
Finds wanted (Ok found) = (parts : Parts) × (wanted ≡ Some parts) × (parts_in (subcommand_rows_of found) ≡ Some parts)
Finds wanted (Err Usage) = wanted ≡ None
Finds wanted (Err Memory) = Unit {0}

-- the command of a count and a file
abbrev pub workers_by : Option Text → Option Text → Option Command
workers_by count file = option_and_then (λ text. option_map (λ n. Workers n file) (number 1 16 text)) count

-- the command of a count and a seed
abbrev pub make_by : Option Text → Option Text → Option Command
make_by (Some count) (Some seed) = option_and_then (λ n. option_map (Make n) (number 0 4294967295 seed)) (number 1 1000 count)
make_by _ _ = None

-- the command that parts are, or none
abbrev pub command_by : Parts → Option Command
command_by parts =
    if bytes_eq parts.name (codes "run") then Some (Run parts.file)
    else if bytes_eq parts.name (codes "workers") then workers_by parts.count parts.file
    else if bytes_eq parts.name (codes "make") then make_by parts.count parts.seed
    else if bytes_eq parts.name (codes "upgrade") then option_map Upgrade parts.file
    else None
