-- What the words ask for.
use Rattle.std.specs.Prelude.{◌≡◌, ℕ, Bool, true, false, List, Option, Some, None, Result, Ok, Err, option_and_then}
use Rattle.nb_cli.specs.declared.command.Command.{Command}
use Rattle.nb_cli.specs.declared.command.Command.TheVariants as command
use Rattle.nb_cli.specs.declared.command.WordsFail.{WordsFail}
use Rattle.nb_cli.specs.declared.command.WordsFail.TheVariants.{Usage, Memory}
use Rattle.nb_cli.specs.Command.{command}
use Rattle.nb_main.specs.declared.task.Task.{Task}
use Rattle.nb_main.specs.declared.task.Task.TheVariants.{Run, Make, Upgrade}

-- what `notebook` does of the commands; it has no workers
abbrev pub task_by : Command → Option Task
task_by (command.Run file) = Some (Run file)
task_by (command.Workers n file) = None
task_by (command.Make n seed) = Some (Make n seed)
task_by (command.Upgrade file) = Some (Upgrade file)

-- the task of the words after the program's name, or none
abbrev pub task : List (List ℕ) → Option Task
task words = option_and_then task_by (command words)

-- the task was read, up to want of memory
abbrev pub ReadsTask : Option Task → Result Task WordsFail → Type 0
ReadsTask wanted (Ok found) = wanted ≡ Some found
ReadsTask wanted (Err Usage) = wanted ≡ None
ReadsTask wanted (Err Memory) = Unit {0}

-- the name of the file that a task reads, if it reads one
abbrev pub file_of : Task → Option (List ℕ)
file_of (Run file) = file
file_of (Make cells seed) = None
file_of (Upgrade file) = Some file

abbrev pub reads_input : Task → Bool
reads_input (Run file) = true
reads_input (Make cells seed) = false
reads_input (Upgrade file) = false

-- the name of the file that the words name, if they name one
abbrev pub file_in : List (List ℕ) → Option (List ℕ)
file_in words = option_and_then file_of (task words)
