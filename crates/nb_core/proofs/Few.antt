-- The starts of the machine were pulled no more often than its log has entries.
use Rattle.std.proofs.Common.{ℕ, ◌≡◌, ◌+◌, ◌<◌, ◌≤◌, ◌^◌, ◌-◌, arith, ◌∙◌, ap, Bool, List, length, Option}
use Rattle.nb_sheet.specs.Lists.{from_option, option_then}
use Rattle.nb_sheet.specs.Sheet.{Sheet}
use Rattle.nb_log.specs.declared.entry.Entry.{Entry}
use Rattle.nb_history.specs.Reading.{Reading, Start, Ticket}
use Rattle.nb_history.specs.Rules.{pulls_of}
use Rattle.nb_history.specs.Log.{reading}
use Rattle.nb_history.proofs.Pulls.{few_pulls}
use Rattle.nb_runs.specs.Starts.{PullsBelow}
use Rattle.nb_core.specs.Stands.{Stands}

pub pulls_below : (sheet : Sheet) (starts : List (Option Start)) (disposed : Bool) (tickets : List Ticket) (log : List Entry) (n : ℕ) → Stands sheet starts disposed tickets log → length log < n → PullsBelow n starts
pulls_below sheet starts disposed tickets log n stands room = λ v s at.
    let few : pulls_of (reading sheet.builtins log) v ≤ length log = few_pulls sheet.builtins log v in
    let here : pulls_of (reading sheet.builtins log) v ≡ s.pulls =
    ap (λ (r : Reading). pulls_of r v) stands ∙ ap (λ (o : Option (Option Start)). from_option 0 (λ (s : Start). s.pulls) (option_then o (λ s. s))) at in
    omega (arith, few, here, room)
