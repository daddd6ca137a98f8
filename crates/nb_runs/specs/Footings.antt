-- What a start rests on, by numbers and as the log has it.
use Rattle.std.specs.Prelude.{ℕ, ◌≤◌, ◌==◌}
use Rattle.nb_wave.specs.declared.footing.Footing.{Footing as Numbered}
use Rattle.nb_history.specs.Reading.{Footing}

-- the mark is 1 for a duplicate and 2 for a circular variable
abbrev pub footing_of : Numbered → Footing
footing_of f =
    record { place = f.place; is_duplicate = f.mark == 1; is_circular = f.mark == 2; inputs = f.inputs; starts = f.starts; renewals = f.renewals }

-- it has one of the three marks
abbrev pub IsMarked : Numbered → Type 0
IsMarked f = f.mark ≤ 2
