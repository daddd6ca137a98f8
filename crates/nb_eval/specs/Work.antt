-- Which work was done.
use Rattle.std.specs.Prelude.{◌≡◌}
use Rattle.nb_eval.specs.declared.work.Work.{Work}
use Rattle.nb_eval.specs.declared.work.Work.TheVariants as work
use Rattle.nb_eval.specs.declared.work.WorkDone.{WorkDone}
use Rattle.nb_eval.specs.declared.work.WorkDone.TheVariants as done

-- this was done of that work
abbrev pub IsOf : Work → WorkDone → Type 0
IsOf (work.Direct o) (done.Direct p) = p ≡ o
IsOf (work.Direct o) (done.Ran f) = ⊥
IsOf (work.Run s) (done.Direct p) = ⊥
IsOf (work.Run s) (done.Ran f) = f.segment ≡ s
