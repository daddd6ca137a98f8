use Rattle.std.proofs.Common.{◌∙◌, ap, refl, sym, subst, Some}
use Rattle.nb_history.specs.Reading.{Footing}
use Rattle.nb_runs.specs.Footings.{footing_of, IsMarked}
use Rattle.nb_runs.specs.Starts.{start_in}
use Rattle.nb_closing.specs.Sites.{kept_of}
use Rattle.nb_closing.proofs.Putting.{kept_none}
use Rattle.nb_closing.proofs.telling.keep_start.Goals as goal

pub returns-in_ok-keep-in-Some-clause-kept : goal.returns-in_ok-keep-in-Some-clause-kept
returns-in_ok-keep-in-Some-clause-kept c =
    record {
      kept = Some c.in_ok-kept-in-Some.kept;
      footing = ap (λ (f : Footing). Some f) (ap footing_of c.in_ok-kept-in-Some.ensures ∙ c.kept.ensures.value) ∙ ap kept_of c.in-Some.ensures;
      marked = subst IsMarked (sym c.in_ok-kept-in-Some.ensures) c.kept.ensures.marked;
      rows = c.in_ok-keep-in-Some.ensures.ok;
    }

pub returns-in-None-clause-kept : goal.returns-in-None-clause-kept
returns-in-None-clause-kept c =
    kept_none (kept_of (start_in c.args.starts.now.items c.args.v)) c.args.v c.args.wave.now.rows c.args.wave.now.rows (ap kept_of c.in-None.ensures) refl
