use Rattle.std.proofs.Common.{◌∙◌, sym, ap, subst, List, map}
use Rattle.std.specs.Prelude.{slice_get}
use Rattle.nb_wave.specs.declared.step.Step.{Step as WaveStep}
use Rattle.nb_wave.specs.Marks.{marked}
use Rattle.nb_closing.specs.Plan.{Plans}
use Rattle.nb_closing.specs.Told.{step_in}
use Rattle.nb_closing.proofs.Sound.{sound_told, told_scene}
use Rattle.nb_closing.proofs.StartsKept.{all_start}
use Rattle.nb_closing.proofs.Planned.{plans_from}
use Rattle.nb_closing.proofs.planning.steps_by.Goals as goal

pub close-requires-clause-sound : goal.close-requires-clause-sound
close-requires-clause-sound c =
    sound_told c.args.sheet.now.sheet c.args.starts.now.items c.args.moment.now c.args.touched.now c.tell.new.wave.rows c.in_ok-tell.ensures.told

pub steps_of-requires : goal.steps_of-requires
steps_of-requires c =
    λ i s h.
    all_start c.in_ok-steps.steps.items c.tell.new.wave.rows c.close.new.self.rows c.args.moment.now.place c.in_ok-tell.ensures.told.size
    c.in_ok-steps.ensures.closes.runs c.in_ok-steps.ensures.closes.once i s (ap (λ (l : List WaveStep). slice_get l i) (sym c.deref.ensures.value) ∙ h)

pub returns-clause-plans : goal.returns-clause-plans
returns-clause-plans c =
    λ r scene.
    let closes = c.in_ok-steps.ensures.closes in
    let touched = c.args.touched.now in
    subst (Plans r) (sym (c.in_ok-all.ensures ∙ ap (map (step_in c.close.new.self.rows)) c.deref.ensures.value))
    (plans_from (marked touched) c.in_ok-steps.steps.items r c.tell.new.wave.rows c.close.new.self.rows c.args.moment.now.place
    (told_scene r c.args.sheet.now.sheet c.args.starts.now.items c.args.moment.now scene touched c.requires.touched c.tell.new.wave.rows c.in_ok-tell.ensures.few c.in_ok-tell.ensures.told)
    scene.place closes.runs closes.ends closes.once)
