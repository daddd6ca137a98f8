use Rattle.std.proofs.Common.{◌∙◌, sym}
use Rattle.nb_work.proofs.Readies.{ready_shows, not_ready_waits, not_ready_runs}
use Rattle.nb_work.proofs.readiness.is_ready.Goals as goal
use Rattle.nb_work.proofs.readiness.is_ready.Goals.{then-is_running, else-is_running}

pub returns-then-has_inputs : goal.returns-then-has_inputs
returns-then-has_inputs c = λ r h. elim c.if-is_running.branch [
  | then-is_running w ↦
      ready_shows r c.args.sheet.now.sheet c.args.starts.now.items c.args.v h c.args.ties.now.items c.requires.ties c.in-Some.start.now c.in-Some.ensures
      c.rests.result w.has_inputs.result c.rests.ensures w.has_inputs.ensures (sym c.is_running.ensures ∙ w.if-is_running.true) (sym w.value-is ∙ c.if-has_inputs.true)
  | else-is_running w ↦ absurd (cc)
]

pub returns-else-has_inputs : goal.returns-else-has_inputs
returns-else-has_inputs c = λ r h. elim c.if-is_running.branch [
  | then-is_running w ↦
      c.if-has_inputs.false
      ∙ not_ready_waits r c.args.sheet.now.sheet c.args.starts.now.items c.args.v h c.args.ties.now.items c.requires.ties c.in-Some.start.now c.in-Some.ensures
      w.has_inputs.result w.has_inputs.ensures (sym w.value-is ∙ c.if-has_inputs.false)
  | else-is_running w ↦
      c.if-has_inputs.false
      ∙ not_ready_runs r c.args.sheet.now.sheet c.args.starts.now.items c.args.v h c.args.ties.now.items c.requires.ties c.in-Some.start.now c.in-Some.ensures
      (sym c.is_running.ensures ∙ w.if-is_running.false)
]
