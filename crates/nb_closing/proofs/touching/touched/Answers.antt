use Rattle.std.proofs.Common.{ℕ, ◌≡◌, ◌∙◌, ap, sym, subst, not, List, arith}
use Rattle.nb_graph.specs.Needs.{has}
use Rattle.nb_graph.specs.Graph.{IsReached, IsMarks}
use Rattle.nb_graph.proofs.Reaches.{has_filter}
use Rattle.nb_sheet.specs.Lists.{numbers}
use Rattle.nb_closing.specs.Quiet.{quiet_at, loud_vars}
use Rattle.nb_closing.proofs.Putting.{ties_length}
use Rattle.nb_closing.proofs.Touches.{needs_variables, touched_marks, loud_nodes}
use Rattle.nb_closing.proofs.touching.touched.Goals as goal

pub users-requires-clause-few : goal.users-requires-clause-few
users-requires-clause-few c =
    omega (arith, c.loud.ensures.few, ties_length c.args.sheet.now.sheet c.args.ties.now.items c.requires)

pub users-requires-clause-needs : goal.users-requires-clause-needs
users-requires-clause-needs c = needs_variables c.args.sheet.now.sheet c.args.ties.now.items c.requires

pub reach-requires : goal.reach-requires
reach-requires c =
    let s = c.args.sheet.now.sheet in
    let xs = c.args.starts.now.items in
    let m = c.args.moment.now in
    let e : c.deref.result.now ≡ loud_vars s xs m = c.deref.ensures.value ∙ c.in_ok-loud.ensures.loud in
    loud_nodes s c.args.ties.now.items c.requires c.in_ok-users.users c.in_ok-users.ensures c.deref.result.now
    (λ v h. (has_filter (λ v. not (quiet_at s xs m v)) (numbers s.rows) v (ap (λ (l : List ℕ). has l v) (sym e) ∙ h)).0)

pub returns : goal.returns
returns c =
    let s = c.args.sheet.now.sheet in
    let loud = loud_vars s c.args.starts.now.items c.args.moment.now in
    let users = c.in_ok-users.users in
    let marks = c.in_ok-marks.marks.items in
    let e : c.deref.result.now ≡ loud = c.deref.ensures.value ∙ c.in_ok-loud.ensures.loud in
    touched_marks s c.args.ties.now.items c.requires users c.in_ok-users.ensures loud marks
    (subst (λ (vars : List ℕ). IsMarks users (IsReached users vars) marks) e c.in_ok-marks.ensures)
