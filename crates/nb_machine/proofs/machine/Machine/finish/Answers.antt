use Rattle.std.proofs.Common.{◌≡◌, ◌∙◌, Some, None, true, false, sym, ap, subst}
use Rattle.nb_eval.specs.declared.given.Ending.{Ending}
use Rattle.nb_machine.specs.declared.parked.Parked.TheVariants as parked
use Rattle.nb_machine.specs.Parked.{IsLeftAt}
use Rattle.nb_machine.proofs.Steppings.{copy_is, no_copy_is, over_at}
use Rattle.nb_machine.specs.Segments.{can_go_on}
use Rattle.nb_machine.proofs.machine.Machine.finish.Goals as goal

pub split-segment-requires : goal.split-segment-requires
split-segment-requires c =
    let m = c.args.self in
    let x = c.unwrap-end.result in
    let there : m.ended ≡ Some x = c.unwrap-end.ensures in
    let is : x.copy ≡ Some c.in-Some.copy = c.in-Some.is in
    (copy_is (can_go_on x.end.ending) m.standing.segment c.in-Some.copy (sym is ∙ m.kept x there)).1

pub returns-in-None-clause-parked : goal.returns-in-None-clause-parked
returns-in-None-clause-parked c =
    let m = c.args.self in
    let x = c.unwrap-end.result in
    let there : m.ended ≡ Some x = c.unwrap-end.ensures in
    let is : x.copy ≡ None = c.in-None.is in
    let over = no_copy_is (can_go_on x.end.ending) m.standing.segment (sym is ∙ m.kept x there) in
    over_at m.standing.segment _ (subst (λ (e : Ending). can_go_on e ≡ false) (ap (λ z. z.ending) (m.gives x there)) over)
