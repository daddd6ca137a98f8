use Rattle.std.proofs.Common.{◌++◌, ◌∙◌, ap, sym, subst}
use Rattle.nb_value.specs.Fields.{IsInOrder, CanFollow}
use Rattle.nb_eval.specs.Members.{member_of, members_of}
use Rattle.nb_eval.proofs.MemberLemmas.{in_order, follows}
use Rattle.nb_eval.proofs.members.pairs_of.Goals as goal

pub push-requires : goal.push-requires
push-requires c =
    let pairs = c.loop-name.pairs in
    let rest = c.next.new.self in
    let whole = ap (λ es. pairs ++ members_of es) (sym c.in-Some.ensures.steps) ∙ c.loop-name.invariant in
    let ordered = in_order c.args.map.entries c.into_iter-name-iterator.ensures.into_iter_gives.5 in
    subst (CanFollow pairs) (sym c.from_string.ensures) (follows pairs (members_of rest) (member_of (c.in-Some.name, c.in-Some.value)) (subst IsInOrder (sym whole) ordered))
