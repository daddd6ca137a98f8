-- A further name keeps the order, and all members say what was found and what the others say.
use Rattle.std.proofs.Common.{◌≡◌, None, [], ◌∷◌, ◌++◌, string_bytes, sym, ap, ◌∙◌, subst, append_assoc, string_cmp}
use Rattle.std.specs.List.Sorted.{IsStrictlySortedBy}
use Rattle.std.specs.Map.{keys_of}
use Rattle.serde_json.specs.View.{view, members_view}
use Rattle.serde_json.proofs.Views.{Entry}
use Rattle.nb_value.specs.Json.{fields_of, push_front}
use Rattle.nb_value.proofs.FieldLemmas.{CanFollow-key, names-more}
use Rattle.nb_value.proofs.JsonLaws.{continues_more, fields_of-more}
use Rattle.nb_doc.specs.Loading.{member_fault}
use Rattle.nb_doc.proofs.FailLemmas.{members_more}
use Rattle.nb_doc.proofs.builtins.each_member.Goals as goal

pub push-requires : goal.push-requires
push-requires c =
    let l = c.loop-key in
    let e : Entry = (c.in-Some.key.now, c.in-Some.member.now) in
    let left = c.next.new.self in
    let all : c.args.members.now.entries ≡ l.invariant.done ++ e ∷ left = l.invariant.all ∙ ap (λ es. l.invariant.done ++ es) c.in-Some.ensures.steps in
    let sorted = subst (λ es. IsStrictlySortedBy string_cmp (keys_of es)) all c.iter-key-items.ensures.ordered in
    rw c.in_ok-name.ensures (rw c.as_str.ensures.value (CanFollow-key l.found l.invariant.done e.0 e.1 left sorted l.invariant.names))

pub loop-key-preserved : goal.loop-key-preserved
loop-key-preserved c =
    let l = c.loop-key in
    let e : Entry = (c.in-Some.key.now, c.in-Some.member.now) in
    let left = c.next.new.self in
    let done = l.invariant.done in
    let v = c.in_ok-read_member.field-0 in
    let all : c.args.members.now.entries ≡ done ++ e ∷ left = l.invariant.all ∙ ap (λ es. done ++ es) c.in-Some.ensures.steps in
    let named : c.in_ok-name.name ≡ string_bytes e.0 = c.in_ok-name.ensures ∙ c.as_str.ensures.value in
    let step : fields_of (members_view l.key-iterator) ≡ push_front (record { name = c.in_ok-name.name; value = v }) (fields_of (members_view left)) =
    rw (c.in-Some.ensures.steps, named) (fields_of-more (string_bytes e.0) (view e.1) (members_view left) v c.in_ok-read_member.ensures.said) in
    record {
      done = done ++ e ∷ [];
      all = all ∙ sym (append_assoc done (e ∷ []) left);
      names = rw c.in_ok-push.ensures.ok (names-more l.found (record { name = c.in_ok-name.name; value = v }) done e.0 e.1 l.invariant.names named);
      fault = members_more _ (members_view l.key-iterator) (string_bytes e.0) (view e.1) (members_view left) l.invariant.fault (ap members_view c.in-Some.ensures.steps) (subst (λ k. member_fault k (view e.1) ≡ None) c.as_str-in-loop-key.ensures.value c.in_ok-read_member.ensures.right);
      said = rw c.in_ok-push.ensures.ok (continues_more l.found _ _ _ _ l.invariant.said step);
    }
