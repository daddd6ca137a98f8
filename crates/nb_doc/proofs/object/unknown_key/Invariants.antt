use Rattle.std.proofs.Common.{◌≡◌, find, not}
use Rattle.serde_json.specs.View.{members_view}
use Rattle.nb_lines.specs.Fields.{member_keys}
use Rattle.nb_doc.specs.Forms.{is_among}
use Rattle.nb_doc.proofs.object.unknown_key.Given as goal

-- the first key of all is the first one of those that are left
abbrev pub invariant-loop-key : goal.invariant-loop-key
invariant-loop-key l = find (λ k. not (is_among l.known k)) (member_keys (members_view l.object.entries)) ≡ find (λ k. not (is_among l.known k)) (member_keys (members_view l.key-iterator))
