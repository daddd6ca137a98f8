-- The first fault of all is that of those that are left, and all say what was found and what the others say.
use Rattle.std.proofs.Common.{◌≡◌, ◌++◌, List, map, string_bytes}
use Rattle.std.specs.Map.{keys_of}
use Rattle.serde_json.specs.View.{members_view}
use Rattle.serde_json.proofs.Views.{Entry}
use Rattle.nb_value.specs.Fields.{names}
use Rattle.nb_value.specs.Json.{fields_of}
use Rattle.nb_value.proofs.JsonLaws.{Continues}
use Rattle.nb_doc.specs.Loading.{members_fault}
use Rattle.nb_doc.proofs.builtins.each_member.Given as goal

abbrev pub invariant-loop-key : goal.invariant-loop-key
invariant-loop-key l = record {
  done : List Entry;
  all : l.members.entries ≡ done ++ l.key-iterator;
  names : names l.found ≡ map string_bytes (keys_of done);
  fault : members_fault (members_view l.members.entries) ≡ members_fault (members_view l.key-iterator);
  said : Continues l.found (fields_of (members_view l.members.entries)) (fields_of (members_view l.key-iterator));
}
