use Rattle.std.proofs.Common.{◌≡◌, ◌∙◌, List, ℕ, ap, string_bytes}
use Rattle.nb_value.specs.Fields.{put}
use Rattle.nb_eval.specs.Locals.{name_value}
use Rattle.nb_eval.specs.Members.{members_of}
use Rattle.nb_eval.proofs.MemberLemmas.{put-insert}
use Rattle.nb_eval.proofs.members.Members.put.Goals as goal

pub returns : goal.returns
returns c =
    let named : string_bytes c.in_ok-name.name ≡ c.args.name.now = c.in_ok-name.ensures.ok ∙ c.as_str.ensures.value in
    let old = c.self.inside.map.entries in
    ap members_of c.in_ok-insert.ensures.entries ∙ put-insert old c.in_ok-name.name c.args.value
    ∙ ap (λ (name : List ℕ). put (name_value name c.args.value) (members_of old)) named ∙ ap (put (name_value c.args.name.now c.args.value)) c.self.view_is
