use Rattle.std.proofs.Common.{◌∙◌, sym}
use Rattle.nb_wave.proofs.Reversed.{list_read}
use Rattle.nb_wave.proofs.users.Users.of.Goals as goal

pub returns : goal.returns
returns c = c.as_slice.ensures ∙ sym (list_read c.args.self.now.lists.items c.args.v c.index.result.now c.requires c.index.ensures)
