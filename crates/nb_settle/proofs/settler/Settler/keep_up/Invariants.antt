use Rattle.std.proofs.Common.{◌-◌, length}
use Rattle.nb_settle.proofs.settler.Settler.keep_up.Given as goal

-- the entries that weren't looked at
abbrev pub decreases-loop-self : goal.decreases-loop-self
decreases-loop-self l = length l.log.entries - l.self.seen
