-- How an evaluation that stands somewhere goes on.
use Rattle.std.specs.Prelude.{◌≡◌, ℕ, ◌+◌, Bool, false, Option, max, nat_le, slice_get, if◌then◌else◌}
use Rattle.nb_eval.specs.declared.given.Segment.{Segment}
use Rattle.nb_machine.specs.Code.{Code}
use Rattle.nb_machine.specs.Machine.{Spot}
use Rattle.nb_machine.specs.Held.{Held, IsPulledTo, StandsAt}
use Rattle.nb_machine.specs.Suspended.{is_pending}
pub use Rattle.nb_machine.specs.declared.standing.Standing.{Standing}

-- whether a charge is next
abbrev pub pends : Standing → Bool
pends s = is_pending (slice_get s.code s.spot.pc) s.spot.slots

-- the charges after the next instruction
abbrev pub charges_after : Standing → ℕ
charges_after s = max s.charges (s.held.state.charges + (if pends s then 1 else 0))

-- the number of instructions to the end
unfoldable pub left_at : (g : Segment) (p : Spot) (h : Held) → StandsAt g p h → IsPulledTo g.pulls h → ℕ
left_at g p h stands pulled = (stands g.answers g.pulls (λ at a lt k. k) pulled).0

abbrev pub left_of : (s : Standing) → ℕ
left_of s = left_at s.segment s.spot s.held s.stands s.is_pulled

-- whether a charge is next by which it would stand at more charges than these
abbrev pub is_due : Standing → ℕ → Bool
is_due s n = if pends s then nat_le n s.held.state.charges else false
