-- What an instruction does to where an evaluation stands.
use Rattle.std.proofs.Common.{◌≡◌, ◌≢◌, ℕ, ◌+◌, ◌*◌, ◌<◌, ◌≤◌, Bool, true, false, [], Option, Some, None, Result, Ok, Err, refl, sym, ap, ◌∙◌, subst, arith}
use Rattle.std.specs.Prelude.{◌^◌, max, slice_get, if◌then◌else◌}
use Rattle.std.specs.declared.alloc.AllocError.{AllocError}
use Rattle.nb_eval.specs.declared.given.RunEnd.{RunEnd}
use Rattle.nb_eval.specs.declared.given.Segment.{Segment}
use Rattle.nb_eval.specs.declared.stop.Stop.{Stop}
use Rattle.nb_eval.specs.declared.stop.Stop.TheVariants as stops
use Rattle.nb_eval.specs.Run.{full_fuel}
use Rattle.nb_eval.specs.Evaluation.{charges, segment_end}
use Rattle.nb_machine.specs.Machine.{Spot, code_of}
use Rattle.nb_machine.specs.Suspended.{is_pending}
use Rattle.nb_machine.specs.Held.{Held, IsHeld, IsPulledTo, StandsAt, held_step, left_by, end_kept, goes_on}
use Rattle.nb_machine.specs.Room.{Room}
use Rattle.nb_machine.proofs.Points.{held_on, held_stop, held_after, pulled_after, stands_after, stops_right, kept_right, charges_so_far, charges_at_stop, charges_step}
use Rattle.nb_machine.proofs.Room.{room_after}

few_charges : (pulls n fuel rest : ℕ) → pulls < 2 ^ 32 → n + fuel + rest ≤ full_fuel + pulls * full_fuel → n < 0x8000_0000_0000_0000
few_charges pulls n fuel rest lt le = omega (arith, lt, le)

left_charges : (x : Stop) (p : Spot) (h : Held) → (left_by x p h).state.charges ≡ h.state.charges
left_charges (stops.Needs key) p h = refl
left_charges stops.Paused p h = refl
left_charges (stops.Done v) p h = refl
left_charges (stops.Failed e) p h = refl
left_charges stops.Memory p h = refl

err_in : Result (Unit {0}) Stop → Stop
err_in (Ok u) = stops.Memory
err_in (Err x) = x

pub errs : (x : Stop) → x ≢ stops.Memory → (let r : Result (Unit {0}) Stop = Err x in r) ≢ Err stops.Memory
unfolding err_in
errs x other e = other (ap err_in e)

pub not_memory : (x : Stop) → goes_on x ≡ true → x ≢ stops.Memory
not_memory x h e = let f : goes_on stops.Memory ≡ true = ap goes_on (sym e) ∙ h in absurd (cc)

module _ (g : Segment) (p : Spot) (h : Held) (n : ℕ) (held : IsHeld h) (pulled : IsPulledTo g.pulls h) (room : Room g.pulls h) (stands : StandsAt g p h) (to_make : n ≤ charges g) (few : n < 0x8000_0000_0000_0000) (pulls : g.pulls < 2 ^ 32) where
  -- it went on
  module _ (q : Spot) (k : Held) (same : held_step g (code_of g) p h ≡ held_on q k) where
    pub on_held : IsHeld k
    on_held = held_after g p (Ok q) h k same

    pub on_pulled : IsPulledTo g.pulls k
    on_pulled = pulled_after g p q h k same held pulled

    pub on_room : Room g.pulls k
    on_room = room_after g p q h k same held room

    pub on_stands : StandsAt g q k
    on_stands = stands_after g p q h k same held stands

    pub on_to_make : max n k.state.charges ≤ charges g
    on_to_make = omega (arith, to_make, charges_so_far g q k on_stands on_pulled)

    pub on_few : max n k.state.charges < 0x8000_0000_0000_0000
    on_few = omega (arith, few, few_charges g.pulls k.state.charges _ _ pulls on_room)

    pub on_charges : max n k.state.charges ≡ max n (h.state.charges + (if is_pending (slice_get (code_of g) p.pc) p.slots then 1 else 0))
    on_charges = ap (max n) (charges_step g p h k (Ok q) same)

  -- it stopped
  module _ (x : Stop) (q : Spot) (k : Held) (same : held_step g (code_of g) p h ≡ held_stop x (left_by x q k)) where
    end_is : segment_end g ≡ end_kept g x (left_by x q k)
    end_is = kept_right g x (left_by x q k) (stops_right g p h (left_by x q k) x stands pulled same)

    all_made : charges g ≡ k.state.charges
    all_made = charges_at_stop g x (left_by x q k) (stops_right g p h (left_by x q k) x stands pulled same) ∙ left_charges x q k

    pub stop_ends : end_kept g x (left_by x q k) ≡ segment_end g
    stop_ends = sym end_is

    pub stop_made : max n k.state.charges ≡ charges g
    stop_made = omega (arith, to_make, all_made)

    pub stop_charges : max n k.state.charges ≡ max n (h.state.charges + (if is_pending (slice_get (code_of g) p.pc) p.slots then 1 else 0))
    stop_charges = ap (max n) (sym (left_charges x q k) ∙ charges_step g p h (left_by x q k) (Err x) same)

    pub stop_to_make : max n k.state.charges ≤ charges g
    stop_to_make = omega (arith, stop_made)

-- the charges at a stop are few too
pub few_at_stop : (g : Segment) (p : Spot) (h : Held) (n m : ℕ) (b : Bool) → Room g.pulls h → n < 0x8000_0000_0000_0000 → g.pulls < 2 ^ 32 → m ≡ max n (h.state.charges + (if b then 1 else 0)) → m < 0x8000_0000_0000_0000
few_at_stop g p h n m true room few pulls is = omega (arith, few, is, few_more g.pulls h.state.charges _ _ pulls room)
  where
    few_more : (pulls n fuel rest : ℕ) → pulls < 2 ^ 32 → n + fuel + rest ≤ full_fuel + pulls * full_fuel → n + 1 < 0x8000_0000_0000_0000
    few_more pulls n fuel rest lt le = omega (arith, lt, le)
few_at_stop g p h n m false room few pulls is = omega (arith, few, is, few_charges g.pulls h.state.charges _ _ pulls room)

-- where it can't go on, nothing is counted besides
pub left_over : (x : Stop) (p q : Spot) (h : Held) → goes_on x ≡ false → left_by x p h ≡ left_by x q h
left_over (stops.Needs key) p q h e = absurd (cc)
left_over stops.Paused p q h e = absurd (cc)
left_over (stops.Done v) p q h e = refl
left_over (stops.Failed f) p q h e = refl
left_over stops.Memory p q h e = refl

abbrev end_or : RunEnd → Result (Option RunEnd) AllocError → RunEnd
end_or d (Ok (Some e)) = e
end_or d r = d

pub end_in : (d e : RunEnd) → (let r : Result (Option RunEnd) AllocError = Ok (Some d) in r) ≡ Ok (Some e) → e ≡ d
end_in d e is = sym (ap (end_or d) is)
