use Rattle.std.proofs.Common.{◌≡◌, ◌∙◌, ◌<◌, ◌≤◌, ◌+◌, [], Ok, Err, Some, None, Result, true, false, sym, ap, subst, subst₂, refl, arith}
use Rattle.std.specs.Prelude.{◌^◌, max, slice_get, if◌then◌else◌}
use Rattle.nb_eval.specs.declared.given.RunEnd.{RunEnd}
use Rattle.nb_eval.specs.Evaluation.{charges, segment_end}
use Rattle.nb_machine.specs.Machine.{Spot, spot, code_of}
use Rattle.nb_machine.specs.Suspended.{is_pending}
use Rattle.nb_machine.specs.Held.{Held, IsHeld, IsPulledTo, StandsAt, held_step, left_by, end_kept, goes_on, start_held}
use Rattle.nb_machine.specs.Room.{Room}
use Rattle.nb_machine.proofs.Points.{held_on, held_stop, held_at_start, pulled_at_start, stands_at_start}
use Rattle.nb_machine.proofs.Room.{room_at_start}
use Rattle.nb_machine.proofs.Falls.{falls}
use Rattle.nb_machine.proofs.Turning as t
use Rattle.nb_machine.proofs.standing.Standing.turn.Goals as goal

pub invariant_of-self : goal.invariant_of-self
invariant_of-self c =
    let s = c.args.self.now in
    let g = s.segment in
    let p = s.spot in
    let h = s.held in
    let k = c.exec-outcome.new.held in
    let q = c.exec-outcome.new.spot in
    let same = subst (λ cs. held_step g cs p h ≡ held_on q k) (c.as_slice.ensures ∙ s.is_code) (c.in-Ok.ensures.gives (λ e. cc)) in
    let pulls : g.pulls < 2 ^ 32 = omega arith in
    let most : max s.charges k.state.charges ≡ c.max-charges.result = sym c.max-charges.ensures in
    record {
      is_code = s.is_code;
      is_held = t.on_held g p h s.charges s.is_held s.is_pulled s.has_room s.stands s.to_make s.few pulls q k same;
      is_pulled = t.on_pulled g p h s.charges s.is_held s.is_pulled s.has_room s.stands s.to_make s.few pulls q k same;
      has_room = t.on_room g p h s.charges s.is_held s.is_pulled s.has_room s.stands s.to_make s.few pulls q k same;
      stands = t.on_stands g p h s.charges s.is_held s.is_pulled s.has_room s.stands s.to_make s.few pulls q k same;
      made = omega (arith, most);
      to_make = subst (λ n. n ≤ charges g) most (t.on_to_make g p h s.charges s.is_held s.is_pulled s.has_room s.stands s.to_make s.few pulls q k same);
      few = subst (λ n. n < 0x8000_0000_0000_0000) most (t.on_few g p h s.charges s.is_held s.is_pulled s.has_room s.stands s.to_make s.few pulls q k same);
    }

pub returns-in-Ok-clause-charges : goal.returns-in-Ok-clause-charges
returns-in-Ok-clause-charges c =
    let s = c.args.self.now in
    let g = s.segment in
    let p = s.spot in
    let h = s.held in
    let k = c.exec-outcome.new.held in
    let q = c.exec-outcome.new.spot in
    let same = subst (λ cs. held_step g cs p h ≡ held_on q k) (c.as_slice.ensures ∙ s.is_code) (c.in-Ok.ensures.gives (λ e. cc)) in
    let pulls : g.pulls < 2 ^ 32 = omega arith in
    c.max-charges.ensures ∙ t.on_charges g p h s.charges s.is_held s.is_pulled s.has_room s.stands s.to_make s.few pulls q k same
    ∙ ap (λ cs. max s.charges (h.state.charges + (if is_pending (slice_get cs p.pc) p.slots then 1 else 0))) (sym s.is_code)

pub returns-in-Ok-clause-falls : goal.returns-in-Ok-clause-falls
returns-in-Ok-clause-falls c = λ e.
    let s = c.args.self.now in
    let g = s.segment in
    let same = subst (λ cs. held_step g cs s.spot s.held ≡ held_on c.exec-outcome.new.spot c.exec-outcome.new.held) (c.as_slice.ensures ∙ s.is_code) (c.in-Ok.ensures.gives (λ x. cc)) in
    falls g s.spot c.exec-outcome.new.spot s.held c.exec-outcome.new.held same s.stands s.is_pulled _ _

pub invariant_of-self-in-Break-1 : goal.invariant_of-self-in-Break-1
invariant_of-self-in-Break-1 c =
    let s = c.args.self.now in
    let g = s.segment in
    let stays = c.in-Err.ensures.stays c.in-Err.stop refl (sym c.goes_on.ensures ∙ c.if-goes_on.true) in
    let p : s.spot ≡ c.exec-outcome.new.spot = sym stays.0 in
    let h : s.held ≡ c.exec-outcome.new.held = sym stays.1 in
    record {
      is_code = s.is_code;
      is_held = subst IsHeld h s.is_held;
      is_pulled = subst (IsPulledTo g.pulls) h s.is_pulled;
      has_room = subst (Room g.pulls) h s.has_room;
      stands = subst₂ (λ (q : Spot) (k : Held). StandsAt g q k) p h s.stands;
      made = subst (λ (k : Held). k.state.charges ≤ s.charges) h s.made;
      to_make = s.to_make;
      few = s.few;
    }

pub invariant_of-self-in-Err : goal.invariant_of-self-in-Err
invariant_of-self-in-Err c =
    let s = c.args.self.now in
    let g = s.segment in
    let k = c.exec-outcome.new.held in
    let q = c.exec-outcome.new.spot in
    let stays = c.in-Err.ensures.stays c.in-Err.stop refl (sym c.goes_on.ensures ∙ c.if-goes_on.true) in
    let p : s.spot ≡ q = sym stays.0 in
    let h : s.held ≡ k = sym stays.1 in
    let same = subst (λ cs. held_step g cs s.spot s.held ≡ held_stop c.in-Err.stop (left_by c.in-Err.stop s.spot k)) (c.as_slice.ensures ∙ s.is_code) (c.in-Err.ensures.gives (t.errs c.in-Err.stop (t.not_memory c.in-Err.stop (sym c.goes_on.ensures ∙ c.if-goes_on.true)))) in
    let pulls : g.pulls < 2 ^ 32 = omega arith in
    let most : max s.charges k.state.charges ≡ c.max-charges.result = sym c.max-charges.ensures in
    let counts = t.stop_charges g s.spot s.held s.charges s.is_held s.is_pulled s.has_room s.stands s.to_make s.few pulls c.in-Err.stop s.spot k same in
    record {
      is_code = s.is_code;
      is_held = subst IsHeld h s.is_held;
      is_pulled = subst (IsPulledTo g.pulls) h s.is_pulled;
      has_room = subst (Room g.pulls) h s.has_room;
      stands = subst₂ (λ (r : Spot) (x : Held). StandsAt g r x) p h s.stands;
      made = omega (arith, most);
      to_make = subst (λ n. n ≤ charges g) most (t.stop_to_make g s.spot s.held s.charges s.is_held s.is_pulled s.has_room s.stands s.to_make s.few pulls c.in-Err.stop s.spot k same);
      few = t.few_at_stop g s.spot s.held s.charges c.max-charges.result (is_pending (slice_get (code_of g) s.spot.pc) s.spot.slots) s.has_room s.few pulls (sym most ∙ counts);
    }

pub invariant_of-self-in-Break-branch-2 : goal.invariant_of-self-in-Break-branch-2
invariant_of-self-in-Break-branch-2 c =
    let s = c.args.self.now in
    let g = s.segment in
    let p : spot 0 [] ≡ c.new.result = sym c.new.ensures in
    let h : start_held ≡ c.new-in-Err-2.result = sym c.new-in-Err-2.ensures in
    record {
      is_code = s.is_code;
      is_held = subst IsHeld h held_at_start;
      is_pulled = subst (IsPulledTo g.pulls) h (pulled_at_start g.pulls);
      has_room = subst (Room g.pulls) h (room_at_start g.pulls);
      stands = subst₂ (λ (q : Spot) (k : Held). StandsAt g q k) p h (stands_at_start g);
      made = subst (λ (k : Held). k.state.charges ≤ s.charges) h (omega arith);
      to_make = s.to_make;
      few = s.few;
    }

pub invariant_of-self-in-Err-2 : goal.invariant_of-self-in-Err-2
invariant_of-self-in-Err-2 c =
    let s = c.args.self.now in
    let g = s.segment in
    let k = c.exec-outcome.new.held in
    let p : spot 0 [] ≡ c.new.result = sym c.new.ensures in
    let h : start_held ≡ c.new-in-Err-2.result = sym c.new-in-Err-2.ensures in
    let same = subst (λ cs. held_step g cs s.spot s.held ≡ held_stop c.in-Err.stop (left_by c.in-Err.stop s.spot k)) (c.as_slice.ensures ∙ s.is_code) (c.in-Err.ensures.gives (t.errs c.in-Err.stop c.in_ok-end-in-Err-2.ensures.1)) in
    let pulls : g.pulls < 2 ^ 32 = omega arith in
    let most : max s.charges k.state.charges ≡ c.max-charges.result = sym c.max-charges.ensures in
    let counts = t.stop_charges g s.spot s.held s.charges s.is_held s.is_pulled s.has_room s.stands s.to_make s.few pulls c.in-Err.stop s.spot k same in
    record {
      is_code = s.is_code;
      is_held = subst IsHeld h held_at_start;
      is_pulled = subst (IsPulledTo g.pulls) h (pulled_at_start g.pulls);
      has_room = subst (Room g.pulls) h (room_at_start g.pulls);
      stands = subst₂ (λ (q : Spot) (x : Held). StandsAt g q x) p h (stands_at_start g);
      made = subst (λ (x : Held). x.state.charges ≤ c.max-charges.result) h (omega arith);
      to_make = subst (λ n. n ≤ charges g) most (t.stop_to_make g s.spot s.held s.charges s.is_held s.is_pulled s.has_room s.stands s.to_make s.few pulls c.in-Err.stop s.spot k same);
      few = t.few_at_stop g s.spot s.held s.charges c.max-charges.result (is_pending (slice_get (code_of g) s.spot.pc) s.spot.slots) s.has_room s.few pulls (sym most ∙ counts);
    }

pub returns-in_ok-end-in-Err-clause-charges : goal.returns-in_ok-end-in-Err-clause-charges
returns-in_ok-end-in-Err-clause-charges c =
    let s = c.args.self.now in
    let g = s.segment in
    let k = c.exec-outcome.new.held in
    let same = subst (λ cs. held_step g cs s.spot s.held ≡ held_stop c.in-Err.stop (left_by c.in-Err.stop s.spot k)) (c.as_slice.ensures ∙ s.is_code) (c.in-Err.ensures.gives (t.errs c.in-Err.stop (t.not_memory c.in-Err.stop (sym c.goes_on.ensures ∙ c.if-goes_on.true)))) in
    let pulls : g.pulls < 2 ^ 32 = omega arith in
    c.max-charges.ensures ∙ t.stop_charges g s.spot s.held s.charges s.is_held s.is_pulled s.has_room s.stands s.to_make s.few pulls c.in-Err.stop s.spot k same
    ∙ ap (λ cs. max s.charges (s.held.state.charges + (if is_pending (slice_get cs s.spot.pc) s.spot.slots then 1 else 0))) (sym s.is_code)

pub returns-in_ok-end-in-Err-2-clause-charges : goal.returns-in_ok-end-in-Err-2-clause-charges
returns-in_ok-end-in-Err-2-clause-charges c =
    let s = c.args.self.now in
    let g = s.segment in
    let k = c.exec-outcome.new.held in
    let same = subst (λ cs. held_step g cs s.spot s.held ≡ held_stop c.in-Err.stop (left_by c.in-Err.stop s.spot k)) (c.as_slice.ensures ∙ s.is_code) (c.in-Err.ensures.gives (t.errs c.in-Err.stop c.in_ok-end-in-Err-2.ensures.1)) in
    let pulls : g.pulls < 2 ^ 32 = omega arith in
    c.max-charges.ensures ∙ t.stop_charges g s.spot s.held s.charges s.is_held s.is_pulled s.has_room s.stands s.to_make s.few pulls c.in-Err.stop s.spot k same
    ∙ ap (λ cs. max s.charges (s.held.state.charges + (if is_pending (slice_get cs s.spot.pc) s.spot.slots then 1 else 0))) (sym s.is_code)

pub returns-in_ok-end-in-Err-clause-ends : goal.returns-in_ok-end-in-Err-clause-ends
returns-in_ok-end-in-Err-clause-ends c = λ e is.
    let s = c.args.self.now in
    let g = s.segment in
    let k = c.exec-outcome.new.held in
    let x = c.in-Err.stop in
    let stays = c.in-Err.ensures.stays x refl (sym c.goes_on.ensures ∙ c.if-goes_on.true) in
    let same = subst (λ cs. held_step g cs s.spot s.held ≡ held_stop x (left_by x s.spot k)) (c.as_slice.ensures ∙ s.is_code) (c.in-Err.ensures.gives (t.errs x (t.not_memory x (sym c.goes_on.ensures ∙ c.if-goes_on.true)))) in
    let pulls : g.pulls < 2 ^ 32 = omega arith in
    let made : end_kept g x (left_by x c.exec-outcome.new.spot k) ≡ segment_end g = ap (λ (q : Spot). end_kept g x (left_by x q k)) stays.0 ∙ t.stop_ends g s.spot s.held s.charges s.is_held s.is_pulled s.has_room s.stands s.to_make s.few pulls x s.spot k same in
    (t.end_in c.in_ok-end-in-Err.end e is ∙ c.in_ok-end-in-Err.ensures.0 ∙ made, c.max-charges.ensures ∙ t.stop_made g s.spot s.held s.charges s.is_held s.is_pulled s.has_room s.stands s.to_make s.few pulls x s.spot k same)

pub returns-in_ok-end-in-Err-2-clause-ends : goal.returns-in_ok-end-in-Err-2-clause-ends
returns-in_ok-end-in-Err-2-clause-ends c = λ e is.
    let s = c.args.self.now in
    let g = s.segment in
    let k = c.exec-outcome.new.held in
    let x = c.in-Err.stop in
    let other : goes_on x ≡ false = sym c.goes_on.ensures ∙ c.if-goes_on.false in
    let same = subst (λ cs. held_step g cs s.spot s.held ≡ held_stop x (left_by x s.spot k)) (c.as_slice.ensures ∙ s.is_code) (c.in-Err.ensures.gives (t.errs x c.in_ok-end-in-Err-2.ensures.1)) in
    let pulls : g.pulls < 2 ^ 32 = omega arith in
    let made : end_kept g x (left_by x c.exec-outcome.new.spot k) ≡ segment_end g = ap (end_kept g x) (t.left_over x c.exec-outcome.new.spot s.spot k other) ∙ t.stop_ends g s.spot s.held s.charges s.is_held s.is_pulled s.has_room s.stands s.to_make s.few pulls x s.spot k same in
    (t.end_in c.in_ok-end-in-Err-2.end e is ∙ c.in_ok-end-in-Err-2.ensures.0 ∙ made, c.max-charges.ensures ∙ t.stop_made g s.spot s.held s.charges s.is_held s.is_pulled s.has_room s.stands s.to_make s.few pulls x s.spot k same)
