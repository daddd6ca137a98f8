-- The machine follows the definition over expressions.
use Rattle.std.proofs.Common.{◌≡◌, ℕ, ◌+◌, ◌-◌, Bool, true, false, List, [], ◌∷◌, ◌++◌, map, length, Some, Ok, Err, refl, sym, subst, codes, arith, length-append}
use Rattle.std.specs.Prelude.{slice_get, nat_lt, if◌then◌else◌}
use Rattle.nb_value.specs.declared.value.Value.{Value}
use Rattle.nb_value.specs.declared.value.Value.TheVariants as V
use Rattle.nb_value.specs.declared.pairs.Field.{Field}
use Rattle.nb_value.specs.Value.{size}
use Rattle.nb_value.specs.Fields.{put}
use Rattle.nb_syntax.specs.declared.tree.Sign.{Sign}
use Rattle.nb_syntax.specs.declared.tree.Expr.{Expr, map-Expr, fold-roll-Expr, ind-Expr, roll-Expr}
use Rattle.nb_syntax.specs.declared.tree.Expr.TheOpen as layer
use Rattle.nb_syntax.specs.declared.tree.PathStep.{PathStep, map-PathStep, fold-roll-PathStep, roll-PathStep}
use Rattle.nb_syntax.specs.declared.tree.Member.{Member, fold_out-Member, roll-Member}
use Rattle.nb_syntax.specs.declared.tree.Operand.{Operand, fold_out-Operand, roll-Operand}
use Rattle.nb_builtins.specs.Apply.{called}
use Rattle.nb_eval.specs.declared.given.Segment.{Segment}
use Rattle.nb_eval.specs.declared.state.State.{State}
use Rattle.nb_eval.specs.declared.stop.Stop.TheVariants.{Failed}
use Rattle.nb_value.specs.declared.outcome.ErrorKind.TheVariants.{OutOfFuel}
use Rattle.nb_eval.specs.Run.{Run, Out, after, error, Called, ◌>>=◌, pure, lift, charge, done, read, as_truth, within_depth, ask}
use Rattle.nb_eval.specs.Operate.{sum_step, product_step, summed, multiplied, compared, signed, field_of, part_of}
use Rattle.nb_eval.specs.Evaluation as ev
use Rattle.nb_eval.specs.Evaluation.{Did, eval, member, path_part, operand, parts, members, chain_from, path_from, either, conjunction, disjunction, truth, comparison, test_of, chosen_value, call}
use Rattle.nb_machine.specs.declared.instr.Instr.{Instr}
use Rattle.nb_machine.specs.declared.instr.Instr.TheVariants as i
use Rattle.nb_machine.specs.declared.instr.Slot.{Slot}
use Rattle.nb_machine.specs.declared.instr.Slot.TheVariants as slot
use Rattle.nb_machine.specs.declared.instr.Word.{Word}
use Rattle.nb_machine.specs.declared.instr.Word.TheVariants as word
use Rattle.nb_machine.specs.Code as co
use Rattle.nb_machine.specs.Code.{Code, expr_code, member_code, path_code, operand_code, elements, puts, operations, path, ands, ors, choice}
use Rattle.nb_machine.specs.Machine.{Spot, spot, does, gives, to, unless, jump, billed, text_of, End}
use Rattle.nb_machine.proofs.Leads.{HasAt, has_front, has_back, After, bind, split, weaken, From, one}

abbrev pub Proved : (X : Type 0) → (X → Type 0) → Type 0
Proved X P = (x : X) × P x

abbrev bare_of : {X : Type 0} {P : X → Type 0} → Proved X P → X
bare_of x = x.0

module _ (e : End) (g : Segment) (code : Code) where
  -- from here, with this stack
  abbrev pub At : ℕ → List Slot → State → Type 0
  At pc ss s = From e g code (spot pc ss) s

  -- the code leaves the value on top
  abbrev pub CodeLeaves : Code → Did → Type 0
  CodeLeaves c d = (pc end : ℕ) (ss : List Slot) (s : State) → HasAt code pc c → end ≡ pc + length c → After e (d s) (λ v t. At end (slot.Value v ∷ ss) t) → At pc ss s

  -- the code leaves a value in the place of another
  abbrev pub CodeTurns : Code → (Value → Did) → Type 0
  CodeTurns c f = (pc end : ℕ) (ss : List Slot) (v : Value) (s : State) → HasAt code pc c → end ≡ pc + length c → After e (f v s) (λ u t. At end (slot.Value u ∷ ss) t) → At pc (slot.Value v ∷ ss) s

  -- ---- a value and its charge

  charged : (pc end : ℕ) (ss : List Slot) (v : Value) (s : State) → slice_get code pc ≡ Some i.Charge → end ≡ pc + 1 → After e (done v s) (λ u t. At end (slot.Value u ∷ ss) t) → At pc (slot.Value v ∷ ss) s
  charged pc end ss v s has is h =
      let us : List Slot = slot.Value v ∷ ss in
      one e g code (spot pc us) s i.Charge has
      (bind e (Unit {0}) Spot (λ u. to (spot pc us) us) (From e g code) (charge (1 + size v)) s
      (weaken e (Unit {0}) (λ u t. At end us t) (λ u t. At (pc + 1) us t) (charge (1 + size v) s) (λ u t w. subst (λ n. At n us t) is w)
      (split e (Unit {0}) Value (λ u. pure v) (λ u t. At end (slot.Value u ∷ ss) t) (charge (1 + size v)) s h)))

  -- an instruction that gives a value, and its charge
  paid : (x : Instr) (pc end : ℕ) (us ss : List Slot) (d : Did) (s : State) → HasAt code pc (x ∷ i.Charge ∷ []) → does g x (spot pc us) s ≡ gives (spot pc us) ss d s → end ≡ pc + 2 → After e ((d >>= done) s) (λ v t. At end (slot.Value v ∷ ss) t) → At pc us s
  paid x pc end us ss d s has same is h =
      one e g code (spot pc us) s x has.0
      (subst (λ (o : Out Spot). After e o (From e g code)) (sym same)
      (bind e Value Spot (λ v. to (spot pc us) (slot.Value v ∷ ss)) (From e g code) d s
      (weaken e Value (λ v t. After e (done v t) (λ u z. At end (slot.Value u ∷ ss) z)) (λ v t. At (pc + 1) (slot.Value v ∷ ss) t) (d s)
      (λ v t w. charged (pc + 1) end ss v t has.1.0 (omega (arith, is)) w)
      (split e Value Value done (λ v t. At end (slot.Value v ∷ ss) t) d s h))))

  constant : (v : Value) → CodeLeaves (i.Const v ∷ i.Charge ∷ []) (done v)
  constant v pc end ss s has is h = paid (i.Const v) pc end ss ss (pure v) s has refl (omega (arith, is)) h

  -- ---- parts

  abbrev pub Leaves : Expr → Type 0
  Leaves x = CodeLeaves (expr_code x) (eval g x)

  abbrev pub Turns : PathStep → Type 0
  Turns p = CodeTurns (path_code p) (path_part g p)

  abbrev pub LeavesMember : Member → Type 0
  LeavesMember m = Leaves m.value

  abbrev pub LeavesOperand : Operand → Type 0
  LeavesOperand o = Leaves o.expr

  abbrev Exprs : Type 0
  Exprs = List (Proved Expr Leaves)

  abbrev codes_of : Exprs → List Code
  codes_of xs = map expr_code (map bare_of xs)

  abbrev dids_of : Exprs → List Did
  dids_of xs = map (eval g) (map bare_of xs)

  -- an expression, what comes after it, and where it leads
  pub led : (A : Type 0) (c more : Code) (d : Did) (f : Value → Run A) (K : A → State → Type 0) (pc : ℕ) (ss : List Slot) (s : State) → CodeLeaves c d → HasAt code pc (c ++ more) → ((v : Value) (t : State) → HasAt code (pc + length c) more → After e (f v t) K → At (pc + length c) (slot.Value v ∷ ss) t) → After e ((d >>= f) s) K → At pc ss s
  led A c more d f K pc ss s leaves has next h =
      leaves pc (pc + length c) ss s (has_front code pc c more has) refl
      (weaken e Value (λ v t. After e (f v t) K) (λ v t. At (pc + length c) (slot.Value v ∷ ss) t) (d s) (λ v t w. next v t (has_back code pc c more has) w) (split e Value A f K d s h))

  all_parts : (xs : Exprs) (vs : List Value) (pc end : ℕ) (ss : List Slot) (s : State) → HasAt code pc (elements (codes_of xs)) → end ≡ pc + length (elements (codes_of xs)) → After e (parts vs (dids_of xs) s) (λ us t. At end (slot.Values us ∷ ss) t) → At pc (slot.Values vs ∷ ss) s
  all_parts [] vs pc end ss s has is h = let x : end ≡ pc = omega (arith, is) in subst (λ n. At n (slot.Values vs ∷ ss) s) x h
  all_parts (x ∷ xs) vs pc end ss s has is h =
      let c = expr_code x.0 in
      let more = elements (codes_of xs) in
      led (List Value) c (i.Append ∷ more) (eval g x.0) (λ v. parts (vs ++ v ∷ []) (dids_of xs)) (λ us t. At end (slot.Values us ∷ ss) t) pc (slot.Values vs ∷ ss) s x.1 has
      (λ v t at w. one e g code (spot (pc + length c) (slot.Value v ∷ slot.Values vs ∷ ss)) t i.Append at.0
      (all_parts xs (vs ++ v ∷ []) (pc + length c + 1) end ss t at.1 (omega (arith, is, length-append c (i.Append ∷ more))) w))
      h

  pub member_is : (m : Member) → member g m ≡ (m.key, eval g m.value)
  member_is m = fold_out-Member Did (Value → Did) (List ℕ × Did) (Sign × Did) (ev.expr_step g) (ev.path_step g) (ev.member_step g) (ev.operand_step g) m

  pub member_code_is : (m : Member) → member_code m ≡ (m.key, expr_code m.value)
  member_code_is m = fold_out-Member Code Code (List ℕ × Code) (Sign × Code) co.expr_step co.path_step co.member_step co.operand_step m

  abbrev Members : Type 0
  Members = List (Proved Member LeavesMember)

  all_members : (ms : Members) (fs : List (Field Value)) (pc end : ℕ) (ss : List Slot) (s : State) → HasAt code pc (puts (map member_code (map bare_of ms))) → end ≡ pc + length (puts (map member_code (map bare_of ms))) → After e (members fs (map (member g) (map bare_of ms)) s) (λ us t. At end (slot.Fields us ∷ ss) t) → At pc (slot.Fields fs ∷ ss) s
  all_members [] fs pc end ss s = λ has is h. let x : end ≡ pc = omega (arith, is) in subst (λ n. At n (slot.Fields fs ∷ ss) s) x h
  all_members (m ∷ ms) fs pc end ss s =
      let c = expr_code m.0.value in
      let more = puts (map member_code (map bare_of ms)) in
      let after : Value → List (Field Value) = λ v. put (record { name = m.0.key; value = v }) fs in
      rw (member_is m.0, member_code_is m.0)
      (λ has is h. led (List (Field Value)) c (i.Put m.0.key ∷ more) (eval g m.0.value) (λ v. members (after v) (map (member g) (map bare_of ms))) (λ us t. At end (slot.Fields us ∷ ss) t) pc (slot.Fields fs ∷ ss) s m.1 has
      (λ v t at w. one e g code (spot (pc + length c) (slot.Value v ∷ slot.Fields fs ∷ ss)) t (i.Put m.0.key) at.0
      (all_members ms (after v) (pc + length c + 1) end ss t at.1 (omega (arith, is, length-append c (i.Put m.0.key ∷ more))) w))
      h)

  pub operand_is : (o : Operand) → operand g o ≡ (o.sign, eval g o.expr)
  operand_is o = fold_out-Operand Did (Value → Did) (List ℕ × Did) (Sign × Did) (ev.expr_step g) (ev.path_step g) (ev.member_step g) (ev.operand_step g) o

  pub operand_code_is : (o : Operand) → operand_code o ≡ (o.sign, expr_code o.expr)
  operand_code_is o = fold_out-Operand Code Code (List ℕ × Code) (Sign × Code) co.expr_step co.path_step co.member_step co.operand_step o

  abbrev Operands : Type 0
  Operands = List (Proved Operand LeavesOperand)

  -- a chain of operators
  module _ (make : Sign → Instr) (op : Sign → Value → Value → Called Value) (same : (sign : Sign) (v w : Value) (pc : ℕ) (ss : List Slot) (s : State) → does g (make sign) (spot pc (slot.Value w ∷ slot.Value v ∷ ss)) s ≡ gives (spot pc (slot.Value w ∷ slot.Value v ∷ ss)) ss (lift (op sign v w)) s) where
    abbrev by_op : Sign → Value → Value → Did
    by_op sign v w = lift (op sign v w) >>= done

    chained : (os : Operands) (pc end : ℕ) (ss : List Slot) (v : Value) (s : State) → HasAt code pc (operations make (map operand_code (map bare_of os))) → end ≡ pc + length (operations make (map operand_code (map bare_of os))) → After e (chain_from by_op v (map (operand g) (map bare_of os)) s) (λ u t. At end (slot.Value u ∷ ss) t) → At pc (slot.Value v ∷ ss) s
    chained [] pc end ss v s = λ has is h. let x : end ≡ pc = omega (arith, is) in subst (λ n. At n (slot.Value v ∷ ss) s) x h
    chained (o ∷ os) pc end ss v s =
        let c = expr_code o.0.expr in
        let sign = o.0.sign in
        let more = operations make (map operand_code (map bare_of os)) in
        let others : Value → Did = λ u. chain_from by_op u (map (operand g) (map bare_of os)) in
        let K : Value → State → Type 0 = λ u t. At end (slot.Value u ∷ ss) t in
        rw (operand_is o.0, operand_code_is o.0)
        (λ has is h. led Value c (make sign ∷ i.Charge ∷ more) (eval g o.0.expr) (by_op sign v) (λ u t. After e (others u t) K) pc (slot.Value v ∷ ss) s o.1 has
        (λ w t at x. paid (make sign) (pc + length c) (pc + length c + 2) (slot.Value w ∷ slot.Value v ∷ ss) ss (lift (op sign v w)) t (at.0, (at.1.0, tt)) (same sign v w (pc + length c) ss t) refl
        (weaken e Value (λ u z. After e (others u z) K) (λ u z. At (pc + length c + 2) (slot.Value u ∷ ss) z) (by_op sign v w t)
        (λ u z y. chained os (pc + length c + 2) end ss u z (subst (λ n. HasAt code n more) (let q : pc + length c + 1 + 1 ≡ pc + length c + 2 = omega arith in q) at.1.1) (omega (arith, is, length-append c (make sign ∷ i.Charge ∷ more))) y)
        x))
        (split e Value Value others K (eval g o.0.expr >>= by_op sign v) s h))

  abbrev PathSteps : Type 0
  PathSteps = List (Proved PathStep Turns)

  along : (ps : PathSteps) (pc end : ℕ) (ss : List Slot) (v : Value) (s : State) → HasAt code pc (path (map path_code (map bare_of ps))) → end ≡ pc + length (path (map path_code (map bare_of ps))) → After e (path_from v (map (path_part g) (map bare_of ps)) s) (λ u t. At end (slot.Value u ∷ ss) t) → At pc (slot.Value v ∷ ss) s
  along [] pc end ss v s has is h = let x : end ≡ pc = omega (arith, is) in subst (λ n. At n (slot.Value v ∷ ss) s) x h
  along (p ∷ ps) pc end ss v s has is h =
      let c = path_code p.0 in
      let more = path (map path_code (map bare_of ps)) in
      let others : Value → Did = λ u. path_from u (map (path_part g) (map bare_of ps)) in
      let K : Value → State → Type 0 = λ u t. At end (slot.Value u ∷ ss) t in
      p.1 pc (pc + length c) ss v s (has_front code pc c more has) refl
      (weaken e Value (λ u t. After e (others u t) K) (λ u t. At (pc + length c) (slot.Value u ∷ ss) t) (path_part g p.0 v s)
      (λ u t w. along ps (pc + length c) end ss u t (has_back code pc c more has) (omega (arith, is, length-append c more)) w)
      (split e Value Value others K (path_part g p.0 v) s h))

  -- ---- tests

  abbrev pub skipped : ℕ → ℕ → Bool → ℕ
  skipped pc skip b = if b then pc + 1 else pc + 1 + skip

  abbrev pub jumped : ℕ → ℕ → Bool → ℕ
  jumped pc skip b = if b then pc + 1 + skip else pc + 1

  -- a test that jumps where it is false
  pub unless_at : (w : Word) (skip pc : ℕ) (ss : List Slot) (v : Value) (s : State) → slice_get code pc ≡ Some (i.Unless w skip) → After e (as_truth (text_of w) v s) (λ b t. At (skipped pc skip b) ss t) → At pc (slot.Value v ∷ ss) s
  unless_at w skip pc ss v s has h =
      let p = spot pc (slot.Value v ∷ ss) in
      one e g code p s (i.Unless w skip) has (bind e Bool Spot (unless p ss skip) (From e g code) (as_truth (text_of w) v) s h)

  pub when_at : (w : Word) (skip pc : ℕ) (ss : List Slot) (v : Value) (s : State) → slice_get code pc ≡ Some (i.When w skip) → After e (as_truth (text_of w) v s) (λ b t. At (jumped pc skip b) ss t) → At pc (slot.Value v ∷ ss) s
  when_at w skip pc ss v s has h =
      let p = spot pc (slot.Value v ∷ ss) in
      one e g code p s (i.When w skip) has (bind e Bool Spot (jump p ss skip) (From e g code) (as_truth (text_of w) v) s h)

  -- at one place where a test is true, and at another where it is false
  abbrev pub AtEither : ℕ → ℕ → List Slot → Bool → State → Type 0
  AtEither here there ss b t = At (if b then here else there) ss t

  all_of : (xs : Exprs) (pc end : ℕ) (ss : List Slot) (s : State) → HasAt code pc (ands (codes_of xs)) → end ≡ pc + length (ands (codes_of xs)) → After e (conjunction (dids_of xs) s) (AtEither end (end + 2) ss) → At pc ss s
  all_of [] pc end ss s has is h = let x : end ≡ pc = omega (arith, is) in subst (λ n. At n ss s) x h
  all_of (x ∷ xs) pc end ss s has is h =
      let c = expr_code x.0 in
      let more = ands (codes_of xs) in
      let skip = length more + 2 in
      let K = AtEither end (end + 2) ss in
      let at_test = pc + length c in
      let rest = either (conjunction (dids_of xs)) (pure false) in
      let far : end + 2 ≡ at_test + 1 + skip = omega (arith, is, length-append c (i.Unless word.And skip ∷ more)) in
      led Bool c (i.Unless word.And skip ∷ more) (eval g x.0) (as_truth (codes "&&")) (λ b t. After e (rest b t) K) pc ss s x.1 has
      (λ v t at w. unless_at word.And skip at_test ss v t at.0
      (weaken e Bool (λ b z. After e (rest b z) K) (λ b z. At (skipped at_test skip b) ss z) (as_truth (codes "&&") v t)
      (λ b z y. (elim b as (λ q. After e (rest q z) K → At (skipped at_test skip q) ss z) [
        | true ↦ all_of xs (at_test + 1) end ss z at.1 (omega (arith, far))
        | false ↦ λ k. subst (λ n. At n ss z) far k
      ]) y)
      w))
      (split e Bool Bool rest K (eval g x.0 >>= as_truth (codes "&&")) s h)

  some_of : (xs : Exprs) (pc end : ℕ) (ss : List Slot) (s : State) → HasAt code pc (ors (codes_of xs)) → end ≡ pc + length (ors (codes_of xs)) → After e (disjunction (dids_of xs) s) (AtEither (end + 2) end ss) → At pc ss s
  some_of [] pc end ss s has is h = let x : end ≡ pc = omega (arith, is) in subst (λ n. At n ss s) x h
  some_of (x ∷ xs) pc end ss s has is h =
      let c = expr_code x.0 in
      let more = ors (codes_of xs) in
      let skip = length more + 2 in
      let K = AtEither (end + 2) end ss in
      let at_test = pc + length c in
      let rest = either (pure true) (disjunction (dids_of xs)) in
      let far : end + 2 ≡ at_test + 1 + skip = omega (arith, is, length-append c (i.When word.Or skip ∷ more)) in
      led Bool c (i.When word.Or skip ∷ more) (eval g x.0) (as_truth (codes "||")) (λ b t. After e (rest b t) K) pc ss s x.1 has
      (λ v t at w. when_at word.Or skip at_test ss v t at.0
      (weaken e Bool (λ b z. After e (rest b z) K) (λ b z. At (jumped at_test skip b) ss z) (as_truth (codes "||") v t)
      (λ b z y. (elim b as (λ q. After e (rest q z) K → At (jumped at_test skip q) ss z) [
        | true ↦ λ k. subst (λ n. At n ss z) far k
        | false ↦ some_of xs (at_test + 1) end ss z at.1 (omega (arith, far))
      ]) y)
      w))
      (split e Bool Bool rest K (eval g x.0 >>= as_truth (codes "||")) s h)

  sim_choice : (c a b : Expr) → Leaves c → Leaves a → Leaves b → CodeLeaves (choice (expr_code c) (expr_code a) (expr_code b)) (test_of (eval g c) >>= (λ t. chosen_value (either (eval g a) (eval g b) t)))
  sim_choice c a b hc ha hb pc end ss s has is h =
      let cc = expr_code c in
      let ca = expr_code a in
      let cb = expr_code b in
      let rest2 = i.Go (length cb) ∷ (cb ++ i.Charge ∷ []) in
      let rest1 = i.Unless word.Choice (length ca + 1) ∷ (ca ++ rest2) in
      let p1 = pc + length cc in
      let p2 = p1 + 1 + length ca in
      let K : Value → State → Type 0 = λ u t. At end (slot.Value u ∷ ss) t in
      let chosen : Bool → Did = λ t. chosen_value (either (eval g a) (eval g b) t) in
      let at_end : end ≡ p2 + 1 + length cb + 1 = omega (arith, is, length-append cc rest1, length-append ca rest2, length-append cb (i.Charge ∷ [])) in
      led Bool cc rest1 (eval g c) (as_truth (codes "?")) (λ x t. After e (chosen x t) K) pc ss s hc has
      (λ v t at w. unless_at word.Choice (length ca + 1) p1 ss v t at.0
      (weaken e Bool (λ x z. After e (chosen x z) K) (λ x z. At (skipped p1 (length ca + 1) x) ss z) (as_truth (codes "?") v t)
      (λ x z y. (elim x as (λ q. After e (chosen q z) K → At (skipped p1 (length ca + 1) q) ss z) [
        | true ↦ led Value ca rest2 (eval g a) done K (p1 + 1) ss z ha at.1
            (λ u r here k. one e g code (spot p2 (slot.Value u ∷ ss)) r (i.Go (length cb)) here.0
            (charged (p2 + 1 + length cb) end ss u r (has_back code (p2 + 1) cb (i.Charge ∷ []) here.1).0 at_end k))
        | false ↦ λ k.
            let moved : p2 + 1 ≡ p1 + 1 + (length ca + 1) = omega arith in
            subst (λ n. At n ss z) moved
            (led Value cb (i.Charge ∷ []) (eval g b) done K (p2 + 1) ss z hb (has_back code (p1 + 1) ca rest2 at.1).1
            (λ u r here k. charged (p2 + 1 + length cb) end ss u r here.0 at_end k)
            k)
      ]) y)
      w))
      (split e Bool Value chosen K (test_of (eval g c)) s h)

  -- ---- calls

  -- the charge of what a function gave, which the fuel may not pay for
  bill : (pc end : ℕ) (ss : List Slot) (v : Value) (s : State) → slice_get code pc ≡ Some i.Charge → end ≡ pc + 1 → After e (done v s) (λ u t. At end (slot.Value u ∷ ss) t) → At pc (billed s.fuel v ∷ ss) s
  bill pc end ss v s has is h = by_fuel (nat_lt s.fuel (1 + size v)) refl
    where
      by_fuel : (b : Bool) → nat_lt s.fuel (1 + size v) ≡ b → At pc ((if b then slot.Unpaid else slot.Value v) ∷ ss) s
      by_fuel false x = charged pc end ss v s has is h
      by_fuel true x = one e g code (spot pc (slot.Unpaid ∷ ss)) s i.Charge has
          (subst (λ (q : Bool). After e (after (charge_if q).0 (charge_if q).1 (λ u. pure v)) (λ u t. At end (slot.Value u ∷ ss) t)) x h)
        where
          charge_if : Bool → Out (Unit {0})
          charge_if q = if q then (Err (Failed (error OutOfFuel [])), record s { charges = s.charges + 1 }) else (Ok tt, record s { fuel = s.fuel - (1 + size v); charges = s.charges + 1 })

  -- the values of parts, and what comes after them
  gathered : (A : Type 0) (xs : Exprs) (more : Code) (f : List Value → Run A) (K : A → State → Type 0) (pc : ℕ) (ss : List Slot) (s : State) → HasAt code pc (i.Values ∷ (elements (codes_of xs) ++ more))
      → ((vs : List Value) (t : State) → HasAt code (pc + 1 + length (elements (codes_of xs))) more → After e (f vs t) K → At (pc + 1 + length (elements (codes_of xs))) (slot.Values vs ∷ ss) t)
      → After e ((parts [] (dids_of xs) >>= f) s) K → At pc ss s
  gathered A xs more f K pc ss s has next h =
      let c = elements (codes_of xs) in
      one e g code (spot pc ss) s i.Values has.0
      (all_parts xs [] (pc + 1) (pc + 1 + length c) ss s (has_front code (pc + 1) c more has.1) refl
      (weaken e (List Value) (λ vs t. After e (f vs t) K) (λ vs t. At (pc + 1 + length c) (slot.Values vs ∷ ss) t) (parts [] (dids_of xs) s)
      (λ vs t w. next vs t (has_back code (pc + 1) c more has.1) w)
      (split e (List Value) A f K (parts [] (dids_of xs)) s h)))

  -- ---- one layer of an expression

  abbrev pub Layer : Type 0
  Layer = layer.Expr-F (Proved Expr Leaves) (Proved PathStep Turns) (Proved Member LeavesMember) (Proved Operand LeavesOperand)

  abbrev bare : Layer → layer.Expr-F Expr PathStep Member Operand
  bare = map-Expr (Proved Expr Leaves) (Proved PathStep Turns) (Proved Member LeavesMember) (Proved Operand LeavesOperand) Expr PathStep Member Operand bare_of bare_of bare_of bare_of

  abbrev dids : layer.Expr-F Expr PathStep Member Operand → layer.Expr-F Did (Value → Did) (List ℕ × Did) (Sign × Did)
  dids = map-Expr Expr PathStep Member Operand Did (Value → Did) (List ℕ × Did) (Sign × Did) (eval g) (path_part g) (member g) (operand g)

  abbrev codes_in : layer.Expr-F Expr PathStep Member Operand → layer.Expr-F Code Code (List ℕ × Code) (Sign × Code)
  codes_in = map-Expr Expr PathStep Member Operand Code Code (List ℕ × Code) (Sign × Code) expr_code path_code member_code operand_code

  eval_roll : (x : layer.Expr-F Expr PathStep Member Operand) → eval g (roll-Expr x) ≡ ev.expr_step g (dids x)
  eval_roll x = fold-roll-Expr Did (Value → Did) (List ℕ × Did) (Sign × Did) (ev.expr_step g) (ev.path_step g) (ev.member_step g) (ev.operand_step g) x

  code_roll : (x : layer.Expr-F Expr PathStep Member Operand) → expr_code (roll-Expr x) ≡ co.expr_step (codes_in x)
  code_roll x = fold-roll-Expr Code Code (List ℕ × Code) (Sign × Code) co.expr_step co.path_step co.member_step co.operand_step x

  at_layer : (y : Layer) → CodeLeaves (co.expr_step (codes_in (bare y))) (ev.expr_step g (dids (bare y)))
  at_layer (layer.Int n) pc end ss s has is h = constant (V.Int n) pc end ss s has is h
  at_layer (layer.Quoted x) pc end ss s has is h = constant (V.Text x) pc end ss s has is h
  at_layer (layer.Bool b) pc end ss s has is h = constant (V.Bool b) pc end ss s has is h
  at_layer layer.Null pc end ss s has is h = constant V.Null pc end ss s has is h
  at_layer (layer.Name n) pc end ss s has is h = paid (i.Name n) pc end ss ss (read g n) s has refl (omega (arith, is)) h
  at_layer (layer.List xs) pc end ss s has is h =
      let c = elements (codes_of xs) in
      let tail = i.List ∷ i.Charge ∷ [] in
      let K : Value → State → Type 0 = λ u t. At end (slot.Value u ∷ ss) t in
      let make : List Value → Did = λ vs. lift (within_depth (V.List vs)) in
      gathered Value xs tail make (λ v t. After e (done v t) K) pc ss s has
      (λ vs t at w. paid i.List (pc + 1 + length c) end (slot.Values vs ∷ ss) ss (make vs) t at refl (omega (arith, is, length-append c tail)) (bind e Value Value done K (make vs) t w))
      (split e Value Value done K (parts [] (dids_of xs) >>= make) s h)
  at_layer (layer.Rec ms) pc end ss s has is h =
      let c = puts (map member_code (map bare_of ms)) in
      let tail = i.Record ∷ i.Charge ∷ [] in
      let K : Value → State → Type 0 = λ u t. At end (slot.Value u ∷ ss) t in
      let make : List (Field Value) → Did = λ fs. lift (within_depth (V.Rec fs)) in
      let all = members [] (map (member g) (map bare_of ms)) in
      one e g code (spot pc ss) s i.Fields has.0
      (all_members ms [] (pc + 1) (pc + 1 + length c) ss s (has_front code (pc + 1) c tail has.1) refl
      (weaken e (List (Field Value)) (λ fs t. After e (make fs t) (λ v z. After e (done v z) K)) (λ fs t. At (pc + 1 + length c) (slot.Fields fs ∷ ss) t) (all s)
      (λ fs t w. paid i.Record (pc + 1 + length c) end (slot.Fields fs ∷ ss) ss (make fs) t (has_back code (pc + 1) c tail has.1) refl (omega (arith, is, length-append c tail)) (bind e Value Value done K (make fs) t w))
      (split e (List (Field Value)) Value make (λ v z. After e (done v z) K) all s (split e Value Value done K (all >>= make) s h))))
  at_layer (layer.Call f xs) pc end ss s has is h =
      let c = elements (codes_of xs) in
      let tail = i.Call f ∷ i.Charge ∷ [] in
      let K : Value → State → Type 0 = λ u t. At end (slot.Value u ∷ ss) t in
      let pt = pc + 1 + length c in
      gathered Value xs tail (call f) K pc ss s has
      (λ vs t at w.
      let p = spot pt (slot.Values vs ∷ ss) in
      one e g code p t (i.Call f) at.0
      (bind e Value Spot (λ v z. to p (billed z.fuel v ∷ ss) z) (From e g code) (lift (called f vs)) t
      (weaken e Value (λ v z. After e (done v z) K) (λ v z. At (pt + 1) (billed z.fuel v ∷ ss) z) (lift (called f vs) t)
      (λ v z y. bill (pt + 1) end ss v z at.1.0 (omega (arith, is, length-append c tail)) y)
      (split e Value Value done K (lift (called f vs)) t w))))
      h
  at_layer (layer.Fetch x) pc end ss s has is h =
      let c = expr_code x.0 in
      let tail = i.Fetch ∷ i.Charge ∷ [] in
      let K : Value → State → Type 0 = λ u t. At end (slot.Value u ∷ ss) t in
      led Value c tail (eval g x.0) (ask g) (λ v t. After e (done v t) K) pc ss s x.1 has
      (λ v t at w. paid i.Fetch (pc + length c) end (slot.Value v ∷ ss) ss (ask g v) t at refl (omega (arith, is, length-append c tail)) (bind e Value Value done K (ask g v) t w))
      (split e Value Value done K (eval g x.0 >>= ask g) s h)
  at_layer (layer.Path x steps) pc end ss s has is h =
      let c = expr_code x.0 in
      let more = path (map path_code (map bare_of steps)) in
      led Value c more (eval g x.0) (λ v. path_from v (map (path_part g) (map bare_of steps))) (λ u t. At end (slot.Value u ∷ ss) t) pc ss s x.1 has
      (λ v t at w. along steps (pc + length c) end ss v t at (omega (arith, is, length-append c more)) w)
      h
  at_layer (layer.Unary sign x) pc end ss s has is h =
      let c = expr_code x.0 in
      let tail = i.Unary sign ∷ i.Charge ∷ [] in
      let K : Value → State → Type 0 = λ u t. At end (slot.Value u ∷ ss) t in
      let make : Value → Did = λ v. lift (signed sign v) in
      led Value c tail (eval g x.0) make (λ v t. After e (done v t) K) pc ss s x.1 has
      (λ v t at w. paid (i.Unary sign) (pc + length c) end (slot.Value v ∷ ss) ss (make v) t at refl (omega (arith, is, length-append c tail)) (bind e Value Value done K (make v) t w))
      (split e Value Value done K (eval g x.0 >>= make) s h)
  at_layer (layer.Product x os) pc end ss s has is h =
      let c = expr_code x.0 in
      let more = operations i.Product (map operand_code (map bare_of os)) in
      led Value c more (eval g x.0) (λ v. chain_from product_step v (map (operand g) (map bare_of os))) (λ u t. At end (slot.Value u ∷ ss) t) pc ss s x.1 has
      (λ v t at w. chained i.Product multiplied (λ a b d k r z. refl) os (pc + length c) end ss v t at (omega (arith, is, length-append c more)) w)
      h
  at_layer (layer.Sum x os) pc end ss s has is h =
      let c = expr_code x.0 in
      let more = operations i.Sum (map operand_code (map bare_of os)) in
      led Value c more (eval g x.0) (λ v. chain_from sum_step v (map (operand g) (map bare_of os))) (λ u t. At end (slot.Value u ∷ ss) t) pc ss s x.1 has
      (λ v t at w. chained i.Sum summed (λ a b d k r z. refl) os (pc + length c) end ss v t at (omega (arith, is, length-append c more)) w)
      h
  at_layer (layer.Compare sign a b) pc end ss s has is h =
      let ca = expr_code a.0 in
      let cb = expr_code b.0 in
      let tail = i.Compare sign ∷ i.Charge ∷ [] in
      let p1 = pc + length ca in
      let K : Value → State → Type 0 = λ u t. At end (slot.Value u ∷ ss) t in
      let make : Value → Value → Did = λ v w. lift (compared sign v w) in
      led Value ca (cb ++ tail) (eval g a.0) (λ v. comparison sign v (eval g b.0)) K pc ss s a.1 has
      (λ v t at w. led Value cb tail (eval g b.0) (make v) (λ u z. After e (done u z) K) p1 (slot.Value v ∷ ss) t b.1 at
      (λ u z here y. paid (i.Compare sign) (p1 + length cb) end (slot.Value u ∷ slot.Value v ∷ ss) ss (make v u) z here refl (omega (arith, is, length-append ca (cb ++ tail), length-append cb tail)) (bind e Value Value done K (make v u) z y))
      (split e Value Value done K (eval g b.0 >>= make v) t w))
      h
  at_layer (layer.And xs) pc end ss s has is h =
      let c = ands (codes_of xs) in
      let tail = i.Const (V.Bool true) ∷ i.Go 1 ∷ i.Const (V.Bool false) ∷ i.Charge ∷ [] in
      let K : Value → State → Type 0 = λ u t. At end (slot.Value u ∷ ss) t in
      let pt = pc + length c in
      let here : HasAt code pt tail = has_back code pc c tail has in
      let last : end ≡ pt + 3 + 1 = omega (arith, is, length-append c tail) in
      let owes : (v : Value) (z : State) → After e (done v z) K → At (pt + 3) (slot.Value v ∷ ss) z = λ v z y. charged (pt + 3) end ss v z (subst (λ n. slice_get code n ≡ Some i.Charge) (let q : pt + 1 + 1 + 1 ≡ pt + 3 = omega arith in q) here.1.1.1.0) last y in
      all_of xs pc pt ss s (has_front code pc c tail has) refl
      (weaken e Bool (λ b t. After e (truth b t) K) (AtEither pt (pt + 2) ss) (conjunction (dids_of xs) s)
      (λ b t w. (elim b as (λ q. After e (truth q t) K → At (if q then pt else pt + 2) ss t) [
        | true ↦ λ k. one e g code (spot pt ss) t (i.Const (V.Bool true)) here.0
            (one e g code (spot (pt + 1) (slot.Value (V.Bool true) ∷ ss)) t (i.Go 1) here.1.0
            (subst (λ n. At n (slot.Value (V.Bool true) ∷ ss) t) (let q : pt + 3 ≡ pt + 1 + 1 + 1 = omega arith in q) (owes (V.Bool true) t k)))
        | false ↦ λ k. one e g code (spot (pt + 2) ss) t (i.Const (V.Bool false)) (subst (λ n. slice_get code n ≡ Some (i.Const (V.Bool false))) (let q : pt + 1 + 1 ≡ pt + 2 = omega arith in q) here.1.1.0)
            (subst (λ n. At n (slot.Value (V.Bool false) ∷ ss) t) (let q : pt + 3 ≡ pt + 2 + 1 = omega arith in q) (owes (V.Bool false) t k))
      ]) w)
      (split e Bool Value truth K (conjunction (dids_of xs)) s h))
  at_layer (layer.Or xs) pc end ss s has is h =
      let c = ors (codes_of xs) in
      let tail = i.Const (V.Bool false) ∷ i.Go 1 ∷ i.Const (V.Bool true) ∷ i.Charge ∷ [] in
      let K : Value → State → Type 0 = λ u t. At end (slot.Value u ∷ ss) t in
      let pt = pc + length c in
      let here : HasAt code pt tail = has_back code pc c tail has in
      let last : end ≡ pt + 3 + 1 = omega (arith, is, length-append c tail) in
      let owes : (v : Value) (z : State) → After e (done v z) K → At (pt + 3) (slot.Value v ∷ ss) z = λ v z y. charged (pt + 3) end ss v z (subst (λ n. slice_get code n ≡ Some i.Charge) (let q : pt + 1 + 1 + 1 ≡ pt + 3 = omega arith in q) here.1.1.1.0) last y in
      some_of xs pc pt ss s (has_front code pc c tail has) refl
      (weaken e Bool (λ b t. After e (truth b t) K) (AtEither (pt + 2) pt ss) (disjunction (dids_of xs) s)
      (λ b t w. (elim b as (λ q. After e (truth q t) K → At (if q then pt + 2 else pt) ss t) [
        | false ↦ λ k. one e g code (spot pt ss) t (i.Const (V.Bool false)) here.0
            (one e g code (spot (pt + 1) (slot.Value (V.Bool false) ∷ ss)) t (i.Go 1) here.1.0
            (subst (λ n. At n (slot.Value (V.Bool false) ∷ ss) t) (let q : pt + 3 ≡ pt + 1 + 1 + 1 = omega arith in q) (owes (V.Bool false) t k)))
        | true ↦ λ k. one e g code (spot (pt + 2) ss) t (i.Const (V.Bool true)) (subst (λ n. slice_get code n ≡ Some (i.Const (V.Bool true))) (let q : pt + 1 + 1 ≡ pt + 2 = omega arith in q) here.1.1.0)
            (subst (λ n. At n (slot.Value (V.Bool true) ∷ ss) t) (let q : pt + 3 ≡ pt + 2 + 1 = omega arith in q) (owes (V.Bool true) t k))
      ]) w)
      (split e Bool Value truth K (disjunction (dids_of xs)) s h))
  at_layer (layer.Choose c a b) pc end ss s has is h = sim_choice c.0 a.0 b.0 c.1 a.1 b.1 pc end ss s has is h

  abbrev StepLayer : Type 0
  StepLayer = layer.PathStep-F (Proved Expr Leaves) (Proved PathStep Turns) (Proved Member LeavesMember) (Proved Operand LeavesOperand)

  abbrev bare_step : StepLayer → layer.PathStep-F Expr PathStep Member Operand
  bare_step = map-PathStep (Proved Expr Leaves) (Proved PathStep Turns) (Proved Member LeavesMember) (Proved Operand LeavesOperand) Expr PathStep Member Operand bare_of bare_of bare_of bare_of

  abbrev step_dids : layer.PathStep-F Expr PathStep Member Operand → layer.PathStep-F Did (Value → Did) (List ℕ × Did) (Sign × Did)
  step_dids = map-PathStep Expr PathStep Member Operand Did (Value → Did) (List ℕ × Did) (Sign × Did) (eval g) (path_part g) (member g) (operand g)

  abbrev step_codes : layer.PathStep-F Expr PathStep Member Operand → layer.PathStep-F Code Code (List ℕ × Code) (Sign × Code)
  step_codes = map-PathStep Expr PathStep Member Operand Code Code (List ℕ × Code) (Sign × Code) expr_code path_code member_code operand_code

  step_roll : (x : layer.PathStep-F Expr PathStep Member Operand) → path_part g (roll-PathStep x) ≡ ev.path_step g (step_dids x)
  step_roll x = fold-roll-PathStep Did (Value → Did) (List ℕ × Did) (Sign × Did) (ev.expr_step g) (ev.path_step g) (ev.member_step g) (ev.operand_step g) x

  step_code_roll : (x : layer.PathStep-F Expr PathStep Member Operand) → path_code (roll-PathStep x) ≡ co.path_step (step_codes x)
  step_code_roll x = fold-roll-PathStep Code Code (List ℕ × Code) (Sign × Code) co.expr_step co.path_step co.member_step co.operand_step x

  at_step : (y : StepLayer) → CodeTurns (co.path_step (step_codes (bare_step y))) (ev.path_step g (step_dids (bare_step y)))
  at_step (layer.Field n) pc end ss v s has is h = paid (i.Field n) pc end (slot.Value v ∷ ss) ss (lift (field_of n v)) s has refl (omega (arith, is)) h
  at_step (layer.At x) pc end ss v s has is h =
      let c = expr_code x.0 in
      let tail = i.At ∷ i.Charge ∷ [] in
      let K : Value → State → Type 0 = λ u t. At end (slot.Value u ∷ ss) t in
      let make : Value → Did = λ at. lift (part_of v at) in
      led Value c tail (eval g x.0) make (λ u t. After e (done u t) K) pc (slot.Value v ∷ ss) s x.1 has
      (λ u t at w. paid i.At (pc + length c) end (slot.Value u ∷ slot.Value v ∷ ss) ss (make u) t at refl (omega (arith, is, length-append c tail)) (bind e Value Value done K (make u) t w))
      (split e Value Value done K (eval g x.0 >>= make) s h)

  -- the machine follows the definition over every expression
  pub leaves : (x : Expr) → Leaves x
  leaves = ind-Expr Leaves Turns LeavesMember LeavesOperand
      (λ x y is. subst (λ z. Leaves (roll-Expr z)) is (rw (eval_roll (bare y), code_roll (bare y)) (at_layer y)))
      (λ x y is. subst (λ z. Turns (roll-PathStep z)) is (rw (step_roll (bare_step y), step_code_roll (bare_step y)) (at_step y)))
      (λ x y is. subst (λ z. LeavesMember (roll-Member z)) is y.value.1)
      (λ x y is. subst (λ z. LeavesOperand (roll-Operand z)) is y.expr.1)
