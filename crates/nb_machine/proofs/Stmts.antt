-- The machine follows the definition over statements, and over a cell.
use Rattle.std.proofs.Common.{◌≡◌, ℕ, zero, suc, ◌+◌, ◌-◌, ◌<◌, ◌≤◌, Bool, true, false, List, [], ◌∷◌, ◌++◌, map, length, Some, None, Result, Ok, Err, refl, sym, ap, subst, codes, arith, length-append}
use Rattle.std.specs.Prelude.{slice_get}
use Rattle.nb_value.specs.declared.value.Value.{Value}
use Rattle.nb_value.specs.declared.value.Value.TheVariants as V
use Rattle.nb_syntax.specs.declared.tree.Expr.{Expr}
use Rattle.nb_syntax.specs.declared.tree.Stmt.{Stmt, map-Stmt, fold-roll-Stmt, roll-Stmt}
use Rattle.nb_syntax.specs.declared.tree.Stmt.TheOpen as level
use Rattle.nb_syntax.specs.declared.tree.Arm.{Arm, fold_out-Arm, roll-Arm}
use Rattle.nb_syntax.specs.declared.tree.Block.{Block, ind-Block, fold_out-Block, roll-Block}
use Rattle.nb_syntax.specs.declared.tree.Body.{Body}
use Rattle.nb_syntax.specs.declared.tree.Body.TheVariants as body
use Rattle.nb_eval.specs.declared.given.Segment.{Segment}
use Rattle.nb_eval.specs.declared.state.State.{State}
use Rattle.nb_eval.specs.declared.stop.Stop.{Stop}
use Rattle.nb_eval.specs.declared.stop.Stop.TheVariants as stops
use Rattle.nb_eval.specs.Run.{Run, Out, ◌>>=◌, ◌>>◌, pure, stop, lift, tick, keep, assign, cut_to, scoped, as_truth, items_of, yielded, cleaned, thrown, budget, start_state}
use Rattle.nb_eval.specs.Evaluation as ev
use Rattle.nb_eval.specs.Evaluation.{Did, Acts, eval, either, or_skip, ran, choose, turns, loop, each, in_order, act, arm, act_block, eval_body, run}
use Rattle.nb_eval.proofs.Spending.{the_out, Pays, went, eval_less, block_pays}
use Rattle.nb_machine.specs.declared.instr.Instr.{Instr}
use Rattle.nb_machine.specs.declared.instr.Instr.TheVariants as i
use Rattle.nb_machine.specs.declared.instr.Slot.{Slot}
use Rattle.nb_machine.specs.declared.instr.Slot.TheVariants as slot
use Rattle.nb_machine.specs.declared.instr.Word.TheVariants as word
use Rattle.nb_machine.specs.Code as co
use Rattle.nb_machine.specs.Code.{Code, expr_code, other_code, arms_code, while_code, for_code, stmt_code, arm_code, block_code, body_code}
use Rattle.nb_machine.specs.Machine.{Spot, spot, does, acts, to, code_of, End, Ends, end_in, end_of}
use Rattle.nb_machine.proofs.Leads.{HasAt, has_front, has_back, has_after, After, Wp, bind, split, weaken, weaken_at, From, one}
use Rattle.nb_machine.proofs.Exprs.{Proved, At, CodeLeaves, leaves, led, unless_at, skipped}

abbrev bare_of : {X : Type 0} {P : X → Type 0} → Proved X P → X
bare_of x = x.0

module _ (e : End) (g : Segment) (code : Code) where
  abbrev There : ℕ → List Slot → State → Type 0
  There = At e g code

  -- the code does this, and leaves the stack
  abbrev pub CodeActs : Code → Acts → Type 0
  CodeActs c p = (pc end : ℕ) (ss : List Slot) (s : State) → HasAt code pc c → end ≡ pc + length c → After e (p s) (λ u t. There end ss t) → There pc ss s

  -- an instruction that does something
  acting : (x : Instr) (pc end : ℕ) (us ss : List Slot) (d : Acts) (s : State) → slice_get code pc ≡ Some x → does g x (spot pc us) s ≡ acts (spot pc us) ss d s → end ≡ pc + 1 → After e (d s) (λ u t. There end ss t) → There pc us s
  acting x pc end us ss d s has same is h =
      one e g code (spot pc us) s x has
      (subst (λ (o : Out Spot). After e o (From e g code)) (sym same)
      (bind e (Unit {0}) Spot (λ u. to (spot pc us) ss) (From e g code) d s
      (weaken e (Unit {0}) (λ u t. There end ss t) (λ u t. There (pc + 1) ss t) (d s) (λ u t w. subst (λ n. There n ss t) is w) h)))

  -- a statement's charge, and what comes after it
  ticked : (A : Type 0) (more : Code) (p : Run A) (K : A → State → Type 0) (pc : ℕ) (ss : List Slot) (s : State) → HasAt code pc (i.Tick ∷ more) → ((t : State) → HasAt code (pc + 1) more → After e (p t) K → There (pc + 1) ss t) → After e ((tick >> p) s) K → There pc ss s
  ticked A more p K pc ss s has next h =
      acting i.Tick pc (pc + 1) ss ss tick s has.0 refl refl
      (weaken e (Unit {0}) (λ u t. After e (p t) K) (λ u t. There (pc + 1) ss t) (tick s) (λ u t w. next t has.1 w) (split e (Unit {0}) A (λ u. p) K tick s h))

  -- a statement that uses a value
  used : (A : Type 0) (x : Expr) (tail : Code) (f : Value → Run A) (K : A → State → Type 0) (pc : ℕ) (ss : List Slot) (s : State) → HasAt code pc (i.Tick ∷ (expr_code x ++ tail))
      → ((v : Value) (t : State) → HasAt code (pc + 1 + length (expr_code x)) tail → After e (f v t) K → There (pc + 1 + length (expr_code x)) (slot.Value v ∷ ss) t)
      → After e ((tick >> eval g x >>= f) s) K → There pc ss s
  used A x tail f K pc ss s has next h =
      ticked Value (expr_code x ++ tail) (eval g x) (λ v t. After e (f v t) K) pc ss s has
      (λ t at w. led e g code A (expr_code x) tail (eval g x) f K (pc + 1) ss t (leaves e g code x) at next (bind e Value A f K (eval g x) t w))
      (split e Value A f K (tick >> eval g x) s h)

  -- and whose last instruction does something with it
  using : (x : Expr) (last : Instr) (f : Value → Acts) → ((v : Value) (pc : ℕ) (ss : List Slot) (t : State) → does g last (spot pc (slot.Value v ∷ ss)) t ≡ acts (spot pc (slot.Value v ∷ ss)) ss (f v) t) → CodeActs (i.Tick ∷ (expr_code x ++ last ∷ [])) (tick >> eval g x >>= f)
  using x last f same pc end ss s has is h =
      let c = expr_code x in
      used (Unit {0}) x (last ∷ []) f (λ u t. There end ss t) pc ss s has
      (λ v t at w. acting last (pc + 1 + length c) end (slot.Value v ∷ ss) ss (f v) t at.0 (same v (pc + 1 + length c) ss t) (omega (arith, is, length-append c (last ∷ []))) w)
      h

  -- ---- a loop

  module _ (ct cb : Code) (d : Did) (b : Acts) (hd : CodeLeaves e g code ct d) (hb : CodeActs cb b)
      (less : (s t : State) (v : Value) → d s ≡ (the_out Value v t) → budget g t < budget g s) (no_more : (s t : State) → b s ≡ (the_out (Unit {0}) tt t) → budget g t ≤ budget g s) where
    turn : (n pc end : ℕ) (ss : List Slot) (s : State) → HasAt code pc (while_code ct cb) → end ≡ pc + length (while_code ct cb) → budget g s < n → After e (turns n d b s) (λ u t. There end ss t) → There pc ss s
    turn zero pc end ss s has is lt h = absurd (omega (arith, lt))
    turn (suc n) pc end ss s has is lt h =
        let back = length ct + 1 + length cb in
        let rest2 = i.Back back ∷ [] in
        let rest1 = i.Unless word.While (length cb + 1) ∷ (cb ++ rest2) in
        let p1 = pc + length ct in
        let p2 = p1 + 1 + length cb in
        let K : Unit {0} → State → Type 0 = λ u t. There end ss t in
        let rest = either (b >> turns n d b) (pure tt) in
        let at1 = has_back code pc ct rest1 has in
        let far : end ≡ p1 + 1 + (length cb + 1) = omega (arith, is, length-append ct rest1, length-append cb rest2) in
        let start : p2 - back ≡ pc = omega arith in
        hd pc p1 ss s (has_front code pc ct rest1 has) refl
        (weaken_at e Value (λ v t. After e (as_truth (codes "while") v t) (λ x z. After e (rest x z) K)) (λ v t. There p1 (slot.Value v ∷ ss) t) (d s)
        (λ v t same w. unless_at e g code word.While (length cb + 1) p1 ss v t at1.0
        (weaken_at e Bool (λ x z. After e (rest x z) K) (λ x z. There (skipped e g code p1 (length cb + 1) x) ss z) (as_truth (codes "while") v t)
        (λ x z kept y. (elim x as (λ q. After e (rest q z) K → There (skipped e g code p1 (length cb + 1) q) ss z) [
          | true ↦ λ k. hb (p1 + 1) p2 ss z (has_front code (p1 + 1) cb rest2 at1.1) refl
              (weaken_at e (Unit {0}) (λ u r. After e (turns n d b r) K) (λ u r. There p2 ss r) (b z)
              (λ u r ran k'. one e g code (spot p2 ss) r (i.Back back) (has_back code (p1 + 1) cb rest2 at1.1).0
              (subst (λ m. There m ss r) (sym start)
              (turn n pc end ss r has is
              (let moved : t ≡ z = ap (λ (o : Out Bool). o.1) kept in
              let fewer : budget g z < budget g s = subst (λ q. budget g q < budget g s) moved (less s t v same) in
              omega (arith, fewer, no_more z r ran, lt))
              k')))
              (split e (Unit {0}) (Unit {0}) (λ u. turns n d b) K b z k))
          | false ↦ λ k. subst (λ m. There m ss z) far k
        ]) y)
        w))
        (split e Value Bool (as_truth (codes "while")) (λ x z. After e (rest x z) K) d s (split e Bool (Unit {0}) rest K (d >>= as_truth (codes "while")) s h)))

    looped : CodeActs (while_code ct cb) (loop g d b)
    looped pc end ss s has is h = turn (suc (budget g s)) pc end ss s has is (omega arith) h

  -- ---- turns over values

  module _ (n : List ℕ) (cb : Code) (b : Acts) (hb : CodeActs cb b) where
    turned : (vs : List Value) (pc end : ℕ) (ss : List Slot) (s : State) → HasAt code pc (for_code n cb) → end ≡ pc + length (for_code n cb) → After e (each n b vs s) (λ u t. There end ss t) → There pc (slot.Turns vs ∷ ss) s
    turned [] pc end ss s has is h =
        let tail = i.Leave ∷ i.Back (length cb + 4) ∷ [] in
        let far : end ≡ pc + 1 + (length cb + 4) = omega (arith, is, length-append cb tail) in
        one e g code (spot pc (slot.Turns [] ∷ ss)) s (i.Next (length cb + 4)) has.0 (subst (λ m. There m ss s) far h)
    turned (v ∷ vs) pc end ss s has is h =
        let tail = i.Leave ∷ i.Back (length cb + 4) ∷ [] in
        let us : List Slot = slot.Turns (v ∷ vs) ∷ ss in
        let K : Unit {0} → State → Type 0 = λ u t. There end ss t in
        let p3 = pc + 1 + 1 + 1 in
        let p4 = p3 + length cb in
        let at = has_back code p3 cb tail has.1.1.1 in
        let again : p4 + 1 - (length cb + 4) ≡ pc = omega arith in
        one e g code (spot pc us) s (i.Next (length cb + 4)) has.0
        (acting i.Tick (pc + 1) (pc + 1 + 1) us us tick s has.1.0 refl refl
        (weaken e (Unit {0}) (λ u t. After e (scoped (keep n v >> b) t) (λ u z. After e (each n b vs z) K)) (λ u t. There (pc + 1 + 1) us t) (tick s)
        (λ u t w.
        let len = length t.locals in
        let ms : List Slot = slot.Mark len ∷ slot.Turns vs ∷ ss in
        let M : Unit {0} → State → Type 0 = λ u z. After e (each n b vs z) K in
        one e g code (spot (pc + 1 + 1) us) t (i.Take n) has.1.1.0
        (bind e (Unit {0}) Spot (λ u. to (spot (pc + 1 + 1) us) ms) (From e g code) (keep n v) t
        (weaken e (Unit {0}) (λ u z. After e (b z) (λ u y. After e (cut_to len y) M)) (λ u z. There p3 ms z) (keep n v t)
        (λ u z k. hb p3 p4 ms z (has_front code p3 cb tail has.1.1.1) refl
        (weaken e (Unit {0}) (λ u y. After e (cut_to len y) M) (λ u y. There p4 ms y) (b z)
        (λ u y k'. acting i.Leave p4 (p4 + 1) ms (slot.Turns vs ∷ ss) (cut_to len) y at.0 refl refl
        (weaken e (Unit {0}) M (λ u r. There (p4 + 1) (slot.Turns vs ∷ ss) r) (cut_to len y)
        (λ u r k''. one e g code (spot (p4 + 1) (slot.Turns vs ∷ ss)) r (i.Back (length cb + 4)) at.1.0
        (subst (λ m. There m (slot.Turns vs ∷ ss) r) (sym again) (turned vs pc end ss r has is k'')))
        k'))
        k))
        (split e (Unit {0}) (Unit {0}) (λ u. b) (λ u y. After e (cut_to len y) M) (keep n v) t (split e (Unit {0}) (Unit {0}) (λ u. cut_to len) M (keep n v >> b) t w)))))
        (split e (Unit {0}) (Unit {0}) (λ u. scoped (keep n v >> b)) (λ u z. After e (each n b vs z) K) tick s (split e (Unit {0}) (Unit {0}) (λ u. each n b vs) K (tick >> scoped (keep n v >> b)) s h))))

  -- ---- statements, arms and blocks

  abbrev pub ActsStmt : Stmt → Type 0
  ActsStmt st = CodeActs (stmt_code st) (act g st)

  abbrev pub ActsBlock : Block → Type 0
  ActsBlock b = CodeActs (block_code b) (act_block g b)

  abbrev pub ActsArm : Arm → Type 0
  ActsArm a = ActsBlock a.body

  arm_is : (a : Arm) → arm g a ≡ (eval g a.test, act_block g a.body)
  arm_is a = fold_out-Arm Acts (Did × Acts) Acts (ev.stmt_step g) (ev.arm_step g) (ev.block_step g) a

  arm_code_is : (a : Arm) → arm_code a ≡ (expr_code a.test, block_code a.body)
  arm_code_is a = fold_out-Arm Code (Code × Code) Code co.stmt_step co.arm_step co.block_step a

  block_is : (b : Block) → act_block g b ≡ scoped (in_order (map (act g) b.stmts))
  block_is b = fold_out-Block Acts (Did × Acts) Acts (ev.stmt_step g) (ev.arm_step g) (ev.block_step g) b

  block_code_is : (b : Block) → block_code b ≡ i.Enter ∷ (co.in_order (map stmt_code b.stmts) ++ i.Leave ∷ [])
  block_code_is b = fold_out-Block Code (Code × Code) Code co.stmt_step co.arm_step co.block_step b

  all_in_order : (sts : List (Proved Stmt ActsStmt)) → CodeActs (co.in_order (map stmt_code (map bare_of sts))) (in_order (map (act g) (map bare_of sts)))
  all_in_order [] pc end ss s has is h = let x : end ≡ pc = omega (arith, is) in subst (λ n. There n ss s) x h
  all_in_order (x ∷ xs) pc end ss s has is h =
      let c = stmt_code x.0 in
      let more = co.in_order (map stmt_code (map bare_of xs)) in
      let others = in_order (map (act g) (map bare_of xs)) in
      let K : Unit {0} → State → Type 0 = λ u t. There end ss t in
      x.1 pc (pc + length c) ss s (has_front code pc c more has) refl
      (weaken e (Unit {0}) (λ u t. After e (others t) K) (λ u t. There (pc + length c) ss t) (act g x.0 s)
      (λ u t w. all_in_order xs (pc + length c) end ss t (has_back code pc c more has) (omega (arith, is, length-append c more)) w)
      (split e (Unit {0}) (Unit {0}) (λ u. others) K (act g x.0) s h))

  at_block : (sts : List (Proved Stmt ActsStmt)) → CodeActs (i.Enter ∷ (co.in_order (map stmt_code (map bare_of sts)) ++ i.Leave ∷ [])) (scoped (in_order (map (act g) (map bare_of sts))))
  at_block sts pc end ss s has is h =
      let c = co.in_order (map stmt_code (map bare_of sts)) in
      let all = in_order (map (act g) (map bare_of sts)) in
      let len = length s.locals in
      let ms : List Slot = slot.Mark len ∷ ss in
      let p1 = pc + 1 + length c in
      let K : Unit {0} → State → Type 0 = λ u t. There end ss t in
      one e g code (spot pc ss) s i.Enter has.0
      (all_in_order sts (pc + 1) p1 ms s (has_front code (pc + 1) c (i.Leave ∷ []) has.1) refl
      (weaken e (Unit {0}) (λ u t. After e (cut_to len t) K) (λ u t. There p1 ms t) (all s)
      (λ u t w. acting i.Leave p1 end ms ss (cut_to len) t (has_back code (pc + 1) c (i.Leave ∷ []) has.1).0 refl (omega (arith, is, length-append c (i.Leave ∷ []))) w)
      (split e (Unit {0}) (Unit {0}) (λ u. cut_to len) K all s h)))

  all_arms : (arms : List (Proved Arm ActsArm)) (oc : Code) (od : Acts) → CodeActs oc od → CodeActs (arms_code (map arm_code (map bare_of arms)) oc) (ran (map (arm g) (map bare_of arms)) >>= either (pure tt) od)
  all_arms [] oc od ho = λ pc end ss s has is h. ho pc end ss s has is h
  all_arms (a ∷ arms) oc od ho =
      let ct = expr_code a.0.test in
      let cb = block_code a.0.body in
      let d = eval g a.0.test in
      let b = act_block g a.0.body in
      let more = arms_code (map arm_code (map bare_of arms)) oc in
      let others = ran (map (arm g) (map bare_of arms)) in
      let rest2 = i.Go (length more) ∷ more in
      let rest1 = i.Unless word.If (length cb + 1) ∷ (cb ++ rest2) in
      let last = either (pure tt) od in
      let side = either (b >> pure true) others in
      rw (arm_is a.0, arm_code_is a.0)
      (λ pc end ss s has is h.
      let K : Unit {0} → State → Type 0 = λ u t. There end ss t in
      let L : Bool → State → Type 0 = λ x t. After e (last x t) K in
      let p1 = pc + length ct in
      let p2 = p1 + 1 + length cb in
      let far : end ≡ p2 + 1 + length more = omega (arith, is, length-append ct rest1, length-append cb rest2) in
      led e g code Bool ct rest1 d (as_truth (codes "if")) (λ x t. After e (side x t) L) pc ss s (leaves e g code a.0.test) has
      (λ v t at w. unless_at e g code word.If (length cb + 1) p1 ss v t at.0
      (weaken e Bool (λ x z. After e (side x z) L) (λ x z. There (skipped e g code p1 (length cb + 1) x) ss z) (as_truth (codes "if") v t)
      (λ x z y. (elim x as (λ q. After e (side q z) L → There (skipped e g code p1 (length cb + 1) q) ss z) [
        | true ↦ λ k. a.1 (p1 + 1) p2 ss z (has_front code (p1 + 1) cb rest2 at.1) refl
            (weaken e (Unit {0}) K (λ u r. There p2 ss r) (b z)
            (λ u r k'. one e g code (spot p2 ss) r (i.Go (length more)) (has_back code (p1 + 1) cb rest2 at.1).0 (subst (λ m. There m ss r) far k'))
            (split e (Unit {0}) Bool (λ u. pure true) L b z k))
        | false ↦ λ k.
            let moved : p2 + 1 ≡ p1 + 1 + (length cb + 1) = omega arith in
            subst (λ m. There m ss z) moved
            (all_arms arms oc od ho (p2 + 1) end ss z (has_back code (p1 + 1) cb rest2 at.1).1 far (bind e Bool (Unit {0}) last K others z k))
      ]) y)
      w))
      (split e Bool Bool side L (d >>= as_truth (codes "if")) s (split e Bool (Unit {0}) last K (d >>= as_truth (codes "if") >>= side) s h)))

  -- ---- one layer of a statement

  abbrev pub StmtLayer : Type 0
  StmtLayer = level.Stmt-F (Proved Stmt ActsStmt) (Proved Arm ActsArm) (Proved Block ActsBlock)

  abbrev bare_stmt : StmtLayer → level.Stmt-F Stmt Arm Block
  bare_stmt = map-Stmt (Proved Stmt ActsStmt) (Proved Arm ActsArm) (Proved Block ActsBlock) Stmt Arm Block bare_of bare_of bare_of

  abbrev deeds : level.Stmt-F Stmt Arm Block → level.Stmt-F Acts (Did × Acts) Acts
  deeds = map-Stmt Stmt Arm Block Acts (Did × Acts) Acts (act g) (arm g) (act_block g)

  abbrev stmt_codes : level.Stmt-F Stmt Arm Block → level.Stmt-F Code (Code × Code) Code
  stmt_codes = map-Stmt Stmt Arm Block Code (Code × Code) Code stmt_code arm_code block_code

  act_roll : (x : level.Stmt-F Stmt Arm Block) → act g (roll-Stmt x) ≡ ev.stmt_step g (deeds x)
  act_roll x = fold-roll-Stmt Acts (Did × Acts) Acts (ev.stmt_step g) (ev.arm_step g) (ev.block_step g) x

  stmt_code_roll : (x : level.Stmt-F Stmt Arm Block) → stmt_code (roll-Stmt x) ≡ co.stmt_step (stmt_codes x)
  stmt_code_roll x = fold-roll-Stmt Code (Code × Code) Code co.stmt_step co.arm_step co.block_step x

  skips : CodeActs [] (pure tt)
  skips pc end ss s has is h = let x : end ≡ pc = omega (arith, is) in subst (λ n. There n ss s) x h

  at_if : (arms : List (Proved Arm ActsArm)) (oc : Code) (od : Acts) → CodeActs oc od → CodeActs (i.Tick ∷ arms_code (map arm_code (map bare_of arms)) oc) (tick >> (ran (map (arm g) (map bare_of arms)) >>= either (pure tt) od))
  at_if arms oc od ho pc end ss s has is h =
      let c = arms_code (map arm_code (map bare_of arms)) oc in
      ticked (Unit {0}) c (ran (map (arm g) (map bare_of arms)) >>= either (pure tt) od) (λ u t. There end ss t) pc ss s has
      (λ t at w. all_arms arms oc od ho (pc + 1) end ss t at (omega (arith, is)) w) h

  at_level : (y : StmtLayer) → CodeActs (co.stmt_step (stmt_codes (bare_stmt y))) (ev.stmt_step g (deeds (bare_stmt y)))
  at_level (level.Let n x) pc end ss s has is h = using x (i.Let n) (keep n) (λ v p us t. refl) pc end ss s has is h
  at_level (level.Assign n x) pc end ss s has is h = using x (i.Assign n) (assign n) (λ v p us t. refl) pc end ss s has is h
  at_level (level.If arms None) pc end ss s has is h = at_if arms [] (pure tt) skips pc end ss s has is h
  at_level (level.If arms (Some b)) pc end ss s has is h = at_if arms (block_code b.0) (act_block g b.0) b.1 pc end ss s has is h
  at_level (level.While x b) pc end ss s has is h =
      let ct = expr_code x in
      let cb = block_code b.0 in
      let d = eval g x in
      let body = act_block g b.0 in
      ticked (Unit {0}) (while_code ct cb) (loop g d body) (λ u t. There end ss t) pc ss s has
      (λ t at w. looped ct cb d body (leaves e g code x) b.1 (eval_less g x)
      (λ r z ran. let p = went g (Unit {0}) (Pays g r) (act_block g b.0 r) tt z ran (block_pays g b.0 r) in omega (arith, p.0, p.1))
      (pc + 1) end ss t at (omega (arith, is)) w)
      h
  at_level (level.For n x b) pc end ss s has is h =
      let c = expr_code x in
      let cb = block_code b.0 in
      let body = act_block g b.0 in
      let tail = i.Turns ∷ for_code n cb in
      let K : Unit {0} → State → Type 0 = λ u t. There end ss t in
      let make : Value → Run (List Value) = λ v. lift (items_of (codes "for") v) in
      let p1 = pc + 1 + length c in
      used (List Value) x tail make (λ vs t. After e (each n body vs t) K) pc ss s has
      (λ v t at w.
      let p = spot p1 (slot.Value v ∷ ss) in
      one e g code p t i.Turns at.0
      (bind e (List Value) Spot (λ vs. to p (slot.Turns vs ∷ ss)) (From e g code) (make v) t
      (weaken e (List Value) (λ vs z. After e (each n body vs z) K) (λ vs z. There (p1 + 1) (slot.Turns vs ∷ ss) z) (make v t)
      (λ vs z y. turned n cb body b.1 vs (p1 + 1) end ss z at.1 (omega (arith, is, length-append c tail)) y)
      w)))
      (split e (List Value) (Unit {0}) (each n body) K (tick >> eval g x >>= make) s h)
  at_level (level.Yield x) pc end ss s has is h = using x i.Yield (yielded g) (λ v p us t. refl) pc end ss s has is h
  at_level (level.Return x) pc end ss s has is h =
      let c = expr_code x in
      used (Unit {0}) x (i.Return ∷ []) (λ v. stop (stops.Done v)) (λ u t. There end ss t) pc ss s has
      (λ v t at w. one e g code (spot (pc + 1 + length c) (slot.Value v ∷ ss)) t i.Return at.0 w)
      h
  at_level (level.Throw x) pc end ss s has is h = using x i.Throw (λ v. lift (thrown v)) (λ v p us t. refl) pc end ss s has is h
  at_level (level.Cleanup x) pc end ss s has is h = using x i.Cleanup cleaned (λ v p us t. refl) pc end ss s has is h

  -- the machine follows the definition over every block
  pub block_acts : (b : Block) → ActsBlock b
  block_acts = ind-Block ActsStmt ActsArm ActsBlock
      (λ x y is. subst (λ z. ActsStmt (roll-Stmt z)) is (rw (act_roll (bare_stmt y), stmt_code_roll (bare_stmt y)) (at_level y)))
      (λ x y is. subst (λ z. ActsArm (roll-Arm z)) is y.body.1)
      (λ x y is. subst (λ z. ActsBlock (roll-Block z)) is (let b : Block = record { stmts = map bare_of y.stmts } in rw (block_is b, block_code_is b) (at_block y.stmts)))

  -- what a cell computes is returned
  pub body_returns : (b : Body) (ss : List Slot) (s : State) (pc : ℕ) → HasAt code pc (body_code b) → After e (eval_body g b s) (λ v t. e ≡ (stops.Done v, t)) → There pc ss s
  body_returns (body.Expr x) ss s pc has h =
      let c = expr_code x in
      leaves e g code x pc (pc + length c) ss s (has_front code pc c (i.Return ∷ []) has) refl
      (weaken e Value (λ v t. e ≡ (stops.Done v, t)) (λ v t. There (pc + length c) (slot.Value v ∷ ss) t) (eval g x s)
      (λ v t w. one e g code (spot (pc + length c) (slot.Value v ∷ ss)) t i.Return (has_back code pc c (i.Return ∷ []) has).0 w)
      h)
  body_returns (body.Block b) ss s pc has h =
      let c = block_code b in
      let tail = i.Const V.Null ∷ i.Return ∷ [] in
      let p1 = pc + length c in
      let at = has_back code pc c tail has in
      block_acts b pc p1 ss s (has_front code pc c tail has) refl
      (weaken e (Unit {0}) (λ u t. e ≡ (stops.Done V.Null, t)) (λ u t. There p1 ss t) (act_block g b s)
      (λ u t w. one e g code (spot p1 ss) t (i.Const V.Null) at.0 (one e g code (spot (p1 + 1) (slot.Value V.Null ∷ ss)) t i.Return at.1.0 w))
      (split e (Unit {0}) Value (λ u. pure V.Null) (λ v t. e ≡ (stops.Done v, t)) (act_block g b) s h))

ended : (r : Result Value Stop) (t : State) → Wp (end_in r t) r t (λ v u. end_in r t ≡ (stops.Done v, u))
ended (Ok v) t = refl
ended (Err x) t = refl

-- from its start a machine ends as the evaluation of its segment
pub machine_is : (g : Segment) → Ends g (code_of g) (end_of (run g)) (spot 0 []) start_state
machine_is g = body_returns (end_of (run g)) g (code_of g) g.cell.body [] start_state 0 (has_after (code_of g) []) (ended (run g).0 (run g).1)
