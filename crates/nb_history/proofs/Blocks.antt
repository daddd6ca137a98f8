-- What a fold is at the statements of a block, at a text and at a fetch, and the sizes of further entries.
use Rattle.std.specs.Prelude.{ℕ, pos, ◌≡◌, refl, ◌+◌, ◌-◌, ◌||◌, Bool, true, false, nat_lt, List, [], ◌∷◌, ◌++◌, map, length, Some}
use Rattle.std.proofs.Common.{arith, ap, sym, ◌∙◌}
use Rattle.nb_value.specs.declared.value.Value.{Value}
use Rattle.nb_value.specs.declared.value.Value.TheVariants as V
use Rattle.nb_value.specs.declared.pairs.Field.{Field}
use Rattle.nb_value.specs.declared.outcome.Answer.{Answer}
use Rattle.nb_eval.specs.declared.given.Segment.{Segment}
use Rattle.nb_eval.specs.declared.state.State.{State}
use Rattle.nb_eval.specs.Run.{Out, ◌>>=◌, ◌>>◌, after, pure, tick, charge, cut_to, scoped, go_on, yielded, start_state}
use Rattle.nb_eval.specs.Evaluation.{Evaluated, Did, Acts, evaluation, evaluated, ending_of, segment_of, act, act_block, stmt_step, arm_step, block_step, expr_step, path_step, member_step, operand_step, in_order}
use Rattle.nb_syntax.specs.Generator as generator
use Rattle.nb_syntax.specs.Generator.{some_yield, stmt_yields, block_yields}
use Rattle.nb_value.specs.declared.outcome.Answer.TheVariants.{Value as Given}
use Rattle.nb_log.specs.Printing.{entry_size, refusal_name}
use Rattle.nb_log.specs.declared.event.Event.TheVariants as event
use Rattle.nb_log.specs.declared.event.Target.TheVariants.{Ticket}
use Rattle.nb_log.specs.declared.entry.Refusal.{Refusal}
use Rattle.nb_log.specs.declared.entry.Entry.TheVariants.{Frame, Late, Refused, Rest, Dispose, Pending, Asked, Ended, Left}
use Rattle.nb_syntax.specs.declared.tree.Expr.{Expr, fold-Expr}
use Rattle.nb_syntax.specs.declared.tree.Expr.TheVariants as expr
use Rattle.nb_syntax.specs.declared.tree.Expr.TheOpen as layer
use Rattle.nb_syntax.specs.declared.tree.Expr.TheViews.{rolls-Quoted, rolls-Fetch}
use Rattle.nb_syntax.specs.declared.tree.Expr.TheFolds.{fold-roll-Expr}
use Rattle.nb_syntax.specs.declared.tree.Stmt.{Stmt, fold-Stmt, fold-roll-Stmt}
use Rattle.nb_syntax.specs.declared.tree.Stmt.TheVariants as stmt
use Rattle.nb_syntax.specs.declared.tree.Stmt.TheOpen as level
use Rattle.nb_syntax.specs.declared.tree.Stmt.TheViews.{rolls-Yield, rolls-Return, rolls-Cleanup}
use Rattle.nb_syntax.specs.declared.tree.Block.{fold-Block, fold_out-Block}
use Rattle.nb_syntax.specs.declared.tree.Body.TheVariants as body
use Rattle.nb_syntax.specs.declared.tree.Cell.{Cell}
use Rattle.nb_history.proofs.Cells.{fold_int, size_int, size_text, size_list, size_rec}

module _ {A B C : Type 0} (f : level.Stmt-F A B C → A) (g : level.Arm-F A B C → B) (h : level.Block-F A B C → C) where
  pub fold_yield : (e : Expr) → fold-Stmt A B C f g h (stmt.Yield e) ≡ f (level.Yield e)
  fold_yield e = ap (fold-Stmt A B C f g h) (sym (rolls-Yield e)) ∙ fold-roll-Stmt A B C f g h (level.Yield e)

  pub fold_return : (e : Expr) → fold-Stmt A B C f g h (stmt.Return e) ≡ f (level.Return e)
  fold_return e = ap (fold-Stmt A B C f g h) (sym (rolls-Return e)) ∙ fold-roll-Stmt A B C f g h (level.Return e)

  pub fold_cleanup : (e : Expr) → fold-Stmt A B C f g h (stmt.Cleanup e) ≡ f (level.Cleanup e)
  fold_cleanup e = ap (fold-Stmt A B C f g h) (sym (rolls-Cleanup e)) ∙ fold-roll-Stmt A B C f g h (level.Cleanup e)

  pub fold_block : (ss : List Stmt) → fold-Block A B C f g h (record { stmts = ss }) ≡ h (record { stmts = map (fold-Stmt A B C f g h) ss })
  fold_block ss = fold_out-Block A B C f g h (record { stmts = ss })

module _ {A B C D : Type 0} (f : layer.Expr-F A B C D → A) (g : layer.PathStep-F A B C D → B) (h : layer.Member-F A B C D → C) (k : layer.Operand-F A B C D → D) where
  pub fold_quoted : (t : List ℕ) → fold-Expr A B C D f g h k (expr.Quoted t) ≡ f (layer.Quoted t)
  fold_quoted t = ap (fold-Expr A B C D f g h k) (sym (rolls-Quoted t)) ∙ fold-roll-Expr A B C D f g h k (layer.Quoted t)

  pub fold_fetch : (e : Expr) → fold-Expr A B C D f g h k (expr.Fetch e) ≡ f (layer.Fetch (fold-Expr A B C D f g h k e))
  fold_fetch e = ap (fold-Expr A B C D f g h k) (sym (rolls-Fetch e)) ∙ fold-roll-Expr A B C D f g h k (layer.Fetch e)

-- `name = { statements }`
abbrev pub block_cell : List ℕ → List Stmt → Cell
block_cell n ss = record { name = Some n; body = body.Block (record { stmts = ss }) }

pub size_frame : (n : ℕ) → entry_size (Frame n) ≡ 8
unfolding entry_size
size_frame n = rw (size_list) (simp (size_text, size_int))

pub size_ended : (v : ℕ) → entry_size (Ended v) ≡ 8
unfolding entry_size
size_ended v = rw (size_list) (simp (size_text, size_int))

pub size_rest : (n : ℕ) → entry_size (Rest n) ≡ 7
unfolding entry_size
size_rest n = rw (size_list) (simp (size_text, size_int))

pub size_dispose : (n : ℕ) → entry_size (Dispose n) ≡ 10
unfolding entry_size
size_dispose n = rw (size_list) (simp (size_text, size_int))

pub size_late : (n t : ℕ) → entry_size (Late n t) ≡ 8
unfolding entry_size
size_late n t = rw (size_list) (simp (size_text, size_int))

pub size_asked : (v t : ℕ) (key : List ℕ) → entry_size (Asked v t key) ≡ 10 + length key
unfolding entry_size
size_asked v t key = rw (size_list) (simp (size_text, size_int) (omega arith))

pub size_pending_of : (v : ℕ) (t : List ℕ) → entry_size (Pending v (V.Text t ∷ [])) ≡ 12 + length t
unfolding entry_size
size_pending_of v t = rw (size_list) (simp (size_list, size_text, size_int) (omega arith))

pub size_left_of : (v : ℕ) (t : List ℕ) → entry_size (Left v (V.Text t ∷ [])) ≡ 9 + length t
unfolding entry_size
size_left_of v t = rw (size_list) (simp (size_list, size_text, size_int) (omega arith))

pub size_refused_settle : (reason : Refusal) (t k : ℕ) → entry_size (Refused 0 reason (event.Settle (Ticket t) (Given (V.Int (pos k))))) ≡ 38 + length (refusal_name reason)
unfolding entry_size
size_refused_settle reason t k = rw (size_list) (simp (size_rec, size_text, size_int) (omega arith))

-- ---- evaluations of blocks

abbrev pub segment : List ℕ → List Stmt → List (Field Value) → List Answer → ℕ → Segment
segment n ss inputs answers pulls = segment_of (block_cell n ss) inputs answers pulls

-- what a block gives whose statements come to this
abbrev pub block_ends : Bool → Out (Unit {0}) → Evaluated
block_ends generates o =
    let cut : Out (Unit {0}) = after o.0 o.1 (λ _. cut_to 0) in
    let end : Out Value = after cut.0 cut.1 (λ _. pure V.Null) in
    record { yields = end.1.yields; cleanups = end.1.cleanups; ending = ending_of generates end.0 }

pub evaluates_block : (n : List ℕ) (ss : List Stmt) (inputs : List (Field Value)) (answers : List Answer) (pulls : ℕ) (o : Out (Unit {0}))
    → in_order (map (act (segment n ss inputs answers pulls)) ss) start_state ≡ o
    → evaluation (block_cell n ss) inputs answers pulls ≡ block_ends (some_yield (map stmt_yields ss)) o
unfolding evaluation
evaluates_block n ss inputs answers pulls o h =
    let given : Segment = segment n ss inputs answers pulls in
    let same : act_block given (record { stmts = ss }) ≡ scoped (in_order (map (act given) ss)) = fold_block (stmt_step given) (arm_step given) (block_step given) ss in
    let yields_same : block_yields (record { stmts = ss }) ≡ some_yield (map stmt_yields ss) = fold_block (generator.stmt_step) (generator.arm_step) (generator.block_step) ss in
    ap (λ (b : Acts). evaluated (block_cell n ss) ((b >> pure V.Null) start_state)) same
    ∙ ap (λ (x : Out (Unit {0})). let cut : Out (Unit {0}) = after x.0 x.1 (λ _. cut_to 0) in evaluated (block_cell n ss) (after cut.0 cut.1 (λ _. pure V.Null))) h
    ∙ ap (λ (g : Bool). block_ends g o) yields_same

-- a number is yielded
abbrev pub int_step : Segment → ℕ → Acts
int_step given n = tick >> charge 2 >> (λ s. go_on given (record s { yields = s.yields ++ V.Int (pos n) ∷ [] }))

pub yields_int : (given : Segment) (n : ℕ) → act given (stmt.Yield (expr.Int (pos n))) ≡ int_step given n
yields_int given n = λ i s. here s i
  where
    v : Value
    v = V.Int (pos n)

    finish : (s : State) (a b : Bool) → nat_lt s.fuel 1 ≡ a → nat_lt (s.fuel - 1) 2 ≡ b → (tick >> (charge 2 >> pure (V.Int (pos n))) >>= yielded given) s ≡ int_step given n s
    finish s true b p q = rw p refl
    finish s false true p q = rw (p, q) refl
    finish s false false p q = rw (p, q) (rw (size_int) refl)

    here : (s : State) → act given (stmt.Yield (expr.Int (pos n))) s ≡ int_step given n s
    here s =
        ap (λ (f : Acts). f s) (fold_yield (stmt_step given) (arm_step given) (block_step given) (expr.Int (pos n)))
        ∙ ap (λ (d : Did). (tick >> d >>= yielded given) s) (fold_int (expr_step given) (path_step given) (member_step given) (operand_step given) (pos n))
        ∙ ap (λ (k : ℕ). (tick >> (charge (1 + k) >> pure (V.Int (pos n))) >>= yielded given) s) (size_int (pos n))
        ∙ finish s (nat_lt s.fuel 1) (nat_lt (s.fuel - 1) 2) refl refl

-- the statements of some numbers
abbrev pub int_yields : List ℕ → List Stmt
int_yields ns = map (λ (n : ℕ). stmt.Yield (expr.Int (pos n))) ns

pub act_ints : (given : Segment) (ns : List ℕ) → map (act given) (int_yields ns) ≡ map (int_step given) ns
act_ints given [] = refl
act_ints given (n ∷ ns) =
    ap (λ (x : Acts). x ∷ map (act given) (int_yields ns)) (yields_int given n) ∙ ap (λ (xs : List Acts). int_step given n ∷ xs) (act_ints given ns)

pub yields_true : (e : Expr) → stmt_yields (stmt.Yield e) ≡ true
yields_true e = fold_yield generator.stmt_step generator.arm_step generator.block_step e

-- a generator of numbers, at this pull
pub evaluates_ints : (n : List ℕ) (first : ℕ) (ns : List ℕ) (pulls : ℕ)
    → evaluation (block_cell n (int_yields (first ∷ ns))) [] [] pulls ≡ block_ends true (in_order (map (int_step (segment n (int_yields (first ∷ ns)) [] [] pulls)) (first ∷ ns)) start_state)
evaluates_ints n first ns pulls =
    let given : Segment = segment n (int_yields (first ∷ ns)) [] [] pulls in
    let o : Out (Unit {0}) = in_order (map (int_step given) (first ∷ ns)) start_state in
    evaluates_block n (int_yields (first ∷ ns)) [] [] pulls o (ap (λ (xs : List Acts). in_order xs start_state) (act_ints given (first ∷ ns)))
    ∙ ap (λ (b : Bool). block_ends (b || some_yield (map stmt_yields (int_yields ns))) o) (yields_true (expr.Int (pos first)))
