-- The evaluation of a cell.
use Rattle.std.specs.Prelude.{ℕ, zero, suc, ◌+◌, Bool, true, false, List, [], ◌∷◌, ◌++◌, length, nat_lt, codes, Option, Some, None, Result, Ok, Err, if◌then◌else◌}
use Rattle.nb_value.specs.declared.value.Value.{Value}
use Rattle.nb_value.specs.declared.value.Value.TheVariants as V
use Rattle.nb_value.specs.declared.pairs.Field.{Field}
use Rattle.nb_value.specs.declared.outcome.Answer.{Answer}
use Rattle.nb_value.specs.declared.outcome.ErrorKind.{ErrorKind}
use Rattle.nb_value.specs.declared.outcome.ErrorKind.TheVariants.{OutOfFuel, TooLarge}
use Rattle.nb_value.specs.declared.function.Function.{Function}
use Rattle.nb_value.specs.Value.{size}
use Rattle.nb_value.specs.Fields.{put}
use Rattle.nb_syntax.specs.declared.tree.Sign.{Sign}
use Rattle.nb_syntax.specs.declared.tree.Expr.{Expr, fold-Expr}
use Rattle.nb_syntax.specs.declared.tree.Expr.TheOpen as layer
use Rattle.nb_syntax.specs.declared.tree.Member.{Member, fold-Member}
use Rattle.nb_syntax.specs.declared.tree.PathStep.{PathStep, fold-PathStep}
use Rattle.nb_syntax.specs.declared.tree.Operand.{Operand, fold-Operand}
use Rattle.nb_syntax.specs.declared.tree.Stmt.{Stmt, fold-Stmt}
use Rattle.nb_syntax.specs.declared.tree.Stmt.TheOpen as level
use Rattle.nb_syntax.specs.declared.tree.Arm.{Arm, fold-Arm}
use Rattle.nb_syntax.specs.declared.tree.Block.{Block, fold-Block}
use Rattle.nb_syntax.specs.declared.tree.Body.{Body}
use Rattle.nb_syntax.specs.declared.tree.Body.TheVariants as body
use Rattle.nb_syntax.specs.declared.tree.Cell.{Cell}
use Rattle.nb_syntax.specs.Generator.{is_generator}
use Rattle.nb_builtins.specs.Apply.{called}
use Rattle.nb_eval.specs.declared.given.Ending.{Ending}
use Rattle.nb_eval.specs.declared.given.Ending.TheVariants as ending
use Rattle.nb_eval.specs.declared.given.RunEnd.{RunEnd}
use Rattle.nb_eval.specs.declared.given.Segment.{Segment}
use Rattle.nb_eval.specs.declared.state.State.{State}
use Rattle.nb_eval.specs.declared.stop.Stop.{Stop}
use Rattle.nb_eval.specs.declared.stop.Stop.TheVariants as stops
use Rattle.nb_eval.specs.Run.{Run, Out, ◌>>=◌, ◌>>◌, lift, pure, stop, error, failed, tick, done, budget, start_state, read, keep, assign, scoped, as_truth, items_of, within_depth, ask, yielded, cleaned, thrown}
use Rattle.nb_eval.specs.Operate.{sum_step, product_step, compared, signed, field_of, part_of}

-- ---- expressions, from what their parts do

abbrev pub Did : Type 0
Did = Run Value

-- the values of parts, from left to right, after those that stand already
abbrev pub parts : List Value → List Did → Run (List Value)
parts vs [] = pure vs
parts vs (x ∷ xs) = x >>= (λ v. parts (vs ++ v ∷ []) xs)

-- the fields of keys with their values, from left to right; of equal keys the last counts
abbrev pub members : List (Field Value) → List (List ℕ × Did) → Run (List (Field Value))
members fs [] = pure fs
members fs (m ∷ ms) = m.1 >>= (λ v. members (put (record { name = m.0; value = v }) fs) ms)

-- a first value, and what is applied after it, from left to right
abbrev pub chain_from : (Sign → Value → Value → Did) → Value → List (Sign × Did) → Did
chain_from step v [] = pure v
chain_from step v (o ∷ os) = o.1 >>= step o.0 v >>= (λ u. chain_from step u os)

abbrev pub path_from : Value → List (Value → Did) → Did
path_from v [] = pure v
path_from v (p ∷ ps) = p v >>= (λ u. path_from u ps)

abbrev pub either : {A : Type 0} → A → A → Bool → A
either a b true = a
either a b false = b

-- parts up to the first that is false
abbrev pub conjunction : List Did → Run Bool
conjunction [] = pure true
conjunction (x ∷ xs) = x >>= as_truth (codes "&&") >>= either (conjunction xs) (pure false)

-- parts up to the first that is true
abbrev pub disjunction : List Did → Run Bool
disjunction [] = pure false
disjunction (x ∷ xs) = x >>= as_truth (codes "||") >>= either (pure true) (disjunction xs)

-- ---- the nodes, each with its charge

abbrev pub truth : Bool → Did
truth b = done (V.Bool b)

-- an `&&` chain, and an `||` chain
abbrev pub all_true : List Did → Did
all_true xs = conjunction xs >>= truth

abbrev pub some_true : List Did → Did
some_true xs = disjunction xs >>= truth

abbrev pub quoted : List ℕ → Did
quoted t = done (V.Text t)

abbrev pub name_value_of : Segment → List ℕ → Did
name_value_of given n = read given n >>= done

abbrev pub list_of : List Did → Did
list_of xs = parts [] xs >>= (λ vs. lift (within_depth (V.List vs))) >>= done

abbrev pub record_of : List (List ℕ × Did) → Did
record_of ms = members [] ms >>= (λ fs. lift (within_depth (V.Rec fs))) >>= done

abbrev pub fetch : Segment → Did → Did
fetch given e = e >>= ask given >>= done

abbrev pub unary : Sign → Did → Did
unary sign e = e >>= (λ v. lift (signed sign v)) >>= done

-- the value at the left, with the part at the right
abbrev pub comparison : Sign → Value → Did → Did
comparison sign v e = e >>= (λ w. lift (compared sign v w)) >>= done

abbrev pub test_of : Did → Run Bool
test_of e = e >>= as_truth (codes "?")

abbrev pub chosen_value : Did → Did
chosen_value e = e >>= done

-- an error for want of fuel comes of a charge that fails
abbrev pub unpaid : ErrorKind → State → State
unpaid OutOfFuel s = record s { charges = s.charges + 1 }
unpaid kind s = s

-- a function's value, with its charge
abbrev pub call : Function → List Value → Did
call function vs = lift (called function vs) >>= done

abbrev pub call_of : Function → List Did → Did
call_of function xs = parts [] xs >>= call function

module _ (given : Segment) where
  abbrev pub expr_step : layer.Expr-F Did (Value → Did) (List ℕ × Did) (Sign × Did) → Did
  expr_step (layer.Int n) = done (V.Int n)
  expr_step (layer.Quoted t) = quoted t
  expr_step (layer.Bool b) = done (V.Bool b)
  expr_step layer.Null = done V.Null
  expr_step (layer.Name n) = name_value_of given n
  expr_step (layer.List xs) = list_of xs
  expr_step (layer.Rec ms) = record_of ms
  expr_step (layer.Call f xs) = call_of f xs
  expr_step (layer.Fetch e) = fetch given e
  expr_step (layer.Path e steps) = e >>= (λ v. path_from v steps)
  expr_step (layer.Unary sign e) = unary sign e
  expr_step (layer.Product e more) = e >>= (λ v. chain_from product_step v more)
  expr_step (layer.Sum e more) = e >>= (λ v. chain_from sum_step v more)
  expr_step (layer.Compare sign a b) = a >>= (λ v. comparison sign v b)
  expr_step (layer.And xs) = all_true xs
  expr_step (layer.Or xs) = some_true xs
  expr_step (layer.Choose c a b) = test_of c >>= (λ t. chosen_value (either a b t))

  abbrev pub member_step : layer.Member-F Did (Value → Did) (List ℕ × Did) (Sign × Did) → List ℕ × Did
  member_step m = (m.key, m.value)

  abbrev pub path_step : layer.PathStep-F Did (Value → Did) (List ℕ × Did) (Sign × Did) → Value → Did
  path_step (layer.Field n) = λ v. lift (field_of n v) >>= done
  path_step (layer.At e) = λ v. e >>= (λ i. lift (part_of v i)) >>= done

  abbrev pub operand_step : layer.Operand-F Did (Value → Did) (List ℕ × Did) (Sign × Did) → Sign × Did
  operand_step o = (o.sign, o.expr)

  abbrev pub eval : Expr → Did
  eval = fold-Expr Did (Value → Did) (List ℕ × Did) (Sign × Did) expr_step path_step member_step operand_step

  abbrev pub member : Member → List ℕ × Did
  member = fold-Member Did (Value → Did) (List ℕ × Did) (Sign × Did) expr_step path_step member_step operand_step

  abbrev pub path_part : PathStep → Value → Did
  path_part = fold-PathStep Did (Value → Did) (List ℕ × Did) (Sign × Did) expr_step path_step member_step operand_step

  abbrev pub operand : Operand → Sign × Did
  operand = fold-Operand Did (Value → Did) (List ℕ × Did) (Sign × Did) expr_step path_step member_step operand_step

-- ---- statements, from what their parts do

abbrev pub Acts : Type 0
Acts = Run (Unit {0})

abbrev pub or_skip : Option Acts → Acts
or_skip None = pure tt
or_skip (Some b) = b

-- whether one of the arms ran: the first whose test is true
abbrev pub ran : List (Did × Acts) → Run Bool
ran [] = pure false
ran (arm ∷ arms) = arm.0 >>= as_truth (codes "if") >>= either (arm.1 >> pure true) (ran arms)

abbrev pub choose : List (Did × Acts) → Option Acts → Acts
choose arms other = ran arms >>= either (pure tt) (or_skip other)

-- at most n turns
abbrev pub turns : ℕ → Did → Acts → Acts
turns zero test body = lift (failed OutOfFuel [])
turns (suc n) test body = test >>= as_truth (codes "while") >>= either (body >> turns n test body) (pure tt)

-- each whole turn takes some of the budget, so these are enough
abbrev pub loop : Segment → Did → Acts → Acts
loop given test body s = turns (suc (budget given s)) test body s

-- a turn for each value
abbrev pub each : List ℕ → Acts → List Value → Acts
each name body [] = pure tt
each name body (v ∷ vs) = tick >> scoped (keep name v >> body) >> each name body vs

abbrev pub in_order : List Acts → Acts
in_order [] = pure tt
in_order (p ∷ ps) = p >> in_order ps

module _ (given : Segment) where
  abbrev pub stmt_step : level.Stmt-F Acts (Did × Acts) Acts → Acts
  stmt_step (level.Let n e) = tick >> eval given e >>= keep n
  stmt_step (level.Assign n e) = tick >> eval given e >>= assign n
  stmt_step (level.If arms other) = tick >> choose arms other
  stmt_step (level.While e b) = tick >> loop given (eval given e) b
  stmt_step (level.For n e b) = tick >> eval given e >>= (λ v. lift (items_of (codes "for") v)) >>= each n b
  stmt_step (level.Yield e) = tick >> eval given e >>= yielded given
  stmt_step (level.Return e) = tick >> eval given e >>= (λ v. stop (stops.Done v))
  stmt_step (level.Throw e) = tick >> eval given e >>= (λ v. lift (thrown v))
  stmt_step (level.Cleanup e) = tick >> eval given e >>= cleaned

  abbrev pub arm_step : level.Arm-F Acts (Did × Acts) Acts → Did × Acts
  arm_step arm = (eval given arm.test, arm.body)

  abbrev pub block_step : level.Block-F Acts (Did × Acts) Acts → Acts
  block_step b = scoped (in_order b.stmts)

  abbrev pub act : Stmt → Acts
  act = fold-Stmt Acts (Did × Acts) Acts stmt_step arm_step block_step

  abbrev pub arm : Arm → Did × Acts
  arm = fold-Arm Acts (Did × Acts) Acts stmt_step arm_step block_step

  abbrev pub act_block : Block → Acts
  act_block = fold-Block Acts (Did × Acts) Acts stmt_step arm_step block_step

  -- the end of the statements gives null
  abbrev pub eval_body : Body → Did
  eval_body (body.Expr e) = eval given e
  eval_body (body.Block b) = act_block b >> pure V.Null

-- ---- evaluations

-- all that an evaluation gives: the values that it yielded, its cleanups, and how it ended
pub record Evaluated : Type 0 where
  pub yields : List Value
  pub cleanups : List Value
  pub ending : Ending

-- a value that a cell which is no generator shows may have this size
abbrev pub within_size : Bool → Value → Ending
within_size true v = ending.Done v
within_size false v = if nat_lt 16384 (size v) then ending.Failed (error TooLarge (codes "value")) else ending.Done v

-- of a generator or not
abbrev pub ending_of : Bool → Result Value Stop → Ending
ending_of generates (Ok v) = within_size generates v
ending_of generates (Err (stops.Done v)) = within_size generates v
ending_of generates (Err (stops.Failed e)) = ending.Failed e
ending_of generates (Err (stops.Needs key)) = ending.Needs key
ending_of generates (Err stops.Paused) = ending.Paused
ending_of generates (Err stops.Memory) = ending.Paused

-- what comes out, from where evaluation begins
abbrev pub run : Segment → Out Value
run s = eval_body s s.cell.body start_state

abbrev pub evaluated : Cell → Out Value → Evaluated
evaluated cell o = record { yields = o.1.yields; cleanups = o.1.cleanups; ending = ending_of (is_generator cell) o.0 }

abbrev pub segment_of : Cell → List (Field Value) → List Answer → ℕ → Segment
segment_of cell inputs answers pulls = record { cell = cell; inputs = inputs; answers = answers; pulls = pulls }

-- the evaluation of a cell over the values of its free names, the answers to its fetches and the number of pulls
unfoldable pub evaluation : Cell → List (Field Value) → List Answer → ℕ → Evaluated
evaluation cell inputs answers pulls = evaluated cell (run (segment_of cell inputs answers pulls))

-- the number of charges that it makes, with one that fails
unfoldable pub charges : Segment → ℕ
charges s = (run s).1.charges

abbrev pub last_of : List Value → Option Value
last_of [] = None
last_of (v ∷ []) = Some v
last_of (v ∷ w ∷ more) = last_of (w ∷ more)

-- what is kept of it
abbrev pub run_end : Evaluated → RunEnd
run_end e = record { made = length e.yields; last = last_of e.yields; cleanups = e.cleanups; ending = e.ending }

-- the evaluation of a segment
abbrev pub segment_end : Segment → RunEnd
segment_end s = run_end (evaluation s.cell s.inputs s.answers s.pulls)
