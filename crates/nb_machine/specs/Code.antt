-- The code of a cell.
use Rattle.std.specs.Prelude.{ℕ, ◌+◌, true, false, List, [], ◌∷◌, ◌++◌, length, Option, Some, None}
use Rattle.nb_value.specs.declared.value.Value.TheVariants as V
use Rattle.nb_syntax.specs.declared.tree.Sign.{Sign}
use Rattle.nb_syntax.specs.declared.tree.Expr.{Expr, fold-Expr}
use Rattle.nb_syntax.specs.declared.tree.Expr.TheOpen as layer
use Rattle.nb_syntax.specs.declared.tree.Member.{Member, fold-Member}
use Rattle.nb_syntax.specs.declared.tree.PathStep.{PathStep, fold-PathStep}
use Rattle.nb_syntax.specs.declared.tree.Operand.{Operand, fold-Operand}
use Rattle.nb_syntax.specs.declared.tree.Stmt.{Stmt, fold-Stmt}
use Rattle.nb_syntax.specs.declared.tree.Stmt.TheOpen as level
use Rattle.nb_syntax.specs.declared.tree.Arm.{Arm, fold-Arm}
use Rattle.nb_syntax.specs.declared.tree.Block.{Block, fold-Block}
use Rattle.nb_syntax.specs.declared.tree.Body.{Body}
use Rattle.nb_syntax.specs.declared.tree.Body.TheVariants as body
use Rattle.nb_machine.specs.declared.instr.Instr.{Instr}
use Rattle.nb_machine.specs.declared.instr.Instr.TheVariants as i
use Rattle.nb_machine.specs.declared.instr.Word.TheVariants as word

abbrev pub Code : Type 0
Code = List Instr

-- ---- expressions, from the code of their parts

-- each part, and what takes its value
abbrev pub elements : List Code → Code
elements [] = []
elements (x ∷ xs) = x ++ (i.Append ∷ elements xs)

abbrev pub puts : List (List ℕ × Code) → Code
puts [] = []
puts (m ∷ ms) = m.1 ++ (i.Put m.0 ∷ puts ms)

-- a chain of operators, each with its charge
abbrev pub operations : (Sign → Instr) → List (Sign × Code) → Code
operations make [] = []
operations make (o ∷ os) = o.1 ++ (make o.0 ∷ i.Charge ∷ operations make os)

abbrev pub path : List Code → Code
path [] = []
path (x ∷ xs) = x ++ path xs

-- parts up to the first that is false, and then past what is known where all are true
abbrev pub ands : List Code → Code
ands [] = []
ands (x ∷ xs) = x ++ (i.Unless word.And (length (ands xs) + 2) ∷ ands xs)

abbrev pub ors : List Code → Code
ors [] = []
ors (x ∷ xs) = x ++ (i.When word.Or (length (ors xs) + 2) ∷ ors xs)

abbrev pub choice : Code → Code → Code → Code
choice c a b = c ++ (i.Unless word.Choice (length a + 1) ∷ (a ++ (i.Go (length b) ∷ (b ++ i.Charge ∷ []))))

abbrev pub expr_step : layer.Expr-F Code Code (List ℕ × Code) (Sign × Code) → Code
expr_step (layer.Int n) = i.Const (V.Int n) ∷ i.Charge ∷ []
expr_step (layer.Quoted t) = i.Const (V.Text t) ∷ i.Charge ∷ []
expr_step (layer.Bool b) = i.Const (V.Bool b) ∷ i.Charge ∷ []
expr_step layer.Null = i.Const V.Null ∷ i.Charge ∷ []
expr_step (layer.Name n) = i.Name n ∷ i.Charge ∷ []
expr_step (layer.List xs) = i.Values ∷ (elements xs ++ i.List ∷ i.Charge ∷ [])
expr_step (layer.Rec ms) = i.Fields ∷ (puts ms ++ i.Record ∷ i.Charge ∷ [])
expr_step (layer.Call f xs) = i.Values ∷ (elements xs ++ i.Call f ∷ i.Charge ∷ [])
expr_step (layer.Fetch e) = e ++ i.Fetch ∷ i.Charge ∷ []
expr_step (layer.Path e steps) = e ++ path steps
expr_step (layer.Unary sign e) = e ++ i.Unary sign ∷ i.Charge ∷ []
expr_step (layer.Product e more) = e ++ operations i.Product more
expr_step (layer.Sum e more) = e ++ operations i.Sum more
expr_step (layer.Compare sign a b) = a ++ (b ++ i.Compare sign ∷ i.Charge ∷ [])
expr_step (layer.And xs) = ands xs ++ i.Const (V.Bool true) ∷ i.Go 1 ∷ i.Const (V.Bool false) ∷ i.Charge ∷ []
expr_step (layer.Or xs) = ors xs ++ i.Const (V.Bool false) ∷ i.Go 1 ∷ i.Const (V.Bool true) ∷ i.Charge ∷ []
expr_step (layer.Choose c a b) = choice c a b

abbrev pub member_step : layer.Member-F Code Code (List ℕ × Code) (Sign × Code) → List ℕ × Code
member_step m = (m.key, m.value)

abbrev pub path_step : layer.PathStep-F Code Code (List ℕ × Code) (Sign × Code) → Code
path_step (layer.Field n) = i.Field n ∷ i.Charge ∷ []
path_step (layer.At e) = e ++ i.At ∷ i.Charge ∷ []

abbrev pub operand_step : layer.Operand-F Code Code (List ℕ × Code) (Sign × Code) → Sign × Code
operand_step o = (o.sign, o.expr)

abbrev pub expr_code : Expr → Code
expr_code = fold-Expr Code Code (List ℕ × Code) (Sign × Code) expr_step path_step member_step operand_step

abbrev pub member_code : Member → List ℕ × Code
member_code = fold-Member Code Code (List ℕ × Code) (Sign × Code) expr_step path_step member_step operand_step

abbrev pub path_code : PathStep → Code
path_code = fold-PathStep Code Code (List ℕ × Code) (Sign × Code) expr_step path_step member_step operand_step

abbrev pub operand_code : Operand → Sign × Code
operand_code = fold-Operand Code Code (List ℕ × Code) (Sign × Code) expr_step path_step member_step operand_step

-- ---- statements, from the code of their parts

abbrev pub other_code : Option Code → Code
other_code None = []
other_code (Some b) = b

-- each arm with a jump past the others, and then the last block
abbrev pub arms_code : List (Code × Code) → Code → Code
arms_code [] other = other
arms_code (a ∷ more) other = a.0 ++ (i.Unless word.If (length a.1 + 1) ∷ (a.1 ++ (i.Go (length (arms_code more other)) ∷ arms_code more other)))

-- the test, a jump past the end, the body, and a jump back to the test
abbrev pub while_code : Code → Code → Code
while_code test b = test ++ (i.Unless word.While (length b + 1) ∷ (b ++ i.Back (length test + 1 + length b) ∷ []))

-- a jump past the end where no turns are left, a turn, and a jump back
abbrev pub for_code : List ℕ → Code → Code
for_code n b = i.Next (length b + 4) ∷ i.Tick ∷ i.Take n ∷ (b ++ i.Leave ∷ i.Back (length b + 4) ∷ [])

abbrev pub stmt_step : level.Stmt-F Code (Code × Code) Code → Code
stmt_step (level.Let n e) = i.Tick ∷ (expr_code e ++ i.Let n ∷ [])
stmt_step (level.Assign n e) = i.Tick ∷ (expr_code e ++ i.Assign n ∷ [])
stmt_step (level.If arms other) = i.Tick ∷ arms_code arms (other_code other)
stmt_step (level.While e b) = i.Tick ∷ while_code (expr_code e) b
stmt_step (level.For n e b) = i.Tick ∷ (expr_code e ++ i.Turns ∷ for_code n b)
stmt_step (level.Yield e) = i.Tick ∷ (expr_code e ++ i.Yield ∷ [])
stmt_step (level.Return e) = i.Tick ∷ (expr_code e ++ i.Return ∷ [])
stmt_step (level.Throw e) = i.Tick ∷ (expr_code e ++ i.Throw ∷ [])
stmt_step (level.Cleanup e) = i.Tick ∷ (expr_code e ++ i.Cleanup ∷ [])

abbrev pub arm_step : level.Arm-F Code (Code × Code) Code → Code × Code
arm_step a = (expr_code a.test, a.body)

abbrev pub in_order : List Code → Code
in_order [] = []
in_order (x ∷ xs) = x ++ in_order xs

abbrev pub block_step : level.Block-F Code (Code × Code) Code → Code
block_step b = i.Enter ∷ (in_order b.stmts ++ i.Leave ∷ [])

abbrev pub stmt_code : Stmt → Code
stmt_code = fold-Stmt Code (Code × Code) Code stmt_step arm_step block_step

abbrev pub arm_code : Arm → Code × Code
arm_code = fold-Arm Code (Code × Code) Code stmt_step arm_step block_step

abbrev pub block_code : Block → Code
block_code = fold-Block Code (Code × Code) Code stmt_step arm_step block_step

-- the end of the statements gives null
abbrev pub body_code : Body → Code
body_code (body.Expr e) = expr_code e ++ i.Return ∷ []
body_code (body.Block b) = block_code b ++ i.Const V.Null ∷ i.Return ∷ []
