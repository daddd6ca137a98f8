-- What stands in front is the code of the last parts.
use Rattle.std.proofs.Common.{◌≡◌, ◌∷◌, ◌++◌, map, drop, true, false}
use Rattle.nb_value.specs.declared.value.Value.TheVariants as V
use Rattle.nb_machine.specs.declared.instr.Instr.TheVariants as i
use Rattle.nb_machine.specs.Code.{expr_code, member_code, path_code, operand_code, elements, puts, operations, path, ands, ors}
use Rattle.nb_machine.proofs.compile_expr.+compile.Given as goal

abbrev pub invariant-compile_values-loop-i : goal.invariant-compile_values-loop-i
invariant-compile_values-loop-i l = l.code ≡ elements (map expr_code (drop l.i l.exprs)) ++ l.fn.made ∷ i.Charge ∷ l.fn.code

abbrev pub invariant-compile_fields-loop-i : goal.invariant-compile_fields-loop-i
invariant-compile_fields-loop-i l = l.code ≡ puts (map member_code (drop l.i l.members)) ++ i.Record ∷ i.Charge ∷ l.fn.code

abbrev pub invariant-compile_path-loop-i : goal.invariant-compile_path-loop-i
invariant-compile_path-loop-i l = l.code ≡ path (map path_code (drop l.i l.steps)) ++ l.fn.code

abbrev pub invariant-compile_products-loop-i : goal.invariant-compile_products-loop-i
invariant-compile_products-loop-i l = l.code ≡ operations i.Product (map operand_code (drop l.i l.operands)) ++ l.fn.code

abbrev pub invariant-compile_sums-loop-i : goal.invariant-compile_sums-loop-i
invariant-compile_sums-loop-i l = l.code ≡ operations i.Sum (map operand_code (drop l.i l.operands)) ++ l.fn.code

abbrev pub invariant-compile_and-loop-i : goal.invariant-compile_and-loop-i
invariant-compile_and-loop-i l =
    l.code ≡ ands (map expr_code (drop l.i l.parts)) ++ i.Const (V.Bool true) ∷ i.Go 1 ∷ i.Const (V.Bool false) ∷ i.Charge ∷ l.fn.code

abbrev pub invariant-compile_or-loop-i : goal.invariant-compile_or-loop-i
invariant-compile_or-loop-i l =
    l.code ≡ ors (map expr_code (drop l.i l.parts)) ++ i.Const (V.Bool false) ∷ i.Go 1 ∷ i.Const (V.Bool true) ∷ i.Charge ∷ l.fn.code
