use Rattle.std.proofs.Common.{rules, arith, ◌≡◌, ◌+◌, ◌-◌, [], ◌∷◌, ◌++◌, length, refl, sym, ap, ◌∙◌, length-append}
use Rattle.std.proofs.lemmas.Grind.{common_steps}
use Rattle.nb_machine.specs.declared.instr.Instr.TheVariants as i
use Rattle.nb_machine.specs.declared.instr.Word.TheVariants as word
use Rattle.nb_machine.specs.Code.{expr_code, block_code}
use Rattle.nb_machine.proofs.Written.{while_is, for_is}
use Rattle.nb_machine.proofs.compile_stmt.+compile_statements.Goals as goal

pub compile_while-returns : goal.compile_while-returns
compile_while-returns t c =
    let test = expr_code c.args.test.now in
    let b = block_code c.args.body.now in
    let old = c.args.code.now in
    let front = test ++ i.Unless word.While (length b + 1) ∷ b in
    let written : c.compile_expr.new.code ≡ front ++ i.Back 0 ∷ old = grind (arith, common_steps) in
    let set = c.set_before.ensures front old (i.Back 0) written (sym c.len-end.ensures.value) in
    grind (arith, common_steps, set, while_is test b old)

pub compile_for-returns : goal.compile_for-returns
compile_for-returns t c =
    let b = block_code c.args.body.now in
    let old = c.args.code.now in
    let front = i.Next (length b + 4) ∷ i.Tick ∷ i.Take c.args.name.now ∷ (b ++ i.Leave ∷ []) in
    let written : c.push_front-5.new.self ≡ front ++ i.Back 0 ∷ old = grind (arith, common_steps) in
    let set = c.set_before.ensures front old (i.Back 0) written (sym c.len-end.ensures.value) in
    grind (arith, common_steps, set, for_is c.args.name.now b old)
