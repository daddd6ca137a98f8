-- The cells of a made notebook, each from its number and its three draws.
use Rattle.std.specs.Prelude.{ℕ, pos, ◌+◌, ◌-◌, ◌%◌, ◌==◌, ◌||◌, nat_lt, List, [], ◌∷◌, Some, if◌then◌else◌}
use Rattle.std.specs.Fmt.{decimal}
use Rattle.nb_syntax.specs.declared.tree.Sign.{Sign}
use Rattle.nb_syntax.specs.declared.tree.Sign.TheVariants as sign
use Rattle.nb_syntax.specs.declared.tree.Expr.{Expr}
use Rattle.nb_syntax.specs.declared.tree.Expr.TheVariants as tree
use Rattle.nb_syntax.specs.declared.tree.Operand.{Operand}
use Rattle.nb_syntax.specs.declared.tree.Stmt.TheVariants as stmt
use Rattle.nb_syntax.specs.declared.tree.Body.{Body}
use Rattle.nb_syntax.specs.declared.tree.Body.TheVariants as body
use Rattle.nb_syntax.specs.declared.tree.Cell.{Cell}

-- `ck`: the letter c and the number in decimal
abbrev pub name : ℕ → List ℕ
name k = 99 ∷ decimal k

abbrev pub named : ℕ → Body → Cell
named k b = record { name = Some (name k); body = b }

-- one operator with the part at its right
abbrev pub one_operand : Sign → Expr → List Operand
one_operand s e = record { sign = s; expr = e } ∷ []

-- `ca + e`
abbrev pub sum_with : ℕ → Expr → Expr
sum_with a e = tree.Sum (tree.Name (name a)) (one_operand sign.Plus e)

-- `ca + 1`
abbrev pub one_more : ℕ → Expr
one_more a = sum_with a (tree.Int (pos 1))

-- `ck = n`
abbrev pub number_cell : ℕ → ℕ → Cell
number_cell k n = named k (body.Expr (tree.Int (pos n)))

-- `ck = ca + 1`
abbrev pub more_cell : ℕ → ℕ → Cell
more_cell k a = named k (body.Expr (one_more a))

-- `ck = (ca + cb) % 1000`
abbrev pub sum_cell : ℕ → ℕ → ℕ → Cell
sum_cell k a b =
    named k (body.Expr (tree.Product (sum_with a (tree.Name (name b))) (one_operand sign.Remainder (tree.Int (pos 1000)))))

-- `ck = { yield ca; yield ca + 1; }`
abbrev pub yield_cell : ℕ → ℕ → Cell
yield_cell k a =
    named k (body.Block (record { stmts = stmt.Yield (tree.Name (name a)) ∷ stmt.Yield (one_more a) ∷ [] }))

-- the number of an earlier cell, from 1 to k - 1
abbrev pub earlier : ℕ → ℕ → ℕ
earlier k q = 1 + q % (k - 1)

-- the cell k of the draws p, q and r: p has its form, q and r what stands in it
unfoldable pub cell_of : ℕ → ℕ → ℕ → ℕ → Cell
cell_of k p q r =
    if (k == 1) || (p % 8 == 0) then number_cell k (q % 1000)
    else if nat_lt (p % 8) 4 then more_cell k (earlier k q)
    else if nat_lt (p % 8) 7 then sum_cell k (earlier k q) (earlier k r)
    else yield_cell k (earlier k q)
