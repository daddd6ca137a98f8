-- Worked sheets: what edits make of a sheet without variables, each at the place of its number.
use Rattle.std.specs.Prelude.{ℕ, ◌+◌, pos, ◌≡◌, refl, Bool, true, false, cond, List, [], ◌∷◌, Option, Some, None, is_some, codes}
use Rattle.nb_syntax.specs.declared.tree.Cell.{Cell}
use Rattle.nb_syntax.specs.declared.tree.Body.TheVariants as body
use Rattle.nb_syntax.specs.declared.tree.Expr.{Expr}
use Rattle.nb_syntax.specs.declared.tree.Expr.TheVariants as expr
use Rattle.nb_syntax.specs.declared.tree.Sign.TheVariants.{Plus, Times}
use Rattle.nb_sheet.specs.Lists.{Name}
use Rattle.nb_sheet.specs.declared.row.BodyOf.{BodyOf}
use Rattle.nb_sheet.specs.declared.row.BodyOf.TheVariants.{Cell as CellBody, Import as ImportBody}
use Rattle.nb_sheet.specs.declared.row.VarRow.{VarRow}
use Rattle.nb_sheet.specs.declared.edit.Edit.{Edit}
use Rattle.nb_sheet.specs.declared.edit.Edit.TheVariants.{AddModule, AddVariable, AddCell, Import, Redefine, Derive}
use Rattle.nb_sheet.specs.Sheet.{Sheet, empty_sheet, refusal, edited_sheet}

-- the sheet after the edits, none of which is refused
abbrev pub after : ℕ → Sheet → List Edit → Option Sheet
after place s [] = Some s
after place s (e ∷ edits) = cond (is_some (refusal s e)) None (after (place + 1) (edited_sheet s e place) edits)

abbrev pub sheet : List Bool → List VarRow → Sheet
sheet modules rows = record { builtins = []; modules = modules; rows = rows }

abbrev pub int : ℕ → Expr
int n = expr.Int (pos n)

abbrev pub cell : Name → Expr → Cell
cell name e = record { name = Some name; body = body.Expr e }

abbrev pub a : Name
a = codes "a"

abbrev pub b : Name
b = codes "b"

abbrev pub c : Name
c = codes "c"

abbrev pub d : Name
d = codes "d"

abbrev pub n : Name
n = codes "n"

abbrev pub v : Name
v = codes "v"

abbrev pub w : Name
w = codes "w"

abbrev pub out : Name
out = codes "out"

abbrev pub b_times_10 : Expr
b_times_10 = expr.Product (expr.Name b) (record { sign = Times; expr = int 10 } ∷ [])

abbrev pub n_plus_1 : Expr
n_plus_1 = expr.Sum (expr.Name n) (record { sign = Plus; expr = int 1 } ∷ [])

abbrev pub v_times_2 : Expr
v_times_2 = expr.Product (expr.Name v) (record { sign = Times; expr = int 2 } ∷ [])

abbrev pub row : ℕ → Name → BodyOf → ℕ → VarRow
row m name body place = record { «module» = m; observed = false; name = Some name; body = Some body; place = place }

abbrev pub shown : ℕ → Name → BodyOf → ℕ → VarRow
shown m name body place = record { «module» = m; observed = true; name = Some name; body = Some body; place = place }

abbrev pub of_cell : ℕ → Name → Expr → ℕ → VarRow
of_cell m name e place = row m name (CellBody (cell name e)) place

-- a derived module: b is replaced, c copied
pub a_derived_module :
    after 1 (empty_sheet []) (
    AddModule
    ∷ AddCell 0 (cell b (int 2)) false
    ∷ AddCell 0 (cell c b_times_10) false
    ∷ AddCell 1 (cell a (int 5)) false
    ∷ Derive 0 (record { name = a; alias = b } ∷ []) 1
    ∷ AddVariable 0 true
    ∷ Import 6 c d 2
    ∷ Redefine 1 (cell a (int 7))
    ∷ Redefine 0 (cell b (int 3))
    ∷ []
    )
    ≡ Some (sheet (false ∷ false ∷ true ∷ []) (
    of_cell 0 b (int 3) 9
    ∷ of_cell 0 c b_times_10 3
    ∷ of_cell 1 a (int 7) 8
    ∷ row 2 b (ImportBody a 1) 5
    ∷ of_cell 2 c b_times_10 5
    ∷ shown 0 d (ImportBody c 2) 7
    ∷ []
    ))
a_derived_module = refl

-- a deep derived module: module 1 imports from module 2, which a derive made, so that module 2 is copied too
pub a_deep_derived_module :
    after 1 (empty_sheet []) (
    AddCell 0 (cell n (int 1)) false
    ∷ AddCell 0 (cell v n_plus_1) false
    ∷ AddModule
    ∷ AddCell 1 (cell n (int 10)) false
    ∷ Derive 0 (record { name = n; alias = n } ∷ []) 1
    ∷ AddVariable 1 false
    ∷ Import 6 v v 2
    ∷ AddCell 1 (cell w v_times_2) false
    ∷ AddModule
    ∷ AddCell 3 (cell n (int 100)) false
    ∷ Derive 1 (record { name = n; alias = n } ∷ []) 3
    ∷ AddVariable 0 true
    ∷ Import 14 w out 4
    ∷ []
    )
    ≡ Some (sheet (false ∷ false ∷ true ∷ false ∷ true ∷ true ∷ []) (
    of_cell 0 n (int 1) 1
    ∷ of_cell 0 v n_plus_1 2
    ∷ of_cell 1 n (int 10) 4
    ∷ row 2 n (ImportBody n 1) 5
    ∷ of_cell 2 v n_plus_1 5
    ∷ row 1 v (ImportBody v 2) 7
    ∷ of_cell 1 w v_times_2 8
    ∷ of_cell 3 n (int 100) 10
    ∷ row 4 n (ImportBody n 3) 11
    ∷ row 4 v (ImportBody v 5) 11
    ∷ of_cell 4 w v_times_2 11
    ∷ row 5 n (ImportBody n 4) 11
    ∷ of_cell 5 v n_plus_1 11
    ∷ shown 0 out (ImportBody w 4) 13
    ∷ []
    ))
a_deep_derived_module = refl
