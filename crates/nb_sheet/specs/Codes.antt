-- A code, by which proofs tell sheets apart.
use Rattle.std.specs.Prelude.{List, refl}
use Rattle.std.specs.Coded.{Coded, code_by, coded×, coded_bool, coded_list}
use Rattle.nb_value.specs.declared.value.Value.{Value}
use Rattle.nb_value.specs.declared.pairs.Field.{Field}
use Rattle.nb_value.specs.Fields.{fields_code}
use Rattle.nb_sheet.specs.declared.row.VarRow.{VarRow}
use Rattle.nb_sheet.specs.Derive.{Modules}
use Rattle.nb_sheet.specs.Sheet.{Sheet}
use Rattle.nb_sheet.specs.Kept.{Kept}

abbrev pub sheet_code : Coded Value → Coded VarRow → Coded Sheet
sheet_code value row =
    code_by (List (Field Value) × (Modules × List VarRow)) (coded× (fields_code value) (coded× (coded_list coded_bool) (coded_list row)))
    (λ s. (s.builtins, (s.modules, s.rows)))
    (λ p. record { builtins = p.0; modules = p.1.0; rows = p.1.1 })
    (λ _. refl)

abbrev pub kept_code : Coded Value → Coded VarRow → Coded Kept
kept_code value row =
    code_by (Sheet × Sheet) (coded× (sheet_code value row) (sheet_code value row))
    (λ k. (k.sheet, k.marked))
    (λ p. record { sheet = p.0; marked = p.1 })
    (λ _. refl)
