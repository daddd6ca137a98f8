use Rattle.std.proofs.Common.{◌≡◌, ◌∙◌, ◌+◌, ◌++◌, Bool, List, true, ap, map, take, length, arith}
use Rattle.std.proofs.lemmas.List.{take-append-le}
use Rattle.std.specs.List.{list_all}
use Rattle.nb_sheet.specs.Derive.{Modules, rows_of}
use Rattle.nb_sheet.specs.declared.row.VarRow.{VarRow}
use Rattle.nb_sheet.specs.declared.copies.NewModule.{NewModule}
use Rattle.nb_sheet.specs.Sheet.{Sheet, is_from, too_many}
use Rattle.nb_sheet.specs.Kept.{Kept}
use Rattle.nb_sheet.specs.Changes.{put_back}
use Rattle.nb_sheet.proofs.Adds.{added_keep}
use Rattle.nb_sheet.proofs.Marks.{kept_on}
use Rattle.nb_sheet.proofs.sheet.Sheet.add_copies.Goals as goal

pub invariant_of-self-2 : goal.invariant_of-self-2
invariant_of-self-2 c =
    let old : Sheet = record { builtins = c.self.inside.builtins; modules = c.self.inside.modules.items; rows = c.self.inside.rows.items } in
    let copies = c.args.copies in
    let m = c.self.inside.marked_modules in
    let n = c.self.inside.marked_rows in
    let marks : NewModule → Bool = λ c. true in
    let modules_is : c.add_modules.new.modules.items ≡ old.modules ++ map marks copies =
    c.add_modules.ensures.modules ∙ ap (λ (l : Modules). l ++ map marks copies) c.reserve.ensures.items in
    let rows_is : c.add_modules.new.rows.items ≡ old.rows ++ rows_of (length old.modules) c.args.place copies =
    c.add_modules.ensures.rows ∙ ap (λ (l : List VarRow). l ++ rows_of (length c.reserve.new.self.items) c.args.place copies) c.reserve-2.ensures.items
    ∙ ap (λ (l : Modules). old.rows ++ rows_of (length l) c.args.place copies) c.reserve.ensures.items in
    let keep = added_keep old copies c.args.place c.add_modules.new.modules.items c.add_modules.new.rows.items (ap (λ (k : Kept). too_many k.sheet copies) c.self.view_is ∙ c.requires.room)
    (ap (λ (k : Kept). list_all (is_from (length k.sheet.modules + length copies)) copies) c.self.view_is ∙ c.requires.there) modules_is rows_is c.self.invariant.sheet in
    kept_on old.builtins old.modules old.rows c.self.inside.changes.items m n c.add_modules.new.modules.items c.add_modules.new.rows.items c.self.inside.changes.items
    (ap (take m) modules_is ∙ take-append-le m old.modules (map marks copies) c.self.invariant.modules)
    (ap (λ (l : List VarRow). put_back c.self.inside.changes.items (take n l)) rows_is ∙ ap (put_back c.self.inside.changes.items) (take-append-le n old.rows (rows_of (length old.modules) c.args.place copies) c.self.invariant.rows))
    (omega (arith, keep.0)) (omega (arith, keep.1)) keep.2 c.self.invariant
