-- What a sheet with its mark keeps.
use Rattle.std.proofs.Common.{ℕ, ◌≡◌, ◌≤◌, refl, sym, ◌∙◌, ap, subst, List, [], ◌∷◌, length, take, arith}
use Rattle.std.proofs.lemmas.List.{length-take-le, length-set, take_all}
use Rattle.nb_value.specs.declared.pairs.Field.{Field}
use Rattle.nb_value.specs.declared.value.Value.{Value}
use Rattle.nb_sheet.specs.declared.row.VarRow.{VarRow}
use Rattle.nb_sheet.specs.declared.rows.Change.{Change}
use Rattle.nb_sheet.specs.Derive.{Modules}
use Rattle.nb_sheet.specs.Sheet.{Sheet, IsSheet}
use Rattle.nb_sheet.specs.Changes.{put_back, GiveTheSame}
use Rattle.nb_sheet.specs.Kept.{Kept, IsKept, kept}
use Rattle.nb_sheet.proofs.Keeps.{IsChanged}

module _ (builtins : List (Field Value)) (modules : Modules) (rows : List VarRow) (changes : List Change) (m n : ℕ) where
  -- what an undo gives stays
  pub kept_on : (new_modules : Modules) (new_rows : List VarRow) (new_changes : List Change) → take m new_modules ≡ take m modules → put_back new_changes (take n new_rows) ≡ put_back changes (take n rows)
      → length modules ≤ length new_modules → length rows ≤ length new_rows → IsSheet (record { builtins = builtins; modules = new_modules; rows = new_rows })
      → IsKept (kept builtins modules rows changes m n) m n → IsKept (kept builtins new_modules new_rows new_changes m n) m n
  kept_on new_modules new_rows new_changes e f low few is h = record {
    sheet = is;
    marked = subst (λ (p : Modules). IsSheet (record { builtins = builtins; modules = p; rows = put_back new_changes (take n new_rows) })) (sym e)
        (subst (λ (p : List VarRow). IsSheet (record { builtins = builtins; modules = take m modules; rows = p })) (sym f) h.marked);
    modules = omega (arith, h.modules, low);
    rows = omega (arith, h.rows, few);
  }

  pub kept_rows : (new : List VarRow) (new_changes : List Change) → GiveTheSame changes rows new_changes new → IsChanged (record { builtins = builtins; modules = modules; rows = rows }) new
      → IsKept (kept builtins modules rows changes m n) m n → IsKept (kept builtins modules new new_changes m n) m n
  kept_rows new new_changes same is h = kept_on modules new new_changes refl (same n) (omega arith) (omega (arith, is.0)) is.1 h

  back_length : (cs : List Change) (l : List VarRow) → length (put_back cs l) ≡ length l
  back_length [] l = refl
  back_length (c ∷ cs) l = length-set (put_back cs l) c.at c.row ∙ back_length cs l

  abbrev sheet_of : Modules → List VarRow → Sheet
  sheet_of p q = record { builtins = builtins; modules = p; rows = q }

  -- an undo
  pub undone : (new_modules : Modules) (new_rows : List VarRow) (new_changes : List Change) → new_modules ≡ take m modules → new_rows ≡ put_back changes (take n rows) → new_changes ≡ []
      → IsKept (kept builtins modules rows changes m n) m n
      → (Kept.marked (kept builtins new_modules new_rows new_changes m n) ≡ Kept.marked (kept builtins modules rows changes m n)) × IsKept (kept builtins new_modules new_rows new_changes m n) m n
  undone new_modules new_rows new_changes e f g h =
      let modules_size : length (take m modules) ≡ m = length-take-le m modules h.modules in
      let rows_size : length new_rows ≡ n = ap length f ∙ back_length changes (take n rows) ∙ length-take-le n rows h.rows in
      let all_modules : take m new_modules ≡ take m modules = ap (take m) e ∙ take_all m (take m modules) (omega (arith, modules_size)) in
      let all_rows : put_back new_changes (take n new_rows) ≡ put_back changes (take n rows) =
      ap (λ (cs : List Change). put_back cs (take n new_rows)) g ∙ take_all n new_rows (omega (arith, rows_size)) ∙ f in
      let same : Kept.marked (kept builtins new_modules new_rows new_changes m n) ≡ Kept.marked (kept builtins modules rows changes m n) =
      ap (λ (p : Modules). sheet_of p (put_back new_changes (take n new_rows))) all_modules ∙ ap (sheet_of (take m modules)) all_rows in (
        same,
        record {
          sheet = subst (λ (p : Modules). IsSheet (record { builtins = builtins; modules = p; rows = new_rows })) (sym e)
              (subst (λ (p : List VarRow). IsSheet (record { builtins = builtins; modules = take m modules; rows = p })) (sym f) h.marked);
          marked = subst IsSheet (sym same) h.marked;
          modules = omega (arith, ap length e, modules_size);
          rows = omega (arith, rows_size);
        },
      )
