-- Each entry keeps as many starts as variables, and a name only where a variable is defined: so these hold after every log.
use Rattle.std.proofs.Common.{inl, inr, ℕ, zero, suc, ◌+◌, ◌-◌, ◌≡◌, ◌≤◌, refl, ◌∙◌, ap, List, [], ◌∷◌, ◌++◌, length, replicate, length-append, Option, Some, None, arith}
use Rattle.std.proofs.lemmas.List.{length-replicate}
use Rattle.nb_value.specs.declared.pairs.Field.{Field}
use Rattle.nb_value.specs.declared.value.Value.{Value}
use Rattle.nb_sheet.specs.Lists.{nth, put, from_option}
use Rattle.nb_sheet.specs.Derive.{derived, rows_of}
use Rattle.nb_sheet.specs.Sheet.{Sheet, empty_sheet, change_row, edited_sheet, defined_by, undefined, the_one_named}
use Rattle.nb_sheet.specs.declared.row.VarRow.{VarRow}
use Rattle.nb_sheet.specs.declared.row.BodyOf.TheVariants.{Cell as CellBody, Import as ImportBody}
use Rattle.nb_sheet.specs.declared.edit.Edit.{Edit}
use Rattle.nb_sheet.specs.declared.edit.Edit.TheVariants.{AddModule, AddVariable, AddCell, Define, Import, Delete, Redefine, Derive}
use Rattle.nb_history.specs.Reading.{Reading, Start}
use Rattle.nb_history.specs.Log.{nothing_yet, with_sheet, pulled_from, after, read_from, reading}
use Rattle.nb_log.specs.declared.entry.Entry.{Entry}
use Rattle.nb_log.specs.declared.entry.Entry.TheVariants.{Edit as EditEntry, Frame, Settled, Late, Loaded, Refused, Rest, Dispose, Pending, Fulfilled, Rejected, Asked, Ended, Left}
use Rattle.nb_history.proofs.Closing.{Shaped, length_put}
use Rattle.nb_history.proofs.EditedRows.{edited_rows}
use Rattle.nb_history.proofs.Scratches.{NamedDefined}

-- what each reading keeps
pub record Sound (r : Reading) : Type 0 where
  pub shaped : Shaped r
  pub named : NamedDefined r.sheet

-- ---- as many starts as variables

change_length : (s : Sheet) (v : ℕ) (change : VarRow → VarRow) → length (change_row s v change).rows ≡ length s.rows
change_length s v change = go (nth s.rows v)
  where
    go : (o : Option VarRow) → length (from_option s.rows (λ row. put s.rows v (change row)) o) ≡ length s.rows
    go None = refl
    go (Some row) = length_put s.rows v (change row)

same_length : (m n : ℕ) → n ≡ m → m ≤ n
same_length m n e = omega (arith, e)

append_longer : {A : Type 0} (xs ys : List A) → length xs ≤ length (xs ++ ys)
append_longer xs ys = omega (arith, length-append xs ys)

-- an edit takes no variable away
edited_longer : (s : Sheet) (edit : Edit) (place : ℕ) → length s.rows ≤ length (edited_sheet s edit place).rows
edited_longer s AddModule place = omega arith
edited_longer s (AddVariable m observed) place = append_longer s.rows (record { «module» = m; observed = observed; name = None; body = None; place = 0 } ∷ [])
edited_longer s (AddCell m cell observed) place = append_longer s.rows (record { «module» = m; observed = observed; name = cell.name; body = Some (CellBody cell); place = place } ∷ [])
edited_longer s (Define v cell) place = same_length (length s.rows) (length (edited_sheet s (Define v cell) place).rows) (change_length s v (defined_by cell.name (CellBody cell) place))
edited_longer s (Import v name alias from) place = same_length (length s.rows) (length (edited_sheet s (Import v name alias from) place).rows) (change_length s v (defined_by (Some alias) (ImportBody name from) place))
edited_longer s (Delete v) place = same_length (length s.rows) (length (edited_sheet s (Delete v) place).rows) (change_length s v undefined)
edited_longer s (Redefine m cell) place =
    same_length (length s.rows) (length (edited_sheet s (Redefine m cell) place).rows)
    (change_length s (the_one_named s m cell.name) (λ row. record row { body = Some (CellBody cell); place = place }))
edited_longer s (Derive m specifiers source) place = append_longer s.rows (rows_of (length s.modules) place (derived s.modules s.rows m specifiers source))

shaped_sheet : (r : Reading) (s : Sheet) → Shaped r → length r.sheet.rows ≤ length s.rows → Shaped (with_sheet r s)
shaped_sheet r s h longer =
    let idle : Option Start = None in
    omega (arith, length-append r.starts (replicate (length s.rows - length r.starts) idle), length-replicate (length s.rows - length r.starts) idle, h, longer)

pulled_length : (r : Reading) (v : ℕ) (xs : List (Option Start)) → length (pulled_from r v xs) ≡ length xs
pulled_length r v [] = refl
pulled_length r v (x ∷ xs) = ap suc (pulled_length r (v + 1) xs)

pub shaped_after : (r : Reading) (e : Entry) → Shaped r → Shaped (after r e)
shaped_after r (EditEntry editor edit) h = shaped_sheet r (edited_sheet r.sheet edit (r.entries + 1)) h (edited_longer r.sheet edit (r.entries + 1))
shaped_after r (Frame editor) h = pulled_length r 1 r.starts ∙ h
shaped_after r (Settled editor t a) h = length_put _ _ _ ∙ h
shaped_after r (Late editor t) h = h
shaped_after r (Loaded t a) h = length_put _ _ _ ∙ h
shaped_after r (Refused editor reason event) h = h
shaped_after r (Rest editor) h = h
shaped_after r (Dispose editor) h = h
shaped_after r (Pending v d) h = length_put _ _ _ ∙ h
shaped_after r (Fulfilled v x) h = length_put _ _ _ ∙ h
shaped_after r (Rejected v e) h = length_put _ _ _ ∙ h
shaped_after r (Asked v t key) h = length_put _ _ _ ∙ h
shaped_after r (Ended v) h = length_put _ _ _ ∙ h
shaped_after r (Left v d) h = length_put _ _ _ ∙ h

-- ---- a name only where a variable is defined

named_edited : (s : Sheet) (edit : Edit) (place : ℕ) → NamedDefined s → NamedDefined (edited_sheet s edit place)
named_edited s edit place h v row at = elim (edited_rows s edit place v row at) [
  | inl old ↦ h v row old
  | inr fresh ↦ fresh.named
]

named_after : (r : Reading) (e : Entry) → NamedDefined r.sheet → NamedDefined (after r e).sheet
named_after r (EditEntry editor edit) h = named_edited r.sheet edit (r.entries + 1) h
named_after r (Frame editor) h = h
named_after r (Settled editor t a) h = h
named_after r (Late editor t) h = h
named_after r (Loaded t a) h = h
named_after r (Refused editor reason event) h = h
named_after r (Rest editor) h = h
named_after r (Dispose editor) h = h
named_after r (Pending v d) h = h
named_after r (Fulfilled v x) h = h
named_after r (Rejected v e) h = h
named_after r (Asked v t key) h = h
named_after r (Ended v) h = h
named_after r (Left v d) h = h

-- ---- after every log

pub sound_after : (r : Reading) (e : Entry) → Sound r → Sound (after r e)
sound_after r e h = record { shaped = shaped_after r e h.shaped; named = named_after r e h.named }

pub sound_from : (r : Reading) (es : List Entry) → Sound r → Sound (read_from r es)
sound_from r [] h = h
sound_from r (e ∷ es) h = sound_from (after r e) es (sound_after r e h)

pub sound_first : (builtins : List (Field Value)) → Sound (nothing_yet builtins)
sound_first builtins = record { shaped = refl; named = nowhere }
  where
    nowhere : NamedDefined (empty_sheet builtins)
    nowhere zero row at = absurd (cc)
    nowhere (suc i) row at = absurd (cc)

pub sound_reading : (builtins : List (Field Value)) (log : List Entry) → Sound (reading builtins log)
sound_reading builtins log = sound_from (nothing_yet builtins) log (sound_first builtins)
