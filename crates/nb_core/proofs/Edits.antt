-- What an edit makes of the machine's parts, and what the log gains by it.
use Rattle.std.proofs.Common.{ℕ, ◌≡◌, ◌+◌, ◌-◌, sym, ◌∙◌, ap, Bool, List, [], ◌∷◌, ◌++◌, length, replicate, Option, None}
use Rattle.nb_value.specs.declared.value.Value.{Value}
use Rattle.nb_value.specs.declared.pairs.Field.{Field}
use Rattle.nb_sheet.specs.Sheet.{Sheet, edited_sheet}
use Rattle.nb_sheet.specs.declared.edit.Edit.{Edit}
use Rattle.nb_log.specs.declared.entry.Entry.{Entry}
use Rattle.nb_log.specs.declared.entry.Entry.TheVariants.{Edit as EditEntry}
use Rattle.nb_history.specs.Reading.{Reading, Start, Ticket, start_of}
use Rattle.nb_history.specs.Log.{changed, after, with_sheet}
use Rattle.nb_history.specs.History.{History, standing, plus, plus_all}
use Rattle.nb_history.proofs.EditedRows.{edited_builtins}
use Rattle.nb_history.proofs.StartsAfter.{start_sheet}
use Rattle.nb_history.proofs.Shapes.{Sound, sound_reading, shaped_after}
use Rattle.nb_closing.specs.declared.step.Step.{Step}
use Rattle.nb_closing.specs.Plan.{Plans, planned}
use Rattle.nb_closing.specs.Ties.{all_ties}
use Rattle.nb_core.specs.Core.{Gains}
use Rattle.nb_core.specs.Stands.{leaves, Stands, HasParts}
use Rattle.nb_core.proofs.Plans.{plan_then, gains_plan, sheet_then}
use Rattle.nb_core.proofs.Plus.{stands_plus}

-- an edit at this place, after which the sheet is sheet', and the log has its entry
module _ (h : History) (sheet sheet' : Sheet) (starts : List (Option Start)) (disposed : Bool) (tickets : List Ticket) (log log' : List Entry) (editor : ℕ) (edit : Edit) (place : ℕ)
    (view : record { builtins = sheet.builtins; log = log } ≡ h) (stands : Stands sheet starts disposed tickets log)
    (at : place ≡ length log + 1) (edited : sheet' ≡ edited_sheet sheet edit place) (longer : log' ≡ log ++ EditEntry editor edit ∷ []) where
  abbrev parts : Reading
  parts = leaves sheet starts disposed tickets log

  abbrev then : History
  then = record { builtins = sheet'.builtins; log = log' }

  sheet_is : edited_sheet sheet edit (length log + 1) ≡ sheet'
  sheet_is = ap (edited_sheet sheet edit) (sym at) ∙ sym edited

  builtins_stay : sheet'.builtins ≡ sheet.builtins
  builtins_stay = ap (λ (s : Sheet). s.builtins) edited ∙ edited_builtins sheet edit place

  -- new variables are idle
  pub stands_edited : (starts' : List (Option Start)) (tickets' : List Ticket) → starts' ≡ starts ++ replicate (length sheet'.rows - length starts) None → tickets' ≡ tickets
      → Stands sheet' starts' disposed tickets' log'
  stands_edited starts' tickets' padded same =
      stands_plus sheet sheet' starts starts' disposed disposed tickets tickets' log log' (EditEntry editor edit) stands longer builtins_stay
      (ap (with_sheet parts) sheet_is
      ∙ ap (λ (ss : List (Option Start)). leaves sheet' ss disposed tickets log) (sym padded)
      ∙ ap (λ (ts : List Ticket). leaves sheet' starts' disposed ts log) (sym same))

  now : standing h ≡ parts
  now = ap standing (sym view) ∙ stands

  edited_parts : HasParts (after (standing h) (EditEntry editor edit)) sheet' starts disposed (length log + 1)
  edited_parts = record {
    sheet = ap (λ (x : Reading). edited_sheet x.sheet edit (x.entries + 1)) now ∙ sheet_is;
    shaped = shaped_after (standing h) (EditEntry editor edit) (Sound.shaped (sound_reading h.builtins h.log));
    starts = λ v. start_sheet (standing h) (edited_sheet (standing h).sheet edit ((standing h).entries + 1)) v ∙ ap (λ (x : Reading). start_of x v) now;
    disposed = ap (λ (x : Reading). x.disposed) now;
    entries = ap (λ (x : Reading). x.entries + 1) now;
  }

  done : then ≡ plus h (EditEntry editor edit)
  done =
      ap (λ (b : List (Field Value)). record { builtins = b; log = log' }) builtins_stay
      ∙ ap (λ (l : List Entry). record { builtins = sheet.builtins; log = l }) longer
      ∙ ap (λ (g : History). plus g (EditEntry editor edit)) view

  module _ (steps : List Step) (plans : (r : Reading) → HasParts r sheet' starts disposed (length log + 1) → Plans r steps) where
    pub plans_edited : Plans (standing then) steps
    plans_edited = plan_then h then (EditEntry editor edit) steps done (plans (after (standing h) (EditEntry editor edit)) edited_parts)

    module _ (new : History) (commits : new ≡ plus_all then (planned (standing then) steps)) where
      pub gains_edited : Gains h (EditEntry editor edit) new
      gains_edited = gains_plan h then (EditEntry editor edit) steps done new (plans (after (standing h) (EditEntry editor edit)) edited_parts) commits

      pub ties_edited : all_ties sheet' ≡ all_ties (standing new).sheet
      ties_edited =
          ap all_ties
          (sym edited_parts.sheet ∙ sym (sheet_then h then (EditEntry editor edit) steps done new (plans (after (standing h) (EditEntry editor edit)) edited_parts) commits))
