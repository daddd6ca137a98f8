-- The history of a made notebook, in which no program is run.
use Rattle.std.proofs.Common.{◌≡◌, ℕ, List, [], ◌∷◌, ◌++◌, length, Option, Some, None, inl, inr, refl, sym, ap, ◌∙◌, subst}
use Rattle.std.proofs.lemmas.Option.{none-some}
use Rattle.nb_value.specs.declared.value.Value.{Value}
use Rattle.nb_value.specs.declared.pairs.Field.{Field}
use Rattle.nb_io.specs.declared.spawner.ChildRun.{ChildRun}
use Rattle.nb_sheet.specs.Lists.{Name, nth, option_then}
use Rattle.nb_log.specs.declared.entry.Entry.{Entry}
use Rattle.nb_log.specs.declared.entry.Entry.TheVariants as entry
use Rattle.nb_lines.specs.declared.script.ScriptLine.{ScriptLine}
use Rattle.nb_lines.specs.Lines.{script_lines}
use Rattle.nb_make.specs.Made.{made}
use Rattle.nb_doc.specs.declared.document.Document.{Document}
use Rattle.nb_loader.specs.Loads.{as_loaders}
use Rattle.nb_history.specs.Reading.{Reading, Ticket}
use Rattle.nb_history.specs.Log.{after, nothing_yet}
use Rattle.nb_history.specs.Loaders.{AreRuns, argv_for}
use Rattle.nb_history.specs.History.{History}
use Rattle.nb_history.specs.Headline.{IsHistoryOf}
use Rattle.nb_print.specs.declared.summary.Making.{Making}
use Rattle.nb_print.specs.Summary.{summary_text}
use Rattle.nb_main.specs.Outcome.{no_document, opening_lines}
use Rattle.nb_main.specs.Run.{HasHistory}
use Rattle.nb_main.specs.Made.{MakesTo, making}

-- without loaders no ticket has a program
no_argv : (ticket : Option Ticket) → ◌≡◌ {A = Option (List Name)} (option_then ticket (λ (k : Ticket). None)) None
no_argv None = refl
no_argv (Some k) = refl

-- so no program was run
no_runs : (r : Reading) (es : List Entry) (runs : List ChildRun) → AreRuns [] r es runs → runs ≡ []
no_runs r [] [] told = refl
no_runs r [] (run ∷ runs) told = absurd told
no_runs r (entry.Loaded t a ∷ es) [] told = refl
no_runs r (entry.Loaded t a ∷ es) (run ∷ runs) told = absurd (none-some run.argv (sym (no_argv (nth r.tickets t)) ∙ told.0.argv))
no_runs r (entry.Edit e x ∷ es) runs told = no_runs (after r (entry.Edit e x)) es runs told
no_runs r (entry.Frame e ∷ es) runs told = no_runs (after r (entry.Frame e)) es runs told
no_runs r (entry.Settled e t a ∷ es) runs told = no_runs (after r (entry.Settled e t a)) es runs told
no_runs r (entry.Late e t ∷ es) runs told = no_runs (after r (entry.Late e t)) es runs told
no_runs r (entry.Refused e w x ∷ es) runs told = no_runs (after r (entry.Refused e w x)) es runs told
no_runs r (entry.Rest e ∷ es) runs told = no_runs (after r (entry.Rest e)) es runs told
no_runs r (entry.Dispose e ∷ es) runs told = no_runs (after r (entry.Dispose e)) es runs told
no_runs r (entry.Pending v d ∷ es) runs told = no_runs (after r (entry.Pending v d)) es runs told
no_runs r (entry.Fulfilled v x ∷ es) runs told = no_runs (after r (entry.Fulfilled v x)) es runs told
no_runs r (entry.Rejected v x ∷ es) runs told = no_runs (after r (entry.Rejected v x)) es runs told
no_runs r (entry.Asked v t k ∷ es) runs told = no_runs (after r (entry.Asked v t k)) es runs told
no_runs r (entry.Ended v ∷ es) runs told = no_runs (after r (entry.Ended v)) es runs told
no_runs r (entry.Left v d ∷ es) runs told = no_runs (after r (entry.Left v d)) es runs told

-- what stands in the machine, where it has no builtins
abbrev made_of : (builtins : List (Field Value)) → Making → List Entry → List ℕ
made_of builtins m log = summary_text m (record { builtins = builtins; log = log })

over_nothing : (lines : List ScriptLine) (old new : Option (List ChildRun)) (log : List Entry) → HasHistory [] [] (script_lines lines) old new log → IsHistoryOf [] [] (script_lines lines) [] log
over_nothing lines old new log h =
    subst (λ (runs : List ChildRun). IsHistoryOf [] [] (script_lines lines) runs log) (no_runs (nothing_yet []) log h.runs h.history.told) h.history

-- the summary of the history that was run
pub makes : (cells seed : ℕ) (lines : List ScriptLine) (document : Document) (core : History) (old new : Option (List ChildRun)) (text : List ℕ)
    → lines ≡ made cells seed → document ≡ no_document → core.builtins ≡ document.builtins
    → HasHistory document.builtins (as_loaders document.loaders) (opening_lines document.lines ++ script_lines lines) old new core.log
    → text ≡ summary_text (record { cells = cells; seed = seed; lines = length lines }) core → MakesTo cells seed text
makes cells seed lines document core old new text are empty over history is =
    let here : HasHistory [] [] (script_lines lines) old new core.log
    = subst (λ (d : Document). HasHistory d.builtins (as_loaders d.loaders) (opening_lines d.lines ++ script_lines lines) old new core.log) empty history in
    let none : core.builtins ≡ [] = over ∙ ap (λ (d : Document). d.builtins) empty in
    subst (λ (ls : List ScriptLine). IsHistoryOf [] [] (script_lines ls) [] core.log → text ≡ summary_text (record { cells = cells; seed = seed; lines = length ls }) core → MakesTo cells seed text) (sym are)
    (λ told summed. record {
      log = core.log;
      history = told;
      summed = summed ∙ ap (λ b. made_of b (making cells seed) core.log) none;
    })
    (over_nothing lines old new core.log here) is
