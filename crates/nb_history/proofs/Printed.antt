-- The bytes that a small log prints as, and a history of two editors.
use Rattle.std.specs.Prelude.{ℕ, ℤ, pos, Bool, Some, ◌≡◌, refl, List, [], ◌∷◌, ◌++◌, codes}
use Rattle.std.proofs.Common.{ap, sym, ◌∙◌}
use Rattle.std.specs.Fmt.{digits}
use Rattle.serde_json.specs.Data as tree
use Rattle.serde_json.specs.Data.{Data}
use Rattle.serde_json.specs.Find.{of_integer}
use Rattle.serde_json.proofs.OnLiterals.{serde_json_on_literals}
use Rattle.nb_value.specs.Json.{json_data, data_step}
use Rattle.nb_value.specs.declared.value.Value.TheVariants as V
use Rattle.nb_value.specs.declared.value.Value.TheViews as values
use Rattle.nb_value.specs.declared.value.Value.TheOpen.{Value-F}
use Rattle.nb_value.specs.declared.value.Value.TheFolds.{fold-roll-Value}
use Rattle.nb_value.proofs.JsonLaws.{json_data-List, json_data-Rec}
use Rattle.nb_log.specs.Printing.{entry_size, entry_value, line_text, table_value, done_value}
use Rattle.nb_log.specs.declared.entry.Entry.TheVariants.{Edit as EditEntry, Pending}
use Rattle.nb_sheet.specs.declared.edit.Edit.TheVariants.{Define}
use Rattle.nb_log.specs.declared.event.Event.TheVariants.{Edit as EditEvent}
use Rattle.nb_history.specs.Edited.{TakesTurns}
use Rattle.nb_log.specs.declared.entry.Entry.{Entry}
use Rattle.nb_sheet.specs.declared.edit.Edit.{Edit}
use Rattle.nb_value.specs.declared.outcome.Outcome.TheVariants.{Value as Shows}
use Rattle.nb_history.specs.Log.{nothing_yet}
use Rattle.nb_history.specs.Print.{printing}
use Rattle.nb_history.proofs.Cells.{plus, cell, fold_int, fold_plus, size_pending, size_add}
use Rattle.nb_history.proofs.Rows.{int, add, edited, pend, shows}

pub a_start_without_cleanups_has_size_eleven : entry_size (Pending 1 []) ≡ 11
a_start_without_cleanups_has_size_eleven = size_pending 1

data_text : (t : List ℕ) → json_data (V.Text t) ≡ tree.string t
data_text t = ap json_data (sym (values.rolls-Text t)) ∙ fold-roll-Value Data data_step (Value-F.Text t)

data_int : (n : ℤ) → json_data (V.Int n) ≡ tree.number (of_integer n)
data_int n = ap json_data (sym (values.rolls-Int n)) ∙ fold-roll-Value Data data_step (Value-F.Int n)

data_bool : (b : Bool) → json_data (V.Bool b) ≡ tree.boolean b
data_bool b = ap json_data (sym (values.rolls-Bool b)) ∙ fold-roll-Value Data data_step (Value-F.Bool b)

-- each text, and a line feed
abbrev in_lines : List (List ℕ) → List ℕ
in_lines [] = []
in_lines (t ∷ ts) = t ++ 10 ∷ in_lines ts

abbrev a_sum : Edit
a_sum = add (codes "x") (plus (int 1) (int 2))

an_edit_prints : line_text (entry_value (edited a_sum)) ≡ codes "[\"edit\",0,{\"cell\":\"x = 1 + 2\",\"do\":\"cell\",\"module\":0,\"observed\":true}]" ++ 10 ∷ []
unfolding serde_json_on_literals digits
an_edit_prints = rw (json_data-List) (simp (json_data-Rec, data_text, data_int, data_bool, fold_plus, fold_int))

a_start_prints : line_text (entry_value (pend 1)) ≡ codes "[\"pending\",1,[]]" ++ 10 ∷ []
unfolding serde_json_on_literals digits
a_start_prints = rw (json_data-List) (simp (json_data-List, data_text, data_int))

a_value_prints : line_text (entry_value (shows 1 3)) ≡ codes "[\"fulfilled\",1,3]" ++ 10 ∷ []
unfolding serde_json_on_literals digits
a_value_prints = rw (json_data-List) (simp (data_text, data_int))

a_table_line_prints : line_text (table_value 1 (Some (codes "x")) (Some (Shows (V.Int (pos 3))))) ≡ codes "[\"value\",1,\"x\",\"fulfilled\",3]" ++ 10 ∷ []
unfolding serde_json_on_literals digits
a_table_line_prints = rw (json_data-List) (simp (data_text, data_int))

the_end_prints : line_text (done_value 3) ≡ codes "[\"done\",3]" ++ 10 ∷ []
unfolding serde_json_on_literals digits
the_end_prints = rw (json_data-List) (simp (data_text, data_int))

abbrev a_log : List Entry
a_log = edited a_sum ∷ pend 1 ∷ shows 1 3 ∷ []

-- three entries, the table of one and the end
abbrev together : List ℕ → List ℕ → List ℕ → List ℕ → List ℕ → List ℕ
together a b c d e = ((a ++ (b ++ (c ++ []))) ++ (d ++ [])) ++ e

pub a_log_prints : printing [] a_log ≡ in_lines (
    codes "[\"edit\",0,{\"cell\":\"x = 1 + 2\",\"do\":\"cell\",\"module\":0,\"observed\":true}]"
    ∷ codes "[\"pending\",1,[]]"
    ∷ codes "[\"fulfilled\",1,3]"
    ∷ codes "[\"value\",1,\"x\",\"fulfilled\",3]"
    ∷ codes "[\"done\",3]"
    ∷ [])
unfolding printing
a_log_prints = λ i. together (an_edit_prints i) (a_start_prints i) (a_value_prints i) (a_table_line_prints i) (the_end_prints i)

-- editor 1 gives another definition before the first one has shown
pub two_editors_take_turns : TakesTurns (nothing_yet []) [] ((0, EditEvent (add (codes "x") (int 1))) ∷ (1, EditEvent (Define 1 (cell (codes "x") (int 2)))) ∷ [])
    (edited (add (codes "x") (int 1)) ∷ pend 1 ∷ EditEntry 1 (Define 1 (cell (codes "x") (int 2))) ∷ pend 1 ∷ shows 1 2 ∷ [])
unfolding digits
two_editors_take_turns = (refl, (simp (size_add, size_pending, fold_int), (refl, refl)))
