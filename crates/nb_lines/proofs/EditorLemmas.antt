-- The editor of each line that is read is one of eight.
use Rattle.std.proofs.Common.{◌≡◌, ◌<◌, ℕ, zero, suc, List, [], ◌∷◌, Option, Some, None, option_map, option_and_then, unwrap_or, Bool, true, false, cond, refl, sym, ap, arith, nat_le, All, Result, Ok, Err, IfOk, subst}
use Rattle.std.proofs.lemmas.Bool.{leb-true}
use Rattle.std.proofs.lemmas.Option.{same_Some}
use Rattle.std.specs.List.{cons_option}
use Rattle.serde_json.specs.Data.{Data}
use Rattle.serde_json.specs.Find.{get}
use Rattle.nb_log.specs.declared.event.Event.{Event}
use Rattle.nb_lines.specs.declared.form.Field.TheVariants as field
use Rattle.nb_lines.specs.declared.script.ScriptLine.{ScriptLine}
use Rattle.nb_lines.specs.declared.script.LineFail.{LineFail}
use Rattle.nb_lines.specs.Forms.{field_name}
use Rattle.nb_lines.specs.Fields.{at_most, editor_in, number_in, editor_of}
use Rattle.nb_lines.specs.Reasons.{Fault, line_data, form_of}
use Rattle.nb_lines.specs.Says.{event_of, of_editor, data_script, script_of}
use Rattle.nb_lines.specs.Lines.{is_blank, line_script, said, Reads}

abbrev HasEditor : ScriptLine → Type 0
HasEditor s = s.editor < 8

low_number : (n : ℕ) (b : Bool) → nat_le n 7 ≡ b → unwrap_or (cond b (Some n) None) 0 < 8
low_number n true e = let low = leb-true n 7 e in omega (arith, low)
low_number n false e = omega arith

low_option : (o : Option ℕ) → unwrap_or (option_and_then (at_most 7) o) 0 < 8
low_option None = omega arith
low_option (Some n) = low_number n (nat_le n 7) refl

low_data : (o : Option Data) → unwrap_or (option_and_then editor_in o) 0 < 8
low_data None = omega arith
low_data (Some d) = low_option (number_in d)

low_editor : (d : Data) → editor_of d < 8
low_editor d = low_data (get (field_name field.Editor) d)

of_event : (n : ℕ) (o : Option Event) (s : ScriptLine) → option_map (of_editor n) o ≡ Some s → s.editor ≡ n
of_event n None s e = cc
of_event n (Some v) s e = sym (ap (λ (x : ScriptLine). x.editor) (same_Some (of_editor n v) s e))

of_data : (o : Option Data) (s : ScriptLine) → option_and_then data_script o ≡ Some s → HasEditor s
unfolding data_script
of_data None s e = cc
of_data (Some d) s e = subst (λ n. n < 8) (sym (of_event (editor_of d) (option_and_then (λ f. event_of f d) (form_of d)) s e)) (low_editor d)

of_text : (b : Bool) (o : Option Data) (s : ScriptLine) → cond b None (option_and_then data_script o) ≡ Some s → HasEditor s
of_text true o s e = cc
of_text false o s e = of_data o s e

of_line : (line : List ℕ) (s : ScriptLine) → line_script line ≡ Some s → HasEditor s
unfolding line_script script_of
of_line line s e = of_text (is_blank line) (line_data line) s e

no_more : All HasEditor []
no_more k d below = absurd (omega (arith, below))

one_more : (s : ScriptLine) (ss : List ScriptLine) → HasEditor s → All HasEditor ss → All HasEditor (s ∷ ss)
one_more s ss here more zero d below = here
one_more s ss here more (suc k) d below = more k d (omega (arith, below))

put_on : (o : Option ScriptLine) (ss : List ScriptLine) → ((s : ScriptLine) → o ≡ Some s → HasEditor s) → All HasEditor ss → All HasEditor (cons_option o ss)
put_on None ss each more = more
put_on (Some s) ss each more = one_more s ss (each s refl) more

all_said : (ls : List (ℕ × List ℕ)) → All HasEditor (said ls)
all_said [] = no_more
all_said (p ∷ ps) = put_on (line_script p.1) (said ps) (of_line p.1) (all_said ps)

-- as the call has it
pub editors_of : (bad : Option (ℕ × Fault)) (ls : List (ℕ × List ℕ)) (r : Result (List ScriptLine) LineFail) → Reads bad (said ls) r → IfOk r (All (λ s. s.editor < 8))
editors_of bad ls (Ok s) reads = subst (All HasEditor) (sym reads.1) (all_said ls)
editors_of bad ls (Err e) reads = tt
