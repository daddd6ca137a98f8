-- Lines tell the entries that they are of, one line after another.
use Rattle.std.proofs.Common.{◌≡◌, ◌∙◌, List, [], ◌∷◌, ◌++◌, refl, sym, append_assoc, arith}
use Rattle.std.proofs.lemmas.List.{append_cancel_left}
use Rattle.nb_value.specs.Json.{json_text}
use Rattle.nb_log.specs.declared.entry.Entry.{Entry}
use Rattle.nb_log.specs.Printing.{entry_value, entries_text}
use Rattle.nb_print.specs.Law.{IsTold, LinesFixLog}
use Rattle.nb_print.proofs.UniqueJson.{json_once, json_some}
use Rattle.nb_print.proofs.EntryValues.{entries_same}

-- the first line, and those behind it
first_line : (e : Entry) (es : List Entry) → entries_text (e ∷ es) ≡ json_text (entry_value e) ++ 10 ∷ entries_text es
first_line e es = append_assoc (json_text (entry_value e)) (10 ∷ []) (entries_text es)

no_lines : (e : Entry) (es : List Entry) → IsTold e → [] ≡ entries_text (e ∷ es) → ⊥
no_lines e es t h = json_some (entry_value e) (10 ∷ entries_text es) t.short (sym (h ∙ first_line e es))

pub lines_fix_log : LinesFixLog
lines_fix_log [] [] p q h = refl
lines_fix_log [] (f ∷ fs) p q h = absurd (no_lines f fs q.0 h)
lines_fix_log (e ∷ es) [] p q h = absurd (no_lines e es p.0 (sym h))
lines_fix_log (e ∷ es) (f ∷ fs) p q h =
    let mine = 10 ∷ entries_text es in
    let yours = 10 ∷ entries_text fs in
    let read = json_once (entry_value e) (entry_value f) mine yours p.0.short q.0.short (λ d. omega arith) (λ d. omega arith) (sym (first_line e es) ∙ h ∙ first_line f fs) in
    let first = entries_same e f p.0.spelled q.0.spelled read.0 in
    let rest = lines_fix_log es fs p.1 q.1 (append_cancel_left (10 ∷ []) (entries_text es) (entries_text fs) read.1) in
    λ i. first i ∷ rest i
