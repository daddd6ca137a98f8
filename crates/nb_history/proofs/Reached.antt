-- What a call had reached that stopped is a front of the whole history, and what it wrote a front of the whole printing.
use Rattle.std.proofs.Common.{ℕ, ◌≡◌, refl, sym, ◌∙◌, ap, subst, List, [], ◌∷◌, ◌++◌, append_assoc, append-nil, map, length, None}
use Rattle.std.specs.List.{flat_map}
use Rattle.std.proofs.lemmas.Option.{none-some, some_pair_parts}
use Rattle.nb_value.specs.declared.outcome.Answer.{Answer}
use Rattle.nb_sheet.specs.Lists.{Name}
use Rattle.nb_history.specs.Reading.{Reading}
use Rattle.nb_history.specs.Log.{nothing_yet, after, read_from, reading}
use Rattle.nb_history.specs.Serial.{Todo, first_step, SerialFrom, IsSerial}
use Rattle.nb_history.specs.Loaders.{keys_of, answers_in}
use Rattle.nb_history.specs.Ends.{HistoryIsOne, ReachedIsLegal, ReachedIsFront, PiecesArePrinting, FrontIsWrittenFirst}
use Rattle.nb_history.specs.Print.{entry_pieces, table_line, wanted_vars, table_pieces, table_text, printing}
use Rattle.nb_log.specs.Printing.{entry_value, line_text, lines_text, entries_text, done_value}
use Rattle.nb_log.specs.declared.entry.Entry.{Entry}
use Rattle.nb_history.proofs.Shapes.{sound_first}
use Rattle.nb_history.proofs.Serials.{serial_legal, is_serial_one}
use Rattle.nb_history.proofs.LoaderRuns.{behind, serial_longer, runs_answer, first_answers, answers_one}

-- ---- fronts of the serial history

pub front_of : (keys : List Name) (r : Reading) (todo mid left : Todo) (es fs : List Entry) → SerialFrom keys r todo es mid → SerialFrom keys r todo fs left
    → first_step keys (read_from r fs) left ≡ None → (back : List Entry) × (fs ≡ es ++ back)
front_of keys r todo mid left [] fs h k n = (fs, refl)
front_of keys r todo mid left (e ∷ es) [] h k n = let none : first_step keys r todo ≡ None = ap (first_step keys r) k ∙ n in absurd (none-some (e, h.0) (sym none ∙ h.1))
front_of keys r todo mid left (e ∷ es) (f ∷ fs) h k n =
    let both : (f ≡ e) × (k.0 ≡ h.0) = some_pair_parts f e k.0 h.0 (sym k.1 ∙ h.1) in
    let k' : SerialFrom keys (after r e) h.0 fs left = subst (λ (x : Entry). SerialFrom keys (after r x) h.0 fs left) both.0 (subst (λ (t : Todo). SerialFrom keys (after r f) t fs left) both.1 k.2) in
    let n' : first_step keys (read_from (after r e) fs) left ≡ None = subst (λ (x : Entry). first_step keys (read_from (after r x) fs) left ≡ None) both.0 n in
    let rest = front_of keys (after r e) h.0 mid left es fs h.2 k' n' in
    (rest.0, ap (λ (x : Entry). x ∷ fs) both.0 ∙ ap (λ (xs : List Entry). e ∷ xs) rest.1)

pub reached_is_legal : ReachedIsLegal
reached_is_legal builtins loaders lines runs log editors h =
    serial_legal (keys_of loaders) (nothing_yet builtins) (record { lines = lines; answers = answers_in log }) (record { lines = h.left; answers = [] }) log (sound_first builtins) editors h.steps

pub reached_is_front : ReachedIsFront
reached_is_front builtins loaders lines runs more log whole h k =
    let r = nothing_yet builtins in
    let keys = keys_of loaders in
    let first = first_answers runs more (answers_in log) (answers_in whole) (runs_answer loaders r log runs h.told) (runs_answer loaders r whole (runs ++ more) k.told) in
    let todo : Todo = record { lines = lines; answers = answers_in log } in
    let left : Todo = record { lines = h.left; answers = [] } in
    let end : Todo = record { lines = []; answers = [] } in
    let steps : SerialFrom keys r (behind todo first.0) whole end = subst (λ (given : List Answer). SerialFrom keys r (record { lines = lines; answers = given }) whole end) first.1 k.serial.steps in
    front_of keys r (behind todo first.0) (behind left first.0) end log whole (serial_longer keys r todo left log first.0 h.steps) steps k.serial.ends

pub history_is_one : HistoryIsOne
history_is_one builtins loaders lines runs log other h k =
    let same : answers_in log ≡ answers_in other
    = answers_one runs (answers_in log) (answers_in other) (runs_answer loaders (nothing_yet builtins) log runs h.told) (runs_answer loaders (nothing_yet builtins) other runs k.told) in
    is_serial_one builtins (keys_of loaders) lines (answers_in other) log other (subst (λ (given : List Answer). IsSerial builtins (keys_of loaders) lines given log) same h.serial) k.serial

-- ---- pieces

abbrev whole_of : List (List ℕ) → List ℕ
whole_of = flat_map (λ (piece : List ℕ). piece)

whole_append : (ps qs : List (List ℕ)) → whole_of (ps ++ qs) ≡ whole_of ps ++ whole_of qs
whole_append [] qs = refl
whole_append (p ∷ ps) qs = ap (λ (x : List ℕ). p ++ x) (whole_append ps qs) ∙ sym (append_assoc p (whole_of ps) (whole_of qs))

entries_whole : (log : List Entry) → whole_of (entry_pieces log) ≡ entries_text log
entries_whole [] = refl
entries_whole (e ∷ es) = ap (λ (x : List ℕ). line_text (entry_value e) ++ x) (entries_whole es)

rows_whole : (r : Reading) (vs : List ℕ) → whole_of (map (λ (v : ℕ). line_text (table_line r v)) vs) ≡ lines_text (map (table_line r) vs)
rows_whole r [] = refl
rows_whole r (v ∷ vs) = ap (λ (x : List ℕ). line_text (table_line r v) ++ x) (rows_whole r vs)

pub pieces_are_printing : PiecesArePrinting
unfolding printing
pieces_are_printing builtins log =
    let r = reading builtins log in
    let done = line_text (done_value (length log)) in
    whole_append (entry_pieces log) (table_pieces r ++ done ∷ [])
    ∙ ap (λ (x : List ℕ). x ++ whole_of (table_pieces r ++ done ∷ [])) (entries_whole log)
    ∙ ap (λ (x : List ℕ). entries_text log ++ x)
    (whole_append (table_pieces r) (done ∷ [])
    ∙ ap (λ (x : List ℕ). x ++ whole_of (done ∷ [])) (rows_whole r (wanted_vars r))
    ∙ ap (λ (x : List ℕ). table_text r ++ x) (append-nil done))
    ∙ sym (append_assoc (entries_text log) (table_text r) done)

entries_apart : (front back : List Entry) → entry_pieces (front ++ back) ≡ entry_pieces front ++ entry_pieces back
entries_apart [] back = refl
entries_apart (e ∷ es) back = ap (λ (ps : List (List ℕ)). line_text (entry_value e) ∷ ps) (entries_apart es back)

pub front_is_written_first : FrontIsWrittenFirst
front_is_written_first builtins front back =
    let rest = table_pieces (reading builtins (front ++ back)) ++ line_text (done_value (length (front ++ back))) ∷ [] in
    (entry_pieces back ++ rest, ap (λ (ps : List (List ℕ)). ps ++ rest) (entries_apart front back) ∙ append_assoc (entry_pieces front) (entry_pieces back) rest)
