-- One more entry at a log's end: what stands after it, how many entries there are, and their size.
use Rattle.std.proofs.Common.{ℕ, ◌≡◌, ◌+◌, ◌≤◌, refl, arith, ◌∙◌, ap, List, [], ◌∷◌, length, codes, append_assoc}
use Rattle.std.specs.Prelude.{sum_by}
use Rattle.std.proofs.lemmas.List.Sums.{sum_by-cons}
use Rattle.nb_value.specs.declared.value.Value.{Value}
use Rattle.nb_value.specs.declared.value.Value.TheVariants as V
use Rattle.nb_value.specs.declared.pairs.Field.{Field}
use Rattle.nb_value.specs.Value.{size}
use Rattle.nb_log.specs.Printing.{number, edit_object, event_object, answer_items, error_items, refusal_number, refusal_name, entry_value, entry_size}
use Rattle.nb_log.specs.Size.{total_size}
use Rattle.nb_log.specs.declared.entry.Entry.{Entry}
use Rattle.nb_log.specs.declared.entry.Entry.TheVariants.{Edit, Frame, Settled, Late, Loaded, Refused, Rest, Dispose, Pending, Fulfilled, Rejected, Asked, Ended, Left}
use Rattle.nb_log.proofs.SizeLemmas.{size-List}
use Rattle.nb_history.specs.Reading.{Reading}
use Rattle.nb_history.specs.Log.{nothing_yet, changed, after, read_from, reading}
use Rattle.nb_history.specs.History.{History, standing, plus, plus_all}
use Rattle.nb_history.proofs.Histories.{read_append}

-- ---- what stands

pub standing_plus : (h : History) (e : Entry) → standing (plus h e) ≡ after (standing h) e
standing_plus h e = read_append (nothing_yet h.builtins) h.log (e ∷ [])

pub standing_plus_all : (h : History) (es : List Entry) → standing (plus_all h es) ≡ read_from (standing h) es
standing_plus_all h es = read_append (nothing_yet h.builtins) h.log es

pub plus_more : (h : History) (e : Entry) (es : List Entry) → plus_all (plus h e) es ≡ plus_all h (e ∷ es)
plus_more h e es = ap (λ (l : List Entry). record h { log = l }) (append_assoc h.log (e ∷ []) es)

-- ---- how many entries, and their size

counts : (r : Reading) (e : Entry) → ((changed r e).entries ≡ r.entries) × ((changed r e).size ≡ r.size)
counts r (Edit editor edit) = (refl, refl)
counts r (Frame editor) = (refl, refl)
counts r (Settled editor t a) = (refl, refl)
counts r (Late editor t) = (refl, refl)
counts r (Loaded t a) = (refl, refl)
counts r (Refused editor reason event) = (refl, refl)
counts r (Rest editor) = (refl, refl)
counts r (Dispose editor) = (refl, refl)
counts r (Pending v d) = (refl, refl)
counts r (Fulfilled v x) = (refl, refl)
counts r (Rejected v e) = (refl, refl)
counts r (Asked v t key) = (refl, refl)
counts r (Ended v) = (refl, refl)
counts r (Left v d) = (refl, refl)

pub size_after : (r : Reading) (e : Entry) → (after r e).size ≡ r.size + entry_size e
size_after r e = ap (λ (n : ℕ). n + entry_size e) (counts r e).1

pub entries_from : (r : Reading) (es : List Entry) → (read_from r es).entries ≡ r.entries + length es
entries_from r [] = omega arith
entries_from r (e ∷ es) = omega (arith, entries_from (after r e) es, (counts r e).0)

pub size_from : (r : Reading) (es : List Entry) → (read_from r es).size ≡ r.size + total_size es
size_from r [] = omega arith
size_from r (e ∷ es) = omega (arith, size_from (after r e) es, size_after r e, sum_by-cons entry_size e es)

pub reading_entries : (builtins : List (Field Value)) (log : List Entry) → (reading builtins log).entries ≡ length log
reading_entries builtins log = omega (arith, entries_from (nothing_yet builtins) log)

pub reading_size : (builtins : List (Field Value)) (log : List Entry) → (reading builtins log).size ≡ total_size log
reading_size builtins log = omega (arith, size_from (nothing_yet builtins) log)

-- ---- each entry has a size

is_list : (e : Entry) → (vs : List Value) × (entry_value e ≡ V.List vs)
is_list (Edit editor edit) = ((V.Text (codes "edit") ∷ number editor ∷ edit_object edit ∷ []), refl)
is_list (Frame editor) = ((V.Text (codes "frame") ∷ number editor ∷ []), refl)
is_list (Settled editor t a) = ((V.Text (codes "settled") ∷ number editor ∷ number t ∷ answer_items a), refl)
is_list (Late editor t) = ((V.Text (codes "late") ∷ number editor ∷ number t ∷ []), refl)
is_list (Loaded t a) = ((V.Text (codes "loaded") ∷ number t ∷ answer_items a), refl)
is_list (Refused editor reason e) = ((V.Text (codes "refused") ∷ number editor ∷ number (refusal_number reason) ∷ V.Text (refusal_name reason) ∷ event_object e ∷ []), refl)
is_list (Rest editor) = ((V.Text (codes "rest") ∷ number editor ∷ []), refl)
is_list (Dispose editor) = ((V.Text (codes "dispose") ∷ number editor ∷ []), refl)
is_list (Pending v d) = ((V.Text (codes "pending") ∷ number v ∷ V.List d ∷ []), refl)
is_list (Fulfilled v x) = ((V.Text (codes "fulfilled") ∷ number v ∷ x ∷ []), refl)
is_list (Rejected v e) = ((V.Text (codes "rejected") ∷ number v ∷ error_items e), refl)
is_list (Asked v t key) = ((V.Text (codes "asked") ∷ number v ∷ number t ∷ V.Text key ∷ []), refl)
is_list (Ended v) = ((V.Text (codes "ended") ∷ number v ∷ []), refl)
is_list (Left v d) = ((V.Text (codes "left") ∷ number v ∷ V.List d ∷ []), refl)

pub some_size : (e : Entry) → 1 ≤ entry_size e
unfolding entry_size
some_size e =
    let l : (vs : List Value) × (entry_value e ≡ V.List vs) = is_list e in
    let k : size (entry_value e) ≡ 1 + sum_by size l.0 = ap size l.1 ∙ size-List l.0 in
    omega (arith, k)

-- so a log has no more entries than its size
pub entries_within : (es : List Entry) → length es ≤ total_size es
entries_within [] = omega arith
entries_within (e ∷ es) = omega (arith, some_size e, entries_within es, sum_by-cons entry_size e es)
