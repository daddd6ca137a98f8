-- A legal log, replayed entry by entry.
use Rattle.std.proofs.Common.{ℕ, suc, ◌≡◌, ◌+◌, ◌<◌, ◌^◌, arith, refl, sym, ◌∙◌, ap, subst, Bool, true, false, List, [], ◌∷◌, length, drop, get_or, append-nil, Option, Some, None}
use Rattle.std.proofs.lemmas.Bool.{false≢true}
use Rattle.std.proofs.lemmas.Option.{none-some}
use Rattle.std.proofs.Math.Seq.{drop-cons}
use Rattle.nb_value.specs.declared.value.Value.{Value}
use Rattle.nb_value.specs.declared.pairs.Field.{Field}
use Rattle.nb_sheet.specs.Lists.{or_else}
use Rattle.nb_log.specs.declared.event.Event.{Event}
use Rattle.nb_log.specs.declared.entry.Refusal.{Refusal}
use Rattle.nb_log.specs.declared.entry.Entry.{Entry}
use Rattle.nb_log.specs.declared.entry.Entry.TheVariants.{Edit, Frame, Settled, Late, Loaded, Refused, Rest, Dispose, Pending, Fulfilled, Rejected, Asked, Ended, Left}
use Rattle.nb_history.specs.Reading.{Reading}
use Rattle.nb_history.specs.Log.{reading, after, admit, first_refusal, event_refusal, IsOfEvent, Fits, LegalFrom, IsLegal}
use Rattle.nb_history.specs.History.{History, standing, plus, plus_all}
use Rattle.nb_history.proofs.Admits.{admit_refused, first_of_all}
use Rattle.nb_history.proofs.Plus.{standing_plus, plus_more}
use Rattle.nb_closing.specs.Ties.{Ties, all_ties}
use Rattle.nb_core.specs.Core.{gate}
use Rattle.nb_core.specs.declared.replayed.Reading.{Reading as Parts}
use Rattle.nb_core.specs.Edits.{is_edit}
use Rattle.nb_core.specs.Parts.{AreParts}
use Rattle.nb_core.proofs.Admitted.{few_entries}

-- ---- an entry of an event that is no refusal

abbrev is_refused : Entry → Bool
is_refused (Refused editor reason event) = true
is_refused e = false

not_refused : (r : Reading) (editor : ℕ) (event : Event) (e : Entry) → e ≡ admit r editor event → is_refused e ≡ false → first_refusal r event ≡ None
not_refused r editor event e is taken = go (first_refusal r event) refl
  where
    go : (o : Option Refusal) → first_refusal r event ≡ o → first_refusal r event ≡ None
    go None h = h
    go (Some reason) h = absurd (false≢true (sym taken ∙ ap is_refused (is ∙ admit_refused r editor event reason h)))

open_gate : (a b : Option Refusal) → or_else a b ≡ None → a ≡ None
open_gate None b h = refl
open_gate (Some x) b h = absurd (none-some x (sym h))

-- so a log that a frame fits is short
pub frame_few : (h : History) (editor : ℕ) → Fits (standing h) (Frame editor) → length h.log + 1 < 2 ^ 32
frame_few h editor fits =
    let of : IsOfEvent (standing h) (Frame editor) = fits.1 in
    few_entries h (open_gate (gate (standing h)) (event_refusal (standing h) of.1) (sym (first_of_all (standing h) of.1) ∙ not_refused (standing h) of.0 of.1 (Frame editor) of.3 refl))

-- ---- the sheet, and so its ties, stay but at an edit

other_sheet : (r : Reading) (e : Entry) → is_edit e ≡ false → (after r e).sheet ≡ r.sheet
other_sheet r (Edit editor edit) h = absurd (false≢true (sym h))
other_sheet r (Frame editor) h = refl
other_sheet r (Settled editor t a) h = refl
other_sheet r (Late editor t) h = refl
other_sheet r (Loaded t a) h = refl
other_sheet r (Refused editor reason event) h = refl
other_sheet r (Rest editor) h = refl
other_sheet r (Dispose editor) h = refl
other_sheet r (Pending v d) h = refl
other_sheet r (Fulfilled v x) h = refl
other_sheet r (Rejected v e) h = refl
other_sheet r (Asked v t key) h = refl
other_sheet r (Ended v) h = refl
other_sheet r (Left v d) h = refl

pub ties_stay : (h new : History) (e : Entry) (ties : List Ties) → new ≡ plus h e → is_edit e ≡ false → ties ≡ all_ties (standing h).sheet → ties ≡ all_ties (standing new).sheet
ties_stay h new e ties is other tied =
    tied ∙ ap all_ties (sym (ap (λ (g : History). (standing g).sheet) is ∙ ap (λ (r : Reading). r.sheet) (standing_plus h e) ∙ other_sheet (standing h) e other))

-- ---- the whole log

-- the history of the entries so far, and the ties of its sheet, where these entries are left of a legal log
pub record IsReplayed (builtins : List (Field Value)) (log left : List Entry) (h : History) (ties : List Ties) : Type 0 where
  pub whole : plus_all h left ≡ record { builtins = builtins; log = log }
  pub legal : LegalFrom (standing h) left
  pub tied : ties ≡ all_ties (standing h).sheet

pub replay_begins : (builtins copied : List (Field Value)) (log left : List Entry) (h : History) (ties : List Ties) → IsLegal builtins log → left ≡ log → copied ≡ builtins
    → h ≡ record { builtins = copied; log = [] } → ties ≡ [] → IsReplayed builtins log left h ties
replay_begins builtins copied log left h ties legal all same is none =
    let here : h ≡ record { builtins = builtins; log = [] } = is ∙ ap (λ (b : List (Field Value)). record { builtins = b; log = [] }) same in
    record {
      whole = ap (λ (g : History). plus_all g left) here ∙ ap (λ (l : List Entry). record { builtins = builtins; log = l }) all;
      legal = subst (λ (g : History). LegalFrom (standing g) left) (sym here) (subst (IsLegal builtins) (sym all) legal);
      tied = none ∙ sym (ap (λ (g : History). all_ties (standing g).sheet) here);
    }

-- the entries from a place on are the one there and those after it
pub next_left : (log : List Entry) (i : ℕ) (e : Entry) → i < length log → e ≡ get_or log i e → drop i log ≡ e ∷ drop (i + 1) log
next_left log i e less is =
    let one : suc i ≡ i + 1 = omega arith in
    drop-cons log i e less ∙ ap (λ (x : Entry). x ∷ drop (suc i) log) (sym is) ∙ ap (λ (n : ℕ). e ∷ drop n log) one

-- the first of those that are left fits
pub replay_fits : (builtins : List (Field Value)) (log left rest : List Entry) (e : Entry) (h : History) (ties : List Ties) → left ≡ e ∷ rest → IsReplayed builtins log left h ties → Fits (standing h) e
replay_fits builtins log left rest e h ties split so_far = (subst (LegalFrom (standing h)) split so_far.legal).0

-- with it, the others are left
pub replay_goes_on : (builtins : List (Field Value)) (log left rest : List Entry) (e : Entry) (h new : History) (ties ties' : List Ties) → left ≡ e ∷ rest → IsReplayed builtins log left h ties
    → new ≡ plus h e → ties' ≡ all_ties (standing new).sheet → IsReplayed builtins log rest new ties'
replay_goes_on builtins log left rest e h new ties ties' split so_far is tied = record {
  whole = ap (λ (g : History). plus_all g rest) is ∙ plus_more h e rest ∙ ap (plus_all h) (sym split) ∙ so_far.whole;
  legal = subst (λ (r : Reading). LegalFrom r rest) (sym (ap standing is ∙ standing_plus h e)) (subst (LegalFrom (standing h)) split so_far.legal).1;
  tied = tied;
}

-- and when none is left, the whole log stands
pub replay_ends : (builtins : List (Field Value)) (log left : List Entry) (h : History) (ties : List Ties) (parts : Parts) → left ≡ [] → IsReplayed builtins log left h ties → AreParts parts (standing h)
    → AreParts parts (reading builtins log)
replay_ends builtins log left h ties parts none so_far are =
    let whole : h ≡ record { builtins = builtins; log = log } = ap (λ (l : List Entry). record h { log = l }) (sym (append-nil h.log)) ∙ ap (plus_all h) (sym none) ∙ so_far.whole in
    subst (AreParts parts) (ap standing whole) are
