-- In every legal log, wherever it rests, each wanted variable shows what evaluating from scratch gives, and nothing exactly
-- where that waits.
use Rattle.std.proofs.Common.{inl, inr, ℕ, zero, suc, ◌≡◌, ◌+◌, refl, sym, ◌∙◌, ap, subst, Bool, true, false, cond, not, ◌&&◌, ◌||◌, List, [], ◌∷◌, map, Option, Some, None, is_some}
use Rattle.std.specs.List.{list_any, list_all}
use Rattle.std.proofs.lemmas.Bool.{cases_Bool, false≢true, false_from_ne_true, and_from, or_parts, not_from_false}
use Rattle.std.proofs.lemmas.Option.{none-some}
use Rattle.nb_value.specs.declared.value.Value.{Value}
use Rattle.nb_value.specs.declared.pairs.Field.{Field}
use Rattle.nb_value.specs.declared.outcome.CellError.{CellError}
use Rattle.nb_value.specs.declared.outcome.ErrorKind.TheVariants.{DefinedTwice, Circular}
use Rattle.nb_value.specs.declared.outcome.Outcome.{Outcome}
use Rattle.nb_log.specs.Printing.{entry_size}
use Rattle.nb_log.specs.declared.entry.Entry.{Entry}
use Rattle.nb_log.specs.declared.entry.Entry.TheVariants.{Edit, Frame, Settled, Late, Loaded, Refused, Rest, Dispose, Pending, Fulfilled, Rejected, Asked, Ended, Left}
use Rattle.nb_sheet.specs.declared.row.VarRow.{VarRow}
use Rattle.nb_sheet.specs.Lists.{nth, from_option, option_then}
use Rattle.nb_resolve.specs.Names.{direct, inputs, duplicate}
use Rattle.nb_history.specs.Needs.{circular}
use Rattle.nb_history.specs.Reading.{Reading, Start, start_of, shown}
use Rattle.nb_history.specs.Rules.{footing, is_behind, is_running, first_error, marked_error, generates, body_of, run_body, values_given, given, local_value, plain_error, name_of}
use Rattle.nb_history.specs.Log.{nothing_yet, reading, read_from, after, settle, Fits, LegalFrom, IsLegal, Rests, RestsAfter}
use Rattle.nb_history.specs.Headline.{ShowsScratch, HoldsAtRests}
use Rattle.nb_history.proofs.Histories.{legal_front, legal_keeps}
use Rattle.nb_history.proofs.Closing.{behind_by}
use Rattle.nb_history.proofs.Scratches.{ShowsLocal, shows_scratch}
use Rattle.nb_history.proofs.Sites.{Site, Holds, end_at, local_at, local_by, none_shown}
use Rattle.nb_history.proofs.Steady.{Steady, site, unchanged}
use Rattle.nb_history.proofs.LaterSheets.{same_later}
use Rattle.nb_history.proofs.Lawful.{Lawful, lawful_first, lawful_after, kept_now, rest_none_behind}
use Rattle.nb_history.proofs.SteadyStarts.{steady_left, steady_pending}
use Rattle.nb_history.proofs.SteadyNotices.{ready_start, steady_fulfilled, steady_rejected, steady_asked, steady_ended, steady_answered}
use Rattle.nb_history.proofs.SteadyEvents.{steady_frame, steady_dispose, settled_live}
use Rattle.nb_history.proofs.SteadyEdits.{edit_steady}

-- ---- before any entry, and after each

steady_first : (builtins : List (Field Value)) → Steady (nothing_yet builtins)
steady_first builtins = record {
  placed = λ v row at. absurd (no_row v row at);
  within = λ v s at. absurd (no_start v s at);
  holds = λ v s at. absurd (no_start v s at);
}
  where
    no_row : (v : ℕ) (row : VarRow) → nth {A = VarRow} [] v ≡ Some row → ⊥
    no_row zero row at = none-some row at
    no_row (suc i) row at = none-some row at

    no_start : (v : ℕ) (s : Start) → start_of (nothing_yet builtins) v ≡ Some s → ⊥
    no_start zero s at = none-some s at
    no_start (suc i) s at = none-some s at

steady_after : (r : Reading) (e : Entry) → Lawful r → Steady r → Fits r e → Steady (after r e)
steady_after r (Left v d) law h fits = steady_left r h v d
steady_after r (Pending v d) law h fits = steady_pending r h v d law fits.0
steady_after r (Fulfilled v x) law h fits = steady_fulfilled r h v (ready_start r v fits.1) x fits.2
steady_after r (Rejected v d) law h fits = steady_rejected r h v (ready_start r v fits.1) d fits.2
steady_after r (Asked v n key) law h fits = steady_asked r h v (ready_start r v fits.1) n key fits.2
steady_after r (Ended v) law h fits = steady_ended r h v (ready_start r v fits.1) fits.2
steady_after r (Edit editor edit) law h fits = edit_steady r h edit (r.size + entry_size (Edit editor edit))
steady_after r (Frame editor) law h fits = steady_frame r (r.size + entry_size (Frame editor)) h
steady_after r (Settled editor t a) law h fits =
    steady_answered r t a (r.size + entry_size (Settled editor t a)) h (settled_live r fits.1.0 editor t a fits.1.1 fits.1.3)
steady_after r (Late editor t) law h fits = unchanged r (Reading.tickets (settle r t)) (r.size + entry_size (Late editor t)) h
steady_after r (Loaded t a) law h fits = steady_answered r t a (r.size + entry_size (Loaded t a)) h fits.1
steady_after r (Refused editor reason event) law h fits = unchanged r r.tickets (r.size + entry_size (Refused editor reason event)) h
steady_after r (Rest editor) law h fits = unchanged r r.tickets (r.size + entry_size (Rest editor)) h
steady_after r (Dispose editor) law h fits = steady_dispose r editor h

-- what holds after every legal log
pub record Stands (r : Reading) : Type 0 where
  pub law : Lawful r
  pub steady : Steady r

pub stands_from : (r : Reading) (es : List Entry) → Stands r → LegalFrom r es → Stands (read_from r es)
stands_from r es h legal =
    legal_keeps Stands (λ q e s fits. record { law = lawful_after q e s.law fits; steady = steady_after q e s.law s.steady fits }) r es h legal

pub stands_log : (builtins : List (Field Value)) (log : List Entry) → IsLegal builtins log → Stands (reading builtins log)
stands_log builtins log legal = stands_from (nothing_yet builtins) log (record { law = lawful_first builtins; steady = steady_first builtins }) legal

-- ---- at a rest

any_not : (p : ℕ → Bool) (xs : List ℕ) → list_all p xs ≡ false → list_any (λ u. not (p u)) xs ≡ true
any_not p [] h = absurd (false≢true (sym h))
any_not p (x ∷ xs) h = elim (cases_Bool (p x)) [
  | inl y ↦ rw y (any_not p xs (rw y at h))
  | inr n ↦ rw n refl
]

abbrev local_of : Reading → ℕ → Option Start → Option Outcome
local_of r v o =
    let end = run_body (body_of r.sheet v) (values_given r.sheet (shown r) (inputs r.sheet v)) (from_option [] (λ (s : Start). s.answers) o) (from_option 0 (λ (s : Start). s.pulls) o) in
    local_by (marked_error r.sheet v) (list_any (λ u. not (is_some (shown r u))) (direct r.sheet v)) (first_error (map (given r.sheet (shown r)) (inputs r.sheet v))) (generates (body_of r.sheet v)) end.yields end.ending

local_is : (r : Reading) (v : ℕ) (s : Start) → start_of r v ≡ Some s → local_value r (shown r) v ≡ local_at (site r v) s
local_is r v s at = ap (local_of r v) at

module _ (r : Reading) (law : Lawful r) (steady : Steady r) (rests : Rests r) where
  -- a running variable waits for an input, and shows nothing
  waiting : (v : ℕ) (s : Start) → start_of r v ≡ Some s → is_behind r v ≡ false → Holds (site r v) s → s.running ≡ true → shown r v ≡ local_value r (shown r) v
  waiting v s there calm h runs =
      let running : is_running r v ≡ true = ap (λ (o : Option Start). from_option false (λ (s : Start). s.running) o) there ∙ runs in
      let not_ready : (duplicate r.sheet v || circular r.sheet v || list_all (λ u. is_some (shown r u)) (direct r.sheet v)) ≡ false =
      false_from_ne_true (duplicate r.sheet v || circular r.sheet v || list_all (λ u. is_some (shown r u)) (direct r.sheet v))
      (λ k. false≢true (sym (rests.1 v) ∙ and_from (is_running r v && not (is_behind r v)) (duplicate r.sheet v || circular r.sheet v || list_all (λ u. is_some (shown r u)) (direct r.sheet v))
      (and_from (is_running r v) (not (is_behind r v)) running (not_from_false (is_behind r v) calm)) k)) in
      let p : ((duplicate r.sheet v || circular r.sheet v) ≡ false) × (list_all (λ u. is_some (shown r u)) (direct r.sheet v) ≡ false) = or_parts (duplicate r.sheet v || circular r.sheet v) (list_all (λ u. is_some (shown r u)) (direct r.sheet v)) not_ready in
      let q : (duplicate r.sheet v ≡ false) × (circular r.sheet v ≡ false) = or_parts (duplicate r.sheet v) (circular r.sheet v) p.0 in
      let marks : marked_error r.sheet v ≡ None =
      ap (λ (b : Bool). cond b (Some (plain_error DefinedTwice (name_of r.sheet v))) (cond (circular r.sheet v) (Some (plain_error Circular (name_of r.sheet v))) None)) q.0
      ∙ ap (λ (b : Bool). cond b (Some (plain_error Circular (name_of r.sheet v))) None) q.1 in
      let waits_v : Site.waits (site r v) ≡ true = any_not (λ u. is_some (shown r u)) (direct r.sheet v) p.1 in
      let nothing : s.shown ≡ None = none_shown s.shown (false_from_ne_true (is_some s.shown) (λ k. false≢true (sym (h.inputs_show (inr k) marks) ∙ waits_v))) in
      let local_none : local_at (site r v) s ≡ None =
      ap (λ (m : Option CellError). local_by m (Site.waits (site r v)) (first_error (Site.givens (site r v))) (generates (body_of r.sheet v)) (end_at (site r v) s).yields (end_at (site r v) s).ending) marks
      ∙ ap (λ (b : Bool). local_by None b (first_error (Site.givens (site r v))) (generates (body_of r.sheet v)) (end_at (site r v) s).yields (end_at (site r v) s).ending) waits_v in
      ap (λ (o : Option Start). option_then o (λ s. s.shown)) there ∙ nothing ∙ sym (local_is r v s there ∙ local_none)

  shows_local : ShowsLocal r
  shows_local v w = go (start_of r v) refl (rest_none_behind r law rests v w)
    where
      go : (o : Option Start) → start_of r v ≡ o → is_behind r v ≡ false → shown r v ≡ local_value r (shown r) v
      go None e calm = absurd (false≢true (sym (sym (ap (behind_by (footing r v)) e) ∙ calm)))
      go (Some s) e calm =
          let h : Holds (site r v) s = steady.holds v s e r.sheet (same_later r.sheet r.entries) (sym (kept_now r v s e calm)) in
          elim (cases_Bool s.running) [
            | inl runs ↦ waiting v s e calm h runs
            | inr idle ↦ ap (λ (o : Option Start). option_then o (λ s. s.shown)) e ∙ h.local idle ∙ sym (local_is r v s e)
          ]

-- in a legal log that rests
pub shows_at_rest : (builtins : List (Field Value)) (log : List Entry) → IsLegal builtins log → RestsAfter builtins log → ShowsScratch builtins log
shows_at_rest builtins log legal rests v w =
    let stands : Stands (reading builtins log) = stands_log builtins log legal in
    shows_scratch (reading builtins log) stands.law.sound.named (shows_local (reading builtins log) stands.law stands.steady rests) v w

-- the law
pub rest_holds : (builtins : List (Field Value)) (log : List Entry) → IsLegal builtins log → HoldsAtRests builtins log
rest_holds builtins log legal front back is rests =
    shows_at_rest builtins front (legal_front (nothing_yet builtins) front back (subst (λ (l : List Entry). IsLegal builtins l) is legal)) rests
