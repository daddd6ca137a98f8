-- What comes next of an evaluation, and the local value that it makes.
use Rattle.std.proofs.Common.{ℕ, ◌≡◌, ◌≢◌, refl, ◌∙◌, ap, Bool, true, false, not, ◌&&◌, ◌||◌, List, [], ◌∷◌, Option, Some, None, is_some}
use Rattle.std.proofs.lemmas.Bool.{or_parts, false≢true, true≢false}
use Rattle.nb_value.specs.declared.value.Value.{Value}
use Rattle.nb_value.specs.declared.value.Value.TheVariants.{Null}
use Rattle.nb_value.specs.declared.outcome.CellError.{CellError}
use Rattle.nb_value.specs.declared.outcome.Outcome.TheVariants.{Value as Shows, Error as Fails}
use Rattle.nb_eval.specs.Evaluation.{Evaluated}
use Rattle.nb_eval.specs.declared.given.Ending.{Ending}
use Rattle.nb_eval.specs.declared.given.Ending.TheVariants.{Paused, Needs, Done, Failed}
use Rattle.nb_sheet.specs.Lists.{Name, from_option, or_else}
use Rattle.nb_history.specs.Rules.{outcome_of, last_or_null, entry_of}
use Rattle.nb_history.specs.Log.{shows_value, is_done}
use Rattle.nb_log.specs.declared.entry.Entry.{Entry}
use Rattle.nb_log.specs.declared.entry.Entry.TheVariants.{Fulfilled, Rejected, Asked, Ended}
use Rattle.nb_history.proofs.Sites.{local_by, shown_of}

abbrev pub next_by : ℕ → ℕ → Option CellError → Option CellError → Bool → Bool → Evaluated → Ending → Entry
next_by t v marked failing generator first end ending =
    from_option (entry_of t v generator first end ending) (λ e. Rejected v e) (or_else marked failing)

abbrev pub ends_by : Option CellError → Option CellError → Bool → Ending → Bool
ends_by marked failing generator ending = not (is_some (or_else marked failing)) && generator && is_done ending

-- ---- a generator's outcome

pub outcome_paused : (ys : List Value) → outcome_of true ys Paused ≡ shown_of ys
outcome_paused [] = refl
outcome_paused (y ∷ ys) = refl

pub outcome_needs : (ys : List Value) (key : Name) → outcome_of true ys (Needs key) ≡ shown_of ys
outcome_needs [] key = refl
outcome_needs (y ∷ ys) key = refl

pub outcome_done : (ys : List Value) (x : Value) → ys ≢ [] → outcome_of true ys (Done x) ≡ shown_of ys
outcome_done [] x h = absurd (h refl)
outcome_done (y ∷ ys) x h = refl

pub shown_last : (ys : List Value) → ys ≢ [] → shown_of ys ≡ Some (Shows (last_or_null ys))
shown_last [] h = absurd (h refl)
shown_last (y ∷ ys) h = refl

-- ---- what each next entry says

module _ (t v w : ℕ) (end : Evaluated) where
  -- a value is the local one
  pub fulfilled_local : (marked failing : Option CellError) (waits generator first : Bool) (ending : Ending) (o : Value)
      → (marked ≡ None → waits ≡ false) → (ending ≡ Paused → (generator ≡ true) × (end.yields ≢ [])) → (first ≡ true → ending ≢ Paused → end.yields ≡ [])
      → next_by t v marked failing generator first end ending ≡ Fulfilled w o → local_by marked waits failing generator end.yields ending ≡ Some (Shows o)
  fulfilled_local (Some e) failing waits generator first ending o quiet pauses begins h = absurd (cc)
  fulfilled_local None (Some e) waits generator first ending o quiet pauses begins h = absurd (cc)
  fulfilled_local None None waits generator first (Needs key) o quiet pauses begins h = absurd (cc)
  fulfilled_local None None waits generator first (Failed e) o quiet pauses begins h = absurd (cc)
  fulfilled_local None None waits generator first Paused o quiet pauses begins h =
      let p : (generator ≡ true) × (end.yields ≢ []) = pauses refl in
      let e : last_or_null end.yields ≡ o = cc in
      ap (λ (b : Bool). local_by None b None generator end.yields Paused) (quiet refl)
      ∙ ap (λ (b : Bool). outcome_of b end.yields Paused) p.0
      ∙ outcome_paused end.yields ∙ shown_last end.yields p.1
      ∙ ap (λ (x : Value). Some (Shows x)) e
  fulfilled_local None None waits false first (Done x) o quiet pauses begins h =
      let e : x ≡ o = cc in
      ap (λ (b : Bool). local_by None b None false end.yields (Done x)) (quiet refl) ∙ ap (λ (x : Value). Some (Shows x)) e
  fulfilled_local None None waits true true (Done x) o quiet pauses begins h =
      let e : Null ≡ o = cc in
      let other : Done x ≢ Paused = λ k. cc in
      ap (λ (b : Bool). local_by None b None true end.yields (Done x)) (quiet refl)
      ∙ ap (λ (ys : List Value). outcome_of true ys (Done x)) (begins refl other)
      ∙ ap (λ (x : Value). Some (Shows x)) e
  fulfilled_local None None waits true false (Done x) o quiet pauses begins h = absurd (cc)

  -- a generator that shows a value and hasn't ended paused
  pub fulfilled_paused : (marked failing : Option CellError) (first : Bool) (ending : Ending) (o : Value) (ended : Bool)
      → next_by t v marked failing true first end ending ≡ Fulfilled w o → (ended || ends_by marked failing true ending) ≡ false → ending ≡ Paused
  fulfilled_paused (Some e) failing first ending o ended h n = absurd (cc)
  fulfilled_paused None (Some e) first ending o ended h n = absurd (cc)
  fulfilled_paused None None first (Needs key) o ended h n = absurd (cc)
  fulfilled_paused None None first (Failed e) o ended h n = absurd (cc)
  fulfilled_paused None None first Paused o ended h n = refl
  fulfilled_paused None None first (Done x) o ended h n = absurd (true≢false (or_parts ended true n).1)

  -- an error is the local one
  pub rejected_local : (marked failing : Option CellError) (waits generator first : Bool) (ending : Ending) (d : CellError)
      → (marked ≡ None → waits ≡ false)
      → next_by t v marked failing generator first end ending ≡ Rejected w d → local_by marked waits failing generator end.yields ending ≡ Some (Fails d)
  rejected_local (Some e) failing waits generator first ending d quiet h =
      let same : e ≡ d = cc in ap (λ (x : CellError). Some (Fails x)) same
  rejected_local None (Some e) waits generator first ending d quiet h =
      let same : e ≡ d = cc in
      ap (λ (b : Bool). local_by None b (Some e) generator end.yields ending) (quiet refl) ∙ ap (λ (x : CellError). Some (Fails x)) same
  rejected_local None None waits generator first (Failed e) d quiet h =
      let same : e ≡ d = cc in
      ap (λ (b : Bool). local_by None b None generator end.yields (Failed e)) (quiet refl) ∙ ap (λ (x : CellError). Some (Fails x)) same
  rejected_local None None waits generator first (Needs key) d quiet h = absurd (cc)
  rejected_local None None waits generator first Paused d quiet h = absurd (cc)
  rejected_local None None waits false first (Done x) d quiet h = absurd (cc)
  rejected_local None None waits true true (Done x) d quiet h = absurd (cc)
  rejected_local None None waits true false (Done x) d quiet h = absurd (cc)

  -- nothing fails, and an answer is needed
  pub asked_parts : (marked failing : Option CellError) (generator first : Bool) (ending : Ending) (n : ℕ) (key : Name)
      → next_by t v marked failing generator first end ending ≡ Asked w n key → (marked ≡ None) × (failing ≡ None) × ((k : Name) × (ending ≡ Needs k))
  asked_parts (Some e) failing generator first ending n key h = absurd (cc)
  asked_parts None (Some e) generator first ending n key h = absurd (cc)
  asked_parts None None generator first (Needs k) n key h = (refl, refl, (k, refl))
  asked_parts None None generator first (Failed e) n key h = absurd (cc)
  asked_parts None None generator first Paused n key h = absurd (cc)
  asked_parts None None false first (Done x) n key h = absurd (cc)
  asked_parts None None true true (Done x) n key h = absurd (cc)
  asked_parts None None true false (Done x) n key h = absurd (cc)

  -- nothing fails, and a generator ended at a later pull
  pub ended_parts : (marked failing : Option CellError) (generator first : Bool) (ending : Ending)
      → next_by t v marked failing generator first end ending ≡ Ended w → (marked ≡ None) × (failing ≡ None) × (generator ≡ true) × (first ≡ false) × ((x : Value) × (ending ≡ Done x))
  ended_parts (Some e) failing generator first ending h = absurd (cc)
  ended_parts None (Some e) generator first ending h = absurd (cc)
  ended_parts None None generator first (Needs k) h = absurd (cc)
  ended_parts None None generator first (Failed e) h = absurd (cc)
  ended_parts None None generator first Paused h = absurd (cc)
  ended_parts None None false first (Done x) h = absurd (cc)
  ended_parts None None true true (Done x) h = absurd (cc)
  ended_parts None None true false (Done x) h = (refl, refl, refl, refl, (x, refl))

-- a local value that is shown of a generator that paused
pub value_local : (marked failing : Option CellError) (waits : Bool) (ys : List Value) → shows_value (local_by marked waits failing true ys Paused) ≡ true
    → (marked ≡ None) × (local_by marked waits failing true ys Paused ≡ shown_of ys)
value_local (Some e) failing waits ys h = absurd (false≢true h)
value_local None failing true ys h = absurd (false≢true h)
value_local None (Some e) false ys h = absurd (false≢true h)
value_local None None false ys h = (refl, outcome_paused ys)
