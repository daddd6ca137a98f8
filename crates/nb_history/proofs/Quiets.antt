-- Where nothing is leaving or due, nothing is after a change of starts that leaves each one's number, renewal and kept
-- footing, and stops nothing that is pulling.
use Rattle.std.proofs.Common.{ℕ, ◌≡◌, refl, sym, ◌∙◌, ap, Bool, true, false, not, ◌&&◌, ◌||◌, List, Option, Some, None, is_some}
use Rattle.std.specs.Prelude.{nat_le, option_map}
use Rattle.std.specs.List.{list_any}
use Rattle.std.proofs.lemmas.Bool.{and_parts, and_from, false≢true, false_from_ne_true}
use Rattle.nb_graph.proofs.Reaches.{any_has, has_any}
use Rattle.nb_sheet.specs.Lists.{numbers, from_option}
use Rattle.nb_history.specs.Needs.{needed}
use Rattle.nb_history.specs.Reading.{Reading, Start, Footing, start_of, is_idle, number, renewal}
use Rattle.nb_history.specs.Rules.{wanted, leaving, footing, same_base, same_footing, is_behind, is_overtaken, is_running, is_pulling, pulls_on, pulls_of, is_held, due}
use Rattle.nb_history.specs.Log.{IsQuiet}
use Rattle.nb_history.proofs.Closing.{footing_agree}

abbrev pub kept_of : Option Start → Option Footing
kept_of o = option_map (λ (s : Start). s.kept) o

by_kept : (d : Bool) (f : Footing → Bool) (o : Option Start) → from_option d (λ (s : Start). f s.kept) o ≡ from_option d f (kept_of o)
by_kept d f None = refl
by_kept d f (Some s) = refl

idle_kept : (o : Option Start) → is_idle o ≡ not (is_some (kept_of o))
idle_kept None = refl
idle_kept (Some s) = refl

-- who leaves, and who is behind or overtaken, is as it was
pub record Alike (r q : Reading) : Type 0 where
  pub footing : (v : ℕ) → footing q v ≡ footing r v
  pub leaving : (v : ℕ) → leaving q v ≡ leaving r v
  pub behind : (v : ℕ) → is_behind q v ≡ is_behind r v
  pub overtaken : (v : ℕ) → is_overtaken q v ≡ is_overtaken r v

module _ (r : Reading) (xs : List (Option Start)) where
  abbrev pub then : Reading
  then = record r { starts = xs }

  -- the starts' numbers, renewals and kept footings are those of before
  pub record SameKept : Type 0 where
    pub number : (v : ℕ) → number then v ≡ number r v
    pub renewal : (v : ℕ) → renewal then v ≡ renewal r v
    pub kept : (v : ℕ) → kept_of (start_of then v) ≡ kept_of (start_of r v)

  module _ (same : SameKept) where
    footing_same : (v : ℕ) → footing then v ≡ footing r v
    footing_same v = footing_agree r.sheet (number then) (number r) (renewal then) (renewal r) v (λ c x h. same.number x) (λ c x h. same.renewal x)

    reads_same : (d : Bool) (f : Footing → Footing → Bool) (v : ℕ) → from_option d (λ (s : Start). f (footing then v) s.kept) (start_of then v) ≡ from_option d (λ (s : Start). f (footing r v) s.kept) (start_of r v)
    reads_same d f v =
        ap (λ (x : Footing). from_option d (λ (s : Start). f x s.kept) (start_of then v)) (footing_same v)
        ∙ by_kept d (f (footing r v)) (start_of then v)
        ∙ ap (from_option d (f (footing r v))) (same.kept v)
        ∙ sym (by_kept d (f (footing r v)) (start_of r v))

    pub same_alike : Alike r then
    same_alike = record {
      footing = footing_same;
      leaving = λ v. ap (λ (b : Bool). not (wanted r v) && not b) (idle_kept (start_of then v) ∙ ap (λ (o : Option Footing). not (is_some o)) (same.kept v) ∙ sym (idle_kept (start_of r v)));
      behind = reads_same true (λ f g. not (same_footing f g));
      overtaken = reads_same false (λ f g. same_base f g && not (same_footing f g));
    }

    -- so nothing starts where what was held still is
    module _ (on : pulls_on r ≡ true → pulls_on then ≡ true) where
      any_same : (us : List ℕ) → list_any (is_overtaken then) us ≡ list_any (is_overtaken r) us
      any_same us = ap (λ (f : ℕ → Bool). list_any f us) (λ j v. same_alike.overtaken v j)

      still_held : (v : ℕ) → is_held r v ≡ true → is_held then v ≡ true
      still_held v h =
          let a = and_parts (pulls_on r) (is_overtaken r v || list_any (is_overtaken r) (needed r.sheet v)) h in
          and_from (pulls_on then) (is_overtaken then v || list_any (is_overtaken then) (needed r.sheet v)) (on a.0)
          (ap (λ (b : Bool). b || list_any (is_overtaken then) (needed r.sheet v)) (same_alike.overtaken v) ∙ ap (λ (b : Bool). is_overtaken r v || b) (any_same (needed r.sheet v)) ∙ a.1)

      due_before : (v : ℕ) → due then v ≡ true → due r v ≡ true
      due_before v h =
          let a = and_parts (wanted r v && is_behind then v) (not (is_held then v)) h in
          let b = and_parts (wanted r v) (is_behind then v) a.0 in
          and_from (wanted r v && is_behind r v) (not (is_held r v))
          (and_from (wanted r v) (is_behind r v) b.0 (sym (same_alike.behind v) ∙ b.1))
          (ap (λ (x : Bool). not x) (false_from_ne_true (is_held r v) (λ k. false≢true (ap (λ (x : Bool). not x) (sym (still_held v k)) ∙ a.1))))

      pub quiet_while : IsQuiet r → IsQuiet then
      quiet_while quiet v = (same_alike.leaving v ∙ (quiet v).0, false_from_ne_true (due then v) (λ d. false≢true (sym (quiet v).1 ∙ due_before v d)))

  -- and what was pulling is
  pub record GoesOn : Type 0 where
    pub number : (v : ℕ) → number then v ≡ number r v
    pub renewal : (v : ℕ) → renewal then v ≡ renewal r v
    pub kept : (v : ℕ) → kept_of (start_of then v) ≡ kept_of (start_of r v)
    pub pulls : (v : ℕ) → is_running r v ≡ true → nat_le 2 (pulls_of r v) ≡ true → (is_running then v ≡ true) × (nat_le 2 (pulls_of then v) ≡ true)

  module _ (on : GoesOn) where
    abbrev same_kept : SameKept
    same_kept = record { number = on.number; renewal = on.renewal; kept = on.kept }

    still_pulling : (v : ℕ) → is_pulling r v ≡ true → is_pulling then v ≡ true
    still_pulling v h =
        let a = and_parts (is_running r v && not (is_behind r v)) (nat_le 2 (pulls_of r v)) h in
        let b = and_parts (is_running r v) (not (is_behind r v)) a.0 in
        let c = on.pulls v b.0 a.1 in
        and_from (is_running then v && not (is_behind then v)) (nat_le 2 (pulls_of then v))
        (and_from (is_running then v) (not (is_behind then v)) c.0 (ap (λ (x : Bool). not x) ((same_alike same_kept).behind v) ∙ b.1)) c.1

    still_on : pulls_on r ≡ true → pulls_on then ≡ true
    still_on h =
        let t = any_has (is_pulling r) (numbers r.sheet.rows) h in
        has_any (is_pulling then) (numbers r.sheet.rows) t.0 t.1 (still_pulling t.0 t.2)

    pub quiet_on : IsQuiet r → IsQuiet then
    quiet_on = quiet_while same_kept still_on
