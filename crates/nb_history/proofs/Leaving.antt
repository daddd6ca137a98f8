-- A `left` entry leaves each wanted variable behind or not as it was, and makes no other variable leave.
use Rattle.std.proofs.Common.{ℕ, ◌≡◌, ◌≢◌, sym, ◌∙◌, ap, true, false, not, ◌&&◌, List, Option, Some, None}
use Rattle.std.proofs.lemmas.Bool.{false≢true, false_from_ne_true, and_parts, and_right, not-true}
use Rattle.nb_graph.specs.Needs.{has}
use Rattle.nb_sheet.specs.Lists.{nth, from_option, option_then}
use Rattle.nb_resolve.specs.Names.{direct}
use Rattle.nb_history.specs.Needs.{circular}
use Rattle.nb_history.specs.Reading.{Reading, Start, Footing, start_of, is_idle, number, renewal}
use Rattle.nb_history.specs.Rules.{wanted, leaving, is_behind, footing}
use Rattle.nb_history.specs.Log.{after}
use Rattle.nb_value.specs.declared.value.Value.{Value}
use Rattle.nb_log.specs.declared.entry.Entry.TheVariants.{Left}
use Rattle.nb_history.proofs.Closing.{nth_put_same, nth_put_other, footing_agree, behind_by}
use Rattle.nb_history.proofs.Scratches.{NamedDefined, wanted_input}

module _ (r : Reading) (named_defined : NamedDefined r.sheet) (u : ℕ) (d : List Value) (leaves : leaving r u ≡ true) where
  pub unwanted : wanted r u ≡ false
  unwanted = not-true (wanted r u) (and_parts (not (wanted r u)) (not (is_idle (start_of r u))) leaves).0

  pub start_else : (v : ℕ) → u ≢ v → start_of (after r (Left u d)) v ≡ start_of r v
  start_else v other = ap (λ (z : Option (Option Start)). option_then z (λ s. s)) (nth_put_other r.starts u v None other)

  -- v isn't u and doesn't rest on it
  abbrev pub Unrested : ℕ → Type 0
  Unrested v = (u ≢ v) × (circular r.sheet v ≡ false → has (direct r.sheet v) u ≡ false)

  pub behind_unrested : (v : ℕ) → Unrested v → is_behind (after r (Left u d)) v ≡ is_behind r v
  behind_unrested v h =
      ap (λ (f : Footing). behind_by f (start_of (after r (Left u d)) v)) footings ∙ ap (behind_by (footing r v)) (start_else v h.0)
    where
      apart : circular r.sheet v ≡ false → (x : ℕ) → has (direct r.sheet v) x ≡ true → u ≢ x
      apart c x k e = false≢true (sym (h.1 c) ∙ (ap (has (direct r.sheet v)) e ∙ k))

      footings : footing (after r (Left u d)) v ≡ footing r v
      footings =
          footing_agree r.sheet (number (after r (Left u d))) (number r) (renewal (after r (Left u d))) (renewal r) v
          (λ c x k. ap (λ (o : Option Start). from_option 0 (λ (s : Start). s.number) o) (start_else x (apart c x k)))
          (λ c x k. ap (λ (o : Option Start). from_option 0 (λ (s : Start). s.renewal) o) (start_else x (apart c x k)))

  -- so it is with a wanted v
  pub behind_left : (v : ℕ) → wanted r v ≡ true → is_behind (after r (Left u d)) v ≡ is_behind r v
  behind_left v w =
      behind_unrested v (
        λ e. false≢true (sym unwanted ∙ (ap (wanted r) e ∙ w)),
        λ c. false_from_ne_true (has (direct r.sheet v) u) (λ k. false≢true (sym unwanted ∙ wanted_input r named_defined v u w k)),
      )

  pub leaving_left : (v : ℕ) → u ≢ v → leaving (after r (Left u d)) v ≡ leaving r v
  leaving_left v other = ap (λ (o : Option Start). not (wanted r v) && not (is_idle o)) (start_else v other)

  pub left_itself : (o : Option Start) → nth r.starts u ≡ Some o → leaving (after r (Left u d)) u ≡ false
  left_itself o at =
      and_right (not (wanted r u)) (not (is_idle (start_of (after r (Left u d)) u)))
      (ap (λ (z : Option (Option Start)). not (is_idle (option_then z (λ s. s)))) (nth_put_same r.starts u o None at))
