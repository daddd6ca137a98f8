-- `left` and `pending` entries keep what holds after every legal log.
use Rattle.std.proofs.Common.{inl, inr, ℕ, ◌≡◌, ◌+◌, ◌≤◌, refl, sym, ◌∙◌, ap, subst, true, false, cond, not, ◌&&◌, ◌||◌, List, [], ◌∷◌, map, arith, Option, Some, None, is_some}
use Rattle.std.specs.List.{list_any}
use Rattle.std.proofs.lemmas.Bool.{cases_Bool, false≢true, and_parts}
use Rattle.std.proofs.lemmas.Option.{none-some, same_Some}
use Rattle.nb_value.specs.declared.value.Value.{Value}
use Rattle.nb_sheet.specs.Lists.{nth, put, numbers, from_option}
use Rattle.nb_sheet.specs.declared.row.VarRow.{VarRow}
use Rattle.nb_graph.specs.Needs.{has}
use Rattle.nb_resolve.specs.Names.{direct}
use Rattle.nb_history.specs.Needs.{circular, is_defined, is_used, is_observed, is_root, needs}
use Rattle.nb_history.specs.Reading.{Reading, Start, start_of, shown, number, renewal}
use Rattle.nb_history.specs.Rules.{wanted, is_behind, may_start, footing, place_of}
use Rattle.nb_history.specs.Log.{after, new_start}
use Rattle.nb_log.specs.Printing.{entry_size}
use Rattle.nb_log.specs.declared.entry.Entry.TheVariants.{Pending, Left}
use Rattle.nb_graph.proofs.Reaches.{has_cases}
use Rattle.nb_history.proofs.Closing.{number_has, wanted_has, needs_direct, behind_by, due_parts, may_start_cases}
use Rattle.nb_history.proofs.Held.{may_begin}
use Rattle.nb_history.proofs.Lawful.{Lawful, map_has}
use Rattle.nb_history.proofs.Sites.{Holds, site_of}
use Rattle.nb_history.proofs.StartSteps.{new_holds}
use Rattle.nb_history.proofs.Steady.{Steady, Within, later, unchanged, nth_out, start_self, renewed_not_kept, idle_not_kept, put_steady}

-- ---- a wanted variable is defined

wanted_row : (r : Reading) (v : ℕ) → wanted r v ≡ true → (row : VarRow) × (nth r.sheet.rows v ≡ Some row) × (is_some row.body ≡ true)
wanted_row r v w =
    let t : (row : VarRow) × (nth r.sheet.rows v ≡ Some row) = number_has r.sheet.rows v (wanted_has r v w) in
    let used : (not r.disposed ≡ true) × (is_used r.sheet v ≡ true) = and_parts (not r.disposed) (is_used r.sheet v) w in
    let some : is_defined r.sheet v ≡ true = (and_parts (is_defined r.sheet v) (is_observed r.sheet v || list_any (λ w. is_root r.sheet w && needs r.sheet w v) (numbers r.sheet.rows)) used.1).0 in
    (t.0, t.1, sym (ap (λ (o : Option VarRow). from_option false (λ (row : VarRow). is_some row.body) o) t.1) ∙ some)

-- where there is no such variable, no start changes
nowhere : (r : Reading) (v : ℕ) (o : Option Start) (size : ℕ) → Steady r → nth r.starts v ≡ None → Steady (later r (put r.starts v o) r.tickets size)
nowhere r v o size h out = subst (λ (xs : List (Option Start)). Steady (later r xs r.tickets size)) (sym (nth_out r.starts v o out)) (unchanged r r.tickets size h)

module _ (r : Reading) (steady : Steady r) (v : ℕ) (d : List Value) where
  -- no start kept what is idle now
  pub steady_left : Steady (after r (Left v d))
  steady_left = go (nth r.starts v) refl
    where
      go : (z : Option (Option Start)) → nth r.starts v ≡ z → Steady (after r (Left v d))
      go None at = nowhere r v None (r.size + entry_size (Left v d)) steady at
      go (Some z) at =
          let size : ℕ = r.size + entry_size (Left v d) in
          let none : number (later r (put r.starts v None) r.tickets size) v ≡ 0 =
          ap (λ (o : Option Start). from_option 0 (λ (s : Start). s.number) o) (start_self r steady v None r.tickets size z at) in
          put_steady r steady v None r.tickets size z at
          (λ s e. absurd (none-some s e))
          (λ s e. absurd (none-some s e))
          (λ t w s other here kept c k. absurd (idle_not_kept r steady v None r.tickets size t w s other here kept none c k))

  renewal_small : (x : ℕ) → renewal r x ≤ r.entries
  renewal_small x = go (start_of r x) refl
    where
      go : (o : Option Start) → start_of r x ≡ o → renewal r x ≤ r.entries
      go None e = subst (λ (m : ℕ). m ≤ r.entries) (sym (ap (λ (z : Option Start). from_option 0 (λ (s : Start). s.renewal) z) e)) (omega arith)
      go (Some s) e = subst (λ (m : ℕ). m ≤ r.entries) (sym (ap (λ (z : Option Start). from_option 0 (λ (s : Start). s.renewal) z) e)) (Within.renewal (steady.within x s e))

  map_small : (xs : List ℕ) (x : ℕ) → has (map (renewal r) xs) x ≡ true → x ≤ r.entries
  map_small [] x h = absurd (false≢true h)
  map_small (w ∷ xs) x h = elim (has_cases (renewal r w) (map (renewal r) xs) x h) [
    | inl same ↦ subst (λ (m : ℕ). m ≤ r.entries) same (renewal_small w)
    | inr more ↦ map_small xs x more
  ]

  fresh_small : (x : ℕ) → has (cond (circular r.sheet v) [] (map (renewal r) (direct r.sheet v))) x ≡ true → x ≤ r.entries
  fresh_small x h = elim (cases_Bool (circular r.sheet v)) [
    | inl c ↦ absurd (false≢true (rw c at h))
    | inr c ↦ map_small (direct r.sheet v) x (rw c at h)
  ]

  abbrev fresh : Start
  fresh = new_start (r.entries + 1) (footing r v)

  module _ (law : Lawful r) (may : may_start r v ≡ true) where
    -- each of its inputs has started
    fresh_started : (x : ℕ) → has (cond (circular r.sheet v) [] (map (number r) (direct r.sheet v))) x ≡ true → 1 ≤ x
    fresh_started x h = elim (cases_Bool (circular r.sheet v)) [
      | inl c ↦ absurd (false≢true (rw c at h))
      | inr c ↦
          let p : (u : ℕ) × (has (direct r.sheet v) u ≡ true) × (number r u ≡ x) = map_has (number r) (direct r.sheet v) x (rw c at h) in
          elim (may_begin r law.sound.named v may) [
            | inl circ ↦ absurd (false≢true (sym c ∙ circ))
            | inr calm ↦ subst (λ (m : ℕ). 1 ≤ m) p.2 (started p.0 (start_of r p.0) refl (calm p.0 (needs_direct r.sheet v p.0 p.1)))
          ]
    ]
      where
        started : (u : ℕ) (o : Option Start) → start_of r u ≡ o → is_behind r u ≡ false → 1 ≤ number r u
        started u None e calm = absurd (false≢true (sym (sym (ap (behind_by (footing r u)) e) ∙ calm)))
        started u (Some s) e calm =
            let is : number r u ≡ s.number = ap (λ (o : Option Start). from_option 0 (λ (s : Start). s.number) o) e in
            omega (arith, is, (law.placed u s e).0)

    -- its row has a place
    fresh_placed : (1 ≤ place_of r.sheet v) × (place_of r.sheet v ≤ r.entries)
    fresh_placed =
        let w : (row : VarRow) × (nth r.sheet.rows v ≡ Some row) × (is_some row.body ≡ true) = wanted_row r v (due_parts r v (may_start_cases r v may).0).wanted in
        let p : (w.0.place ≤ r.entries) × (is_some w.0.body ≡ true → 1 ≤ w.0.place) = steady.placed v w.0 w.1 in
        let at : place_of r.sheet v ≡ w.0.place = ap (λ (o : Option VarRow). from_option 0 (λ (row : VarRow). row.place) o) w.1 in
        (omega (arith, at, p.1 w.2), omega (arith, at, p.0))

    fresh_within : Within (r.entries + 1) fresh
    fresh_within = record {
      renewal = omega arith;
      renewals = λ x k. omega (arith, fresh_small x k);
      starts = fresh_started;
      given = fresh_placed.0;
      place = omega (arith, fresh_placed.1);
    }

    -- no start kept a new renewal
    pub steady_pending : Steady (after r (Pending v d))
    steady_pending = go (nth r.starts v) refl
      where
        go : (z : Option (Option Start)) → nth r.starts v ≡ z → Steady (after r (Pending v d))
        go None at = nowhere r v (Some fresh) (r.size + entry_size (Pending v d)) steady at
        go (Some z) at =
            let size : ℕ = r.size + entry_size (Pending v d) in
            let new : renewal (later r (put r.starts v (Some fresh)) r.tickets size) v ≡ r.entries + 1 =
            ap (λ (o : Option Start). from_option 0 (λ (s : Start). s.renewal) o) (start_self r steady v (Some fresh) r.tickets size z at) in
            put_steady r steady v (Some fresh) r.tickets size z at
            (λ s e. subst (λ (x : Start). Within (r.entries + 1) x) (same_Some fresh s e) fresh_within)
            (λ s e t l kept. subst (λ (x : Start). Holds (site_of t (shown (later r (put r.starts v (Some fresh)) r.tickets size)) v) x) (same_Some fresh s e)
            (new_holds (site_of t (shown (later r (put r.starts v (Some fresh)) r.tickets size)) v) (r.entries + 1) (footing r v)))
            (λ t w s other here kept c k. absurd (renewed_not_kept r steady v (Some fresh) r.tickets size t w s other here kept new c k))
