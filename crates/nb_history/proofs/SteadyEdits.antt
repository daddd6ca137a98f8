-- An edit keeps what holds after every legal log: a sheet that may come after it might have come before it.
use Rattle.std.proofs.Common.{inl, inr, ℕ, zero, suc, ◌≡◌, ◌+◌, ◌-◌, ◌≤◌, refl, sym, ◌∙◌, ap, subst, true, List, [], ◌∷◌, ◌++◌, length, replicate, arith, Option, None, is_some}
use Rattle.std.specs.Prelude.{slice_get}
use Rattle.nb_sheet.specs.declared.edit.Edit.{Edit}
use Rattle.nb_sheet.specs.Lists.{from_option, option_then}
use Rattle.nb_sheet.specs.Sheet.{Sheet, edited_sheet}
use Rattle.nb_history.specs.Reading.{Reading, Start, start_of, shown, number, renewal}
use Rattle.nb_history.specs.Log.{with_sheet}
use Rattle.nb_history.proofs.Closing.{footing_agree}
use Rattle.nb_history.proofs.Sites.{Site, Holds}
use Rattle.nb_history.proofs.EditedRows.{edited_rows, edited_builtins}
use Rattle.nb_history.proofs.LaterSheets.{IsLater}
use Rattle.nb_history.proofs.Steady.{Steady, within_more, site_agree}

-- ---- the new variables are idle

idle_more : (n i : ℕ) → option_then (slice_get (replicate n None) i) (λ (o : Option Start). o) ≡ None
idle_more zero i = refl
idle_more (suc n) zero = refl
idle_more (suc n) (suc i) = idle_more n i

same_starts : (starts : List (Option Start)) (n i : ℕ) → option_then (slice_get (starts ++ replicate n None) i) (λ s. s) ≡ option_then (slice_get starts i) (λ s. s)
same_starts [] n i = idle_more n i
same_starts (s ∷ starts) n zero = refl
same_starts (s ∷ starts) n (suc i) = same_starts starts n i

-- ---- the edit

module _ (r : Reading) (steady : Steady r) (edit : Edit) (size : ℕ) where
  abbrev sheet' : Sheet
  sheet' = edited_sheet r.sheet edit (r.entries + 1)

  abbrev now : Reading
  now = record (with_sheet r sheet') { entries = r.entries + 1; size = size }

  pub start_same : (u : ℕ) → start_of now u ≡ start_of r u
  start_same zero = refl
  start_same (suc i) = same_starts r.starts (length sheet'.rows - length r.starts) i

  shown_same : (u : ℕ) → shown r u ≡ shown now u
  shown_same u = sym (ap (λ (o : Option Start). option_then o (λ s. s.shown)) (start_same u))

  pub before : (t : Sheet) → IsLater sheet' (r.entries + 1) t → IsLater r.sheet r.entries t
  before t h = record {
    builtins = h.builtins ∙ edited_builtins r.sheet edit (r.entries + 1);
    rows = λ v row at some. elim (h.rows v row at some) [
      | inr new ↦ inr (omega (arith, new))
      | inl here ↦ elim (edited_rows r.sheet edit (r.entries + 1) v row here) [
        | inl old ↦ inl old
        | inr fresh ↦ elim fresh.new [
          | inl new ↦ inr (omega (arith, new))
          | inr none ↦ absurd (omega (arith, none, some))
        ]
      ]
    ];
  }

  pub edit_steady : Steady now
  edit_steady = record {
    placed = λ v row at. elim (edited_rows r.sheet edit (r.entries + 1) v row at) [
      | inl old ↦ let p : (row.place ≤ r.entries) × (is_some row.body ≡ true → 1 ≤ row.place) = steady.placed v row old in (omega (arith, p.0), p.1)
      | inr fresh ↦ (elim fresh.new [ inl new ↦ omega (arith, new) | inr none ↦ omega (arith, none) ], λ k. omega (arith, fresh.placed k))
    ];
    within = λ v s at. within_more r.entries s (steady.within v s (sym (start_same v) ∙ at));
    holds = λ v s at t later kept.
        subst (λ (x : Site). Holds x s) (sym (site_agree t (shown r) (shown now) v (λ u k. shown_same u)))
        (steady.holds v s (sym (start_same v) ∙ at) t (before t later)
        (sym (footing_agree t (number now) (number r) (renewal now) (renewal r) v
        (λ c u k. ap (λ (o : Option Start). from_option 0 (λ (s : Start). s.number) o) (start_same u))
        (λ c u k. ap (λ (o : Option Start). from_option 0 (λ (s : Start). s.renewal) o) (start_same u))) ∙ kept));
  }
