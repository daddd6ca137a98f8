-- One more variable is told.
use Rattle.std.proofs.Common.{ℕ, zero, suc, ◌+◌, ◌≡◌, ◌≢◌, ◌≤◌, ◌<◌, refl, sym, ◌∙◌, ap, subst, Bool, true, false, cond, not, ◌&&◌, eqb, List, [], ◌∷◌, length, map, get_or, arith, Option, Some, None, inl, inr}
use Rattle.std.specs.Prelude.{slice_get, option_map, IfSome, replicate}
use Rattle.std.proofs.lemmas.Bool.{cases_Bool, cases_eq, false≢true}
use Rattle.std.proofs.lemmas.List.{length-map, length-replicate}
use Rattle.std.proofs.lemmas.List.FromFn.{length-map-range_with_len, get_or-map-range_with_len}
use Rattle.nb_graph.specs.Needs.{has}
use Rattle.nb_sheet.specs.Sheet.{Sheet}
use Rattle.nb_resolve.specs.Names.{direct, duplicate}
use Rattle.nb_wave.specs.declared.footing.Footing.{Footing as Numbered}
use Rattle.nb_wave.specs.declared.row.Row.{Row}
use Rattle.nb_wave.specs.Marks.{marked}
use Rattle.nb_wave.specs.Steps.{changed}
use Rattle.nb_wave.specs.Wave.{unput, no_rows, put_row, IsAsMany, IsNumber}
use Rattle.nb_wave.proofs.Stepped.{get_changed_same, get_changed_other, length_changed}
use Rattle.nb_history.specs.Needs.{circular, is_used}
use Rattle.nb_history.specs.Reading.{Start, Footing}
use Rattle.nb_history.proofs.Direct.{direct_within}
use Rattle.nb_history.proofs.Closing.{range_has}
use Rattle.nb_runs.specs.Footings.{footing_of, IsMarked}
use Rattle.nb_runs.specs.Starts.{start_in}
use Rattle.nb_closing.specs.declared.site.Site.{Site}
use Rattle.nb_closing.specs.declared.site.Moment.{Moment}
use Rattle.nb_closing.specs.Sites.{site_in, kept_of}
use Rattle.nb_closing.specs.Ties.{Ties, ties_of, all_ties}
use Rattle.nb_closing.specs.Told.{mark_of, footing_at, IsTold, AreTold, keeping, IsKept}
use Rattle.nb_closing.proofs.Duplicates.{duplicate_open}
use Rattle.nb_closing.proofs.ToldRows.{none_there}

-- ---- ties, by number

pub ties_length : (s : Sheet) (ties : List Ties) → ties ≡ all_ties s → length ties ≡ length s.rows
ties_length s ties e = ap (λ (l : List Ties). length l) e ∙ length-map-range_with_len (ties_of s) 1 (length s.rows)

pub ties_at : (s : Sheet) (ties : List Ties) (k : ℕ) (t : Ties) → ties ≡ all_ties s → k < length s.rows → t ≡ get_or ties k t → t ≡ ties_of s (k + 1)
ties_at s ties k t e h read =
    read ∙ ap (λ (l : List Ties). get_or l k t) e ∙ get_or-map-range_with_len (ties_of s) 1 (length s.rows) k (k + 1) t h (omega arith)

-- ---- what a wave takes

-- a direct need has a variable's number
pub need_number : (s : Sheet) → length s.rows ≤ 1024 → (v u : ℕ) → has (direct s v) u ≡ true → IsNumber u
need_number s few v u h =
    let t : (1 ≤ u) × (u < 1 + length s.rows) = range_has 1 (length s.rows) u (direct_within s v u h) in (t.0, omega (arith, t.1, few))

-- as many starts and renewals as needs, or none
pub as_many : (s : Sheet) (site : ℕ → Site) (v : ℕ) (f : Numbered) → footing_of f ≡ footing_at s site v → IsAsMany f (direct s v)
as_many s site v f e =
    elim (cases_Bool (circular s v)) [
      | inl c ↦ inl (
        starts_are ∙ ap (λ (b : Bool). cond b [] (map (λ (u : ℕ). Site.number (site u)) (direct s v))) c,
        renewals_are ∙ ap (λ (b : Bool). cond b [] (map (λ (u : ℕ). Site.renewal (site u)) (direct s v))) c,
      )
      | inr c ↦ inr (
        ap (λ (l : List ℕ). length l) (starts_are ∙ ap (λ (b : Bool). cond b [] (map (λ (u : ℕ). Site.number (site u)) (direct s v))) c) ∙ length-map (direct s v) (λ u. Site.number (site u)),
        ap (λ (l : List ℕ). length l) (renewals_are ∙ ap (λ (b : Bool). cond b [] (map (λ (u : ℕ). Site.renewal (site u)) (direct s v))) c) ∙ length-map (direct s v) (λ u. Site.renewal (site u)),
      )
    ]
  where
    starts_are : Numbered.starts f ≡ cond (circular s v) [] (map (λ (u : ℕ). Site.number (site u)) (direct s v))
    starts_are = ap (λ (g : Footing). g.starts) e

    renewals_are : Numbered.renewals f ≡ cond (circular s v) [] (map (λ (u : ℕ). Site.renewal (site u)) (direct s v))
    renewals_are = ap (λ (g : Footing). g.renewals) e

-- ---- a mark is both truths

mark_circular : (t : Ties) → eqb (mark_of t) 2 ≡ t.is_circular
mark_circular t = go t.is_circular t.is_duplicate
  where
    go : (c d : Bool) → eqb (cond c 2 (cond d 1 0)) 2 ≡ c
    go true d = refl
    go false true = refl
    go false false = refl

mark_duplicate : (t : Ties) → (t.is_duplicate ≡ true → t.is_circular ≡ false) → eqb (mark_of t) 1 ≡ t.is_duplicate
mark_duplicate t h = go t.is_circular t.is_duplicate h
  where
    go : (c d : Bool) → (d ≡ true → c ≡ false) → eqb (cond c 2 (cond d 1 0)) 1 ≡ d
    go true true h = absurd (false≢true (sym (h refl)))
    go true false h = refl
    go false true h = refl
    go false false h = refl

pub mark_small : (t : Ties) → mark_of t ≤ 2
mark_small t = go t.is_circular t.is_duplicate
  where
    go : (c d : Bool) → cond c 2 (cond d 1 0) ≤ 2
    go true d = omega arith
    go false true = omega arith
    go false false = omega arith

-- a footing made of these parts is v's
pub footing_made : (s : Sheet) (site : ℕ → Site) (v : ℕ) (t : Ties) (f : Numbered) → t ≡ ties_of s v → f.mark ≡ mark_of t → f.inputs ≡ t.codes
    → f.place ≡ Footing.place (footing_at s site v)
    → f.starts ≡ cond t.is_circular [] (map (λ (u : ℕ). Site.number (site u)) t.direct)
    → f.renewals ≡ cond t.is_circular [] (map (λ (u : ℕ). Site.renewal (site u)) t.direct)
    → footing_of f ≡ footing_at s site v
footing_made s site v t f e mark inputs_are place starts_are renewals_are =
    let g = footing_at s site v in
    let twice : eqb f.mark 1 ≡ duplicate s v =
    ap (λ (n : ℕ). eqb n 1) mark ∙ ap (λ (x : Ties). eqb (mark_of x) 1) e ∙ mark_duplicate (ties_of s v) (duplicate_open s v) in
    let round_ : eqb f.mark 2 ≡ circular s v = ap (λ (n : ℕ). eqb n 2) mark ∙ ap (λ (x : Ties). eqb (mark_of x) 2) e ∙ mark_circular (ties_of s v) in
    let codes : f.inputs ≡ g.inputs = inputs_are ∙ ap (λ (x : Ties). x.codes) e in
    let starts_then : f.starts ≡ g.starts = starts_are ∙ ap (λ (x : Ties). cond x.is_circular [] (map (λ (u : ℕ). Site.number (site u)) x.direct)) e in
    let renewals_then : f.renewals ≡ g.renewals = renewals_are ∙ ap (λ (x : Ties). cond x.is_circular [] (map (λ (u : ℕ). Site.renewal (site u)) x.direct)) e in
    ap (λ (p : ℕ). record { place = p; is_duplicate = eqb f.mark 1; is_circular = eqb f.mark 2; inputs = f.inputs; starts = f.starts; renewals = f.renewals }) place
    ∙ ap (λ (b : Bool). record { place = g.place; is_duplicate = b; is_circular = eqb f.mark 2; inputs = f.inputs; starts = f.starts; renewals = f.renewals }) twice
    ∙ ap (λ (b : Bool). record { place = g.place; is_duplicate = g.is_duplicate; is_circular = b; inputs = f.inputs; starts = f.starts; renewals = f.renewals }) round_
    ∙ ap (λ (l : List ℕ). record { place = g.place; is_duplicate = g.is_duplicate; is_circular = g.is_circular; inputs = l; starts = f.starts; renewals = f.renewals }) codes
    ∙ ap (λ (l : List ℕ). record { place = g.place; is_duplicate = g.is_duplicate; is_circular = g.is_circular; inputs = g.inputs; starts = l; renewals = f.renewals }) starts_then
    ∙ ap (λ (l : List ℕ). record { place = g.place; is_duplicate = g.is_duplicate; is_circular = g.is_circular; inputs = g.inputs; starts = g.starts; renewals = l }) renewals_then

-- ---- rows

changed_same : (rows : List Row) (v : ℕ) → rows ≡ changed (keeping None) v rows
changed_same [] v = refl
changed_same (x ∷ rows) zero = refl
changed_same (x ∷ rows) (suc v) = ap (λ (l : List Row). x ∷ l) (changed_same rows v)

-- where there is no start, nothing is kept
pub kept_none : (o : Option Footing) (v : ℕ) (old new : List Row) → None ≡ o → new ≡ old → IsKept o v old new
kept_none o v old new h e = record { kept = None; footing = h; marked = tt; rows = e ∙ changed_same old v }

get_unput : (n v : ℕ) (row : Row) → slice_get (replicate n unput) v ≡ Some row → row ≡ unput
get_unput zero v row h = cc
get_unput (suc n) zero row h = cc
get_unput (suc n) (suc v) row h = get_unput n v row h

none_told : (s : Sheet) (xs : List (Option Start)) (m : Moment) (marks : List Bool) (n : ℕ) → n ≡ 1025 → AreTold s xs m marks 0 (replicate n unput)
none_told s xs m marks n e =
    record {
      size = length-replicate n unput ∙ e;
      told = λ v row low high here at. absurd (omega (arith, low, high));
      rest = λ v row past at. get_unput n v row at;
    }

pub told_none : (s : Sheet) (xs : List (Option Start)) (m : Moment) (marks : List Bool) (rows : List Row) → rows ≡ no_rows → AreTold s xs m marks 0 rows
unfolding no_rows
told_none s xs m marks rows e = subst (AreTold s xs m marks 0) (sym e) (none_told s xs m marks 1025 refl)

kept_then : (k : Option Numbered) (row : Row) → row.kept ≡ None → Row.kept (keeping k row) ≡ k
kept_then None row e = e
kept_then (Some k) row e = refl

module _ (s : Sheet) (xs : List (Option Start)) (m : Moment) (marks : List Bool) (k : ℕ) (inside : k < 1024) (old mid new : List Row) (told : AreTold s xs m marks k old) (here : marked marks (k + 1) ≡ true)
    (wanted later : Bool) (present : Numbered) (needs : List ℕ)
    (wanted_is : wanted ≡ (not m.disposed && is_used s (k + 1))) (later_is : later ≡ Site.later (site_in m.sites.items (k + 1)))
    (present_is : footing_of present ≡ footing_at s (site_in m.sites.items) (k + 1)) (three : IsMarked present) (needs_are : needs ≡ direct s (k + 1))
    (put : mid ≡ changed (put_row wanted later present needs) (k + 1) old) (kept : IsKept (kept_of (start_in xs (k + 1))) (k + 1) mid new) where
  size_then : length new ≡ length old
  size_then =
      ap (λ (l : List Row). length l) kept.rows ∙ length_changed (keeping kept.kept) (k + 1) mid
      ∙ ap (λ (l : List Row). length l) put ∙ length_changed (put_row wanted later present needs) (k + 1) old

  get_other : (v : ℕ) → k + 1 ≢ v → slice_get new v ≡ slice_get old v
  get_other v other =
      ap (λ (l : List Row). slice_get l v) kept.rows ∙ get_changed_other (keeping kept.kept) mid (k + 1) v other
      ∙ ap (λ (l : List Row). slice_get l v) put ∙ get_changed_other (put_row wanted later present needs) old (k + 1) v other

  abbrev put_there : Row
  put_there = put_row wanted later present needs unput

  old_there : slice_get old (k + 1) ≡ Some unput
  old_there = go (slice_get old (k + 1)) refl
    where
      go : (o : Option Row) → slice_get old (k + 1) ≡ o → slice_get old (k + 1) ≡ Some unput
      go None e = absurd (none_there old (k + 1) (omega (arith, inside, told.size)) e)
      go (Some row) e = e ∙ ap (λ (x : Row). Some x) (told.rest (k + 1) row (inr (inl (omega arith))) e)

  get_itself : slice_get new (k + 1) ≡ Some (keeping kept.kept put_there)
  get_itself =
      ap (λ (l : List Row). slice_get l (k + 1)) kept.rows
      ∙ get_changed_same (keeping kept.kept) mid (k + 1) put_there
      (ap (λ (l : List Row). slice_get l (k + 1)) put ∙ get_changed_same (put_row wanted later present needs) old (k + 1) unput old_there)

  told_there : IsTold s m.disposed (site_in m.sites.items) (kept_of (start_in xs (k + 1))) (k + 1) (keeping kept.kept put_there)
  told_there = go kept.kept kept.footing kept.marked
    where
      go : (o : Option Numbered) → option_map footing_of o ≡ kept_of (start_in xs (k + 1)) → IfSome o IsMarked
          → IsTold s m.disposed (site_in m.sites.items) (kept_of (start_in xs (k + 1))) (k + 1) (keeping o put_there)
      go None f g =
          record { wanted = wanted_is; later = later_is; present = present_is; marked = three; needs = needs_are; kept = f; kept_marked = g }
      go (Some x) f g =
          record { wanted = wanted_is; later = later_is; present = present_is; marked = three; needs = needs_are; kept = f; kept_marked = g }

  pub told_more : AreTold s xs m marks (k + 1) new
  told_more =
      record {
        size = size_then ∙ told.size;
        told = λ v row low high is at.
            elim (cases_eq (k + 1) v) [
              | inl same ↦
                  let there : slice_get new (k + 1) ≡ Some row = ap (slice_get new) same ∙ at in
                  let itself : slice_get new (k + 1) ≡ Some (keeping kept.kept put_there) = get_itself in
                  let e : keeping kept.kept put_there ≡ row = cc in
                  subst (λ (x : ℕ). IsTold s m.disposed (site_in m.sites.items) (kept_of (start_in xs x)) x row) same
                  (subst (IsTold s m.disposed (site_in m.sites.items) (kept_of (start_in xs (k + 1))) (k + 1)) e told_there)
              | inr other ↦ told.told v row low (omega (arith, high, other)) is (sym (get_other v other) ∙ at)
            ];
        rest = λ v row past at.
            elim past [
              | inl e ↦ told.rest v row (inl e) (sym (get_other v (λ x. zero_other x e)) ∙ at)
              | inr later ↦ elim later [
                | inl more ↦ told.rest v row (inr (inl (omega (arith, more)))) (sym (get_other v (λ x. past_other x more)) ∙ at)
                | inr still ↦ told.rest v row (inr (inr still)) (sym (get_other v (λ x. false≢true (sym still ∙ (ap (marked marks) (sym x) ∙ here)))) ∙ at)
              ]
            ];
      }
    where
      zero_other : {v : ℕ} → k + 1 ≡ v → v ≡ 0 → ⊥
      zero_other x e = omega (arith, x, e)

      past_other : {v : ℕ} → k + 1 ≡ v → k + 1 < v → ⊥
      past_other x more = omega (arith, x, more)

-- one that isn't marked isn't told
pub told_skips : (s : Sheet) (xs : List (Option Start)) (m : Moment) (marks : List Bool) (k : ℕ) (rows : List Row) → marked marks (k + 1) ≡ false → AreTold s xs m marks k rows → AreTold s xs m marks (k + 1) rows
told_skips s xs m marks k rows still told =
    record {
      size = told.size;
      told = λ v row low high is at.
          elim (cases_eq (k + 1) v) [
            | inl same ↦ absurd (false≢true (sym still ∙ (ap (marked marks) same ∙ is)))
            | inr other ↦ told.told v row low (omega (arith, high, other)) is at
          ];
      rest = λ v row past at.
          elim past [
            | inl e ↦ told.rest v row (inl e) at
            | inr later ↦ elim later [ inl more ↦ told.rest v row (inr (inl (omega (arith, more)))) at | inr other ↦ told.rest v row (inr (inr other)) at ]
          ];
    }
