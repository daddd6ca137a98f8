-- Rows that need rows before them are sound, and stay so.
use Rattle.std.proofs.Common.{ℕ, zero, suc, ◌+◌, ◌≡◌, ◌<◌, ◌≤◌, refl, sym, ◌∙◌, ap, subst, true, inl, inr, List, [], ◌∷◌, length, get_or, take, arith, Option, Some, None}
use Rattle.std.specs.Prelude.{slice_get, replicate}
use Rattle.std.proofs.lemmas.Bool.{false≢true, cases_eq}
use Rattle.std.proofs.lemmas.List.{take_more, take_all}
use Rattle.nb_graph.specs.Needs.{has, Needs, at_once, through}
use Rattle.nb_graph.proofs.Lists.{has_push}
use Rattle.nb_wave.specs.declared.footing.Footing.{Footing}
use Rattle.nb_wave.specs.declared.row.Row.{Row}
use Rattle.nb_wave.specs.declared.step.Step.{Step}
use Rattle.nb_wave.specs.declared.step.Step.TheVariants.{Left, Pending}
use Rattle.nb_wave.specs.Rules.{from_option, needs_of, IsSound}
use Rattle.nb_wave.specs.Steps.{changed, ended, begun, stepped, after, Runs}
use Rattle.nb_wave.specs.Wave.{Wave, no_rows, unput}
use Rattle.nb_wave.proofs.Stepped.{get_changed_same, get_changed_other, Mild, mild_ended, mild_begun, needs_stepped, Comes, comes}
use Rattle.nb_wave_tests.specs.Ready.{AllBelow, Ascends, IsReady}

need_below : (rows : List Row) → Ascends rows → (v u : ℕ) → has (needs_of rows v) u ≡ true → u < v
need_below rows a v u h = go (slice_get rows v) refl h
  where
    go : (o : Option Row) → slice_get rows v ≡ o → has (from_option [] (λ (r : Row). r.needs) o) u ≡ true → u < v
    go None e k = absurd (false≢true k)
    go (Some r) e k = (a v r e).1 u k

below : (rows : List Row) → Ascends rows → {v u : ℕ} → Needs (needs_of rows) v u → u < v
below rows a {v} {u} (at_once h) = need_below rows a v u h
below rows a {v} {u} (through {w = w} n h) = omega (arith, below rows a n, need_below rows a w u h)

pub sound_from : (rows : List Row) → Ascends rows → IsSound rows
sound_from rows a =
    record {
      acyclic = λ v r at want mark n. let l : v < v = below rows a n in omega (arith, l);
      starts = λ v r at mark. absurd (mark (a v r at).0);
      renewals = λ v r at mark. absurd (mark (a v r at).0);
    }

-- ---- rows that were never put

get_replicate : (n v : ℕ) (r : Row) → slice_get (replicate n unput) v ≡ Some r → unput ≡ r
get_replicate zero v r h = cc
get_replicate (suc n) zero r h = cc
get_replicate (suc n) (suc v) r h = get_replicate n v r h

ascends_unput : (n : ℕ) → Ascends (replicate n unput)
ascends_unput n v r at =
    let e : unput ≡ r = get_replicate n v r at in (
      ap (λ (x : Row). Footing.mark x.present) (sym e),
      λ u h. absurd (false≢true (ap (λ (x : Row). has x.needs u) e ∙ h)),
    )

pub ready_new : (wave : Wave) → wave.rows ≡ no_rows → wave.marked ≡ no_rows → IsReady wave
unfolding no_rows
ready_new wave e f = record { present = subst Ascends (sym e) (ascends_unput 1025); marked = subst Ascends (sym f) (ascends_unput 1025) }

-- ---- a row that is changed

pub ascends_changed : (f : Row → Row) (v : ℕ) (rows : List Row) → ((r : Row) → slice_get rows v ≡ Some r → (Footing.mark (Row.present (f r)) ≡ 0) × AllBelow (Row.needs (f r)) v)
    → Ascends rows → Ascends (changed f v rows)
ascends_changed f v rows good a w r at =
    elim (cases_eq v w) [
      | inl same ↦ subst (λ (x : ℕ). (Footing.mark r.present ≡ 0) × AllBelow r.needs x) same (own (slice_get rows v) refl (ap (slice_get (changed f v rows)) same ∙ at))
      | inr other ↦ a w r (sym (get_changed_other f rows v w other) ∙ at)
    ]
  where
    own : (o : Option Row) → slice_get rows v ≡ o → slice_get (changed f v rows) v ≡ Some r → (Footing.mark r.present ≡ 0) × AllBelow r.needs v
    own (Some x) e k =
        let there : slice_get (changed f v rows) v ≡ Some (f x) = get_changed_same f rows v x e in
        let eq : f x ≡ r = cc in
        subst (λ (y : Row). (Footing.mark y.present ≡ 0) × AllBelow y.needs v) eq (good x e)
    own None e k = absurd (none f v rows r e k)
      where
        none : (f : Row → Row) (v : ℕ) (rows : List Row) (r : Row) → slice_get rows v ≡ None → slice_get (changed f v rows) v ≡ Some r → ⊥
        none f v [] r e k = cc
        none f zero (x ∷ rows) r e k = cc
        none f (suc v) (x ∷ rows) r e k = none f v rows r e k

-- ---- steps

ascends_stepped : (f : Row → Row) → Mild f → (v n : ℕ) (rows : List Row) → Ascends rows → Ascends (stepped f v n rows)
ascends_stepped f mild v n rows a w r at =
    let c : Comes f mild v n rows w r = comes f mild v n rows w r at in
    let t : (Footing.mark (Row.present c.old) ≡ 0) × AllBelow (Row.needs c.old) w = a w c.old c.at in
    let needs : r.needs ≡ Row.needs c.old =
    ap (from_option [] (λ (x : Row). x.needs)) (sym at) ∙ needs_stepped f mild v n rows w ∙ ap (from_option [] (λ (x : Row). x.needs)) c.at in (
      ap (λ (p : Footing). p.mark) c.present ∙ t.0,
      λ u h. t.1 u (ap (λ (l : List ℕ). has l u) (sym needs) ∙ h),
    )

pub ascends_runs : (rows : List Row) (place : ℕ) (steps : List Step) (new : List Row) → Runs rows place steps new → Ascends rows → Ascends new
ascends_runs rows place [] new h a = subst Ascends h a
ascends_runs rows place (Left v ∷ steps) new h a = ascends_runs (after rows place (Left v)) (place + 1) steps new h.1 (ascends_stepped ended mild_ended v 0 rows a)
ascends_runs rows place (Pending v ∷ steps) new h a = ascends_runs (after rows place (Pending v)) (place + 1) steps new h.1 (ascends_stepped begun mild_begun v place rows a)

-- ---- a test of each of a list's numbers, one more

pub each_more : (P : ℕ → Type 0) (us : List ℕ) (i : ℕ) → i < length us → P (get_or us i 0) → ((u : ℕ) → has (take i us) u ≡ true → P u) → (u : ℕ) → has (take (i + 1) us) u ≡ true → P u
each_more P us i inside here before u h =
    elim (has_push (take i us) (get_or us i 0) u (ap (λ (l : List ℕ). has l u) (sym (take_more us i 0 inside)) ∙ h)) [
      | inl front ↦ before u front
      | inr same ↦ subst P same here
    ]

pub each_all : (P : ℕ → Type 0) (us : List ℕ) (i : ℕ) → length us ≤ i → ((u : ℕ) → has (take i us) u ≡ true → P u) → (u : ℕ) → has us u ≡ true → P u
each_all P us i past before u h = before u (ap (λ (l : List ℕ). has l u) (take_all i us past) ∙ h)
