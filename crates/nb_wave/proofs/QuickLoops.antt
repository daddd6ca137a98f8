-- The loops of the quick way to start.
use Rattle.std.proofs.Common.{ℕ, ◌+◌, ◌≡◌, ◌<◌, ◌≤◌, refl, sym, ◌∙◌, ap, subst, Bool, true, false, not, ◌&&◌, inl, inr, List, length, get_or, set, take, arith, Option, Some, None}
use Rattle.std.specs.Prelude.{slice_get}
use Rattle.std.specs.List.{list_any}
use Rattle.std.proofs.lemmas.Bool.{cases_eq}
use Rattle.std.proofs.lemmas.List.{take_more, take_all}
use Rattle.std.proofs.lemmas.Option.{slice_get_within, slice_get_read}
use Rattle.nb_graph.specs.Needs.{has}
use Rattle.nb_graph.proofs.Lists.{has_push}
use Rattle.nb_wave.specs.declared.row.Row.{Row}
use Rattle.nb_wave.specs.Rules.{is_wanted, needs_of, pulls_on, rests_on, due, may_start, leaving, least, IsSound}
use Rattle.nb_wave.specs.Steps.{begun, stepped}
use Rattle.nb_wave.specs.Marks.{marked, AreMarks}
use Rattle.nb_wave.specs.QuickRows.{IsQuick, AreQuick, starts_next}
use Rattle.nb_wave.specs.Wave.{IsRows}
use Rattle.nb_wave.proofs.Places.{passes_read, needs_read}
use Rattle.nb_wave.proofs.Calm.{passes_row}
use Rattle.nb_wave.proofs.Runs.{IsLeast, least_some}
use Rattle.nb_wave.proofs.QuickStarts.{next_is, may_is_next, quick_begun}

-- ---- a test of each of a list's numbers

pub each_more : (P : ℕ → Type 0) (us : List ℕ) (i : ℕ) → i < length us → P (get_or us i 0) → ((u : ℕ) → has (take i us) u ≡ true → P u) → (u : ℕ) → has (take (i + 1) us) u ≡ true → P u
each_more P us i inside here before u h =
    elim (has_push (take i us) (get_or us i 0) u (ap (λ (l : List ℕ). has l u) (sym (take_more us i 0 inside)) ∙ h)) [
      | inl front ↦ before u front
      | inr same ↦ subst P same here
    ]

pub each_all : (P : ℕ → Type 0) (us : List ℕ) (i : ℕ) → length us ≤ i → ((u : ℕ) → has (take i us) u ≡ true → P u) → (u : ℕ) → has us u ≡ true → P u
each_all P us i past before u h = before u (ap (λ (l : List ℕ). has l u) (take_all i us past) ∙ h)

-- ---- a test of each row

-- of the first i
abbrev pub AreQuickBelow : List Row → List Bool → ℕ → ℕ → Type 0
AreQuickBelow rows marks place i = (v : ℕ) (r : Row) → v < i → slice_get rows v ≡ Some r → r.wanted ≡ true → marked marks v ≡ true → IsQuick rows marks place r

pub quick_more : (rows : List Row) (marks : List Bool) (place i : ℕ) (x : Row) → i < length rows → x ≡ get_or rows i x → (x.wanted ≡ true → marked marks i ≡ true → IsQuick rows marks place x)
    → AreQuickBelow rows marks place i → AreQuickBelow rows marks place (i + 1)
quick_more rows marks place i x inside read here before v r less at want mark =
    elim (cases_eq v i) [
      | inl same ↦
          let there : slice_get rows i ≡ Some x = slice_get_read rows (length rows) i x refl inside read in
          let found : slice_get rows i ≡ Some r = ap (slice_get rows) (sym same) ∙ at in
          let e : x ≡ r = cc in
          subst (IsQuick rows marks place) e (here (ap (λ (y : Row). y.wanted) e ∙ want) (ap (marked marks) (sym same) ∙ mark))
      | inr other ↦ before v r (omega (arith, other)) at want mark
    ]

pub quick_all : (rows : List Row) (marks : List Bool) (place i : ℕ) → length rows ≤ i → pulls_on rows ≡ false → length marks ≡ length rows → AreMarks rows (rests_on (due rows) rows) marks
    → AreQuickBelow rows marks place i → AreQuick rows marks place
quick_all rows marks place i past still size near below =
    record {
      still = still;
      size = size;
      near = λ v want.
          let p : (r : Row) × (slice_get rows v ≡ Some r) × (is_wanted r ≡ true) = passes_row is_wanted rows v want in
          near v (slice_get_within rows v p.0 p.1);
      each = λ v r at want mark. below v r (omega (arith, slice_get_within rows v r at, past)) at want mark;
    }

-- ---- the next one

pub next_read : (marks : List Bool) (rows : List Row) (v : ℕ) (x : Row) → v < length rows → x ≡ get_or rows v x
    → (x.wanted && marked marks v && not (list_any (marked marks) x.needs)) ≡ starts_next marks rows v
next_read marks rows v x inside read =
    sym (ap (λ (b : Bool). b && marked marks v && not (list_any (marked marks) (needs_of rows v))) (passes_read is_wanted rows v x inside read)
    ∙ ap (λ (l : List ℕ). x.wanted && marked marks v && not (list_any (marked marks) l)) (needs_read rows v x inside read))

-- what was found among rows and marks that were lent
pub found_next : (l rows : List Row) (n marks : List Bool) (place : ℕ) (o p : Option ℕ) → IsRows rows → IsSound rows → AreQuick rows marks place → o ≡ least (starts_next n) l → l ≡ rows → n ≡ marks → o ≡ p
    → least may_start rows ≡ p
found_next l rows n marks place o p is sound q h e f g =
    sym (next_is rows marks place is sound q)
    ∙ ap (λ (m : List Bool). least (starts_next m) rows) (sym f)
    ∙ ap (least (starts_next n)) (sym e) ∙ sym h ∙ g

pub quick_started : (rows new : List Row) (marks left : List Bool) (place v : ℕ) → IsRows rows → IsSound rows → AreQuick rows marks place → least leaving rows ≡ None → least may_start rows ≡ Some v
    → new ≡ stepped begun v place rows → left ≡ set marks v false → AreQuick new left (place + 1)
quick_started rows new marks left place v is sound q none h e f =
    subst (λ (l : List Row). AreQuick l left (place + 1)) (sym e)
    (subst (λ (m : List Bool). AreQuick (stepped begun v place rows) m (place + 1)) (sym f)
    (quick_begun rows marks place is sound q none v (may_is_next rows marks place is sound q v (IsLeast.here (least_some may_start rows v h)))))
