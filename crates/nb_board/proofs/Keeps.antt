-- Each step of a board keeps its rule.
use Rattle.std.proofs.Common.{◌≡◌, ◌≢◌, ℕ, zero, suc, ◌+◌, ◌<◌, Bool, true, false, List, [], ◌∷◌, ◌++◌, length, get_or, set, map, sym, refl, ap, ◌∙◌, subst, arith, Some, None, ⊎_elim}
use mathlib.Core.Option.{none, some, some-injective, some-ne-none}
use lib.ListN.{get_elem?}
use lib.Seq.{set-get_or}
use Rattle.atomic_table.specs.Table.{State, Me, step, keeps, stepped, Allows, Splits, opening}
use Rattle.atomic_table.proofs.Lists.{at_set, set_here, set_else, set_again, at_snoc, at_longer}
use Rattle.nb_board.specs.declared.rule.View.{View}
use Rattle.nb_board.specs.Boards.{writer, reader, loaded, IsBoard, Stored, Read}

at_inside : {A : Type 0} (l : List A) (i : ℕ) (a : A) → get_elem? l i ≡ some a → i < length l
at_inside [] i a e = absurd (some-ne-none a (sym e))
at_inside (x ∷ xs) zero a e = omega arith
at_inside (x ∷ xs) (suc i) a e = let h = at_inside xs i a e in omega arith

differ : (v w : View) → v ≡ w → v.writes ≡ true → w.writes ≡ false → ⊥
differ v w same t f = cc (t, f, ap (λ (x : View). x.writes) same)

pub stores : (slots id i new : ℕ) (me : Me ℕ View) → me ≡ (writer me.0.words, []) → Allows IsBoard slots id me i (λ _. new) (λ _. Stored (step slots i new 0 none) me new)
stores slots id i new me is s h _ at _ =
    let is_writer : me.0.writes ≡ true = ap (λ (m : Me ℕ View). m.0.writes) is in
    let here : id ≡ h.seat = h.alone id me.0 at is_writer in
    let same : me.0.words ≡ s.words = ap (λ (v : View). v.words) (some-injective me.0 (writer s.words) (sym at ∙ (ap (λ (j : ℕ). get_elem? s.views j) here ∙ h.writes))) in
    let w : View = writer (set me.0.words i new) in
    let inside : id < length s.views = at_inside s.views id me.0 at in
    let kept : IsBoard (stepped s i new id me.1 w keeps) = record {
      seat = id;
      writes = set_here s.views id w inside ∙ ap (λ (ws : List ℕ). some (writer (set ws i new))) same;
      alone = λ j v got writes. ⊎_elim (λ t. t.0) (λ t. h.alone j v t.1 writes ∙ sym here) (at_set s.views id j w v got);
    } in
    (w, keeps, tt, kept, refl)

pub reads : (slots id i : ℕ) (me : Me ℕ View) → me ≡ (reader me.0.loads me.0.last, []) → Allows IsBoard slots id me i (λ n. n) (Read (step slots i 0 0 none) me)
reads slots id i me is s h _ at _ =
    let n : ℕ = get_or s.words i 0 in
    let is_reader : me.0.writes ≡ false = ap (λ (m : Me ℕ View). m.0.writes) is in
    let w : View = reader (me.0.loads + 1) (Some (loaded i n)) in
    let apart : h.seat ≢ id = λ same. differ (writer s.words) me.0 (some-injective (writer s.words) me.0 (sym h.writes ∙ (ap (λ (j : ℕ). get_elem? s.views j) same ∙ at))) refl is_reader in
    let words : set s.words i n ≡ s.words = set-get_or s.words i 0 in
    let kept : IsBoard (stepped s i n id me.1 w keeps) = record {
      seat = h.seat;
      writes = set_else s.views id h.seat w apart ∙ (h.writes ∙ ap (λ (ws : List ℕ). some (writer ws)) (sym words));
      alone = λ j v got writes. ⊎_elim (λ t. absurd (differ v w (sym t.1) writes refl)) (λ t. h.alone j v t.1 writes) (at_set s.views id j w v got);
    } in
    (w, keeps, tt, kept, refl)

pub splits : (id : ℕ) (v : View) → Splits IsBoard id v v (reader 0 None)
splits id v s h at =
    let same : set s.views id v ≡ s.views = set_again s.views id v at in
    let kept : IsBoard record { words = s.words; homes = s.homes; views = s.views ++ reader 0 None ∷ [] } = record {
      seat = h.seat;
      writes = at_longer s.views (reader 0 None ∷ []) h.seat (writer s.words) h.writes;
      alone = λ j u got writes. ⊎_elim (λ t. h.alone j u t writes) (λ t. absurd (differ u (reader 0 None) (sym t) writes refl)) (at_snoc s.views (reader 0 None) u j got);
    } in
    subst (λ (l : List View). IsBoard record { words = s.words; homes = s.homes; views = l ++ reader 0 None ∷ [] }) (sym same) kept

pub opens : (words : List ℕ) → IsBoard (opening words [] (writer words))
opens words = record {
  seat = 0;
  writes = refl;
  alone = λ j v got writes. only j v got;
}
  where
    only : (j : ℕ) (v : View) → get_elem? (writer words ∷ []) j ≡ some v → j ≡ 0
    only zero v got = refl
    only (suc j) v got = absurd (some-ne-none v (sym got))
