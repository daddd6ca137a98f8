-- The loops that change numbers and rows.
use Rattle.std.proofs.Common.{ℕ, zero, suc, ◌+◌, ◌≡◌, ◌≢◌, ◌<◌, ◌≤◌, refl, sym, ◌∙◌, ap, subst, Bool, true, false, cond, ◌&&◌, ltb, eqb, inl, inr, List, [], ◌∷◌, ◌++◌, length, get_or, set, take, map, arith, Some}
use Rattle.std.specs.Prelude.{slice_get}
use Rattle.std.proofs.lemmas.Bool.{false≢true, cases_lt, cases_Bool, lt-ltb, le-ltb}
use Rattle.std.proofs.lemmas.List.{take_all, take_more}
use Rattle.nb_graph.specs.Needs.{has}
use Rattle.nb_graph.proofs.Lists.{has_push}
use Rattle.nb_wave.specs.declared.footing.Footing.{Footing}
use Rattle.nb_wave.specs.declared.row.Row.{Row}
use Rattle.nb_wave.specs.Rules.{from_option, needs_of}
use Rattle.nb_wave.specs.Users.{AreUsers}
use Rattle.nb_wave.specs.Steps.{renumbered, rested, changed, stepped, is_at}
use Rattle.nb_wave.proofs.Rows.{set_changed}
use Rattle.nb_wave.proofs.Stepped.{resting_other, length_changed, kept_changed}

pub length_renumbered : (v n : ℕ) (us xs : List ℕ) → length (renumbered v n us xs) ≡ length xs
length_renumbered v n [] xs = refl
length_renumbered v n (u ∷ us) [] = refl
length_renumbered v n (u ∷ us) (x ∷ xs) = ap suc (length_renumbered v n us xs)

lt_suc : (a b : ℕ) → ltb (suc a) (suc b) ≡ ltb a b
lt_suc a b =
    elim (cases_lt a b) [
      | inl less ↦ lt-ltb (suc a) (suc b) (omega (arith, less)) ∙ sym (lt-ltb a b less)
      | inr past ↦ le-ltb (suc a) (suc b) (omega (arith, past)) ∙ sym (le-ltb a b past)
    ]

pub renumbered_at : (v n : ℕ) (us xs : List ℕ) (i : ℕ) → i < length xs → get_or (renumbered v n us xs) i 0 ≡ cond (is_at us v i) n (get_or xs i 0)
renumbered_at v n [] xs i h = ap (λ (b : Bool). cond (b && eqb 0 v) n (get_or xs i 0)) (sym (le-ltb i 0 (omega arith)))
renumbered_at v n (u ∷ us) [] i h = absurd (omega (arith, h))
renumbered_at v n (u ∷ us) (x ∷ xs) zero h = ap (λ (b : Bool). cond (b && eqb u v) n x) (sym (lt-ltb 0 (suc (length us)) (omega arith)))
renumbered_at v n (u ∷ us) (x ∷ xs) (suc i) h =
    renumbered_at v n us xs i (omega (arith, h)) ∙ ap (λ (b : Bool). cond (b && eqb (get_or us i 0) v) n (get_or xs i 0)) (sym (lt_suc i (length us)))

pub renumbered_more : (v n : ℕ) (us xs new : List ℕ) (i y : ℕ) → i < length xs → y ≡ cond (is_at us v i) n (get_or xs i 0) → new ≡ take i (renumbered v n us xs)
    → new ++ y ∷ [] ≡ take (i + 1) (renumbered v n us xs)
renumbered_more v n us xs new i y h e f =
    let z : y ≡ get_or (renumbered v n us xs) i 0 = e ∙ sym (renumbered_at v n us xs i h) in
    ap (λ (l : List ℕ). l ++ y ∷ []) f ∙ ap (λ (x : ℕ). take i (renumbered v n us xs) ++ x ∷ []) z
    ∙ sym (take_more (renumbered v n us xs) i 0 (omega (arith, h, length_renumbered v n us xs)))

pub renumbered_end : (v n : ℕ) (us xs new : List ℕ) (i : ℕ) → length xs ≤ i → new ≡ take i (renumbered v n us xs) → new ≡ renumbered v n us xs
renumbered_end v n us xs new i h f = f ∙ take_all i (renumbered v n us xs) (omega (arith, h, length_renumbered v n us xs))

-- ---- rows

rested_other : (v n : ℕ) (r : Row) → has r.needs v ≡ false → rested v n r ≡ r
rested_other v n r h = ap (λ (p : Footing). record r { present = p }) (resting_other v n r h)

-- numbers that are set twice are as if they were set once
renumbered_twice : (v n : ℕ) (us xs : List ℕ) → renumbered v n us (renumbered v n us xs) ≡ renumbered v n us xs
renumbered_twice v n [] xs = refl
renumbered_twice v n (u ∷ us) [] = refl
renumbered_twice v n (u ∷ us) (x ∷ xs) =
    let t : renumbered v n us (renumbered v n us xs) ≡ renumbered v n us xs = renumbered_twice v n us xs in
    elim (cases_Bool (eqb u v)) [
      | inl same ↦ rw same (ap (λ (l : List ℕ). n ∷ l) t)
      | inr other ↦ rw other (ap (λ (l : List ℕ). x ∷ l) t)
    ]

rested_twice : (v n : ℕ) (r : Row) → rested v n (rested v n r) ≡ rested v n r
rested_twice v n r =
    let p = r.present in
    ap (λ (x : List ℕ). record r { present = record { place = p.place; mark = p.mark; inputs = p.inputs; starts = x; renewals = renumbered v n r.needs (renumbered v n r.needs p.renewals) } })
    (renumbered_twice v n r.needs p.starts)
    ∙ ap (λ (x : List ℕ). record r { present = record { place = p.place; mark = p.mark; inputs = p.inputs; starts = renumbered v n r.needs p.starts; renewals = x } })
    (renumbered_twice v n r.needs p.renewals)

map_changed : (f : Row → Row) → ((r : Row) → f (f r) ≡ f r) → (u : ℕ) (rows : List Row) → map f (changed f u rows) ≡ map f rows
map_changed f twice u [] = refl
map_changed f twice zero (r ∷ rows) = ap (λ (x : Row). x ∷ map f rows) (twice r)
map_changed f twice (suc u) (r ∷ rows) = ap (λ (l : List Row). f r ∷ l) (map_changed f twice u rows)

map_fixed : (f : Row → Row) (rows : List Row) → ((w : ℕ) (r : Row) → slice_get rows w ≡ Some r → f r ≡ r) → map f rows ≡ rows
map_fixed f [] h = refl
map_fixed f (r ∷ rows) h =
    ap (λ (x : Row). x ∷ map f rows) (h 0 r refl) ∙ ap (λ (l : List Row). r ∷ l) (map_fixed f rows (λ w x e. h (suc w) x e))

pub needs_changed : (f : Row → Row) → ((r : Row) → Row.needs (f r) ≡ r.needs) → (v : ℕ) (rows : List Row) (w : ℕ) → needs_of (changed f v rows) w ≡ needs_of rows w
needs_changed f same v rows w = kept_changed [] (λ (r : Row). r.needs) f same v rows w

-- the first i of the users of v rest on n
pub record AreResting (v n : ℕ) (users : List ℕ) (rows : List Row) (i : ℕ) (new : List Row) : Type 0 where
  pub size : length new ≡ length rows
  pub needs : (w : ℕ) → needs_of new w ≡ needs_of rows w
  pub same : map (rested v n) new ≡ map (rested v n) rows
  pub done : (w : ℕ) (r : Row) → has (take i users) w ≡ true → slice_get new w ≡ Some r → rested v n r ≡ r

pub resting_begins : (v n : ℕ) (users : List ℕ) (rows : List Row) → AreResting v n users rows 0 rows
resting_begins v n users rows = record { size = refl; needs = λ w. refl; same = refl; done = λ w r h. absurd (false≢true h) }

done_changed : (f : Row → Row) → ((r : Row) → f (f r) ≡ f r) → (u : ℕ) (rows : List Row) (w : ℕ) (r : Row) → (u ≢ w → slice_get rows w ≡ Some r → f r ≡ r) → slice_get (changed f u rows) w ≡ Some r → f r ≡ r
done_changed f twice u [] w r h at = h (λ e. none_there at) at
  where
    none_there : slice_get [] w ≡ Some r → ⊥
    none_there e = cc
done_changed f twice zero (x ∷ rows) zero r h at = let e : f x ≡ r = cc in ap f (sym e) ∙ twice x ∙ e
done_changed f twice zero (x ∷ rows) (suc w) r h at = h (λ e. zero≢suc e) at
  where
    zero≢suc : 0 ≡ suc w → ⊥
    zero≢suc e = omega (arith, e)
done_changed f twice (suc u) (x ∷ rows) zero r h at = h (λ e. suc≢zero e) at
  where
    suc≢zero : suc u ≡ 0 → ⊥
    suc≢zero e = omega (arith, e)
done_changed f twice (suc u) (x ∷ rows) (suc w) r h at = done_changed f twice u rows w r (λ other k. h (λ e. let same : u ≡ w = omega (arith, e) in other same) k) at

earlier : (users : List ℕ) (i w : ℕ) → i < length users → get_or users i 0 ≢ w → has (take (i + 1) users) w ≡ true → has (take i users) w ≡ true
earlier users i w inside other h =
    elim (has_push (take i users) (get_or users i 0) w (ap (λ (l : List ℕ). has l w) (sym (take_more users i 0 inside)) ∙ h)) [
      | inl front ↦ front
      | inr same ↦ absurd (other same)
    ]

pub resting_more : (v n : ℕ) (users : List ℕ) (rows new next : List Row) (i : ℕ) → i < length users → next ≡ changed (rested v n) (get_or users i 0) new
    → AreResting v n users rows i new → AreResting v n users rows (i + 1) next
resting_more v n users rows new next i inside e a =
    subst (AreResting v n users rows (i + 1)) (sym e)
    (record {
      size = length_changed (rested v n) (get_or users i 0) new ∙ a.size;
      needs = λ w. needs_changed (rested v n) (λ r. refl) (get_or users i 0) new w ∙ a.needs w;
      same = map_changed (rested v n) (rested_twice v n) (get_or users i 0) new ∙ a.same;
      done = λ w r h at. done_changed (rested v n) (rested_twice v n) (get_or users i 0) new w r (λ other k. a.done w r (earlier users i w inside other h) k) at;
    })

pub resting_all : (v n : ℕ) (users : List ℕ) (rows new : List Row) (i : ℕ) → AreUsers rows v users → length users ≤ i → AreResting v n users rows i new → new ≡ map (rested v n) rows
resting_all v n users rows new i are past a =
    sym (map_fixed (rested v n) new (λ w r at.
    let own : needs_of new w ≡ r.needs = ap (from_option [] (λ (x : Row). x.needs)) at in
    elim (cases_Bool (has r.needs v)) [
      | inl user ↦
          let h : has users w ≡ true = are.each w (ap (λ (l : List ℕ). has l v) (sym (a.needs w) ∙ own) ∙ user) in
          a.done w r (ap (λ (l : List ℕ). has l w) (take_all i users past) ∙ h) at
      | inr other ↦ rested_other v n r other
    ]))
    ∙ a.same

-- what needs v is the same where a row was replaced by one that needs the same
pub users_replaced : (f : Row → Row) → ((r : Row) → Row.needs (f r) ≡ r.needs) → (v : ℕ) (rows mid : List Row) (users : List ℕ) (x r : Row) → v < length rows → x ≡ get_or rows v x → r ≡ f x → mid ≡ set rows v r
    → AreUsers rows v users → AreUsers mid v users
users_replaced f same v rows mid users x r inside read e g are =
    let h : mid ≡ changed f v rows = g ∙ set_changed f rows v x r inside read e in
    let needs : (w : ℕ) → needs_of mid w ≡ needs_of rows w = λ w. ap (λ (l : List Row). needs_of l w) h ∙ needs_changed f same v rows w in
    record {
      each = λ w k. are.each w (ap (λ (l : List ℕ). has l v) (sym (needs w)) ∙ k);
      only = λ w k. ap (λ (l : List ℕ). has l v) (needs w) ∙ are.only w k;
    }

pub stepped_is : (f : Row → Row) (v n : ℕ) (rows mid new : List Row) (x r : Row) → v < length rows → x ≡ get_or rows v x → r ≡ f x → mid ≡ set rows v r → new ≡ map (rested v n) mid
    → new ≡ stepped f v n rows
stepped_is f v n rows mid new x r inside read e g h = h ∙ ap (map (rested v n)) (g ∙ set_changed f rows v x r inside read e)
