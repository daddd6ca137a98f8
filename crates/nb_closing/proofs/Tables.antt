-- Tables of what each variable's names tie it to, and the graph that is made of them.
use Rattle.std.proofs.Common.{inl, inr, ℕ, zero, suc, ◌≡◌, ◌+◌, ◌-◌, ◌<◌, ◌≤◌, refl, sym, ◌∙◌, ap, false, List, [], ◌∷◌, ◌++◌, map, length, take, drop, get_or, set, replicate, append-nil, arith, Option, Some, None}
use Rattle.std.specs.Prelude.{slice_get}
use Rattle.std.specs.List.{range_with_len}
use Rattle.std.proofs.lemmas.List.{length-append, length-map, length-replicate, length-take-le, take_more, take_all, drop_all}
use Rattle.std.proofs.lemmas.List.FromFn.{length-map-range_with_len, map-range_with_len_more}
use Rattle.std.proofs.lemmas.Option.{same_Some, none-some, slice_get-get_or}
use Rattle.std.proofs.lemmas.Bool.{cases_lt}
use Rattle.std.proofs.Math.Seq.{drop-cons}
use Rattle.nb_graph.specs.Needs.{has}
use Rattle.nb_graph.specs.Graph.{with_needs}
use Rattle.nb_sheet.specs.Lists.{numbers, from_option}
use Rattle.nb_sheet.specs.Sheet.{Sheet}
use Rattle.nb_sheet.specs.declared.row.VarRow.{VarRow}
use Rattle.nb_resolve.specs.Names.{inputs_of_row, is_duplicate_row}
use Rattle.nb_history.proofs.Direct.{direct_within}
use Rattle.nb_history.proofs.Closing.{range_has}
use Rattle.nb_closing.specs.Ties.{Ties}
use Rattle.nb_closing.specs.Tables.{by_inputs, row_ties, unmarked_ties, all_unmarked, graph_by, graph_of, IsWithin}

-- ---- tables of all variables

-- a table by a function of the number
pub table_push : {A : Type 0} (f : ℕ → A) (k : ℕ) (table : List A) (x : A) → table ≡ map f (range_with_len 1 k) → x ≡ f (k + 1) → table ++ x ∷ [] ≡ map f (range_with_len 1 (k + 1))
table_push f k table x inv e =
    ap (λ l. l ++ x ∷ []) inv ∙ ap (λ y. map f (range_with_len 1 k) ++ y ∷ []) e ∙ sym (map-range_with_len_more f 1 k (k + 1) (omega arith))

pub slice_map : {A : Type 0} (f : ℕ → A) (k n i : ℕ) → i < n → slice_get (map f (range_with_len k n)) i ≡ Some (f (k + i))
slice_map f k zero i h = absurd (omega (arith, h))
slice_map f k (suc n) zero h = let e : k ≡ k + 0 = omega arith in ap (λ (m : ℕ). Some (f m)) e
slice_map f k (suc n) (suc i) h =
    let e : k + 1 + i ≡ k + suc i = omega arith in
    slice_map f (k + 1) n i (omega (arith, h)) ∙ ap (λ (m : ℕ). Some (f m)) e

pub slice_outside : {A : Type 0} (xs : List A) (i : ℕ) → length xs ≤ i → slice_get xs i ≡ None
slice_outside [] i h = refl
slice_outside (x ∷ xs) zero h = absurd (omega (arith, h))
slice_outside (x ∷ xs) (suc i) h = slice_outside xs i (omega (arith, h))

-- the row at a place has the ties of its variable
pub row_at : (s : Sheet) (i : ℕ) (row : VarRow) → i < length s.rows → row ≡ get_or s.rows i row → row_ties s row ≡ unmarked_ties s (i + 1)
row_at s i row inside at =
    let e : suc i ≡ i + 1 = omega arith in
    let read : slice_get s.rows i ≡ Some row = slice_get-get_or s.rows i row inside ∙ ap (λ (r : VarRow). Some r) (sym at) in
    ap (λ (o : Option VarRow). by_inputs (from_option [] (inputs_of_row s) o) (from_option false (is_duplicate_row s) o)) (sym read) ∙ ap (unmarked_ties s) e

pub length_unmarked : (s : Sheet) (ties : List Ties) → ties ≡ all_unmarked s → length ties ≡ length s.rows
length_unmarked s ties e = ap (λ (l : List Ties). length l) e ∙ length-map-range_with_len (unmarked_ties s) 1 (length s.rows)

-- the variables that they name are variables of the sheet
pub ties_within : (s : Sheet) (ties : List Ties) → ties ≡ all_unmarked s → IsWithin ties
ties_within s ties e i t at u h =
    elim (cases_lt i (length s.rows)) [
      | inl inside ↦
          let same : unmarked_ties s (1 + i) ≡ t =
          same_Some (unmarked_ties s (1 + i)) t (sym (slice_map (unmarked_ties s) 1 (length s.rows) i inside) ∙ (ap (λ (l : List Ties). slice_get l i) (sym e) ∙ at)) in
          let r : (1 ≤ u) × (u < 1 + length s.rows) = range_has 1 (length s.rows) u (direct_within s (1 + i) u (ap (λ (w : Ties). has w.direct u) same ∙ h)) in
          omega (arith, r.1, length_unmarked s ties e)
      | inr outside ↦ absurd (none-some t (sym (slice_outside ties i (omega (arith, length_unmarked s ties e, outside))) ∙ at))
    ]

-- ---- the graph, as it is made

-- the graph where the first k have their needs
abbrev pub graph_so_far : List Ties → ℕ → List (List ℕ)
graph_so_far ties k = [] ∷ map (λ (t : Ties). t.direct) (take k ties) ++ replicate (length ties - k) []

pub graph_begins : (ties : List Ties) (n : ℕ) → n ≡ length ties + 1 → replicate n [] ≡ graph_so_far ties 0
graph_begins ties n e =
    let one : length ties + 1 ≡ suc (length ties) = omega arith in
    let all_left : length ties ≡ length ties - 0 = omega arith in
    ap (λ (m : ℕ). replicate m []) (e ∙ one) ∙ ap (λ (m : ℕ). [] ∷ replicate m []) all_left

pub length_so_far : (ties : List Ties) (k : ℕ) → k ≤ length ties → length (graph_so_far ties k) ≡ length ties + 1
length_so_far ties k inside =
    let f : Ties → List ℕ = λ t. t.direct in
    let nones : List (List ℕ) = replicate (length ties - k) [] in
    omega (arith, length-append (map f (take k ties)) nones, length-map (take k ties) f, length-take-le k ties inside, length-replicate {A = List ℕ} (length ties - k) [])

set_at_end : (xs ys : List (List ℕ)) (old new : List ℕ) → with_needs (xs ++ old ∷ ys) (length xs) new ≡ xs ++ new ∷ ys
set_at_end [] ys old new = refl
set_at_end (x ∷ xs) ys old new = ap (λ (l : List (List ℕ)). x ∷ l) (set_at_end xs ys old new)

pub map_push : {A B : Type 0} (f : A → B) (xs : List A) (x : A) → map f (xs ++ x ∷ []) ≡ map f xs ++ f x ∷ []
map_push f [] x = refl
map_push f (y ∷ xs) x = ap (λ l. f y ∷ l) (map_push f xs x)

append_one : {A : Type 0} (xs ys : List A) (y : A) → (xs ++ y ∷ []) ++ ys ≡ xs ++ y ∷ ys
append_one [] ys y = refl
append_one (x ∷ xs) ys y = ap (λ l. x ∷ l) (append_one xs ys y)

pub graph_goes_on : (ties : List Ties) (i : ℕ) (t : Ties) → i < length ties → t ≡ get_or ties i t
    → with_needs (graph_so_far ties i) (i + 1) t.direct ≡ graph_so_far ties (i + 1)
graph_goes_on ties i t inside at =
    let f : Ties → List ℕ = λ w. w.direct in
    let xs : List (List ℕ) = [] ∷ map f (take i ties) in
    let rest : List (List ℕ) = replicate (length ties - (i + 1)) [] in
    let one : length ties - i ≡ suc (length ties - (i + 1)) = omega (arith, inside) in
    let took : length (take i ties) ≡ i = length-take-le i ties (omega (arith, inside)) in
    let len : i + 1 ≡ length xs = omega (arith, length-map (take i ties) f, took) in
    let found : f (get_or ties i t) ≡ f t = ap f (sym at) in
    ap (λ (m : ℕ). with_needs (xs ++ replicate m []) (i + 1) (f t)) one
    ∙ ap (λ (m : ℕ). with_needs (xs ++ [] ∷ rest) m (f t)) len
    ∙ set_at_end xs rest [] (f t)
    ∙ ap (λ (ns : List ℕ). xs ++ ns ∷ rest) (sym found)
    ∙ ap (λ (l : List (List ℕ)). [] ∷ l) (sym (append_one (map f (take i ties)) rest (f (get_or ties i t))))
    ∙ ap (λ (l : List (List ℕ)). [] ∷ l ++ rest) (sym (map_push f (take i ties) (get_or ties i t)))
    ∙ ap (λ (l : List Ties). [] ∷ map f l ++ rest) (sym (take_more ties i t inside))

-- the whole graph
pub graph_ends : (ties : List Ties) (k : ℕ) → k ≡ length ties → graph_so_far ties k ≡ graph_by ties
graph_ends ties k e =
    let f : Ties → List ℕ = λ t. t.direct in
    let none : length ties - k ≡ 0 = omega arith in
    ap (λ (n : ℕ). [] ∷ map f (take k ties) ++ replicate n []) none
    ∙ ap (λ (l : List (List ℕ)). [] ∷ l) (append-nil (map f (take k ties)))
    ∙ ap (λ (l : List Ties). [] ∷ map f l) (take_all k ties (omega arith))

map_map : {A B : Type 0} (f : ℕ → A) (g : A → B) (xs : List ℕ) → map g (map f xs) ≡ map (λ n. g (f n)) xs
map_map f g [] = refl
map_map f g (x ∷ xs) = ap (λ l. g (f x) ∷ l) (map_map f g xs)

pub graph_of_ties : (s : Sheet) (ties : List Ties) → ties ≡ all_unmarked s → graph_by ties ≡ graph_of s
graph_of_ties s ties e = ap graph_by e ∙ ap (λ (l : List (List ℕ)). [] ∷ l) (map_map (unmarked_ties s) (λ (t : Ties). t.direct) (numbers s.rows))

-- ---- the marks, as they are set

set_at : {A : Type 0} (xs ys : List A) (old new : A) → set (xs ++ old ∷ ys) (length xs) new ≡ xs ++ new ∷ ys
set_at [] ys old new = refl
set_at (x ∷ xs) ys old new = ap (λ l. x ∷ l) (set_at xs ys old new)

get_at : {A : Type 0} (xs ys : List A) (x d : A) → get_or (xs ++ x ∷ ys) (length xs) d ≡ x
get_at [] ys x d = refl
get_at (y ∷ xs) ys x d = get_at xs ys x d

-- the first k ties are as f says, and the others as at first
abbrev pub partly : (ℕ → Ties) → ℕ → List Ties → List Ties
partly f k first = map f (range_with_len 1 k) ++ drop k first

pub partly_at : (f : ℕ → Ties) (k : ℕ) (first : List Ties) (d : Ties) → k < length first → get_or (partly f k first) k d ≡ get_or first k d
partly_at f k first d inside =
    let len : length (map f (range_with_len 1 k)) ≡ k = length-map-range_with_len f 1 k in
    ap (λ (l : List Ties). get_or (map f (range_with_len 1 k) ++ l) k d) (drop-cons first k d inside)
    ∙ ap (λ (m : ℕ). get_or (map f (range_with_len 1 k) ++ get_or first k d ∷ drop (suc k) first) m d) (sym len)
    ∙ get_at (map f (range_with_len 1 k)) (drop (suc k) first) (get_or first k d) d

pub partly_more : (f : ℕ → Ties) (k : ℕ) (first : List Ties) (t : Ties) → k < length first → t ≡ f (k + 1) → set (partly f k first) k t ≡ partly f (k + 1) first
partly_more f k first t inside e =
    let len : length (map f (range_with_len 1 k)) ≡ k = length-map-range_with_len f 1 k in
    let one : suc k ≡ k + 1 = omega arith in
    ap (λ (l : List Ties). set (map f (range_with_len 1 k) ++ l) k t) (drop-cons first k t inside)
    ∙ ap (λ (m : ℕ). set (map f (range_with_len 1 k) ++ get_or first k t ∷ drop (suc k) first) m t) (sym len)
    ∙ set_at (map f (range_with_len 1 k)) (drop (suc k) first) (get_or first k t) t
    ∙ sym (append_one (map f (range_with_len 1 k)) (drop (suc k) first) t)
    ∙ ap (λ (l : List Ties). l ++ drop (suc k) first) (table_push f k (map f (range_with_len 1 k)) t refl e)
    ∙ ap (λ (m : ℕ). map f (range_with_len 1 (k + 1)) ++ drop m first) one

pub partly_ends : (f : ℕ → Ties) (k : ℕ) (first : List Ties) → k ≡ length first → partly f k first ≡ map f (range_with_len 1 (length first))
partly_ends f k first e =
    ap (λ (l : List Ties). map f (range_with_len 1 k) ++ l) (drop_all k first (omega arith))
    ∙ append-nil (map f (range_with_len 1 k))
    ∙ ap (λ (n : ℕ). map f (range_with_len 1 n)) e
