-- What the marks of a graph of who needs whom tell of a sheet's variables.
use Rattle.std.proofs.Common.{inl, inr, ℕ, zero, suc, ◌≡◌, ◌+◌, ◌<◌, ◌≤◌, cond, ◌++◌, append-nil, take, refl, sym, ◌∙◌, ap, subst, Bool, true, false, ◌&&◌, ◌||◌, List, [], ◌∷◌, map, length, get_or, arith, Option, Some, None, is_some}
use Rattle.std.specs.Prelude.{slice_get}
use Rattle.std.specs.List.{list_any, filter_map}
use Rattle.std.proofs.lemmas.List.{length-take-le, take_more}
use Rattle.std.proofs.lemmas.List.FromFn.{length-map-range_with_len}
use Rattle.std.proofs.lemmas.Option.{same_Some, slice_get-get_or}
use Rattle.std.proofs.lemmas.Bool.{cases_lt, cases_Bool, false≢true, and_parts, and_from, or_cases, or_left, or_right, false_from_ne_true}
use Rattle.nb_graph.specs.Needs.{has, Needs}
use Rattle.nb_graph.specs.Graph.{or_nothing, needs_of, needs_itself, IsReached, IsMarks}
use Rattle.nb_graph.proofs.Reaches.{has_any, any_has, has_head, has_tail, has_cases, needed_sound, needed_complete}
use Rattle.nb_sheet.specs.declared.row.VarRow.{VarRow}
use Rattle.nb_sheet.specs.Lists.{nth, numbers, numbers_from, from_option}
use Rattle.nb_sheet.specs.Sheet.{Sheet}
use Rattle.nb_sheet.proofs.Scans.{numbers_from_push}
use Rattle.nb_resolve.specs.Names.{direct, inputs_of_row, variable_of}
use Rattle.nb_history.specs.Needs.{needs, circular, is_defined, is_observed, is_root, is_used}
use Rattle.nb_history.proofs.Direct.{direct_within}
use Rattle.nb_history.proofs.Closing.{range_has, has_number}
use Rattle.nb_closing.specs.Tables.{graph_of, is_root_row, roots_of}
use Rattle.nb_closing.proofs.Tables.{slice_map, slice_outside}

-- ---- the graph against the sheet

direct_outside : (s : Sheet) (i : ℕ) → length s.rows ≤ i → direct s (suc i) ≡ []
direct_outside s i outside = ap (λ (o : Option VarRow). filter_map variable_of (from_option [] (inputs_of_row s) o)) (slice_outside s.rows i outside)

needs_here : (s : Sheet) (w : ℕ) → needs_of (graph_of s) w ≡ direct s w
needs_here s zero = refl
needs_here s (suc i) = elim (cases_lt i (length s.rows)) [
  | inl inside ↦
      let e : 1 + i ≡ suc i = omega arith in
      ap or_nothing (slice_map (direct s) 1 (length s.rows) i inside) ∙ ap (direct s) e
  | inr outside ↦
      ap or_nothing (slice_outside (map (direct s) (numbers s.rows)) i (omega (arith, length-map-range_with_len (direct s) 1 (length s.rows), outside)))
      ∙ sym (direct_outside s i outside)
]

same_needs : (s : Sheet) → needs_of (graph_of s) ≡ direct s
same_needs s = λ j w. needs_here s w j

pub length_graph : (s : Sheet) → length (graph_of s) ≡ suc (length s.rows)
length_graph s = ap suc (length-map-range_with_len (direct s) 1 (length s.rows))

bool_same : (a b : Bool) → (a ≡ true → b ≡ true) → (b ≡ true → a ≡ true) → a ≡ b
bool_same true b f g = sym (f refl)
bool_same false b f g = sym (false_from_ne_true b (λ h. false≢true (g h)))

-- a mark tells whether this holds
mark_tells : (graph : List (List ℕ)) (holds : ℕ → Type 0) (marks : List Bool) (v : ℕ) (b : Bool) → IsMarks graph holds marks → v < length graph → (b ≡ true → holds v) → (holds v → b ≡ true) → get_or marks v false ≡ b
mark_tells graph holds marks v b m inside to from =
    let read : slice_get marks v ≡ Some (get_or marks v false) = slice_get-get_or marks v false (omega (arith, m.all, inside)) in
    bool_same (get_or marks v false) b
    (λ h. from (m.only v (read ∙ ap (λ (c : Bool). Some c) h)))
    (λ h. same_Some (get_or marks v false) true (sym read ∙ m.each v inside (to h)))

-- a mark of a node that needs itself tells a circular variable
pub circular_at : (s : Sheet) (marks : List Bool) (v : ℕ) → IsMarks (graph_of s) (needs_itself (graph_of s)) marks → v ≤ length s.rows → get_or marks v false ≡ circular s v
circular_at s marks v m inside =
    mark_tells (graph_of s) (needs_itself (graph_of s)) marks v (circular s v) m (omega (arith, length_graph s, inside))
    (λ h. subst (λ (f : ℕ → List ℕ). Needs f v v) (sym (same_needs s)) (needed_sound (direct s) (numbers s.rows) v v h))
    (λ n. needed_complete (direct s) (numbers s.rows) (direct_within s) (subst (λ (f : ℕ → List ℕ). Needs f v v) (same_needs s) n))

-- ---- the roots

below_none : {A : Type 0} (p : A → Bool) (k : ℕ) (xs : List A) (u : ℕ) → u < k → has (numbers_from k p xs) u ≡ false
below_none p k [] u h = refl
below_none p k (x ∷ xs) u h =
    let later : has (numbers_from (k + 1) p xs) u ≡ false = below_none p (k + 1) xs u (omega arith) in
    elim (cases_Bool (p x)) [
      | inl here ↦ rw here
          (false_from_ne_true (has (k ∷ numbers_from (k + 1) p xs) u)
          (λ t.
          elim (has_cases k (numbers_from (k + 1) p xs) u t) [
            | inl same ↦ absurd (omega (arith, same))
            | inr more ↦ false≢true (sym later ∙ more)
          ]))
      | inr not_here ↦ rw not_here later
    ]

has_from : {A : Type 0} (p : A → Bool) (k : ℕ) (xs : List A) (i u : ℕ) → k + i ≡ u → has (numbers_from k p xs) u ≡ from_option false p (slice_get xs i)
has_from p k [] i u e = refl
has_from p k (x ∷ xs) zero u e =
    elim (cases_Bool (p x)) [
      | inl here ↦ rw here (has_head k (numbers_from (k + 1) p xs) u (omega arith))
      | inr not_here ↦ rw not_here (below_none p (k + 1) xs u (omega arith))
    ]
has_from p k (x ∷ xs) (suc i) u e =
    let later : has (numbers_from (k + 1) p xs) u ≡ from_option false p (slice_get xs i) = has_from p (k + 1) xs i u (omega arith) in
    elim (cases_Bool (p x)) [
      | inl here ↦ rw here
          (bool_same (has (k ∷ numbers_from (k + 1) p xs) u) (has (numbers_from (k + 1) p xs) u)
          (λ t. elim (has_cases k (numbers_from (k + 1) p xs) u t) [ inl same ↦ absurd (omega (arith, same)) | inr more ↦ more ])
          (λ t. has_tail k (numbers_from (k + 1) p xs) u t)
          ∙ later)
      | inr not_here ↦ rw not_here later
    ]

root_row : (o : Option VarRow) → from_option false is_root_row o ≡ (from_option false (λ (row : VarRow). is_some row.body) o && from_option false (λ (row : VarRow). row.observed) o)
root_row None = refl
root_row (Some row) = refl

pub has_root : (s : Sheet) (v : ℕ) → has (roots_of s.rows) v ≡ is_root s v
has_root s zero = below_none is_root_row 1 s.rows 0 (omega arith)
has_root s (suc i) = has_from is_root_row 1 s.rows i (suc i) (omega arith) ∙ root_row (slice_get s.rows i)

-- one turn of the scan for roots
roots_more : (rows : List VarRow) (i : ℕ) (row : VarRow) → i < length rows → row ≡ get_or rows i row → roots_of (take (i + 1) rows) ≡ roots_of (take i rows) ++ cond (is_root_row row) ((i + 1) ∷ []) []
roots_more rows i row inside at =
    let len : 1 + length (take i rows) ≡ i + 1 = omega (arith, length-take-le i rows (omega (arith, inside))) in
    ap roots_of (take_more rows i row inside)
    ∙ ap (λ (r : VarRow). roots_of (take i rows ++ r ∷ [])) (sym at)
    ∙ numbers_from_push is_root_row 1 (take i rows) row
    ∙ ap (λ (n : ℕ). roots_of (take i rows) ++ cond (is_root_row row) (n ∷ []) []) len

pub roots_yes : (rows : List VarRow) (i : ℕ) (row : VarRow) → i < length rows → row ≡ get_or rows i row → is_root_row row ≡ true → roots_of (take i rows) ++ (i + 1) ∷ [] ≡ roots_of (take (i + 1) rows)
roots_yes rows i row inside at here =
    sym (roots_more rows i row inside at ∙ ap (λ (b : Bool). roots_of (take i rows) ++ cond b ((i + 1) ∷ []) []) here)

pub roots_no : (rows : List VarRow) (i : ℕ) (row : VarRow) → i < length rows → row ≡ get_or rows i row → is_root_row row ≡ false → roots_of (take i rows) ≡ roots_of (take (i + 1) rows)
roots_no rows i row inside at other =
    sym (roots_more rows i row inside at ∙ ap (λ (b : Bool). roots_of (take i rows) ++ cond b ((i + 1) ∷ []) []) other ∙ append-nil (roots_of (take i rows)))

defined_there : (s : Sheet) (v : ℕ) → is_defined s v ≡ true → has (numbers s.rows) v ≡ true
defined_there s v h = there (nth s.rows v) refl h
  where
    there : (o : Option VarRow) → nth s.rows v ≡ o → from_option false (λ (row : VarRow). is_some row.body) o ≡ true → has (numbers s.rows) v ≡ true
    there None e t = absurd (false≢true t)
    there (Some row) e t = has_number s.rows v row e

root_there : (s : Sheet) (v : ℕ) → has (roots_of s.rows) v ≡ true → has (numbers s.rows) v ≡ true
root_there s v h = defined_there s v (and_parts (is_defined s v) (is_observed s v) (sym (has_root s v) ∙ h)).0

-- they are nodes of the graph
pub roots_within : (s : Sheet) (v : ℕ) → has (roots_of s.rows) v ≡ true → v < length (graph_of s)
roots_within s v h =
    let r : (1 ≤ v) × (v < 1 + length s.rows) = range_has 1 (length s.rows) v (root_there s v h) in
    omega (arith, r.1, length_graph s)

-- ---- what they reach is used, where it is defined

-- v is observed, or needed by an observed defined variable
abbrev asked : Sheet → ℕ → Bool
asked s v = is_observed s v || list_any (λ w. is_root s w && needs s w v) (numbers s.rows)

reached_asked : (s : Sheet) (v : ℕ) → IsReached (graph_of s) (roots_of s.rows) v → asked s v ≡ true
reached_asked s v (inl h) =
    or_left (is_observed s v) (list_any (λ w. is_root s w && needs s w v) (numbers s.rows)) (and_parts (is_defined s v) (is_observed s v) (sym (has_root s v) ∙ h)).1
reached_asked s v (inr t) =
    let n : Needs (direct s) t.0 v = subst (λ (f : ℕ → List ℕ). Needs f t.0 v) (same_needs s) t.2 in
    let needed : needs s t.0 v ≡ true = needed_complete (direct s) (numbers s.rows) (direct_within s) n in
    or_right (is_observed s v) (list_any (λ w. is_root s w && needs s w v) (numbers s.rows))
    (has_any (λ w. is_root s w && needs s w v) (numbers s.rows) t.0 (root_there s t.0 t.1) (and_from (is_root s t.0) (needs s t.0 v) (sym (has_root s t.0) ∙ t.1) needed))

asked_reached : (s : Sheet) (v : ℕ) → is_defined s v ≡ true → asked s v ≡ true → IsReached (graph_of s) (roots_of s.rows) v
asked_reached s v d h =
    elim (or_cases (is_observed s v) (list_any (λ w. is_root s w && needs s w v) (numbers s.rows)) h) [
      | inl o ↦ inl (has_root s v ∙ and_from (is_defined s v) (is_observed s v) d o)
      | inr more ↦
          let t : (w : ℕ) × (has (numbers s.rows) w ≡ true) × ((is_root s w && needs s w v) ≡ true) = any_has (λ w. is_root s w && needs s w v) (numbers s.rows) more in
          let both : (is_root s t.0 ≡ true) × (needs s t.0 v ≡ true) = and_parts (is_root s t.0) (needs s t.0 v) t.2 in
          let n : Needs (direct s) t.0 v = needed_sound (direct s) (numbers s.rows) t.0 v both.1 in
          inr (t.0, has_root s t.0 ∙ both.0, subst (λ (f : ℕ → List ℕ). Needs f t.0 v) (sym (same_needs s)) n)
    ]

-- a mark of what the roots reach tells a defined variable that is used
pub used_at : (s : Sheet) (marks : List Bool) (v : ℕ) → IsMarks (graph_of s) (IsReached (graph_of s) (roots_of s.rows)) marks → v ≤ length s.rows → (is_defined s v && get_or marks v false) ≡ is_used s v
used_at s marks v m inside =
    let read : slice_get marks v ≡ Some (get_or marks v false) = slice_get-get_or marks v false (omega (arith, m.all, length_graph s, inside)) in
    bool_same (is_defined s v && get_or marks v false) (is_used s v)
    (λ h.
    let both : (is_defined s v ≡ true) × (get_or marks v false ≡ true) = and_parts (is_defined s v) (get_or marks v false) h in
    and_from (is_defined s v) (asked s v) both.0 (reached_asked s v (m.only v (read ∙ ap (λ (c : Bool). Some c) both.1))))
    (λ h.
    let both : (is_defined s v ≡ true) × (asked s v ≡ true) = and_parts (is_defined s v) (asked s v) h in
    and_from (is_defined s v) (get_or marks v false) both.0
    (same_Some (get_or marks v false) true (sym read ∙ m.each v (omega (arith, length_graph s, inside)) (asked_reached s v both.0 both.1))))

-- the row at a place says whether its variable is defined
pub defined_at : (s : Sheet) (i : ℕ) (row : VarRow) → i < length s.rows → row ≡ get_or s.rows i row → is_some row.body ≡ is_defined s (i + 1)
defined_at s i row inside at =
    let e : suc i ≡ i + 1 = omega arith in
    let read : slice_get s.rows i ≡ Some row = slice_get-get_or s.rows i row inside ∙ ap (λ (r : VarRow). Some r) (sym at) in
    ap (λ (o : Option VarRow). from_option false (λ (r : VarRow). is_some r.body) o) (sym read) ∙ ap (is_defined s) e
