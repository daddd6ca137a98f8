-- The graph of who is needed by whom.
use Rattle.std.proofs.Common.{ℕ, zero, suc, ◌+◌, ◌≡◌, ◌≢◌, ◌<◌, ◌≤◌, refl, sym, ◌∙◌, ap, subst, Bool, true, false, ◌&&◌, ◌⊎◌, inl, inr, List, [], ◌∷◌, ◌++◌, length, get_or, set, drop, map, arith, length-set, Option, Some}
use Rattle.std.specs.Prelude.{replicate}
use Rattle.std.proofs.lemmas.Bool.{false≢true, cases_eq, cases_lt}
use Rattle.std.proofs.lemmas.List.{drop_more, length-replicate, get_or_push, get_or_append_left, get_or-replicate}
use Rattle.std.proofs.lemmas.Option.{slice_get_past, slice_get-get_or, slice_get_read, get_or_from_slice_get}
use Rattle.nb_graph.specs.Needs.{has, Needs, at_once, through}
use Rattle.nb_graph.specs.Graph.{or_nothing, needs_of as list_of, with_needs, IsReached, IsMarks}
use Rattle.nb_graph.proofs.Reaches.{has_head, has_tail, has_cases, Needs_trans}
use Rattle.nb_graph.proofs.Lists.{has_front, has_end, has_push}
use Rattle.nb_wave.specs.declared.row.Row.{Row}
use Rattle.nb_wave.specs.declared.users.Users.{Users}
use Rattle.nb_wave.specs.Rules.{passes, is_overtaken, pulls_on, held, needs_of, rests_on, NeedsVariables}
use Rattle.nb_wave.specs.Steps.{stepped}
use Rattle.nb_wave.specs.Marks.{marked, AreMarks}
use Rattle.nb_wave.specs.Users.{added, added_all, IsReversed, AreMarked, Reverse, AreUsers}
use Rattle.nb_wave.proofs.Places.{needs_read}
use Rattle.nb_wave.proofs.Spreads.{needs_inside, rests_from, rests_to}
use Rattle.nb_wave.proofs.Dues.{same_tests, needs_number}
use Rattle.nb_wave.proofs.Stepped.{Mild, length_stepped, needs_stepped}

-- ---- lists that are set

list_set_same : (lists : List (List ℕ)) (u : ℕ) (xs : List ℕ) → u < length lists → list_of (set lists u xs) u ≡ xs
list_set_same [] u xs h = absurd (omega (arith, h))
list_set_same (l ∷ lists) zero xs h = refl
list_set_same (l ∷ lists) (suc u) xs h = list_set_same lists u xs (omega (arith, h))

list_set_other : (lists : List (List ℕ)) (u w : ℕ) (xs : List ℕ) → u ≢ w → list_of (set lists u xs) w ≡ list_of lists w
list_set_other [] u w xs h = refl
list_set_other (l ∷ lists) zero zero xs h = absurd (h refl)
list_set_other (l ∷ lists) zero (suc w) xs h = refl
list_set_other (l ∷ lists) (suc u) zero xs h = refl
list_set_other (l ∷ lists) (suc u) (suc w) xs h = list_set_other lists u w xs (λ e. h (ap suc e))

pub with_same : (graph : List (List ℕ)) (u : ℕ) (xs : List ℕ) → u < length graph → list_of (with_needs graph u xs) u ≡ xs
with_same [] u xs h = absurd (omega (arith, h))
with_same (l ∷ graph) zero xs h = refl
with_same (l ∷ graph) (suc u) xs h = with_same graph u xs (omega (arith, h))

pub with_other : (graph : List (List ℕ)) (u w : ℕ) (xs : List ℕ) → u ≢ w → list_of (with_needs graph u xs) w ≡ list_of graph w
with_other [] u w xs h = refl
with_other (l ∷ graph) zero zero xs h = absurd (h refl)
with_other (l ∷ graph) zero (suc w) xs h = refl
with_other (l ∷ graph) (suc u) zero xs h = refl
with_other (l ∷ graph) (suc u) (suc w) xs h = with_other graph u w xs (λ e. h (ap suc e))

pub length_with : (graph : List (List ℕ)) (u : ℕ) (xs : List ℕ) → length (with_needs graph u xs) ≡ length graph
length_with [] u xs = refl
length_with (l ∷ graph) zero xs = refl
length_with (l ∷ graph) (suc u) xs = ap suc (length_with graph u xs)

-- ---- who is added

pub length_added : (v : ℕ) (us : List ℕ) (lists : List (List ℕ)) → length (added v us lists) ≡ length lists
length_added v [] lists = refl
length_added v (u ∷ us) lists = length_added v us (set lists u (list_of lists u ++ v ∷ [])) ∙ length-set lists u (list_of lists u ++ v ∷ [])

one_keeps : (v x : ℕ) (lists : List (List ℕ)) (u w : ℕ) → has (list_of lists u) w ≡ true → has (list_of (set lists x (list_of lists x ++ v ∷ [])) u) w ≡ true
one_keeps v x lists u w h =
    elim (cases_eq x u) [
      | inl same ↦ elim (cases_lt x (length lists)) [
        | inl less ↦
            let at : list_of (set lists x (list_of lists x ++ v ∷ [])) u ≡ list_of lists x ++ v ∷ [] =
            ap (list_of (set lists x (list_of lists x ++ v ∷ []))) (sym same) ∙ list_set_same lists x (list_of lists x ++ v ∷ []) less in
            ap (λ (l : List ℕ). has l w) at ∙ has_front (list_of lists x) v w (ap (λ (y : ℕ). has (list_of lists y) w) same ∙ h)
        | inr past ↦
            let none : list_of lists u ≡ [] = ap (list_of lists) (sym same) ∙ ap or_nothing (slice_get_past lists x past) in
            absurd (false≢true (ap (λ (l : List ℕ). has l w) (sym none) ∙ h))
      ]
      | inr other ↦ ap (λ (l : List ℕ). has l w) (list_set_other lists x u (list_of lists x ++ v ∷ []) other) ∙ h
    ]

one_only : (v x : ℕ) (lists : List (List ℕ)) (u w : ℕ) → has (list_of (set lists x (list_of lists x ++ v ∷ [])) u) w ≡ true → (has (list_of lists u) w ≡ true) ⊎ ((w ≡ v) × (x ≡ u))
one_only v x lists u w h =
    elim (cases_eq x u) [
      | inl same ↦ elim (cases_lt x (length lists)) [
        | inl less ↦
            let at : list_of (set lists x (list_of lists x ++ v ∷ [])) u ≡ list_of lists x ++ v ∷ [] =
            ap (list_of (set lists x (list_of lists x ++ v ∷ []))) (sym same) ∙ list_set_same lists x (list_of lists x ++ v ∷ []) less in
            elim (has_push (list_of lists x) v w (ap (λ (l : List ℕ). has l w) (sym at) ∙ h)) [
              | inl front ↦ inl (ap (λ (y : ℕ). has (list_of lists y) w) (sym same) ∙ front)
              | inr e ↦ inr (sym e, same)
            ]
        | inr past ↦
            let long : length (set lists x (list_of lists x ++ v ∷ [])) ≤ x = omega (arith, past, length-set lists x (list_of lists x ++ v ∷ [])) in
            let none : list_of (set lists x (list_of lists x ++ v ∷ [])) u ≡ [] =
            ap (list_of (set lists x (list_of lists x ++ v ∷ []))) (sym same) ∙ ap or_nothing (slice_get_past (set lists x (list_of lists x ++ v ∷ [])) x long) in
            absurd (false≢true (ap (λ (l : List ℕ). has l w) (sym none) ∙ h))
      ]
      | inr other ↦ inl (ap (λ (l : List ℕ). has l w) (sym (list_set_other lists x u (list_of lists x ++ v ∷ []) other)) ∙ h)
    ]

added_keeps : (v : ℕ) (us : List ℕ) (lists : List (List ℕ)) (u w : ℕ) → has (list_of lists u) w ≡ true → has (list_of (added v us lists) u) w ≡ true
added_keeps v [] lists u w h = h
added_keeps v (x ∷ us) lists u w h = added_keeps v us (set lists x (list_of lists x ++ v ∷ [])) u w (one_keeps v x lists u w h)

added_only : (v : ℕ) (us : List ℕ) (lists : List (List ℕ)) (u w : ℕ) → has (list_of (added v us lists) u) w ≡ true → (has (list_of lists u) w ≡ true) ⊎ ((w ≡ v) × (has us u ≡ true))
added_only v [] lists u w h = inl h
added_only v (x ∷ us) lists u w h =
    elim (added_only v us (set lists x (list_of lists x ++ v ∷ [])) u w h) [
      | inl before ↦ elim (one_only v x lists u w before) [ inl old ↦ inl old | inr t ↦ inr (t.0, has_head x us u t.1) ]
      | inr t ↦ inr (t.0, has_tail x us u t.1)
    ]

added_each : (v : ℕ) (us : List ℕ) (lists : List (List ℕ)) (u : ℕ) → u < length lists → has us u ≡ true → has (list_of (added v us lists) u) v ≡ true
added_each v [] lists u inside h = absurd (false≢true h)
added_each v (x ∷ us) lists u inside h =
    let next = set lists x (list_of lists x ++ v ∷ []) in
    elim (has_cases x us u h) [
      | inl same ↦
          let at : list_of next u ≡ list_of lists u ++ v ∷ [] =
          ap (λ (y : ℕ). list_of (set lists y (list_of lists y ++ v ∷ [])) u) same ∙ list_set_same lists u (list_of lists u ++ v ∷ []) inside in
          added_keeps v us next u v (ap (λ (l : List ℕ). has l v) at ∙ has_end (list_of lists u) v)
      | inr later ↦ added_each v us next u (omega (arith, inside, length-set lists x (list_of lists x ++ v ∷ []))) later
    ]

pub length_added_all : (v : ℕ) (rows : List Row) (lists : List (List ℕ)) → length (added_all v rows lists) ≡ length lists
length_added_all v [] lists = refl
length_added_all v (r ∷ rows) lists = length_added_all (v + 1) rows (added v r.needs lists) ∙ length_added v r.needs lists

all_keeps : (v : ℕ) (rows : List Row) (lists : List (List ℕ)) (u w : ℕ) → has (list_of lists u) w ≡ true → has (list_of (added_all v rows lists) u) w ≡ true
all_keeps v [] lists u w h = h
all_keeps v (r ∷ rows) lists u w h = all_keeps (v + 1) rows (added v r.needs lists) u w (added_keeps v r.needs lists u w h)

abbrev IsFrom : ℕ → List Row → ℕ → ℕ → Type 0
IsFrom v rows u w = (i : ℕ) × (w ≡ v + i) × (has (needs_of rows i) u ≡ true)

all_only : (v : ℕ) (rows : List Row) (lists : List (List ℕ)) (u w : ℕ) → has (list_of (added_all v rows lists) u) w ≡ true → (has (list_of lists u) w ≡ true) ⊎ IsFrom v rows u w
all_only v [] lists u w h = inl h
all_only v (r ∷ rows) lists u w h =
    elim (all_only (v + 1) rows (added v r.needs lists) u w h) [
      | inl before ↦ elim (added_only v r.needs lists u w before) [ inl old ↦ inl old | inr t ↦ inr (0, omega (arith, t.0), t.1) ]
      | inr t ↦ inr (suc t.0, omega (arith, t.1), t.2)
    ]

all_each : (v : ℕ) (rows : List Row) (lists : List (List ℕ)) (u i w : ℕ) → u < length lists → w ≡ v + i → has (needs_of rows i) u ≡ true → has (list_of (added_all v rows lists) u) w ≡ true
all_each v [] lists u i w inside e h = absurd (false≢true h)
all_each v (r ∷ rows) lists u zero w inside e h =
    let same : v ≡ w = omega (arith, e) in
    all_keeps (v + 1) rows (added v r.needs lists) u w (subst (λ (x : ℕ). has (list_of (added v r.needs lists) u) x ≡ true) same (added_each v r.needs lists u inside h))
all_each v (r ∷ rows) lists u (suc i) w inside e h =
    all_each (v + 1) rows (added v r.needs lists) u i w (omega (arith, inside, length_added v r.needs lists)) (omega (arith, e)) h

none_listed : (n u : ℕ) → list_of (replicate n []) u ≡ []
none_listed zero u = refl
none_listed (suc n) zero = refl
none_listed (suc n) (suc u) = none_listed n u

-- the lists of all rows are the rows reversed, and so is a graph with the same lists
pub reversed_from : (rows : List Row) → NeedsVariables rows → (lists graph : List (List ℕ)) (i : ℕ) → lists ≡ added_all 0 rows (replicate (length rows) []) → length rows ≤ i → length graph ≡ length rows
    → ((u : ℕ) → u < i → list_of graph u ≡ list_of lists u) → IsReversed rows graph
reversed_from rows n lists graph i e past size same =
    let start = replicate (length rows) [] in
    let at : (u : ℕ) → u < length rows → list_of graph u ≡ list_of (added_all 0 rows start) u = λ u less. same u (omega (arith, less, past)) ∙ ap (λ (l : List (List ℕ)). list_of l u) e in
    record {
      size = size;
      only = λ u v h. elim (cases_lt u (length rows)) [
        | inl less ↦ elim (all_only 0 rows start u v (ap (λ (l : List ℕ). has l v) (sym (at u less)) ∙ h)) [
          | inl old ↦ absurd (false≢true (ap (λ (l : List ℕ). has l v) (sym (none_listed (length rows) u)) ∙ old))
          | inr t ↦ let same_v : t.0 ≡ v = omega (arith, t.1) in ap (λ (x : ℕ). has (needs_of rows x) u) (sym same_v) ∙ t.2
        ]
        | inr more ↦ absurd (false≢true (ap (λ (o : Option (List ℕ)). has (or_nothing o) v) (sym (slice_get_past graph u (omega (arith, size, more)))) ∙ h))
      ];
      each = λ u v h.
          let less : u < length rows = (n v u h).1 in
          let empty : List ℕ = [] in
          ap (λ (l : List ℕ). has l v) (at u less) ∙ all_each 0 rows start u v v (omega (arith, less, length-replicate (length rows) empty)) (omega arith) h;
    }

-- the list of v is of those that need it
pub users_of : (rows : List Row) (graph : List (List ℕ)) (v : ℕ) (users : List ℕ) → IsReversed rows graph → users ≡ list_of graph v → AreUsers rows v users
users_of rows graph v users r e = record {
  each = λ w h. ap (λ (l : List ℕ). has l w) e ∙ r.each v w h;
  only = λ w h. r.only v w (ap (λ (l : List ℕ). has l w) (sym e) ∙ h);
}

-- a step leaves who needs whom
pub reversed_stepped : (f : Row → Row) → Mild f → (v n : ℕ) (rows new : List Row) (graph : List (List ℕ)) → new ≡ stepped f v n rows → IsReversed rows graph → IsReversed new graph
reversed_stepped f mild v n rows new graph e r =
    subst (λ (l : List Row). IsReversed l graph) (sym e)
    (record {
      size = r.size ∙ sym (length_stepped f mild v n rows);
      only = λ u w h. ap (λ (l : List ℕ). has l u) (needs_stepped f mild v n rows w) ∙ r.only u w h;
      each = λ u w h. r.each u w (ap (λ (l : List ℕ). has l u) (sym (needs_stepped f mild v n rows w)) ∙ h);
    })

pub reverse_stepped : (f : Row → Row) → Mild f → (v n : ℕ) (rows new : List Row) (users : Users) → new ≡ stepped f v n rows → Reverse rows users → Reverse new users
reverse_stepped f mild v n rows new users e r =
    record { lists = reversed_stepped f mild v n rows new users.lists.items e r.lists; graph = reversed_stepped f mild v n rows new users.graph e r.graph }

-- ---- reach

to_rows : (rows : List Row) (graph : List (List ℕ)) → IsReversed rows graph → {u v : ℕ} → Needs (list_of graph) u v → Needs (needs_of rows) v u
to_rows rows graph r {u} {v} (at_once h) = at_once (r.only u v h)
to_rows rows graph r {u} {v} (through {w = w} n h) = Needs_trans (needs_of rows) [] (at_once (r.only w v h)) (to_rows rows graph r n)

to_graph : (rows : List Row) (graph : List (List ℕ)) → IsReversed rows graph → {v u : ℕ} → Needs (needs_of rows) v u → Needs (list_of graph) u v
to_graph rows graph r {v} {u} (at_once h) = at_once (r.each u v h)
to_graph rows graph r {v} {u} (through {w = w} n h) = Needs_trans (list_of graph) [] (at_once (r.each u w h)) (to_graph rows graph r n)

pub resting_marks : (rows : List Row) → NeedsVariables rows → (graph : List (List ℕ)) → IsReversed rows graph → (marks new : List Bool) (roots : List ℕ) → length marks ≡ length rows
    → AreMarked marks (length marks) roots → IsMarks graph (IsReached graph roots) new → AreMarks rows (rests_on (marked marks) rows) new
resting_marks rows n graph r marks new roots size are is v inside =
    let long : v < length new = omega (arith, inside, is.all, r.size) in
    same_tests (marked new v) (rests_on (marked marks) rows v)
    (λ h. rests_from (marked marks) rows n v
    (elim (is.only v (slice_get-get_or new v false long ∙ ap (λ (b : Bool). Some b) h)) [
      | inl root ↦ inl (are.only v root).1
      | inr t ↦ inr (t.0, to_rows rows graph r t.2, (are.only t.0 t.1).1)
    ]))
    (λ h. get_or_from_slice_get new v true false (is.each v (omega (arith, inside, r.size))
    (elim (rests_to (marked marks) rows v h) [
      | inl own ↦ inl (are.each v (omega (arith, inside, size)) own)
      | inr t ↦ inr (t.0, are.each t.0 (omega (arith, (needs_number rows n t.1).1, size)) t.2, to_graph rows graph r t.1)
    ])))

-- ---- marks

pub marks_of : (test : Row → Bool) (rows : List Row) (marks : List Bool) → marks ≡ map test rows → AreMarks rows (passes test rows) marks
marks_of test rows marks e v inside = ap (λ (l : List Bool). marked l v) e ∙ go rows v inside
  where
    go : (rows : List Row) (v : ℕ) → v < length rows → marked (map test rows) v ≡ passes test rows v
    go [] v h = absurd (omega (arith, h))
    go (r ∷ rows) zero h = refl
    go (r ∷ rows) (suc v) h = go rows v (omega (arith, h))

pub none_held : (rows : List Row) (marks : List Bool) → marks ≡ replicate (length rows) false → false ≡ pulls_on rows → AreMarks rows (held rows) marks
none_held rows marks e p v inside =
    ap (λ (l : List Bool). marked l v) e ∙ get_or-replicate (length rows) v false false inside ∙ ap (λ (b : Bool). b && rests_on (passes is_overtaken rows) rows v) p

pub marked_none : (marks : List Bool) → AreMarked marks 0 []
marked_none marks = record { each = λ v less h. absurd (omega (arith, less)); only = λ v h. absurd (false≢true h) }

pub marked_skips : (marks : List Bool) (i : ℕ) (vars : List ℕ) → marked marks i ≡ false → AreMarked marks i vars → AreMarked marks (i + 1) vars
marked_skips marks i vars not_here a =
    record {
      each = λ v less h. elim (cases_eq v i) [
        | inl same ↦ absurd (false≢true (sym not_here ∙ ap (marked marks) (sym same) ∙ h))
        | inr other ↦ a.each v (omega (arith, other)) h
      ];
      only = λ v h. let t : (v < i) × (marked marks v ≡ true) = a.only v h in (omega (arith, t.0), t.1);
    }

pub marked_adds : (marks : List Bool) (i : ℕ) (vars : List ℕ) → marked marks i ≡ true → AreMarked marks i vars → AreMarked marks (i + 1) (vars ++ i ∷ [])
marked_adds marks i vars here a =
    record {
      each = λ v less h. elim (cases_eq v i) [
        | inl same ↦ ap (has (vars ++ i ∷ [])) same ∙ has_end vars i
        | inr other ↦ has_front vars i v (a.each v (omega (arith, other)) h)
      ];
      only = λ v h. elim (has_push vars i v h) [
        | inl front ↦ let t : (v < i) × (marked marks v ≡ true) = a.only v front in (omega (arith, t.0), t.1)
        | inr same ↦ (omega (arith, same), ap (marked marks) (sym same) ∙ here)
      ];
    }

-- a mark is pushed
pub marks_push : (test : ℕ → Bool) (marks : List Bool) (i : ℕ) (b : Bool) → length marks ≡ i → b ≡ test i → ((v : ℕ) → v < i → marked marks v ≡ test v) → (v : ℕ) → v < i + 1 → marked (marks ++ b ∷ []) v ≡ test v
marks_push test marks i b size e before v less =
    elim (cases_eq v i) [
      | inl same ↦ ap (marked (marks ++ b ∷ [])) same ∙ get_or_push marks b false i size ∙ e ∙ ap test (sym same)
      | inr other ↦ get_or_append_left marks (b ∷ []) false v (omega (arith, other, size)) ∙ before v (omega (arith, other))
    ]

-- ---- the loops that make the graph

pub listed_inside : (rows : List Row) (lists : List (List ℕ)) (u w : ℕ) → lists ≡ added_all 0 rows (replicate (length rows) []) → has (list_of lists u) w ≡ true → w < length rows
listed_inside rows lists u w e h =
    elim (all_only 0 rows (replicate (length rows) []) u w (ap (λ (l : List (List ℕ)). has (list_of l u) w) (sym e) ∙ h)) [
      | inl old ↦ absurd (false≢true (ap (λ (l : List ℕ). has l w) (sym (none_listed (length rows) u)) ∙ old))
      | inr t ↦ let inside : t.0 < length rows = needs_inside rows t.0 u t.2 in omega (arith, t.1, inside)
    ]

pub list_read : (lists : List (List ℕ)) (i : ℕ) (x : List ℕ) → i < length lists → x ≡ get_or lists i x → list_of lists i ≡ x
list_read lists i x inside read = ap or_nothing (slice_get_read lists (length lists) i x refl inside read)

pub filled_more : (graph new lists : List (List ℕ)) (i : ℕ) (xs : List ℕ) → i < length graph → new ≡ with_needs graph i xs → xs ≡ list_of lists i → ((x : ℕ) → x < i → list_of graph x ≡ list_of lists x)
    → (x : ℕ) → x < i + 1 → list_of new x ≡ list_of lists x
filled_more graph new lists i xs inside e f before x less =
    ap (λ (l : List (List ℕ)). list_of l x) e
    ∙ elim (cases_eq i x) [
      | inl same ↦ ap (list_of (with_needs graph i xs)) (sym same) ∙ with_same graph i xs inside ∙ f ∙ ap (list_of lists) same
      | inr other ↦ with_other graph i x xs other ∙ before x (omega (arith, less, other))
    ]

pub added_more : (v : ℕ) (us : List ℕ) (lists end : List (List ℕ)) (i u : ℕ) (x new : List ℕ) → i < length us → u ≡ get_or us i 0 → u < length lists → x ≡ get_or lists u x → new ≡ x ++ v ∷ []
    → added v (drop i us) lists ≡ end → added v (drop (i + 1) us) (set lists u new) ≡ end
added_more v us lists end i u x new inside at low read e h =
    let own : new ≡ list_of lists u ++ v ∷ [] = e ∙ ap (λ (l : List ℕ). l ++ v ∷ []) (sym (list_read lists u x low read)) in
    let split : drop i us ≡ u ∷ drop (i + 1) us = drop_more us i 0 inside ∙ ap (λ (y : ℕ). y ∷ drop (i + 1) us) (sym at) in
    ap (λ (l : List ℕ). added v (drop (i + 1) us) (set lists u l)) own
    ∙ ap (λ (l : List ℕ). added v l lists) (sym split)
    ∙ h

pub added_all_more : (rows : List Row) (lists new end : List (List ℕ)) (v : ℕ) (x : Row) (us : List ℕ) → v < length rows → x ≡ get_or rows v x → us ≡ Row.needs (get_or rows v x) → new ≡ added v us lists
    → added_all v (drop v rows) lists ≡ end → added_all (v + 1) (drop (v + 1) rows) new ≡ end
added_all_more rows lists new end v x us inside read e f h =
    ap (added_all (v + 1) (drop (v + 1) rows)) (f ∙ ap (λ (l : List ℕ). added v l lists) e)
    ∙ ap (λ (l : List Row). added_all v l lists) (sym (drop_more rows v x inside))
    ∙ h

pub read_inside : (rows : List Row) → NeedsVariables rows → (v : ℕ) (x : Row) (us : List ℕ) → v < length rows → x ≡ get_or rows v x → us ≡ Row.needs (get_or rows v x) → (u : ℕ) → has us u ≡ true → u < length rows
read_inside rows n v x us inside read e u h =
    (n v u (ap (λ (l : List ℕ). has l u) (needs_read rows v x inside read ∙ ap (λ (r : Row). r.needs) read ∙ sym e) ∙ h)).1

pub length_listed : (rows : List Row) (lists : List (List ℕ)) → lists ≡ added_all 0 rows (replicate (length rows) []) → length lists ≡ length rows
length_listed rows lists e =
    let empty : List ℕ = [] in
    ap (λ (l : List (List ℕ)). length l) e ∙ length_added_all 0 rows (replicate (length rows) []) ∙ length-replicate (length rows) empty
