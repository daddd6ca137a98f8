-- The lines that are made: cell by cell, how many there are, and whose.
use Rattle.std.proofs.Common.{◌≡◌, ℕ, ◌+◌, ◌*◌, ◌<◌, List, [], ◌∷◌, ◌++◌, length, map, All, refl, sym, ap, ap₂, subst, ◌∙◌, arith, rules, length-append, add-one}
use Rattle.std.specs.List.{range_with_len}
use Rattle.std.proofs.lemmas.List.Elements.{All-append, All-map}
use Rattle.std.proofs.lemmas.List.FromFn.{length-map-range_with_len, map-range_with_len_more}
use Rattle.nb_syntax.specs.declared.tree.Cell.{Cell}
use Rattle.nb_lines.specs.declared.script.ScriptLine.{ScriptLine}
use Rattle.nb_make.specs.Draws.{next, state, drawn, draw}
use Rattle.nb_make.specs.Cells.{cell_of}
use Rattle.nb_make.specs.Made.{cell_line, cell_at, cell_lines, last_lines}

-- the state after one draw more
later : (seed i j s : ℕ) → i + 1 ≡ j → s ≡ state seed i → next s ≡ state seed j
later seed i j s at e = ap next e ∙ ap (state seed) (sym (add-one i) ∙ at)

-- the state after the three draws of a cell
pub after_cell : (seed k s : ℕ) → s ≡ state seed (3 * k) → next (next (next s)) ≡ state seed (3 * (k + 1))
after_cell seed k s e =
    later seed (3 * k + 2) (3 * (k + 1)) (next (next s)) (omega arith)
    (later seed (3 * k + 1) (3 * k + 2) (next s) (omega arith) (later seed (3 * k) (3 * k + 1) s refl e))

-- the draw at a place
draw_at : (seed i j s : ℕ) → i + 1 ≡ j → s ≡ state seed j → drawn s ≡ draw seed i
draw_at seed i j s at e = ap drawn (e ∙ ap (state seed) (sym at))

-- the cell behind k others
pub this_cell : (seed k s : ℕ) → s ≡ state seed (3 * k) → cell_of (k + 1) (drawn (next s)) (drawn (next (next s))) (drawn (next (next (next s)))) ≡ cell_at seed k
this_cell seed k s e =
    let one = later seed (3 * k) (3 * k + 1) s refl e in
    let two = later seed (3 * k + 1) (3 * k + 2) (next s) (omega arith) one in
    let three = later seed (3 * k + 2) (3 * k + 3) (next (next s)) (omega arith) two in
    ap (λ p. cell_of (k + 1) p (drawn (next (next s))) (drawn (next (next (next s))))) (draw_at seed (3 * k) (3 * k + 1) (next s) refl one)
    ∙ ap (λ q. cell_of (k + 1) (draw seed (3 * k)) q (drawn (next (next (next s))))) (draw_at seed (3 * k + 1) (3 * k + 2) (next (next s)) (omega arith) two)
    ∙ ap (λ r. cell_of (k + 1) (draw seed (3 * k)) (draw seed (3 * k + 1)) r) (draw_at seed (3 * k + 2) (3 * k + 3) (next (next (next s))) (omega arith) three)

-- one cell more
pub more_lines : (seed k : ℕ) (ls : List ScriptLine) (c : Cell) → ls ≡ cell_lines k seed → c ≡ cell_at seed k → ls ++ cell_line c ∷ [] ≡ cell_lines (k + 1) seed
more_lines seed k ls c e is =
    ap₂ (λ xs x. xs ++ cell_line x ∷ []) e is ∙ sym (map-range_with_len_more (λ i. cell_line (cell_at seed i)) 0 k k (omega arith))

abbrev HasEditor : ScriptLine → Type 0
HasEditor s = s.editor < 8

cells_editors : (seed : ℕ) (ks : List ℕ) → All HasEditor (map (λ k. cell_line (cell_at seed k)) ks)
cells_editors seed ks = All-map HasEditor (λ k. cell_line (cell_at seed k)) ks (each ks) where
  each : (ks : List ℕ) → All (λ k. 0 < 8) ks
  each ks = search rules

pub made_editors : (n seed : ℕ) (ls : List ScriptLine) → ls ≡ cell_lines n seed ++ last_lines n → All HasEditor ls
made_editors n seed ls e = subst (All HasEditor) (sym e) (All-append HasEditor (cell_lines n seed) (last_lines n) (cells_editors seed (range_with_len 0 n)) (search rules))

pub made_count : (n seed : ℕ) (ls : List ScriptLine) → ls ≡ cell_lines n seed ++ last_lines n → length ls ≡ n + 5
made_count n seed ls e = ap length e ∙ length-append (cell_lines n seed) (last_lines n) ∙ ap (λ m. m + 5) (length-map-range_with_len (λ k. cell_line (cell_at seed k)) 0 n)
