-- Rows that were replaced, put back.
use Rattle.std.proofs.Common.{ℕ, ◌≡◌, ◌≤◌, refl, sym, ◌∙◌, ap, List, [], ◌∷◌, ◌++◌, length, get_or, set, take, drop, append_assoc}
use Rattle.std.proofs.lemmas.List.{append-nil, set-set, set-get_or, take_at, drop_at, drop-append-le}
use Rattle.nb_wave.specs.declared.row.Row.{Row}
use Rattle.nb_wave.specs.declared.table.Change.{Change}
use Rattle.nb_wave.specs.Changes.{put_back, IsSince}

pub back_append : (cs ds : List Change) (rows : List Row) → put_back (cs ++ ds) rows ≡ put_back cs (put_back ds rows)
back_append [] ds rows = refl
back_append (c ∷ cs) ds rows = ap (λ (l : List Row). set l c.var c.row) (back_append cs ds rows)

pub since_refl : (changes : List Change) (rows : List Row) → IsSince changes rows changes rows
since_refl changes rows = ([], sym (append-nil changes), refl)

pub since_trans : (a b c : List Change) (x y z : List Row) → IsSince a x b y → IsSince b y c z → IsSince a x c z
since_trans a b c x y z f g = (
  f.0 ++ g.0,
  g.1 ∙ ap (λ (l : List Change). l ++ g.0) f.1 ∙ append_assoc a f.0 g.0,
  back_append f.0 g.0 z ∙ ap (put_back f.0) g.2 ∙ f.2,
)

-- one row is replaced
pub since_one : (changes : List Change) (rows : List Row) (c : Change) (row : Row) (v : ℕ) → c.var ≡ v → c.row ≡ get_or rows v c.row
    → IsSince changes rows (changes ++ c ∷ []) (set rows v row)
since_one changes rows c row v e read = (
  c ∷ [],
  refl,
  ap (λ (w : ℕ). set (set rows v row) w c.row) e ∙ set-set rows v row c.row ∙ ap (set rows v) read ∙ set-get_or rows v c.row,
)

-- what an undo of all gives stays
pub since_back : (a b : List Change) (x y : List Row) → IsSince a x b y → put_back b y ≡ put_back a x
since_back a b x y f = ap (λ (l : List Change). put_back l y) f.1 ∙ back_append a f.0 y ∙ ap (put_back a) f.2

-- and so does what an undo of the added ones gives
pub since_rows : (a b : List Change) (x y : List Row) → IsSince a x b y → put_back (drop (length a) b) y ≡ x
since_rows a b x y f = ap (λ (l : List Change). put_back l y) (ap (drop (length a)) f.1 ∙ drop_at a f.0 (length a) refl) ∙ f.2

pub since_changes : (a b : List Change) (x y : List Row) → IsSince a x b y → take (length a) b ≡ a
since_changes a b x y f = ap (take (length a)) f.1 ∙ take_at a f.0 (length a) refl

-- one change less, from n on
pub back_pop : (n : ℕ) (cs : List Change) (c : Change) (rows : List Row) → n ≤ length cs → put_back (drop n (cs ++ c ∷ [])) rows ≡ put_back (drop n cs) (set rows c.var c.row)
back_pop n cs c rows h = ap (λ (l : List Change). put_back l rows) (drop-append-le n cs (c ∷ []) h) ∙ back_append (drop n cs) (c ∷ []) rows
