-- What a fold is at each kind of expression, an evaluation that gives a number, and the sizes of values and of entries.
use Rattle.std.specs.Prelude.{ℕ, ℤ, pos, ◌≡◌, refl, Bool, ◌+◌, List, [], ◌∷◌, map, length, sum, sum_by, Some, None}
use Rattle.nb_log.specs.Printing.{entry_size, kind_name}
use Rattle.nb_syntax.specs.Print.{cell_text}
use Rattle.nb_value.specs.declared.outcome.ErrorKind.{ErrorKind}
use Rattle.nb_sheet.specs.declared.edit.Edit.TheVariants.{AddCell, Define}
use Rattle.nb_log.specs.declared.entry.Entry.TheVariants.{Edit, Pending, Fulfilled, Rejected, Left}
use Rattle.std.proofs.Common.{arith, ap, sym, ◌∙◌}
use Rattle.nb_value.specs.declared.value.Value.{Value}
use Rattle.nb_value.specs.declared.pairs.Field.{Field}
use Rattle.nb_syntax.specs.declared.tree.Sign.TheVariants.{Plus}
use Rattle.nb_syntax.specs.declared.tree.Expr.{Expr, fold-Expr}
use Rattle.nb_syntax.specs.declared.tree.Expr.TheVariants as expr
use Rattle.nb_syntax.specs.declared.tree.Expr.TheOpen as layer
use Rattle.nb_syntax.specs.declared.tree.Expr.TheViews.{rolls-Sum, rolls-Int, rolls-Name}
use Rattle.nb_syntax.specs.declared.tree.Expr.TheFolds.{fold-roll-Expr, fold-roll-Operand}
use Rattle.nb_syntax.specs.declared.tree.Body.TheVariants as body
use Rattle.nb_syntax.specs.declared.tree.Cell.{Cell}
use Rattle.nb_value.specs.Value.{size, size_step}
use Rattle.nb_value.specs.declared.value.Value.TheVariants as V
use Rattle.nb_value.specs.declared.value.Value.TheOpen.{Value-F}
use Rattle.nb_value.specs.declared.value.Value.TheViews as values
use Rattle.nb_value.specs.declared.value.Value.TheFolds.{fold-roll-Value}
use Rattle.nb_eval.specs.Evaluation.{Evaluated, evaluation}
use Rattle.nb_eval.specs.declared.given.Ending.TheVariants.{Done}

module _ {A B C D : Type 0} (f : layer.Expr-F A B C D → A) (g : layer.PathStep-F A B C D → B) (h : layer.Member-F A B C D → C) (k : layer.Operand-F A B C D → D) where
  pub fold_int : (n : ℤ) → fold-Expr A B C D f g h k (expr.Int n) ≡ f (layer.Int n)
  fold_int n = ap (fold-Expr A B C D f g h k) (sym (rolls-Int n)) ∙ fold-roll-Expr A B C D f g h k (layer.Int n)

  pub fold_name : (n : List ℕ) → fold-Expr A B C D f g h k (expr.Name n) ≡ f (layer.Name n)
  fold_name n = ap (fold-Expr A B C D f g h k) (sym (rolls-Name n)) ∙ fold-roll-Expr A B C D f g h k (layer.Name n)

-- `a + b`
abbrev pub plus : Expr → Expr → Expr
plus a b = expr.Sum a (record { sign = Plus; expr = b } ∷ [])

module _ {A B C D : Type 0} (f : layer.Expr-F A B C D → A) (g : layer.PathStep-F A B C D → B) (h : layer.Member-F A B C D → C) (k : layer.Operand-F A B C D → D) where
  pub fold_plus : (a b : Expr) → fold-Expr A B C D f g h k (plus a b) ≡ f (layer.Sum (fold-Expr A B C D f g h k a) (k (record { sign = Plus; expr = fold-Expr A B C D f g h k b }) ∷ []))
  fold_plus a b =
      ap (fold-Expr A B C D f g h k) (sym (rolls-Sum a (record { sign = Plus; expr = b } ∷ [])))
      ∙ fold-roll-Expr A B C D f g h k (layer.Sum a (record { sign = Plus; expr = b } ∷ []))
      ∙ ap (λ (x : D). f (layer.Sum (fold-Expr A B C D f g h k a) (x ∷ []))) (fold-roll-Operand A B C D f g h k (record { sign = Plus; expr = b }))

pub size_int : (n : ℤ) → size (V.Int n) ≡ 1
size_int n = ap size (sym (values.rolls-Int n)) ∙ fold-roll-Value ℕ size_step (Value-F.Int n)

-- `name = e`
abbrev pub cell : List ℕ → Expr → Cell
cell n e = record { name = Some n; body = body.Expr e }

-- an evaluation that gives a number
abbrev pub gives : ℕ → Evaluated
gives n = record { yields = []; cleanups = []; ending = Done (V.Int (pos n)) }

pub evaluates_int : (name : List ℕ) (n : ℕ) (inputs : List (Field Value)) → evaluation (cell name (expr.Int (pos n))) inputs [] 1 ≡ gives n
unfolding evaluation
evaluates_int name n inputs = rw (fold_int) (simp (size_int))

pub size_text : (t : List ℕ) → size (V.Text t) ≡ 1 + length t
size_text t = ap size (sym (values.rolls-Text t)) ∙ fold-roll-Value ℕ size_step (Value-F.Text t)

pub size_bool : (b : Bool) → size (V.Bool b) ≡ 1
size_bool b = ap size (sym (values.rolls-Bool b)) ∙ fold-roll-Value ℕ size_step (Value-F.Bool b)

pub size_null : size V.Null ≡ 1
size_null = ap size (sym values.rolls-Null) ∙ fold-roll-Value ℕ size_step Value-F.Null

pub size_list : (vs : List Value) → size (V.List vs) ≡ 1 + sum (map size vs)
size_list vs = ap size (sym (values.rolls-List vs)) ∙ fold-roll-Value ℕ size_step (Value-F.List vs)

pub size_rec : (fs : List (Field Value)) → size (V.Rec fs) ≡ 1 + sum_by (λ (f : Field ℕ). 1 + length f.name + f.value) (map (λ (f : Field Value). record { name = f.name; value = size f.value }) fs)
size_rec fs = ap size (sym (values.rolls-Rec fs)) ∙ fold-roll-Value ℕ size_step (Value-F.Rec fs)

pub size_pending : (v : ℕ) → entry_size (Pending v []) ≡ 11
unfolding entry_size
size_pending v = rw (size_list, size_text, size_int, size_list) refl

pub size_fulfilled : (v n : ℕ) → entry_size (Fulfilled v (V.Int (pos n))) ≡ 13
unfolding entry_size
size_fulfilled v n = rw (size_list, size_text) (simp size_int)

pub size_left : (v : ℕ) → entry_size (Left v []) ≡ 8
unfolding entry_size
size_left v = rw (size_list, size_text, size_int, size_list) refl

pub size_rejected : (v : ℕ) (kind : ErrorKind) (detail : List ℕ) → entry_size (Rejected v (record { kind = kind; detail = detail; via = None })) ≡ 14 + length (kind_name kind) + length detail
unfolding entry_size
size_rejected v kind detail = rw (size_list) (simp (size_text, size_int, size_null) (omega arith))

pub size_rejected_through : (v : ℕ) (kind : ErrorKind) (detail via : List ℕ)
    → entry_size (Rejected v (record { kind = kind; detail = detail; via = Some via })) ≡ 14 + length (kind_name kind) + length detail + length via
unfolding entry_size
size_rejected_through v kind detail via = rw (size_list) (simp (size_text, size_int) (omega arith))

pub size_add : (c : Cell) (b : Bool) → entry_size (Edit 0 (AddCell 0 c b)) ≡ 40 + length (cell_text c)
unfolding entry_size
size_add c b = rw (size_list) (simp (size_rec, size_text, size_int, size_bool) (omega arith))

pub size_define : (v : ℕ) (c : Cell) → entry_size (Edit 0 (Define v c)) ≡ 34 + length (cell_text c)
unfolding entry_size
size_define v c = rw (size_list) (simp (size_rec, size_text, size_int) (omega arith))
