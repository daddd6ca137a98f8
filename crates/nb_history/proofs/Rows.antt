-- Worked histories of small notebooks: the serial history of some edits, with an entry more asked for than there are.
use Rattle.std.specs.Prelude.{ℕ, pos, ◌≡◌, refl, true, false, List, [], ◌∷◌, map, Some, None, codes}
use Rattle.std.specs.Fmt.{take_chars, digits}
use Rattle.nb_value.specs.declared.pairs.Field.{Field}
use Rattle.nb_value.specs.declared.value.Value.TheVariants as V
use Rattle.nb_value.specs.declared.value.Value.TheViews as values
use Rattle.nb_value.specs.declared.outcome.ErrorKind.{ErrorKind}
use Rattle.nb_value.specs.declared.outcome.ErrorKind.TheVariants.{NotDefined, DefinedTwice, Circular, Overflow}
use Rattle.nb_syntax.specs.declared.tree.Expr.{Expr}
use Rattle.nb_syntax.specs.declared.tree.Expr.TheVariants as expr
use Rattle.nb_eval.specs.Evaluation.{Evaluated, evaluation}
use Rattle.nb_eval.specs.declared.given.Ending.TheVariants.{Failed}
use Rattle.nb_value.specs.declared.value.Value.{Value}
use Rattle.nb_sheet.specs.declared.edit.Edit.{Edit}
use Rattle.nb_sheet.specs.declared.edit.Edit.TheVariants.{AddCell, Define, Delete}
use Rattle.nb_log.specs.declared.event.Event.{Event}
use Rattle.nb_log.specs.declared.event.Event.TheVariants.{Edit as EditEvent}
use Rattle.nb_log.specs.declared.entry.Entry.{Entry}
use Rattle.nb_log.specs.declared.entry.Entry.TheVariants.{Edit as EditEntry, Pending, Fulfilled, Rejected, Left}
use Rattle.nb_resolve.specs.declared.resolution.Resolution.TheVariants.{Var, Twice, Missing}
use Rattle.nb_sheet.specs.Lists.{Name}
use Rattle.nb_history.specs.Log.{nothing_yet}
use Rattle.nb_history.specs.Serial.{serial_within}
use Rattle.nb_history.proofs.Cells.{plus, cell, gives, fold_int, fold_name, fold_plus, size_int, evaluates_int, size_add, size_rejected, size_rejected_through, size_pending, size_fulfilled}
use Rattle.nb_history.proofs.Walks.{Inputs, Walked, Phase, is_serial}

abbrev pub int : ℕ → Expr
int n = expr.Int (pos n)

abbrev pub var : Name → Expr
var n = expr.Name n

abbrev pub add : Name → Expr → Edit
add n e = AddCell 0 (cell n e) true

-- a cell that isn't observed
abbrev pub hide : Name → Expr → Edit
hide n e = AddCell 0 (cell n e) false

abbrev pub edited : Edit → Entry
edited e = EditEntry 0 e

abbrev lines : List Edit → List (ℕ × Event)
lines [] = []
lines (e ∷ es) = (0, EditEvent e) ∷ lines es

-- the first entries of the serial history of the edits, at most n
abbrev serial : ℕ → List Edit → List Entry
serial n edits = serial_within [] n (nothing_yet []) (record { lines = lines edits; answers = [] })

abbrev pub pend : ℕ → Entry
pend v = Pending v []

abbrev pub shows : ℕ → ℕ → Entry
shows v n = Fulfilled v (V.Int (pos n))

abbrev pub fails : ℕ → ErrorKind → Name → Entry
fails v kind detail = Rejected v (record { kind = kind; detail = detail; via = None })

abbrev fails_through : ℕ → ErrorKind → Name → Name → Entry
fails_through v kind detail via = Rejected v (record { kind = kind; detail = detail; via = Some via })

-- a step that evaluates nothing, and one whose evaluation gives a number
abbrev told : Entry → Walked
told e = (e, None)

abbrev given : ℕ → ℕ → Walked
given v n = (shows v n, Some (gives n))

-- an evaluation that fails
abbrev stops : ErrorKind → Name → Evaluated
stops kind detail = record { yields = []; cleanups = []; ending = Failed (record { kind = kind; detail = detail; via = None }) }

-- a variable's value, as an input
abbrev input : Name → ℕ → Field Value
input n k = record { name = n; value = V.Int (pos k) }

abbrev phase : Edit → List Inputs → List Walked → Phase
phase edit inputs_now steps =
    record {
      event = EditEvent edit;
      admitted = edited edit;
      disposed = false;
      refusal = None;
      inputs_now = inputs_now;
      generators_now = map (λ (is : Inputs). false) inputs_now;
      steps = steps;
    }

x_is_1_plus_2 : evaluation (cell (codes "x") (plus (int 1) (int 2))) [] [] 1 ≡ gives 3
unfolding evaluation
x_is_1_plus_2 = rw (fold_plus, fold_int, fold_int) (simp (size_int, values.outs-Int))

pub a_sum_shows_its_value : serial 4 (add (codes "x") (plus (int 1) (int 2)) ∷ [])
    ≡ edited (add (codes "x") (plus (int 1) (int 2))) ∷ pend 1 ∷ shows 1 3 ∷ []
a_sum_shows_its_value =
    is_serial []
    (phase (add (codes "x") (plus (int 1) (int 2))) ([] ∷ []) (told (pend 1) ∷ given 1 3 ∷ []) ∷ []) (
      refl,
      refl,
      refl,
      refl,
      refl,
      simp (fold_plus, fold_int),
      refl,
      (refl, tt, tt, refl, (refl, x_is_1_plus_2, x_is_1_plus_2, refl, tt)),
      refl,
    )

y_is_x_plus_1 : evaluation (cell (codes "y") (plus (var (codes "x")) (int 1))) (input (codes "x") 1 ∷ []) [] 1 ≡ gives 2
unfolding evaluation
y_is_x_plus_1 = rw (fold_plus, fold_name, fold_int) (simp (size_int, values.outs-Int))

pub a_name_waits_for_its_definition : serial 9 (add (codes "y") (plus (var (codes "x")) (int 1)) ∷ add (codes "x") (int 1) ∷ [])
    ≡ edited (add (codes "y") (plus (var (codes "x")) (int 1))) ∷ pend 1 ∷ fails 1 NotDefined (codes "x")
    ∷ edited (add (codes "x") (int 1)) ∷ pend 2 ∷ pend 1 ∷ shows 2 1 ∷ shows 1 2 ∷ []
unfolding take_chars digits
a_name_waits_for_its_definition =
    is_serial []
    (phase (add (codes "y") (plus (var (codes "x")) (int 1))) (((codes "x", Missing) ∷ []) ∷ []) (told (pend 1) ∷ told (fails 1 NotDefined (codes "x")) ∷ [])
    ∷ phase (add (codes "x") (int 1)) (((codes "x", Var 2) ∷ []) ∷ [] ∷ []) (told (pend 2) ∷ told (pend 1) ∷ given 2 1 ∷ given 1 2 ∷ []) ∷ []) (
      refl,
      refl,
      refl,
      refl,
      refl,
      simp (fold_plus, fold_int, fold_name),
      refl,
      (refl, tt, tt, refl, (refl, tt, tt, refl, tt)),
      (
        refl,
        refl,
        simp (size_add, size_pending, size_rejected, fold_plus, fold_int, fold_name),
        refl,
        refl,
        simp (fold_plus, fold_int, fold_name),
        refl,
        (refl, tt, tt, refl, (refl, tt, tt, refl, (refl, evaluates_int (codes "x") 1 [], evaluates_int (codes "x") 1 [], refl, (refl, y_is_x_plus_1, y_is_x_plus_1, refl, tt)))),
        refl,
      ),
    )

x_is_most_plus_1 : evaluation (cell (codes "x") (plus (int 9223372036854775807) (int 1))) [] [] 1 ≡ stops Overflow (codes "+")
unfolding evaluation
x_is_most_plus_1 = rw (fold_plus, fold_int, fold_int) (simp (size_int, values.outs-Int))

pub a_sum_past_the_greatest_integer_fails : serial 4 (add (codes "x") (plus (int 9223372036854775807) (int 1)) ∷ [])
    ≡ edited (add (codes "x") (plus (int 9223372036854775807) (int 1))) ∷ pend 1 ∷ fails 1 Overflow (codes "+") ∷ []
unfolding take_chars
a_sum_past_the_greatest_integer_fails =
    is_serial []
    (phase (add (codes "x") (plus (int 9223372036854775807) (int 1))) ([] ∷ [])
    (told (pend 1) ∷ (fails 1 Overflow (codes "+"), Some (stops Overflow (codes "+"))) ∷ []) ∷ []) (
      refl,
      refl,
      refl,
      refl,
      refl,
      simp (fold_plus, fold_int),
      refl,
      (refl, tt, tt, refl, (refl, x_is_most_plus_1, x_is_most_plus_1, refl, tt)),
      refl,
    )

x_is_nearly_most_plus_1 : evaluation (cell (codes "x") (plus (int 9223372036854775806) (int 1))) [] [] 1 ≡ gives 9223372036854775807
unfolding evaluation
x_is_nearly_most_plus_1 = rw (fold_plus, fold_int, fold_int) (simp (size_int, values.outs-Int))

pub a_sum_may_be_the_greatest_integer : serial 4 (add (codes "x") (plus (int 9223372036854775806) (int 1)) ∷ [])
    ≡ edited (add (codes "x") (plus (int 9223372036854775806) (int 1))) ∷ pend 1 ∷ shows 1 9223372036854775807 ∷ []
a_sum_may_be_the_greatest_integer =
    is_serial []
    (phase (add (codes "x") (plus (int 9223372036854775806) (int 1))) ([] ∷ []) (told (pend 1) ∷ given 1 9223372036854775807 ∷ []) ∷ []) (
      refl,
      refl,
      refl,
      refl,
      refl,
      simp (fold_plus, fold_int),
      refl,
      (refl, tt, tt, refl, (refl, x_is_nearly_most_plus_1, x_is_nearly_most_plus_1, refl, tt)),
      refl,
    )

pub a_name_defined_twice_fails_where_it_is_read : serial 12 (add (codes "x") (int 1)
    ∷ add (codes "x") (int 2)
    ∷ add (codes "y") (var (codes "x")) ∷ [])
    ≡ edited (add (codes "x") (int 1)) ∷ pend 1 ∷ shows 1 1
    ∷ edited (add (codes "x") (int 2)) ∷ pend 1 ∷ pend 2 ∷ fails 1 DefinedTwice (codes "x") ∷ fails 2 DefinedTwice (codes "x")
    ∷ edited (add (codes "y") (var (codes "x"))) ∷ pend 3 ∷ fails 3 DefinedTwice (codes "x") ∷ []
unfolding take_chars digits
a_name_defined_twice_fails_where_it_is_read =
    is_serial []
    (phase (add (codes "x") (int 1)) ([] ∷ []) (told (pend 1) ∷ given 1 1 ∷ [])
    ∷ phase (add (codes "x") (int 2)) ([] ∷ [] ∷ [])
    (told (pend 1) ∷ told (pend 2) ∷ told (fails 1 DefinedTwice (codes "x")) ∷ told (fails 2 DefinedTwice (codes "x")) ∷ [])
    ∷ phase (add (codes "y") (var (codes "x"))) ([] ∷ [] ∷ ((codes "x", Twice) ∷ []) ∷ [])
    (told (pend 3) ∷ told (fails 3 DefinedTwice (codes "x")) ∷ []) ∷ []) (
      refl,
      refl,
      refl,
      refl,
      refl,
      simp (fold_int),
      refl,
      (refl, tt, tt, refl, (refl, evaluates_int (codes "x") 1 [], evaluates_int (codes "x") 1 [], refl, tt)),
      (
        refl,
        refl,
        simp (size_add, size_pending, size_fulfilled, fold_int),
        refl,
        refl,
        refl,
        refl,
        (refl, tt, tt, refl, (refl, tt, tt, refl, (refl, tt, tt, refl, (refl, tt, tt, refl, tt)))),
        (
          refl,
          refl,
          simp (size_add, size_pending, size_fulfilled, size_rejected, fold_int),
          refl,
          refl,
          simp (fold_name),
          refl,
          (refl, tt, tt, refl, (refl, tt, tt, refl, tt)),
          refl,
        ),
      ),
    )

y_is_x : evaluation (cell (codes "y") (var (codes "x"))) (input (codes "x") 1 ∷ []) [] 1 ≡ gives 1
unfolding evaluation
y_is_x = rw (fold_name) (simp (size_int))

pub deleting_one_of_two_mends_the_other : serial 18 (add (codes "x") (int 1)
    ∷ add (codes "x") (int 2)
    ∷ add (codes "y") (var (codes "x"))
    ∷ Delete 2 ∷ [])
    ≡ edited (add (codes "x") (int 1)) ∷ pend 1 ∷ shows 1 1
    ∷ edited (add (codes "x") (int 2)) ∷ pend 1 ∷ pend 2 ∷ fails 1 DefinedTwice (codes "x") ∷ fails 2 DefinedTwice (codes "x")
    ∷ edited (add (codes "y") (var (codes "x"))) ∷ pend 3 ∷ fails 3 DefinedTwice (codes "x")
    ∷ edited (Delete 2) ∷ Left 2 [] ∷ pend 1 ∷ pend 3 ∷ shows 1 1 ∷ shows 3 1 ∷ []
unfolding take_chars digits
deleting_one_of_two_mends_the_other =
    is_serial []
    (phase (add (codes "x") (int 1)) ([] ∷ []) (told (pend 1) ∷ given 1 1 ∷ [])
    ∷ phase (add (codes "x") (int 2)) ([] ∷ [] ∷ [])
    (told (pend 1) ∷ told (pend 2) ∷ told (fails 1 DefinedTwice (codes "x")) ∷ told (fails 2 DefinedTwice (codes "x")) ∷ [])
    ∷ phase (add (codes "y") (var (codes "x"))) ([] ∷ [] ∷ ((codes "x", Twice) ∷ []) ∷ []) (told (pend 3) ∷ told (fails 3 DefinedTwice (codes "x")) ∷ [])
    ∷ phase (Delete 2) ([] ∷ [] ∷ ((codes "x", Var 1) ∷ []) ∷ []) (told (Left 2 []) ∷ told (pend 1) ∷ told (pend 3) ∷ given 1 1 ∷ given 3 1 ∷ []) ∷ []) (
      refl,
      refl,
      refl,
      refl,
      refl,
      simp (fold_int),
      refl,
      (refl, tt, tt, refl, (refl, evaluates_int (codes "x") 1 [], evaluates_int (codes "x") 1 [], refl, tt)),
      (
        refl,
        refl,
        simp (size_add, size_pending, size_fulfilled, fold_int),
        refl,
        refl,
        refl,
        refl,
        (refl, tt, tt, refl, (refl, tt, tt, refl, (refl, tt, tt, refl, (refl, tt, tt, refl, tt)))),
        (
          refl,
          refl,
          simp (size_add, size_pending, size_fulfilled, size_rejected, fold_int),
          refl,
          refl,
          simp (fold_name),
          refl,
          (refl, tt, tt, refl, (refl, tt, tt, refl, tt)),
          (
            refl,
            refl,
            simp (size_add, size_pending, size_fulfilled, size_rejected, fold_int, fold_name),
            refl,
            refl,
            simp (fold_int, fold_name),
            refl,
            (refl, tt, tt, refl, (refl, tt, tt, refl, (refl, tt, tt, refl, (refl, evaluates_int (codes "x") 1 [], evaluates_int (codes "x") 1 [], refl, (refl, y_is_x, y_is_x, refl, tt))))),
            refl,
          ),
        ),
      ),
    )

pub a_cell_that_reads_itself_is_circular : serial 4 (add (codes "x") (var (codes "x")) ∷ [])
    ≡ edited (add (codes "x") (var (codes "x"))) ∷ pend 1 ∷ fails 1 Circular (codes "x") ∷ []
unfolding take_chars
a_cell_that_reads_itself_is_circular =
    is_serial []
    (phase (add (codes "x") (var (codes "x"))) (((codes "x", Var 1) ∷ []) ∷ []) (told (pend 1) ∷ told (fails 1 Circular (codes "x")) ∷ []) ∷ []) (
      refl,
      refl,
      refl,
      refl,
      refl,
      simp (fold_name),
      refl,
      (refl, tt, tt, refl, (refl, tt, tt, refl, tt)),
      refl,
    )

a_is_b : evaluation (cell (codes "a") (var (codes "b"))) (input (codes "b") 1 ∷ []) [] 1 ≡ gives 1
unfolding evaluation
a_is_b = rw (fold_name) (simp (size_int))

c_is_a : evaluation (cell (codes "c") (var (codes "a"))) (input (codes "a") 1 ∷ []) [] 1 ≡ gives 1
unfolding evaluation
c_is_a = rw (fold_name) (simp (size_int))

pub a_cycle_is_mended_by_a_definition : serial 19 (add (codes "a") (var (codes "b"))
    ∷ add (codes "b") (var (codes "a"))
    ∷ add (codes "c") (var (codes "a"))
    ∷ Define 2 (cell (codes "b") (int 1)) ∷ [])
    ≡ edited (add (codes "a") (var (codes "b"))) ∷ pend 1 ∷ fails 1 NotDefined (codes "b")
    ∷ edited (add (codes "b") (var (codes "a"))) ∷ pend 1 ∷ pend 2 ∷ fails 1 Circular (codes "a") ∷ fails 2 Circular (codes "b")
    ∷ edited (add (codes "c") (var (codes "a"))) ∷ pend 3 ∷ fails_through 3 Circular (codes "a") (codes "a")
    ∷ edited (Define 2 (cell (codes "b") (int 1))) ∷ pend 2 ∷ pend 1 ∷ pend 3 ∷ shows 2 1 ∷ shows 1 1 ∷ shows 3 1 ∷ []
unfolding take_chars digits
a_cycle_is_mended_by_a_definition =
    is_serial []
    (phase (add (codes "a") (var (codes "b"))) (((codes "b", Missing) ∷ []) ∷ []) (told (pend 1) ∷ told (fails 1 NotDefined (codes "b")) ∷ [])
    ∷ phase (add (codes "b") (var (codes "a"))) (((codes "b", Var 2) ∷ []) ∷ ((codes "a", Var 1) ∷ []) ∷ [])
    (told (pend 1) ∷ told (pend 2) ∷ told (fails 1 Circular (codes "a")) ∷ told (fails 2 Circular (codes "b")) ∷ [])
    ∷ phase (add (codes "c") (var (codes "a"))) (((codes "b", Var 2) ∷ []) ∷ ((codes "a", Var 1) ∷ []) ∷ ((codes "a", Var 1) ∷ []) ∷ [])
    (told (pend 3) ∷ told (fails_through 3 Circular (codes "a") (codes "a")) ∷ [])
    ∷ phase (Define 2 (cell (codes "b") (int 1))) (((codes "b", Var 2) ∷ []) ∷ [] ∷ ((codes "a", Var 1) ∷ []) ∷ [])
    (told (pend 2) ∷ told (pend 1) ∷ told (pend 3) ∷ given 2 1 ∷ given 1 1 ∷ given 3 1 ∷ []) ∷ []) (
      refl,
      refl,
      refl,
      refl,
      refl,
      simp (fold_name),
      refl,
      (refl, tt, tt, refl, (refl, tt, tt, refl, tt)),
      (
        refl,
        refl,
        simp (size_add, size_pending, size_rejected, fold_name),
        refl,
        refl,
        simp (fold_name),
        refl,
        (refl, tt, tt, refl, (refl, tt, tt, refl, (refl, tt, tt, refl, (refl, tt, tt, refl, tt)))),
        (
          refl,
          refl,
          simp (size_add, size_pending, size_rejected, fold_name),
          refl,
          refl,
          simp (fold_name),
          refl,
          (refl, tt, tt, refl, (refl, tt, tt, refl, tt)),
          (
            refl,
            refl,
            simp (size_add, size_pending, size_rejected, size_rejected_through, fold_name),
            refl,
            refl,
            simp (fold_name, fold_int),
            refl,
            (refl, tt, tt, refl, (refl, tt, tt, refl, (refl, tt, tt, refl, (refl, evaluates_int (codes "b") 1 [], evaluates_int (codes "b") 1 [], refl, (refl, a_is_b, a_is_b, refl, (refl, c_is_a, c_is_a, refl, tt)))))),
            refl,
          ),
        ),
      ),
    )

b_is_a_plus_1 : evaluation (cell (codes "b") (plus (var (codes "a")) (int 1))) (input (codes "a") 1 ∷ []) [] 1 ≡ gives 2
unfolding evaluation
b_is_a_plus_1 = rw (fold_plus, fold_name, fold_int) (simp (size_int, values.outs-Int))

c_is_a_plus_2 : evaluation (cell (codes "c") (plus (var (codes "a")) (int 2))) (input (codes "a") 1 ∷ []) [] 1 ≡ gives 3
unfolding evaluation
c_is_a_plus_2 = rw (fold_plus, fold_name, fold_int) (simp (size_int, values.outs-Int))

d_is_b_plus_c : evaluation (cell (codes "d") (plus (var (codes "b")) (var (codes "c")))) (input (codes "b") 2 ∷ input (codes "c") 3 ∷ []) [] 1 ≡ gives 5
unfolding evaluation
d_is_b_plus_c = rw (fold_plus, fold_name, fold_name) (simp (size_int, values.outs-Int))

b_is_a_plus_1_again : evaluation (cell (codes "b") (plus (var (codes "a")) (int 1))) (input (codes "a") 10 ∷ []) [] 1 ≡ gives 11
unfolding evaluation
b_is_a_plus_1_again = rw (fold_plus, fold_name, fold_int) (simp (size_int, values.outs-Int))

c_is_a_plus_2_again : evaluation (cell (codes "c") (plus (var (codes "a")) (int 2))) (input (codes "a") 10 ∷ []) [] 1 ≡ gives 12
unfolding evaluation
c_is_a_plus_2_again = rw (fold_plus, fold_name, fold_int) (simp (size_int, values.outs-Int))

d_is_b_plus_c_again : evaluation (cell (codes "d") (plus (var (codes "b")) (var (codes "c")))) (input (codes "b") 11 ∷ input (codes "c") 12 ∷ []) [] 1 ≡ gives 23
unfolding evaluation
d_is_b_plus_c_again = rw (fold_plus, fold_name, fold_name) (simp (size_int, values.outs-Int))

-- a definition is passed on to each that rests on it, once
pub each_of_a_diamond_starts_once : serial 22 (add (codes "a") (int 1)
    ∷ add (codes "b") (plus (var (codes "a")) (int 1))
    ∷ add (codes "c") (plus (var (codes "a")) (int 2))
    ∷ add (codes "d") (plus (var (codes "b")) (var (codes "c")))
    ∷ Define 1 (cell (codes "a") (int 10)) ∷ [])
    ≡ edited (add (codes "a") (int 1)) ∷ pend 1 ∷ shows 1 1
    ∷ edited (add (codes "b") (plus (var (codes "a")) (int 1))) ∷ pend 2 ∷ shows 2 2
    ∷ edited (add (codes "c") (plus (var (codes "a")) (int 2))) ∷ pend 3 ∷ shows 3 3
    ∷ edited (add (codes "d") (plus (var (codes "b")) (var (codes "c")))) ∷ pend 4 ∷ shows 4 5
    ∷ edited (Define 1 (cell (codes "a") (int 10))) ∷ pend 1 ∷ pend 2 ∷ pend 3 ∷ pend 4 ∷ shows 1 10 ∷ shows 2 11 ∷ shows 3 12 ∷ shows 4 23 ∷ []
unfolding digits
each_of_a_diamond_starts_once =
    is_serial []
    (phase (add (codes "a") (int 1)) ([] ∷ []) (told (pend 1) ∷ given 1 1 ∷ [])
    ∷ phase (add (codes "b") (plus (var (codes "a")) (int 1))) ([] ∷ ((codes "a", Var 1) ∷ []) ∷ []) (told (pend 2) ∷ given 2 2 ∷ [])
    ∷ phase (add (codes "c") (plus (var (codes "a")) (int 2))) ([] ∷ ((codes "a", Var 1) ∷ []) ∷ ((codes "a", Var 1) ∷ []) ∷ [])
    (told (pend 3) ∷ given 3 3 ∷ [])
    ∷ phase (add (codes "d") (plus (var (codes "b")) (var (codes "c")))) ([] ∷ ((codes "a", Var 1) ∷ []) ∷ ((codes "a", Var 1) ∷ []) ∷ ((codes "b", Var 2) ∷ (codes "c", Var 3) ∷ []) ∷ [])
    (told (pend 4) ∷ given 4 5 ∷ [])
    ∷ phase (Define 1 (cell (codes "a") (int 10))) ([] ∷ ((codes "a", Var 1) ∷ []) ∷ ((codes "a", Var 1) ∷ []) ∷ ((codes "b", Var 2) ∷ (codes "c", Var 3) ∷ []) ∷ [])
    (told (pend 1) ∷ told (pend 2) ∷ told (pend 3) ∷ told (pend 4) ∷ given 1 10 ∷ given 2 11 ∷ given 3 12 ∷ given 4 23 ∷ []) ∷ []) (
      refl,
      refl,
      refl,
      refl,
      refl,
      simp (fold_int),
      refl,
      (refl, tt, tt, refl, (refl, evaluates_int (codes "a") 1 [], evaluates_int (codes "a") 1 [], refl, tt)),
      (
        refl,
        refl,
        simp (size_add, size_pending, size_fulfilled, fold_int),
        refl,
        refl,
        simp (fold_plus, fold_int, fold_name),
        refl,
        (refl, tt, tt, refl, (refl, b_is_a_plus_1, b_is_a_plus_1, refl, tt)),
        (
          refl,
          refl,
          simp (size_add, size_pending, size_fulfilled, fold_plus, fold_int, fold_name),
          refl,
          refl,
          simp (fold_plus, fold_int, fold_name),
          refl,
          (refl, tt, tt, refl, (refl, c_is_a_plus_2, c_is_a_plus_2, refl, tt)),
          (
            refl,
            refl,
            simp (size_add, size_pending, size_fulfilled, fold_plus, fold_int, fold_name),
            refl,
            refl,
            simp (fold_plus, fold_int, fold_name),
            refl,
            (refl, tt, tt, refl, (refl, d_is_b_plus_c, d_is_b_plus_c, refl, tt)),
            (
              refl,
              refl,
              simp (size_add, size_pending, size_fulfilled, fold_plus, fold_int, fold_name),
              refl,
              refl,
              simp (fold_plus, fold_int, fold_name),
              refl,
              (refl, tt, tt, refl, (refl, tt, tt, refl, (refl, tt, tt, refl, (refl, tt, tt, refl, (refl, evaluates_int (codes "a") 10 [], evaluates_int (codes "a") 10 [], refl, (refl, b_is_a_plus_1_again, b_is_a_plus_1_again, refl, (refl, c_is_a_plus_2_again, c_is_a_plus_2_again, refl, (refl, d_is_b_plus_c_again, d_is_b_plus_c_again, refl, tt)))))))),
              refl,
            ),
          ),
        ),
      ),
    )

b_is_a : evaluation (cell (codes "b") (var (codes "a"))) (input (codes "a") 1 ∷ []) [] 1 ≡ gives 1
unfolding evaluation
b_is_a = rw (fold_name) (simp (size_int))

pub a_hidden_cell_runs_while_it_is_read : serial 11 (hide (codes "a") (int 1)
    ∷ add (codes "b") (var (codes "a"))
    ∷ Define 2 (cell (codes "b") (int 5)) ∷ [])
    ≡ edited (hide (codes "a") (int 1))
    ∷ edited (add (codes "b") (var (codes "a"))) ∷ pend 1 ∷ pend 2 ∷ shows 1 1 ∷ shows 2 1
    ∷ edited (Define 2 (cell (codes "b") (int 5))) ∷ Left 1 [] ∷ pend 2 ∷ shows 2 5 ∷ []
unfolding digits
a_hidden_cell_runs_while_it_is_read =
    is_serial []
    (phase (hide (codes "a") (int 1)) ([] ∷ []) ([])
    ∷ phase (add (codes "b") (var (codes "a"))) ([] ∷ ((codes "a", Var 1) ∷ []) ∷ []) (told (pend 1) ∷ told (pend 2) ∷ given 1 1 ∷ given 2 1 ∷ [])
    ∷ phase (Define 2 (cell (codes "b") (int 5))) ([] ∷ [] ∷ []) (told (Left 1 []) ∷ told (pend 2) ∷ given 2 5 ∷ []) ∷ []) (
      refl,
      refl,
      refl,
      refl,
      refl,
      simp (fold_int),
      refl,
      tt,
      (
        refl,
        refl,
        simp (size_add, fold_int),
        refl,
        refl,
        simp (fold_int, fold_name),
        refl,
        (refl, tt, tt, refl, (refl, tt, tt, refl, (refl, evaluates_int (codes "a") 1 [], evaluates_int (codes "a") 1 [], refl, (refl, b_is_a, b_is_a, refl, tt)))),
        (
          refl,
          refl,
          simp (size_add, size_pending, size_fulfilled, fold_int, fold_name),
          refl,
          refl,
          simp (fold_int),
          refl,
          (refl, tt, tt, refl, (refl, tt, tt, refl, (refl, evaluates_int (codes "b") 5 [], evaluates_int (codes "b") 5 [], refl, tt))),
          refl,
        ),
      ),
    )
