-- Worked histories with frames, fetches and cleanups.
use Rattle.std.specs.Prelude.{ℕ, pos, ◌≡◌, refl, ◌||◌, Ok, Err, Bool, true, false, List, [], ◌∷◌, map, Some, None, codes}
use Rattle.std.specs.Fmt.{digits}
use Rattle.nb_value.specs.declared.pairs.Field.{Field}
use Rattle.nb_value.specs.declared.value.Value.{Value}
use Rattle.nb_value.specs.declared.value.Value.TheVariants as V
use Rattle.nb_value.specs.declared.value.Value.TheViews as values
use Rattle.nb_value.specs.declared.outcome.Answer.{Answer}
use Rattle.nb_value.specs.declared.outcome.Answer.TheVariants.{Value as Given}
use Rattle.nb_syntax.specs.declared.tree.Expr.{Expr}
use Rattle.nb_syntax.specs.declared.tree.Expr.TheVariants as expr
use Rattle.nb_syntax.specs.declared.tree.Stmt.{Stmt}
use Rattle.nb_syntax.specs.declared.tree.Stmt.TheVariants as stmt
use Rattle.nb_eval.specs.declared.given.Segment.{Segment}
use Rattle.nb_eval.specs.declared.state.State.{State}
use Rattle.nb_eval.specs.declared.stop.Stop.TheVariants.{Paused as Pauses, Needs as NeedsKey, Done as Ends}
use Rattle.nb_eval.specs.Run.{Out, ◌>>=◌, ◌>>◌, after, stop, tick, yielded, cleaned, start_state}
use Rattle.nb_eval.specs.Evaluation.{Evaluated, Did, Acts, evaluation, fetch, quoted, act, stmt_step, arm_step, block_step, expr_step, path_step, member_step, operand_step, in_order}
use Rattle.nb_syntax.specs.Generator as generator
use Rattle.nb_syntax.specs.Generator.{some_yield, stmt_yields}
use Rattle.std.proofs.Common.{ap, ◌∙◌}
use Rattle.nb_eval.specs.declared.given.Ending.{Ending}
use Rattle.nb_eval.specs.declared.given.Ending.TheVariants.{Paused, Needs, Done}
use Rattle.nb_sheet.specs.declared.edit.Edit.{Edit}
use Rattle.nb_sheet.specs.declared.edit.Edit.TheVariants.{AddCell, Define}
use Rattle.nb_log.specs.declared.event.Event.{Event}
use Rattle.nb_log.specs.declared.event.Event.TheVariants.{Edit as EditEvent, Frame as FrameEvent, Settle, Rest as RestEvent, Dispose as DisposeEvent}
use Rattle.nb_log.specs.declared.event.Target.TheVariants.{Ticket, Key}
use Rattle.nb_log.specs.declared.entry.Refusal.{Refusal}
use Rattle.nb_log.specs.declared.entry.Refusal.TheVariants.{Disposed, NoTicket, AlreadySettled}
use Rattle.nb_log.specs.declared.entry.Entry.{Entry}
use Rattle.nb_log.specs.declared.entry.Entry.TheVariants.{Frame, Settled, Late, Refused, Rest, Dispose, Pending, Asked, Ended, Left}
use Rattle.nb_resolve.specs.declared.resolution.Resolution.TheVariants.{Var}
use Rattle.nb_sheet.specs.Lists.{Name}
use Rattle.nb_history.specs.Log.{nothing_yet}
use Rattle.nb_history.specs.Serial.{serial_within}
use Rattle.nb_history.proofs.Cells.{plus, cell, gives, fold_int, fold_name, fold_plus, size_int, size_text, evaluates_int, size_add, size_define, size_pending, size_fulfilled, size_left}
use Rattle.nb_history.proofs.Blocks.{fold_yield, fold_return, fold_cleanup, fold_block, fold_quoted, fold_fetch, block_cell, segment, block_ends, evaluates_block, int_step, yields_int, int_yields, evaluates_ints, yields_true, size_frame, size_ended, size_rest, size_dispose, size_late, size_asked, size_pending_of, size_left_of, size_refused_settle}
use Rattle.nb_history.proofs.Rows.{int, var, add, edited, pend, shows}
use Rattle.nb_history.proofs.Walks.{Inputs, Walked, Phase, is_serial}

abbrev yield : Expr → Stmt
yield e = stmt.Yield e

abbrev add_block : Name → List Stmt → Edit
add_block n ss = AddCell 0 (block_cell n ss) true

abbrev serial : ℕ → List Event → List Entry
serial n events = serial_within [] n (nothing_yet []) (record { lines = map (λ (e : Event). (0, e)) events; answers = [] })

abbrev pub frame : Entry
frame = Frame 0

-- what an evaluation yields, and its end
abbrev pub yields : List ℕ → Ending → Evaluated
yields ns end = record { yields = map (λ (n : ℕ). V.Int (pos n)) ns; cleanups = []; ending = end }

abbrev pub told : Entry → Walked
told e = (e, None)

abbrev pub given : Entry → Evaluated → Walked
given e end = (e, Some end)

abbrev input : Name → ℕ → Field Value
input n k = record { name = n; value = V.Int (pos k) }

-- an event that isn't refused
abbrev phase : Event → Entry → List Inputs → List Bool → List Walked → Phase
phase event entry inputs generators steps =
    record {
      event = event;
      admitted = entry;
      disposed = false;
      refusal = None;
      inputs_now = inputs;
      generators_now = generators;
      steps = steps;
    }

abbrev pub edit_phase : Edit → List Inputs → List Bool → List Walked → Phase
edit_phase edit inputs generators steps = phase (EditEvent edit) (edited edit) inputs generators steps

abbrev frame_phase : List Inputs → List Bool → List Walked → Phase
frame_phase inputs generators steps = phase FrameEvent frame inputs generators steps

-- ---- two generators that one cell needs

abbrev a_cell : Edit
a_cell = add_block (codes "a") (int_yields (1 ∷ 2 ∷ []))

abbrev b_cell : Edit
b_cell = add_block (codes "b") (int_yields (10 ∷ 20 ∷ []))

a_at_1 : evaluation (block_cell (codes "a") (int_yields (1 ∷ 2 ∷ []))) [] [] 1 ≡ yields (1 ∷ []) Paused
a_at_1 = evaluates_ints (codes "a") 1 (2 ∷ []) 1

a_at_2 : evaluation (block_cell (codes "a") (int_yields (1 ∷ 2 ∷ []))) [] [] 2 ≡ yields (1 ∷ 2 ∷ []) Paused
a_at_2 = evaluates_ints (codes "a") 1 (2 ∷ []) 2

b_at_1 : evaluation (block_cell (codes "b") (int_yields (10 ∷ 20 ∷ []))) [] [] 1 ≡ yields (10 ∷ []) Paused
b_at_1 = evaluates_ints (codes "b") 10 (20 ∷ []) 1

b_at_2 : evaluation (block_cell (codes "b") (int_yields (10 ∷ 20 ∷ []))) [] [] 2 ≡ yields (10 ∷ 20 ∷ []) Paused
b_at_2 = evaluates_ints (codes "b") 10 (20 ∷ []) 2

h_is_11 : evaluation (cell (codes "h") (plus (var (codes "a")) (var (codes "b")))) (input (codes "a") 1 ∷ input (codes "b") 10 ∷ []) [] 1 ≡ gives 11
unfolding evaluation
h_is_11 = rw (fold_plus, fold_name, fold_name) (simp (size_int, values.outs-Int))

h_is_22 : evaluation (cell (codes "h") (plus (var (codes "a")) (var (codes "b")))) (input (codes "a") 2 ∷ input (codes "b") 20 ∷ []) [] 1 ≡ gives 22
unfolding evaluation
h_is_22 = rw (fold_plus, fold_name, fold_name) (simp (size_int, values.outs-Int))

abbrev h_cell : Edit
h_cell = add (codes "h") (plus (var (codes "a")) (var (codes "b")))

abbrev needs_both : Inputs
needs_both = (codes "a", Var 1) ∷ (codes "b", Var 2) ∷ []

-- a frame that pulls two generators starts a cell that needs both once, when both are done
pub a_frame_starts_a_cell_once : serial 15 (EditEvent a_cell ∷ EditEvent b_cell ∷ EditEvent h_cell ∷ FrameEvent ∷ [])
    ≡ edited a_cell ∷ pend 1 ∷ shows 1 1
    ∷ edited b_cell ∷ pend 2 ∷ shows 2 10
    ∷ edited h_cell ∷ pend 3 ∷ shows 3 11
    ∷ frame ∷ shows 1 2 ∷ shows 2 20 ∷ pend 3 ∷ shows 3 22 ∷ []
unfolding digits
a_frame_starts_a_cell_once =
    is_serial []
    (edit_phase a_cell ([] ∷ []) (true ∷ []) (told (pend 1) ∷ given (shows 1 1) (yields (1 ∷ []) Paused) ∷ [])
    ∷ edit_phase b_cell ([] ∷ [] ∷ []) (true ∷ true ∷ []) (told (pend 2) ∷ given (shows 2 10) (yields (10 ∷ []) Paused) ∷ [])
    ∷ edit_phase h_cell ([] ∷ [] ∷ needs_both ∷ []) (true ∷ true ∷ false ∷ []) (told (pend 3) ∷ given (shows 3 11) (gives 11) ∷ [])
    ∷ frame_phase ([] ∷ [] ∷ needs_both ∷ []) (true ∷ true ∷ false ∷ [])
    (given (shows 1 2) (yields (1 ∷ 2 ∷ []) Paused) ∷ given (shows 2 20) (yields (10 ∷ 20 ∷ []) Paused) ∷ told (pend 3) ∷ given (shows 3 22) (gives 22) ∷ []) ∷ []) (
      refl,
      refl,
      refl,
      refl,
      refl,
      simp (fold_block, fold_yield, fold_int),
      simp (fold_block, fold_yield),
      (refl, tt, tt, refl, (refl, a_at_1, a_at_1, refl, tt)),
      (
        refl,
        refl,
        simp (size_add, size_pending, size_fulfilled, fold_block, fold_yield, fold_int),
        refl,
        refl,
        simp (fold_block, fold_yield, fold_int),
        simp (fold_block, fold_yield),
        (refl, tt, tt, refl, (refl, b_at_1, b_at_1, refl, tt)),
        (
          refl,
          refl,
          simp (size_add, size_pending, size_fulfilled, fold_block, fold_yield, fold_int),
          refl,
          refl,
          simp (fold_block, fold_yield, fold_int, fold_plus, fold_name),
          simp (fold_block, fold_yield),
          (refl, tt, tt, refl, (refl, h_is_11, h_is_11, refl, tt)),
          (
            refl,
            refl,
            simp (size_add, size_pending, size_fulfilled, fold_block, fold_yield, fold_int, fold_plus, fold_name),
            refl,
            refl,
            simp (fold_block, fold_yield, fold_int, fold_plus, fold_name),
            simp (fold_block, fold_yield),
            (refl, a_at_2, a_at_2, refl, (refl, b_at_2, b_at_2, refl, (refl, tt, tt, refl, (refl, h_is_22, h_is_22, refl, tt)))),
            refl,
          ),
        ),
      ),
    )

-- ---- a generator that reads another

abbrev g_block : List Stmt
g_block = yield (var (codes "a")) ∷ yield (plus (var (codes "a")) (int 10)) ∷ []

abbrev g_cell : Edit
g_cell = add_block (codes "g") g_block

abbrev paused_with : ℕ → State
paused_with k = record { fuel = 999997; charges = 2; locals = []; taken = 0; fetches = 0; yields = V.Int (pos k) ∷ []; cleanups = [] }

-- its first yield, where a is this
g_first : (k : ℕ) → act (segment (codes "g") g_block (input (codes "a") k ∷ []) [] 1) (yield (var (codes "a"))) start_state ≡ (Err Pauses, paused_with k)
g_first k =
    let s : Segment = segment (codes "g") g_block (input (codes "a") k ∷ []) [] 1 in
    ap (λ (f : Acts). f start_state) (fold_yield (stmt_step s) (arm_step s) (block_step s) (var (codes "a")))
    ∙ ap (λ (d : Did). (tick >> d >>= yielded s) start_state) (fold_name (expr_step s) (path_step s) (member_step s) (operand_step s) (codes "a"))
    ∙ rw (size_int) (rw (size_int) refl)

g_gives : (k : ℕ) → evaluation (block_cell (codes "g") g_block) (input (codes "a") k ∷ []) [] 1 ≡ yields (k ∷ []) Paused
g_gives k =
    let s : Segment = segment (codes "g") g_block (input (codes "a") k ∷ []) [] 1 in
    let second : Stmt = yield (plus (var (codes "a")) (int 10)) in
    evaluates_block (codes "g") g_block (input (codes "a") k ∷ []) [] 1 (Err Pauses, paused_with k) (ap (λ (o : Out (Unit {0})). after o.0 o.1 (λ _. in_order (act s second ∷ []))) (g_first k))
    ∙ ap (λ (b : Bool). block_ends (b || some_yield (stmt_yields second ∷ [])) (Err Pauses, paused_with k)) (yields_true (var (codes "a")))

-- its own pull goes for nothing: it starts anew when the others are done
pub a_pulled_reader_starts_anew : serial 15 (EditEvent a_cell ∷ EditEvent g_cell ∷ EditEvent b_cell ∷ FrameEvent ∷ [])
    ≡ edited a_cell ∷ pend 1 ∷ shows 1 1
    ∷ edited g_cell ∷ pend 2 ∷ shows 2 1
    ∷ edited b_cell ∷ pend 3 ∷ shows 3 10
    ∷ frame ∷ shows 1 2 ∷ shows 3 20 ∷ pend 2 ∷ shows 2 2 ∷ []
unfolding digits
a_pulled_reader_starts_anew =
    is_serial []
    (edit_phase a_cell ([] ∷ []) (true ∷ []) (told (pend 1) ∷ given (shows 1 1) (yields (1 ∷ []) Paused) ∷ [])
    ∷ edit_phase g_cell ([] ∷ ((codes "a", Var 1) ∷ []) ∷ []) (true ∷ true ∷ []) (told (pend 2) ∷ given (shows 2 1) (yields (1 ∷ []) Paused) ∷ [])
    ∷ edit_phase b_cell ([] ∷ ((codes "a", Var 1) ∷ []) ∷ [] ∷ []) (true ∷ true ∷ true ∷ []) (told (pend 3) ∷ given (shows 3 10) (yields (10 ∷ []) Paused) ∷ [])
    ∷ frame_phase ([] ∷ ((codes "a", Var 1) ∷ []) ∷ [] ∷ []) (true ∷ true ∷ true ∷ [])
    (given (shows 1 2) (yields (1 ∷ 2 ∷ []) Paused) ∷ given (shows 3 20) (yields (10 ∷ 20 ∷ []) Paused) ∷ told (pend 2) ∷ given (shows 2 2) (yields (2 ∷ []) Paused) ∷ []) ∷ []) (
      refl,
      refl,
      refl,
      refl,
      refl,
      simp (fold_block, fold_yield, fold_int),
      simp (fold_block, fold_yield),
      (refl, tt, tt, refl, (refl, a_at_1, a_at_1, refl, tt)),
      (
        refl,
        refl,
        simp (size_add, size_pending, size_fulfilled, fold_block, fold_yield, fold_int),
        refl,
        refl,
        simp (fold_block, fold_yield, fold_int, fold_plus, fold_name),
        simp (fold_block, fold_yield),
        (refl, tt, tt, refl, (refl, g_gives 1, g_gives 1, refl, tt)),
        (
          refl,
          refl,
          simp (size_add, size_pending, size_fulfilled, fold_block, fold_yield, fold_int, fold_plus, fold_name),
          refl,
          refl,
          simp (fold_block, fold_yield, fold_int, fold_plus, fold_name),
          simp (fold_block, fold_yield),
          (refl, tt, tt, refl, (refl, b_at_1, b_at_1, refl, tt)),
          (
            refl,
            refl,
            simp (size_add, size_pending, size_fulfilled, fold_block, fold_yield, fold_int, fold_plus, fold_name),
            refl,
            refl,
            simp (fold_block, fold_yield, fold_int, fold_plus, fold_name),
            simp (fold_block, fold_yield),
            (refl, a_at_2, a_at_2, refl, (refl, b_at_2, b_at_2, refl, (refl, tt, tt, refl, (refl, g_gives 2, g_gives 2, refl, tt)))),
            refl,
          ),
        ),
      ),
    )

-- ---- a generator to its end

abbrev three : Edit
three = add_block (codes "g") (int_yields (1 ∷ 2 ∷ 3 ∷ []))

three_at_1 : evaluation (block_cell (codes "g") (int_yields (1 ∷ 2 ∷ 3 ∷ []))) [] [] 1 ≡ yields (1 ∷ []) Paused
three_at_1 = evaluates_ints (codes "g") 1 (2 ∷ 3 ∷ []) 1

three_at_2 : evaluation (block_cell (codes "g") (int_yields (1 ∷ 2 ∷ 3 ∷ []))) [] [] 2 ≡ yields (1 ∷ 2 ∷ []) Paused
three_at_2 = evaluates_ints (codes "g") 1 (2 ∷ 3 ∷ []) 2

three_at_3 : evaluation (block_cell (codes "g") (int_yields (1 ∷ 2 ∷ 3 ∷ []))) [] [] 3 ≡ yields (1 ∷ 2 ∷ 3 ∷ []) Paused
three_at_3 = evaluates_ints (codes "g") 1 (2 ∷ 3 ∷ []) 3

three_at_4 : evaluation (block_cell (codes "g") (int_yields (1 ∷ 2 ∷ 3 ∷ []))) [] [] 4 ≡ yields (1 ∷ 2 ∷ 3 ∷ []) (Done V.Null)
three_at_4 = evaluates_ints (codes "g") 1 (2 ∷ 3 ∷ []) 4

pub a_generator_ends_at_a_frame : serial 12 (EditEvent three ∷ FrameEvent ∷ FrameEvent ∷ FrameEvent ∷ FrameEvent ∷ FrameEvent ∷ [])
    ≡ edited three ∷ pend 1 ∷ shows 1 1 ∷ frame ∷ shows 1 2 ∷ frame ∷ shows 1 3 ∷ frame ∷ Ended 1 ∷ frame ∷ frame ∷ []
unfolding digits
a_generator_ends_at_a_frame =
    is_serial []
    (edit_phase three ([] ∷ []) (true ∷ []) (told (pend 1) ∷ given (shows 1 1) (yields (1 ∷ []) Paused) ∷ [])
    ∷ frame_phase ([] ∷ []) (true ∷ []) (given (shows 1 2) (yields (1 ∷ 2 ∷ []) Paused) ∷ [])
    ∷ frame_phase ([] ∷ []) (true ∷ []) (given (shows 1 3) (yields (1 ∷ 2 ∷ 3 ∷ []) Paused) ∷ [])
    ∷ frame_phase ([] ∷ []) (true ∷ []) (given (Ended 1) (yields (1 ∷ 2 ∷ 3 ∷ []) (Done V.Null)) ∷ [])
    ∷ frame_phase ([] ∷ []) (true ∷ []) []
    ∷ frame_phase ([] ∷ []) (true ∷ []) [] ∷ []) (
      refl,
      refl,
      refl,
      refl,
      refl,
      simp (fold_block, fold_yield, fold_int),
      simp (fold_block, fold_yield),
      (refl, tt, tt, refl, (refl, three_at_1, three_at_1, refl, tt)),
      (
        refl,
        refl,
        simp (size_add, size_pending, size_fulfilled, fold_block, fold_yield, fold_int),
        refl,
        refl,
        simp (fold_block, fold_yield, fold_int),
        simp (fold_block, fold_yield),
        (refl, three_at_2, three_at_2, refl, tt),
        (
          refl,
          refl,
          simp (size_add, size_pending, size_fulfilled, size_frame, fold_block, fold_yield, fold_int),
          refl,
          refl,
          simp (fold_block, fold_yield, fold_int),
          simp (fold_block, fold_yield),
          (refl, three_at_3, three_at_3, refl, tt),
          (
            refl,
            refl,
            simp (size_add, size_pending, size_fulfilled, size_frame, fold_block, fold_yield, fold_int),
            refl,
            refl,
            simp (fold_block, fold_yield, fold_int),
            simp (fold_block, fold_yield),
            (refl, three_at_4, three_at_4, refl, tt),
            (
              refl,
              refl,
              simp (size_add, size_pending, size_fulfilled, size_frame, size_ended, fold_block, fold_yield, fold_int),
              refl,
              refl,
              simp (fold_block, fold_yield, fold_int),
              simp (fold_block, fold_yield),
              tt,
              (
                refl,
                refl,
                simp (size_add, size_pending, size_fulfilled, size_frame, size_ended, fold_block, fold_yield, fold_int),
                refl,
                refl,
                simp (fold_block, fold_yield, fold_int),
                simp (fold_block, fold_yield),
                tt,
                refl,
              ),
            ),
          ),
        ),
      ),
    )

-- ---- fetches

abbrev fetch_k : Expr
fetch_k = expr.Fetch (expr.Quoted (codes "k"))

abbrev pub x_cell : Edit
x_cell = add (codes "x") fetch_k

abbrev pub asks : Entry
asks = Asked 1 1 (codes "k")

abbrev pub answer : ℕ → Answer
answer n = Given (V.Int (pos n))

pub x_asks : evaluation (cell (codes "x") fetch_k) [] [] 1 ≡ yields [] (Needs (codes "k"))
unfolding evaluation
x_asks = rw (fold_fetch, fold_quoted) (simp (size_text, values.outs-Text))

pub x_is_5 : evaluation (cell (codes "x") fetch_k) [] (answer 5 ∷ []) 1 ≡ gives 5
unfolding evaluation
x_is_5 = rw (fold_fetch, fold_quoted) (simp (size_text, size_int, values.outs-Text))

pub an_answer_by_key_settles : serial 7 (EditEvent x_cell ∷ RestEvent ∷ Settle (Key (codes "k")) (answer 5) ∷ [])
    ≡ edited x_cell ∷ pend 1 ∷ asks ∷ Rest 0 ∷ Settled 0 1 (answer 5) ∷ shows 1 5 ∷ []
unfolding digits
an_answer_by_key_settles =
    is_serial []
    (edit_phase x_cell ([] ∷ []) (false ∷ []) (told (pend 1) ∷ given asks (yields [] (Needs (codes "k"))) ∷ [])
    ∷ phase RestEvent (Rest 0) ([] ∷ []) (false ∷ []) []
    ∷ phase (Settle (Key (codes "k")) (answer 5)) (Settled 0 1 (answer 5)) ([] ∷ []) (false ∷ []) (given (shows 1 5) (gives 5) ∷ []) ∷ []) (
      refl,
      refl,
      refl,
      refl,
      refl,
      simp (fold_fetch, fold_quoted),
      refl,
      (refl, tt, tt, refl, (refl, x_asks, x_asks, refl, tt)),
      (
        refl,
        refl,
        simp (size_add, size_pending, size_asked, fold_fetch, fold_quoted),
        refl,
        refl,
        simp (fold_fetch, fold_quoted),
        refl,
        tt,
        (
          refl,
          refl,
          simp (size_add, size_pending, size_asked, size_rest, fold_fetch, fold_quoted),
          refl,
          refl,
          simp (fold_fetch, fold_quoted),
          refl,
          (refl, x_is_5, x_is_5, refl, tt),
          refl,
        ),
      ),
    )

-- a settlement that is refused
abbrev refused_settle : ℕ → ℕ → Refusal → Phase
refused_settle t n reason =
    record {
      event = Settle (Ticket t) (answer n);
      admitted = Late 0 t;
      disposed = false;
      refusal = Some reason;
      inputs_now = [] ∷ [];
      generators_now = false ∷ [];
      steps = [];
    }

abbrev x_again : Edit
x_again = Define 1 (cell (codes "x") (int 2))

pub an_answer_to_an_old_start_is_late : serial 10 (EditEvent x_cell
    ∷ EditEvent x_again
    ∷ Settle (Ticket 1) (answer 5)
    ∷ Settle (Ticket 1) (answer 6)
    ∷ Settle (Ticket 9) (answer 1) ∷ [])
    ≡ edited x_cell ∷ pend 1 ∷ asks
    ∷ edited x_again ∷ pend 1 ∷ shows 1 2
    ∷ Late 0 1
    ∷ Refused 0 AlreadySettled (Settle (Ticket 1) (answer 6))
    ∷ Refused 0 NoTicket (Settle (Ticket 9) (answer 1)) ∷ []
unfolding digits
an_answer_to_an_old_start_is_late =
    is_serial []
    (edit_phase x_cell ([] ∷ []) (false ∷ []) (told (pend 1) ∷ given asks (yields [] (Needs (codes "k"))) ∷ [])
    ∷ edit_phase x_again ([] ∷ []) (false ∷ []) (told (pend 1) ∷ given (shows 1 2) (gives 2) ∷ [])
    ∷ phase (Settle (Ticket 1) (answer 5)) (Late 0 1) ([] ∷ []) (false ∷ []) []
    ∷ refused_settle 1 6 AlreadySettled
    ∷ refused_settle 9 1 NoTicket ∷ []) (
      refl,
      refl,
      refl,
      refl,
      refl,
      simp (fold_fetch, fold_quoted),
      refl,
      (refl, tt, tt, refl, (refl, x_asks, x_asks, refl, tt)),
      (
        refl,
        refl,
        simp (size_add, size_pending, size_asked, fold_fetch, fold_quoted),
        refl,
        refl,
        simp (fold_int),
        refl,
        (refl, tt, tt, refl, (refl, evaluates_int (codes "x") 2 [], evaluates_int (codes "x") 2 [], refl, tt)),
        (
          refl,
          refl,
          simp (size_add, size_define, size_pending, size_fulfilled, size_asked, fold_fetch, fold_quoted, fold_int),
          refl,
          refl,
          simp (fold_int),
          refl,
          tt,
          (
            refl,
            refl,
            simp (size_add, size_define, size_pending, size_fulfilled, size_asked, size_late, fold_fetch, fold_quoted, fold_int),
            refl,
            refl,
            simp (fold_int),
            refl,
            tt,
            (
              refl,
              refl,
              simp (size_add, size_define, size_pending, size_fulfilled, size_asked, size_late, size_refused_settle, fold_fetch, fold_quoted, fold_int),
              refl,
              refl,
              simp (fold_int),
              refl,
              tt,
              refl,
            ),
          ),
        ),
      ),
    )

-- ---- a generator that fetches

abbrev fetching : List Stmt
fetching = yield (int 1) ∷ yield fetch_k ∷ []

abbrev fetching_cell : Edit
fetching_cell = add_block (codes "g") fetching

abbrev fetching_at : List Answer → ℕ → Segment
fetching_at answers pulls = segment (codes "g") fetching [] answers pulls

fetching_comes : (answers : List Answer) (pulls : ℕ) (o : Out (Unit {0}))
    → in_order (int_step (fetching_at answers pulls) 1 ∷ act (fetching_at answers pulls) (yield fetch_k) ∷ []) start_state ≡ o
    → evaluation (block_cell (codes "g") fetching) [] answers pulls ≡ block_ends true o
fetching_comes answers pulls o h =
    let s : Segment = fetching_at answers pulls in
    evaluates_block (codes "g") fetching [] answers pulls o (ap (λ (x : Acts). in_order (x ∷ act s (yield fetch_k) ∷ []) start_state) (yields_int s 1) ∙ h)
    ∙ ap (λ (b : Bool). block_ends (b || some_yield (stmt_yields (yield fetch_k) ∷ [])) o) (yields_true (int 1))

fetching_at_1 : evaluation (block_cell (codes "g") fetching) [] [] 1 ≡ yields (1 ∷ []) Paused
fetching_at_1 = fetching_comes [] 1 (Err Pauses, record { fuel = 999997; charges = 2; locals = []; taken = 0; fetches = 0; yields = V.Int (pos 1) ∷ []; cleanups = [] }) refl

-- past the first yield
abbrev past_one : State
past_one = record { fuel = 1000000; charges = 2; locals = []; taken = 0; fetches = 0; yields = V.Int (pos 1) ∷ []; cleanups = [] }

fetch_is : (s : Segment) → act s (yield fetch_k) past_one ≡ (tick >> fetch s (quoted (codes "k")) >>= yielded s) past_one
fetch_is s =
    ap (λ (f : Acts). f past_one) (fold_yield (stmt_step s) (arm_step s) (block_step s) fetch_k)
    ∙ ap (λ (d : Did). (tick >> d >>= yielded s) past_one) (fold_fetch (expr_step s) (path_step s) (member_step s) (operand_step s) (expr.Quoted (codes "k")))
    ∙ ap (λ (d : Did). (tick >> fetch s d >>= yielded s) past_one) (fold_quoted (expr_step s) (path_step s) (member_step s) (operand_step s) (codes "k"))

abbrev asked_state : State
asked_state = record { fuel = 999996; charges = 4; locals = []; taken = 0; fetches = 1; yields = V.Int (pos 1) ∷ []; cleanups = [] }

fetching_at_2 : evaluation (block_cell (codes "g") fetching) [] [] 2 ≡ yields (1 ∷ []) (Needs (codes "k"))
fetching_at_2 =
    let s : Segment = fetching_at [] 2 in
    let asked : act s (yield fetch_k) past_one ≡ (Err (NeedsKey (codes "k")), asked_state) = fetch_is s ∙ rw (size_text) (rw (values.outs-Text) refl) in
    fetching_comes [] 2 (Err (NeedsKey (codes "k")), asked_state) (ap (λ (o : Out (Unit {0})). after o.0 o.1 (λ _. in_order [])) asked)

abbrev answered_state : State
answered_state = record { fuel = 999994; charges = 5; locals = []; taken = 1; fetches = 1; yields = V.Int (pos 1) ∷ V.Int (pos 7) ∷ []; cleanups = [] }

fetching_answered : evaluation (block_cell (codes "g") fetching) [] (answer 7 ∷ []) 2 ≡ yields (1 ∷ 7 ∷ []) Paused
fetching_answered =
    let s : Segment = fetching_at (answer 7 ∷ []) 2 in
    let given_7 : act s (yield fetch_k) past_one ≡ (Err Pauses, answered_state) = fetch_is s ∙ rw (size_text) (rw (values.outs-Text) (rw (size_int) (rw (size_int) refl))) in
    fetching_comes (answer 7 ∷ []) 2 (Err Pauses, answered_state) (ap (λ (o : Out (Unit {0})). after o.0 o.1 (λ _. in_order [])) given_7)

pub a_frame_passes_over_what_asks : serial 9 (EditEvent fetching_cell ∷ FrameEvent ∷ FrameEvent ∷ Settle (Key (codes "k")) (answer 7) ∷ [])
    ≡ edited fetching_cell ∷ pend 1 ∷ shows 1 1 ∷ frame ∷ asks ∷ frame ∷ Settled 0 1 (answer 7) ∷ shows 1 7 ∷ []
unfolding digits
a_frame_passes_over_what_asks =
    is_serial []
    (edit_phase fetching_cell ([] ∷ []) (true ∷ []) (told (pend 1) ∷ given (shows 1 1) (yields (1 ∷ []) Paused) ∷ [])
    ∷ frame_phase ([] ∷ []) (true ∷ []) (given asks (yields (1 ∷ []) (Needs (codes "k"))) ∷ [])
    ∷ frame_phase ([] ∷ []) (true ∷ []) []
    ∷ phase (Settle (Key (codes "k")) (answer 7)) (Settled 0 1 (answer 7)) ([] ∷ []) (true ∷ []) (given (shows 1 7) (yields (1 ∷ 7 ∷ []) Paused) ∷ []) ∷ []) (
      refl,
      refl,
      refl,
      refl,
      refl,
      simp (fold_block, fold_yield, fold_int, fold_fetch, fold_quoted),
      simp (fold_block, fold_yield),
      (refl, tt, tt, refl, (refl, fetching_at_1, fetching_at_1, refl, tt)),
      (
        refl,
        refl,
        simp (size_add, size_pending, size_fulfilled, fold_block, fold_yield, fold_int, fold_fetch, fold_quoted),
        refl,
        refl,
        simp (fold_block, fold_yield, fold_int, fold_fetch, fold_quoted),
        simp (fold_block, fold_yield),
        (refl, fetching_at_2, fetching_at_2, refl, tt),
        (
          refl,
          refl,
          simp (size_add, size_pending, size_fulfilled, size_frame, size_asked, fold_block, fold_yield, fold_int, fold_fetch, fold_quoted),
          refl,
          refl,
          simp (fold_block, fold_yield, fold_int, fold_fetch, fold_quoted),
          simp (fold_block, fold_yield),
          tt,
          (
            refl,
            refl,
            simp (size_add, size_pending, size_fulfilled, size_frame, size_asked, fold_block, fold_yield, fold_int, fold_fetch, fold_quoted),
            refl,
            refl,
            simp (fold_block, fold_yield, fold_int, fold_fetch, fold_quoted),
            simp (fold_block, fold_yield),
            (refl, fetching_answered, fetching_answered, refl, tt),
            refl,
          ),
        ),
      ),
    )

-- ---- cleanups

abbrev cleaning : List Stmt
cleaning = stmt.Cleanup (expr.Quoted (codes "c")) ∷ stmt.Return (var (codes "a")) ∷ []

abbrev c_cell : Edit
c_cell = add_block (codes "c") cleaning

abbrev c_value : Value
c_value = V.Text (codes "c")

abbrev cleans : ℕ → Evaluated
cleans k = record { yields = []; cleanups = c_value ∷ []; ending = Done (V.Int (pos k)) }

abbrev cleaned_state : State
cleaned_state = record { fuel = 999996; charges = 2; locals = []; taken = 0; fetches = 0; yields = []; cleanups = c_value ∷ [] }

abbrev returned_state : State
returned_state = record { fuel = 999993; charges = 4; locals = []; taken = 0; fetches = 0; yields = []; cleanups = c_value ∷ [] }

c_gives : (k : ℕ) → evaluation (block_cell (codes "c") cleaning) (input (codes "a") k ∷ []) [] 1 ≡ cleans k
c_gives k =
    evaluates_block (codes "c") cleaning (input (codes "a") k ∷ []) [] 1 (Err (Ends (V.Int (pos k))), returned_state)
    (ap (λ (o : Out (Unit {0})). after o.0 o.1 (λ _. in_order (act s returns ∷ []))) cleanup_step ∙ ap (λ (o : Out (Unit {0})). after o.0 o.1 (λ _. in_order [])) return_step)
    ∙ ap (λ (b : Bool). block_ends (b || (stmt_yields returns || false)) (Err (Ends (V.Int (pos k))), returned_state)) (fold_cleanup generator.stmt_step generator.arm_step generator.block_step (expr.Quoted (codes "c")))
    ∙ ap (λ (b : Bool). block_ends (b || false) (Err (Ends (V.Int (pos k))), returned_state)) (fold_return generator.stmt_step generator.arm_step generator.block_step (var (codes "a")))
    ∙ rw (size_int) refl
  where
    returns : Stmt
    returns = stmt.Return (var (codes "a"))

    s : Segment
    s = segment (codes "c") cleaning (input (codes "a") k ∷ []) [] 1

    cleanup_step : act s (stmt.Cleanup (expr.Quoted (codes "c"))) start_state ≡ (Ok tt, cleaned_state)
    cleanup_step =
        ap (λ (f : Acts). f start_state) (fold_cleanup (stmt_step s) (arm_step s) (block_step s) (expr.Quoted (codes "c")))
        ∙ ap (λ (d : Did). (tick >> d >>= cleaned) start_state) (fold_quoted (expr_step s) (path_step s) (member_step s) (operand_step s) (codes "c"))
        ∙ rw (size_text) (rw (size_text) refl)

    return_step : act s returns cleaned_state ≡ (Err (Ends (V.Int (pos k))), returned_state)
    return_step =
        ap (λ (f : Acts). f cleaned_state) (fold_return (stmt_step s) (arm_step s) (block_step s) (var (codes "a")))
        ∙ ap (λ (d : Did). (tick >> d >>= (λ v. stop (Ends v))) cleaned_state) (fold_name (expr_step s) (path_step s) (member_step s) (operand_step s) (codes "a"))
        ∙ rw (size_int) refl

abbrev one : Edit
one = add (codes "a") (int 1)

abbrev two : Edit
two = Define 1 (cell (codes "a") (int 2))

pub cleanups_are_disposed_of_once : serial 16 (EditEvent one ∷ EditEvent c_cell ∷ EditEvent two ∷ DisposeEvent ∷ FrameEvent ∷ [])
    ≡ edited one ∷ pend 1 ∷ shows 1 1
    ∷ edited c_cell ∷ pend 2 ∷ shows 2 1
    ∷ edited two ∷ pend 1 ∷ Pending 2 (c_value ∷ []) ∷ shows 1 2 ∷ shows 2 2
    ∷ Dispose 0 ∷ Left 1 [] ∷ Left 2 (c_value ∷ [])
    ∷ Refused 0 Disposed FrameEvent ∷ []
unfolding digits
cleanups_are_disposed_of_once =
    is_serial []
    (edit_phase one ([] ∷ []) (false ∷ []) (told (pend 1) ∷ given (shows 1 1) (gives 1) ∷ [])
    ∷ edit_phase c_cell ([] ∷ ((codes "a", Var 1) ∷ []) ∷ []) (false ∷ false ∷ []) (told (pend 2) ∷ given (shows 2 1) (cleans 1) ∷ [])
    ∷ edit_phase two ([] ∷ ((codes "a", Var 1) ∷ []) ∷ []) (false ∷ false ∷ [])
    (told (pend 1) ∷ told (Pending 2 (c_value ∷ [])) ∷ given (shows 1 2) (gives 2) ∷ given (shows 2 2) (cleans 2) ∷ [])
    ∷ phase DisposeEvent (Dispose 0) ([] ∷ ((codes "a", Var 1) ∷ []) ∷ []) (false ∷ false ∷ []) (told (Left 1 []) ∷ told (Left 2 (c_value ∷ [])) ∷ [])
    ∷ record {
      event = FrameEvent;
      admitted = frame;
      disposed = true;
      refusal = Some Disposed;
      inputs_now = [] ∷ ((codes "a", Var 1) ∷ []) ∷ [];
      generators_now = false ∷ false ∷ [];
      steps = [];
    } ∷ []) (
      refl,
      refl,
      refl,
      refl,
      refl,
      simp (fold_int),
      refl,
      (refl, tt, tt, refl, (refl, evaluates_int (codes "a") 1 [], evaluates_int (codes "a") 1 [], refl, tt)),
      (
        refl,
        refl,
        simp (size_add, size_pending, size_fulfilled, fold_int),
        refl,
        refl,
        simp (fold_int, fold_block, fold_cleanup, fold_return, fold_quoted, fold_name),
        simp (fold_block, fold_cleanup, fold_return),
        (refl, tt, tt, refl, (refl, c_gives 1, c_gives 1, refl, tt)),
        (
          refl,
          refl,
          simp (size_add, size_pending, size_fulfilled, fold_int, fold_block, fold_cleanup, fold_return, fold_quoted, fold_name),
          refl,
          refl,
          simp (fold_int, fold_block, fold_cleanup, fold_return, fold_quoted, fold_name),
          simp (fold_block, fold_cleanup, fold_return),
          (refl, tt, tt, refl, (refl, tt, tt, refl, (refl, evaluates_int (codes "a") 2 [], evaluates_int (codes "a") 2 [], refl, (refl, c_gives 2, c_gives 2, refl, tt)))),
          (
            refl,
            refl,
            simp (size_add, size_define, size_pending, size_pending_of, size_fulfilled, fold_int, fold_block, fold_cleanup, fold_return, fold_quoted, fold_name),
            refl,
            refl,
            simp (fold_int, fold_block, fold_cleanup, fold_return, fold_quoted, fold_name),
            simp (fold_block, fold_cleanup, fold_return),
            (refl, tt, tt, refl, (refl, tt, tt, refl, tt)),
            (
              refl,
              refl,
              simp (size_add, size_define, size_pending, size_pending_of, size_fulfilled, size_dispose, size_left, size_left_of, fold_int, fold_block, fold_cleanup, fold_return, fold_quoted, fold_name),
              refl,
              refl,
              simp (fold_int, fold_block, fold_cleanup, fold_return, fold_quoted, fold_name),
              simp (fold_block, fold_cleanup, fold_return),
              tt,
              refl,
            ),
          ),
        ),
      ),
    )
