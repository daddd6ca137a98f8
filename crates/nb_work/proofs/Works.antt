-- What was done of a ready variable's work gives its next entry.
use Rattle.std.proofs.Common.{ℕ, ◌≡◌, ◌+◌, refl, sym, ◌∙◌, ap, Bool, false, cond, not, ◌&&◌, List, [], ◌∷◌, map, length, Option, Some, None, is_some}
use Rattle.std.specs.Prelude.{◌==◌}
use Rattle.std.proofs.lemmas.Bool.{and_right}
use Rattle.nb_value.specs.declared.value.Value.{Value}
use Rattle.nb_value.specs.declared.value.Value.TheVariants.{Null}
use Rattle.nb_value.specs.declared.outcome.CellError.{CellError}
use Rattle.nb_value.specs.declared.outcome.Outcome.{Outcome}
use Rattle.nb_value.specs.declared.outcome.Outcome.TheVariants.{Value as Shows, Error as Fails}
use Rattle.nb_eval.specs.Evaluation.{Evaluated, segment_end, run_end, last_of}
use Rattle.nb_eval.specs.Work.{IsOf}
use Rattle.nb_eval.specs.declared.given.RunEnd.{RunEnd}
use Rattle.nb_eval.specs.declared.given.Ending.{Ending}
use Rattle.nb_eval.specs.declared.given.Ending.TheVariants.{Paused}
use Rattle.nb_eval.specs.declared.finished.Finished.{Finished}
use Rattle.nb_eval.specs.declared.work.Work.TheVariants.{Direct}
use Rattle.nb_eval.specs.declared.work.WorkDone.TheVariants.{Direct as DirectDone, Ran}
use Rattle.nb_log.specs.declared.entry.Entry.{Entry}
use Rattle.nb_log.specs.declared.entry.Entry.TheVariants.{Fulfilled, Rejected}
use Rattle.nb_sheet.specs.declared.row.BodyOf.{BodyOf}
use Rattle.nb_sheet.specs.declared.row.BodyOf.TheVariants.{Cell as CellBody, Import as ImportBody}
use Rattle.nb_sheet.specs.declared.row.VarRow.{VarRow}
use Rattle.nb_sheet.specs.Lists.{nth, from_option, option_then, or_else}
use Rattle.nb_sheet.specs.Sheet.{Sheet}
use Rattle.nb_history.specs.Reading.{Reading, Start, shown}
use Rattle.nb_history.specs.Rules.{given, first_error, name_of, deciding_error, body_of, run_body, evaluation, evaluated, entry_of, generates, answers_of, pulls_of, next, last_or_null}
use Rattle.nb_history.specs.Log.{is_done}
use Rattle.nb_runs.specs.Starts.{generates_in}
use Rattle.nb_work.specs.Over.{IsOver}
use Rattle.nb_closing.specs.Ties.{Ties}
use Rattle.nb_work.specs.Tied.{over, pulls_in, marked_by}
use Rattle.nb_work.specs.Work.{work_of, body_work, values_of}
use Rattle.nb_work.proofs.TiesAt.{no_row}
use Rattle.nb_work.specs.declared.notice.Notice.{Notice}
use Rattle.nb_work.specs.declared.notice.Notice.TheVariants as notice
use Rattle.nb_work.specs.Notices.{shown_entry, EndsBy, EndsRight, IsEnd, IsNotice}

module _ (r : Reading) (v : ℕ) where
  abbrev run_of : Option BodyOf → Evaluated
  run_of b = run_body b (values_of r v) (answers_of r v) (pulls_of r v)

  -- v's entry, by the error that decides and its body
  abbrev next_by : Option CellError → Option BodyOf → Entry
  next_by o b =
      from_option (entry_of (length r.tickets + 1) v (generates b) (pulls_of r v == 1) (run_of b) (Evaluated.ending (run_of b))) (λ e. Rejected v e) o

  abbrev cleanups_by : Option CellError → Option BodyOf → List Value
  cleanups_by o b = cond (is_some o) [] (Evaluated.cleanups (run_of b))

  abbrev ends_by : Option CellError → Option BodyOf → Bool
  ends_by o b = not (is_some o) && generates b && is_done (Evaluated.ending (run_of b))

  -- ---- an outcome that was known

  pub record IsDirect (x : Outcome) (o : Option CellError) (b : Option BodyOf) : Type 0 where
    pub entry : next_by o b ≡ shown_entry v x
    pub cleanups : [] ≡ cleanups_by o b
    pub ends : false ≡ ends_by o b

  direct_by : (o : Option CellError) (b : Option BodyOf) (x : Outcome) → IsOf (from_option (body_work r v b) (λ e. Direct (Fails e)) o) (DirectDone x) → IsDirect x o b
  direct_by (Some e) b x k = record { entry = ap (shown_entry v) (sym k); cleanups = refl; ends = refl }
  direct_by None None x k = record { entry = ap (shown_entry v) (sym k); cleanups = refl; ends = refl }
  direct_by None (Some (ImportBody name from)) x k = record { entry = ap (shown_entry v) (sym k); cleanups = refl; ends = refl }
  direct_by None (Some (CellBody cell)) x k = absurd k

  known : (x : Outcome) → IsOf (work_of r v) (DirectDone x) → IsDirect x (deciding_error r (shown r) v) (body_of r.sheet v)
  known x k = direct_by (deciding_error r (shown r) v) (body_of r.sheet v) x k

  pub direct_entry : (x : Outcome) → IsOf (work_of r v) (DirectDone x) → shown_entry v x ≡ next r v
  direct_entry x k = sym (IsDirect.entry (known x k))

  pub direct_notice : (x : Outcome) (cleanups : List Value) → cleanups ≡ [] → IsOf (work_of r v) (DirectDone x) → IsNotice r (length r.tickets + 1) v (notice.Shows x cleanups false)
  direct_notice x cleanups none k = record { entry = IsDirect.entry (known x k); cleanups = none ∙ IsDirect.cleanups (known x k); ends = IsDirect.ends (known x k) }

  -- ---- an evaluation

  ran_by : (o : Option CellError) (b : Option BodyOf) (f : Finished) → IsOf (from_option (body_work r v b) (λ e. Direct (Fails e)) o) (Ran f) → (o ≡ None) × (f.result ≡ run_end (run_of b))
  ran_by (Some e) b f k = absurd k
  ran_by None None f k = absurd k
  ran_by None (Some (ImportBody name from)) f k = absurd k
  ran_by None (Some (CellBody cell)) f k = (refl, f.is_run ∙ ap segment_end k)

  abbrev here : Evaluated
  here = evaluation r (shown r) v

  pub record IsRun (f : Finished) : Type 0 where
    pub undecided : deciding_error r (shown r) v ≡ None
    pub gives : f.result ≡ run_end (evaluation r (shown r) v)

  pub ran : (f : Finished) → IsOf (work_of r v) (Ran f) → IsRun f
  ran f k =
      let t : (deciding_error r (shown r) v ≡ None) × (f.result ≡ run_end here) = ran_by (deciding_error r (shown r) v) (body_of r.sheet v) f k in
      record { undecided = t.0; gives = t.1 }

  -- what decides, by whether it generates and whether it is at its first pull
  decided : (generator first : Bool) → deciding_error r (shown r) v ≡ None → generator ≡ generates (body_of r.sheet v) → first ≡ (pulls_of r v == 1)
      → entry_of (length r.tickets + 1) v generator first here here.ending ≡ next r v
  decided generator first none g p =
      ap (λ (x : Bool). entry_of (length r.tickets + 1) v x first here here.ending) g
      ∙ ap (λ (x : Bool). entry_of (length r.tickets + 1) v (generates (body_of r.sheet v)) x here here.ending) p
      ∙ sym (ap (λ (o : Option CellError). from_option (evaluated r v) (λ e. Rejected v e) o) none)

  ends_right : (n : Notice) (a b : Bool) → a ≡ b → EndsBy a n → EndsBy b n
  ends_right (notice.Shows x cleanups ends) a b e k = k ∙ e
  ends_right (notice.Asks key cleanups) a b e k = refl
  ends_right (notice.Ends cleanups) a b e k = refl

  right : (n : Notice) → EndsBy (ends_by (deciding_error r (shown r) v) (body_of r.sheet v)) n → EndsRight r v n
  right (notice.Shows x cleanups ends) k = k
  right (notice.Asks key cleanups) k = refl
  right (notice.Ends cleanups) k = refl

  module _ (s : Sheet) (starts : List (Option Start)) (h : IsOver r s starts) (generator first : Bool) (g : generator ≡ generates_in s v) (p : first ≡ (pulls_in starts v == 1)) where
    generates_now : generator ≡ generates (body_of r.sheet v)
    generates_now = g ∙ sym (ap (λ (x : Sheet). generates (body_of x v)) h.sheet)

    first_now : first ≡ (pulls_of r v == 1)
    first_now = p ∙ sym (ap (λ (l : List (Option Start)). pulls_in l v == 1) h.starts)

    pub ran_entry : (f : Finished) (t : ℕ) (end : RunEnd) (entry : Entry) → length r.tickets + 1 ≡ t → end ≡ f.result → ((e : Evaluated) → end ≡ run_end e → entry ≡ entry_of t v generator first e e.ending)
        → IsOf (work_of r v) (Ran f) → entry ≡ next r v
    ran_entry f t end entry ticket same gives k =
        gives here (same ∙ IsRun.gives (ran f k))
        ∙ ap (λ (n : ℕ). entry_of n v generator first here here.ending) (sym ticket)
        ∙ decided generator first (IsRun.undecided (ran f k)) generates_now first_now

    pub ran_notice : (f : Finished) (end : RunEnd) (n : Notice) → end ≡ f.result → ((e : Evaluated) → end ≡ run_end e → IsEnd generator first e n)
        → IsOf (work_of r v) (Ran f) → IsNotice r (length r.tickets + 1) v n
    ran_notice f end n same gives k =
        let t : IsEnd generator first here n = gives here (same ∙ IsRun.gives (ran f k)) in
        let none : deciding_error r (shown r) v ≡ None = IsRun.undecided (ran f k) in
        record {
          entry = sym (decided generator first none generates_now first_now) ∙ t.entry (length r.tickets + 1) v;
          cleanups = t.cleanups ∙ sym (ap (λ (o : Option CellError). cleanups_by o (body_of r.sheet v)) none);
          ends = right n (ends_right n (generator && is_done here.ending) (ends_by (deciding_error r (shown r) v) (body_of r.sheet v))
              (ap (λ (x : Bool). x && is_done here.ending) generates_now ∙ sym (ap (λ (o : Option CellError). ends_by o (body_of r.sheet v)) none)) t.ends);
        }

-- ---- the last of the values

pub last_value : (xs : List Value) → from_option Null (λ (x : Value). x) (last_of xs) ≡ last_or_null xs
last_value [] = refl
last_value (x ∷ []) = refl
last_value (x ∷ y ∷ more) = last_value (y ∷ more)

-- ---- what an evaluation's end gives

module _ (end : RunEnd) (e : Evaluated) (k : end ≡ run_end e) (generator first : Bool) where
  pub end_is : (z : Ending) → end.ending ≡ z → e.ending ≡ z
  end_is z is = sym (ap (λ (x : RunEnd). x.ending) k) ∙ is

  pub end_cleanups : end.cleanups ≡ e.cleanups
  end_cleanups = ap (λ (x : RunEnd). x.cleanups) k

  pub end_entry : (t v : ℕ) (z : Ending) → end.ending ≡ z → entry_of t v generator first e z ≡ entry_of t v generator first e e.ending
  end_entry t v z is = sym (ap (λ (x : Ending). entry_of t v generator first e x) (end_is z is))

  pub paused_entry : (t v : ℕ) (x : Value) → end.ending ≡ Paused → x ≡ from_option Null (λ (y : Value). y) end.last → Fulfilled v x ≡ entry_of t v generator first e e.ending
  paused_entry t v x is last =
      ap (λ (y : Value). Fulfilled v y) (last ∙ ap (λ (y : RunEnd). from_option Null (λ (y : Value). y) y.last) k ∙ last_value e.yields)
      ∙ end_entry t v Paused is

  pub paused_end : (x : Value) → end.ending ≡ Paused → x ≡ from_option Null (λ (y : Value). y) end.last → IsEnd generator first e (notice.Shows (Shows x) end.cleanups false)
  paused_end x is last =
      record {
        entry = λ t v. sym (paused_entry t v x is last);
        cleanups = end_cleanups;
        ends = sym (ap (λ (z : Ending). generator && is_done z) (end_is Paused is) ∙ and_right generator false refl);
      }

-- ---- work, by a sheet and starts

pub work_over : (r : Reading) (s : Sheet) (starts : List (Option Start)) (v : ℕ) → IsOver r s starts → work_of (over s starts) v ≡ work_of r v
work_over r s starts v h = sym (λ j. work_of (over (h.sheet j) (h.starts j)) v)

-- a number that names no variable
pub no_work : (s : Sheet) (starts : List (Option Start)) (v : ℕ) → nth s.rows v ≡ None → Direct (Shows Null) ≡ work_of (over s starts) v
no_work s starts v none =
    ap (λ (t : Ties). from_option (Direct (Shows Null)) (λ e. Direct (Fails e)) (or_else (marked_by t.is_duplicate t.is_circular (name_of s v)) (first_error (map (given s (shown (over s starts))) t.inputs)))) (no_row s v none)
    ∙ sym (ap (λ (o : Option VarRow). from_option (body_work (over s starts) v (option_then o (λ (row : VarRow). row.body))) (λ e. Direct (Fails e)) (deciding_error (over s starts) (shown (over s starts)) v)) none)
