-- What an entry makes of the machine's parts, where one start is taken out, changed and put back.
use Rattle.std.proofs.Common.{ℕ, zero, suc, ◌≡◌, ◌+◌, refl, sym, ◌∙◌, ap, Bool, false, List, [], ◌∷◌, ◌++◌, length, Option, Some, None}
use Rattle.std.specs.Prelude.{set, slice_get}
use Rattle.nb_value.specs.declared.value.Value.{Value}
use Rattle.nb_value.specs.declared.outcome.Answer.{Answer}
use Rattle.nb_value.specs.declared.outcome.Outcome.{Outcome}
use Rattle.nb_value.specs.declared.outcome.Outcome.TheVariants.{Value as Shows, Error as Fails}
use Rattle.nb_sheet.specs.Sheet.{Sheet}
use Rattle.nb_sheet.specs.Lists.{Name, nth, put, from_option, option_then}
use Rattle.nb_log.specs.declared.entry.Entry.{Entry}
use Rattle.nb_log.specs.declared.entry.Entry.TheVariants.{Settled, Loaded, Asked, Pending, Ended, Left}
use Rattle.nb_history.specs.Reading.{Reading, Start, Ticket, Footing, start_of, owed}
use Rattle.nb_history.specs.Rules.{footing}
use Rattle.nb_history.specs.Log.{changed, change_start, asking, answering, cleanups_now, ends_at_once, new_start}
use Rattle.nb_history.proofs.StartsAfter.{changed_part}
use Rattle.nb_runs.specs.Starts.{change_in, start_in, shown_by, asked_by, ended_by}
use Rattle.nb_runs.specs.Tickets.{var_of, settled_at}
use Rattle.nb_work.specs.Notices.{shown_entry}
use Rattle.nb_core.specs.Stands.{leaves}

-- ---- a start is taken out and another put in its place

set_twice : {A : Type 0} (xs : List A) (i : ℕ) (y z : A) → set (set xs i y) i z ≡ set xs i z
set_twice [] i y z = refl
set_twice (x ∷ xs) zero y z = refl
set_twice (x ∷ xs) (suc i) y z = ap (λ l. x ∷ l) (set_twice xs i y z)

put_twice : {A : Type 0} (xs : List A) (v : ℕ) (y z : A) → put (put xs v y) v z ≡ put xs v z
put_twice xs zero y z = refl
put_twice xs (suc i) y z = set_twice xs i y z

pub exchanged : (starts mid starts' : List (Option Start)) (v : ℕ) (new : Option Start) → mid ≡ put starts v None → starts' ≡ put mid v new → starts' ≡ put starts v new
exchanged starts mid starts' v new out back = back ∙ ap (λ (l : List (Option Start)). put l v new) out ∙ put_twice starts v None new

-- it is changed and put back
pub changed_back : (starts mid starts' : List (Option Start)) (v : ℕ) (taken new : Option Start) (f : Start → Start)
    → mid ≡ put starts v None → taken ≡ start_in starts v → new ≡ change_in taken f → starts' ≡ put mid v new
    → starts' ≡ put starts v (change_in (start_in starts v) f)
changed_back starts mid starts' v taken new f out is change back =
    exchanged starts mid starts' v new out back ∙ ap (put starts v) (change ∙ ap (λ (o : Option Start). change_in o f) is)

-- it is put back as it was
set_itself : (xs : List (Option Start)) (i : ℕ) → set xs i (option_then (slice_get xs i) (λ s. s)) ≡ xs
set_itself [] i = refl
set_itself (x ∷ xs) zero = refl
set_itself (x ∷ xs) (suc i) = ap (λ (l : List (Option Start)). x ∷ l) (set_itself xs i)

put_itself : (xs : List (Option Start)) (v : ℕ) → put xs v (start_in xs v) ≡ xs
put_itself xs zero = refl
put_itself xs (suc i) = set_itself xs i

pub given_back : (starts mid starts' : List (Option Start)) (v : ℕ) (taken new : Option Start)
    → mid ≡ put starts v None → taken ≡ start_in starts v → new ≡ taken → starts' ≡ put mid v new → starts' ≡ starts
given_back starts mid starts' v taken new out is same back =
    exchanged starts mid starts' v new out back ∙ ap (put starts v) (same ∙ is) ∙ put_itself starts v

-- ---- an entry of one variable

module _ (sheet : Sheet) (starts : List (Option Start)) (disposed : Bool) (tickets : List Ticket) (log : List Entry) where
  abbrev parts : Reading
  parts = leaves sheet starts disposed tickets log

  abbrev with_starts : List (Option Start) → Reading
  with_starts ss = leaves sheet ss disposed tickets log

  -- an answer, by an editor or a loader
  pub step_settled : (starts' : List (Option Start)) (tickets' : List Ticket) (editor t var : ℕ) (a : Answer) → var ≡ var_of tickets t → tickets' ≡ settled_at tickets t
      → starts' ≡ put starts var (change_in (start_in starts var) (answering a)) → changed parts (Settled editor t a) ≡ leaves sheet starts' disposed tickets' log
  step_settled starts' tickets' editor t var a here settles is =
      ap (λ (v : ℕ). leaves sheet (put starts v (change_in (start_in starts v) (answering a))) disposed (settled_at tickets t) log) (sym here)
      ∙ ap (λ (ss : List (Option Start)). leaves sheet ss disposed (settled_at tickets t) log) (sym is)
      ∙ ap (λ (ts : List Ticket). leaves sheet starts' disposed ts log) (sym settles)

  pub step_loaded : (starts' : List (Option Start)) (tickets' : List Ticket) (t var : ℕ) (a : Answer) → var ≡ var_of tickets t → tickets' ≡ settled_at tickets t
      → starts' ≡ put starts var (change_in (start_in starts var) (answering a)) → changed parts (Loaded t a) ≡ leaves sheet starts' disposed tickets' log
  step_loaded starts' tickets' t var a here settles is = step_settled starts' tickets' 0 t var a here settles is

  module _ (r : Reading) (stands : r ≡ leaves sheet starts disposed tickets log) (v : ℕ) where
    pub step_ended : (starts' : List (Option Start)) (cleanups : List Value) → cleanups ≡ cleanups_now r v
        → starts' ≡ put starts v (change_in (start_in starts v) (ended_by cleanups))
        → changed parts (Ended v) ≡ with_starts starts'
    step_ended starts' cleanups cleans is =
        ap (λ (ds : List Value). with_starts (put starts v (change_in (start_in starts v) (ended_by ds)))) (sym (cleans ∙ ap (λ (x : Reading). cleanups_now x v) stands))
        ∙ ap with_starts (sym is)

    shows : (o : Outcome) → changed parts (shown_entry v o) ≡ with_starts (put starts v (change_in (start_in starts v) (shown_by o (cleanups_now parts v) (ends_at_once parts v) (length log + 1))))
    shows (Shows x) = refl
    shows (Fails e) = refl

    pub step_shown : (starts' : List (Option Start)) (e : Entry) (o : Outcome) (cleanups : List Value) (ends : Bool) (place : ℕ) → e ≡ shown_entry v o → cleanups ≡ cleanups_now r v → ends ≡ ends_at_once r v → place ≡ length log + 1
        → starts' ≡ put starts v (change_in (start_in starts v) (shown_by o cleanups ends place))
        → changed parts e ≡ with_starts starts'
    step_shown starts' e o cleanups ends place same cleans end at is =
        let now : Outcome → List Value → Bool → ℕ → Reading = λ x ds b n. with_starts (put starts v (change_in (start_in starts v) (shown_by x ds b n))) in
        ap (changed parts) same
        ∙ shows o
        ∙ ap (λ (ds : List Value). now o ds (ends_at_once parts v) (length log + 1)) (sym (cleans ∙ ap (λ (x : Reading). cleanups_now x v) stands))
        ∙ ap (λ (b : Bool). now o cleanups b (length log + 1)) (sym (end ∙ ap (λ (x : Reading). ends_at_once x v) stands))
        ∙ ap (λ (n : ℕ). now o cleanups ends n) (sym at)
        ∙ ap with_starts (sym is)

    pub step_left : (starts' : List (Option Start)) (d : List Value) → starts' ≡ put starts v None → changed parts (Left v d) ≡ with_starts starts'
    step_left starts' d is = ap with_starts (sym is)

    pub step_pending : (starts' : List (Option Start)) (d : List Value) (kept : Footing) (place : ℕ) → kept ≡ footing r v → place ≡ length log + 1
        → starts' ≡ put starts v (Some (new_start place kept)) → changed parts (Pending v d) ≡ with_starts starts'
    step_pending starts' d kept place keeps at is =
        ap (λ (k : Footing). with_starts (put starts v (Some (new_start (length log + 1) k)))) (sym (keeps ∙ ap (λ (x : Reading). footing x v) stands))
        ∙ ap (λ (n : ℕ). with_starts (put starts v (Some (new_start n kept)))) (sym at)
        ∙ ap with_starts (sym is)

    -- what the start owes
    pub owes : (taken : Option Start) (d : List Value) → taken ≡ start_in starts v → d ≡ from_option [] (λ (s : Start). s.owed) taken → d ≡ owed r v
    owes taken d is e = e ∙ ap (λ (o : Option Start). from_option [] (λ (s : Start). s.owed) o) is ∙ sym (ap (λ (x : Reading). owed x v) stands)

    -- ---- a start that asks

    abbrev number_in : Option Start → ℕ
    number_in o = from_option 0 (λ (s : Start). s.number) o

    abbrev new_ticket : ℕ → Name → Ticket
    new_ticket n key = record { var = v; number = n; key = key; settled = false }

    keeps_number : (t : ℕ) (ds : List Value) (o : Option Start) → number_in (change_in o (asked_by t ds)) ≡ number_in o
    keeps_number t ds None = refl
    keeps_number t ds (Some s) = refl

    same_number : (t : ℕ) → number_in (start_of (change_start parts v (asking parts v t)) v) ≡ number_in (start_in starts v)
    same_number t = changed_part number_in parts v v (asking parts v t) (keeps_number t (cleanups_now parts v) (start_in starts v))

    pub step_asked : (starts' : List (Option Start)) (tickets' : List Ticket) (e : Entry) (key : Name) (cleanups : List Value) (ticket number : ℕ) (taken : Option Start)
        → e ≡ Asked v (length r.tickets + 1) key → cleanups ≡ cleanups_now r v → ticket ≡ length tickets + 1
        → taken ≡ start_in starts v → number ≡ from_option 0 (λ (s : Start). s.number) taken
        → starts' ≡ put starts v (change_in (start_in starts v) (asked_by ticket cleanups)) → tickets' ≡ tickets ++ record { var = v; number = number; key = key; settled = false } ∷ []
        → changed parts e ≡ leaves sheet starts' disposed tickets' log
    step_asked starts' tickets' e key cleanups ticket number taken same cleans at took counts is more =
        let now : List Value → ℕ → ℕ → Reading = λ ds t n. leaves sheet (put starts v (change_in (start_in starts v) (asked_by t ds))) disposed (tickets ++ new_ticket n key ∷ []) log in
        let t : ℕ = length tickets + 1 in
        ap (changed parts) same
        ∙ ap (λ (x : Reading). changed parts (Asked v (length x.tickets + 1) key)) stands
        ∙ ap (now (cleanups_now parts v) t) (same_number t)
        ∙ ap (λ (o : Option Start). now (cleanups_now parts v) t (number_in o)) (sym took)
        ∙ ap (now (cleanups_now parts v) t) (sym counts)
        ∙ ap (λ (ds : List Value). now ds t number) (sym (cleans ∙ ap (λ (x : Reading). cleanups_now x v) stands))
        ∙ ap (λ (n : ℕ). now cleanups n number) (sym at)
        ∙ ap (λ (ss : List (Option Start)). leaves sheet ss disposed (tickets ++ new_ticket number key ∷ []) log) (sym is)
        ∙ ap (λ (ts : List Ticket). leaves sheet starts' disposed ts log) (sym more)
