-- Logs that get one more entry at their end.
use Rattle.std.proofs.Common.{ℕ, ◌≡◌, refl, sym, ◌∙◌, ap, subst, Bool, true, false, cond, ◌&&◌, List, [], ◌∷◌, ◌++◌, Option, Some, None}
use Rattle.std.proofs.lemmas.Option.{some_pair_parts, none-some, same_Some}
use Rattle.std.proofs.lemmas.Bool.{and_left, and_right}
use Rattle.std.specs.List.{list_any}
use Rattle.std.specs.Str.{bytes_eq}
use Rattle.nb_sheet.specs.Lists.{Name, nth, from_option, option_then, or_else, numbers}
use Rattle.nb_history.specs.Lists.{first_where}
use Rattle.nb_history.specs.Reading.{Reading, Ticket, owed}
use Rattle.nb_history.specs.Rules.{leaving, ready, may_start, next}
use Rattle.nb_history.specs.Log.{after, read_from, Fits, LegalFrom, admit, is_live}
use Rattle.nb_history.specs.Serial.{least_var, closing, next_of_ready, Closes, Todo, first_step, SerialFrom, loader_ticket, may_load, to_load, outer_step}
use Rattle.nb_log.specs.declared.event.Event.{Event}
use Rattle.nb_value.specs.declared.outcome.Answer.{Answer}
use Rattle.nb_log.specs.declared.entry.Entry.{Entry}
use Rattle.nb_log.specs.declared.entry.Entry.TheVariants.{Pending, Left}
use Rattle.nb_history.proofs.Closing.{first_some, closing_left, closing_pending, closing_none}

pub read_append : (r : Reading) (es fs : List Entry) → read_from r (es ++ fs) ≡ read_from (read_from r es) fs
read_append r [] fs = refl
read_append r (e ∷ es) fs = read_append (after r e) es fs

pub legal_append : (r : Reading) (es fs : List Entry) → LegalFrom r es → LegalFrom (read_from r es) fs → LegalFrom r (es ++ fs)
legal_append r [] fs h k = k
legal_append r (e ∷ es) fs h k = (h.0, legal_append (after r e) es fs h.1 k)

-- every front of a legal log is legal
pub legal_front : (r : Reading) (es fs : List Entry) → LegalFrom r (es ++ fs) → LegalFrom r es
legal_front r [] fs h = tt
legal_front r (e ∷ es) fs h = (h.0, legal_front (after r e) es fs h.1)

-- and what follows one
pub legal_back : (r : Reading) (es fs : List Entry) → LegalFrom r (es ++ fs) → LegalFrom (read_from r es) fs
legal_back r [] fs h = h
legal_back r (e ∷ es) fs h = legal_back (after r e) es fs h.1

-- what holds before any entry, and is kept by each entry that fits, holds after every legal log
pub legal_keeps : (P : Reading → Type 0) → ((r : Reading) (e : Entry) → P r → Fits r e → P (after r e)) → (r : Reading) (es : List Entry) → P r → LegalFrom r es → P (read_from r es)
legal_keeps P step r [] p h = p
legal_keeps P step r (e ∷ es) p h = legal_keeps P step (after r e) es (step r e p h.0) h.1

pub serial_append : (keys : List Name) (r : Reading) (todo mid left : Todo) (es fs : List Entry) → SerialFrom keys r todo es mid → SerialFrom keys (read_from r es) mid fs left → SerialFrom keys r todo (es ++ fs) left
serial_append keys r todo mid left [] fs h k = subst (λ (t : Todo). SerialFrom keys r t fs left) (sym h) k
serial_append keys r todo mid left (e ∷ es) fs h k = (h.0, h.1, serial_append keys (after r e) h.0 mid left es fs h.2 k)

-- the serial history is determined
pub serial_one : (keys : List Name) (r : Reading) (todo a b : Todo) (es fs : List Entry) → SerialFrom keys r todo es a → SerialFrom keys r todo fs b
    → first_step keys (read_from r es) a ≡ None → first_step keys (read_from r fs) b ≡ None → es ≡ fs
serial_one keys r todo a b [] [] h k m n = refl
serial_one keys r todo a b [] (f ∷ fs) h k m n = let e : first_step keys r todo ≡ None = ap (first_step keys r) h ∙ m in absurd (none-some (f, k.0) (sym e ∙ k.1))
serial_one keys r todo a b (e ∷ es) [] h k m n = let g : first_step keys r todo ≡ None = ap (first_step keys r) k ∙ n in absurd (none-some (e, h.0) (sym g ∙ h.1))
serial_one keys r todo a b (e ∷ es) (f ∷ fs) h k m n =
    let both : (e ≡ f) × (h.0 ≡ k.0) = some_pair_parts e f h.0 k.0 (sym h.1 ∙ k.1) in
    let same_entry : e ≡ f = both.0 in
    let same_todo : h.0 ≡ k.0 = both.1 in
    let k' : SerialFrom keys (after r e) h.0 fs b = subst (λ (x : Entry). SerialFrom keys (after r x) h.0 fs b) (sym same_entry) (subst (λ (t : Todo). SerialFrom keys (after r f) t fs b) (sym same_todo) k.2) in
    let n' : first_step keys (read_from (after r e) fs) b ≡ None = subst (λ (x : Entry). first_step keys (read_from (after r x) fs) b ≡ None) (sym same_entry) n in
    let rest : es ≡ fs = serial_one keys (after r e) h.0 a b es fs h.2 k' m n' in
    ap (λ (x : Entry). x ∷ es) same_entry ∙ ap (λ (xs : List Entry). f ∷ xs) rest

-- ---- the entries that follow

pub closing_fits_left : (r : Reading) (v : ℕ) → least_var r (leaving r) ≡ Some v → Fits r (Left v (owed r v))
closing_fits_left r v h = ((first_some (leaving r) (numbers r.sheet.rows) v h).0, refl)

pub closing_fits_pending : (r : Reading) (v : ℕ) → least_var r (may_start r) ≡ Some v → Fits r (Pending v (owed r v))
closing_fits_pending r v h = ((first_some (may_start r) (numbers r.sheet.rows) v h).0, refl)

closing_fits : (r : Reading) (e : Entry) → closing r ≡ Some e → Fits r e
closing_fits r e h = go (least_var r (leaving r)) refl (least_var r (may_start r)) refl
  where
    go : (a : Option ℕ) → least_var r (leaving r) ≡ a → (b : Option ℕ) → least_var r (may_start r) ≡ b → Fits r e
    go (Some v) p b q = let same : Left v (owed r v) ≡ e = same_Some (Left v (owed r v)) e (sym (closing_left r v p) ∙ h) in subst (Fits r) same (closing_fits_left r v p)
    go None p (Some v) q = let same : Pending v (owed r v) ≡ e = same_Some (Pending v (owed r v)) e (sym (closing_pending r v p q) ∙ h) in subst (Fits r) same (closing_fits_pending r v q)
    go None p None q = absurd (none-some e (sym (closing_none r p q) ∙ h))

pub closes_legal : (r : Reading) (es : List Entry) → Closes r es → LegalFrom r es
closes_legal r [] h = tt
closes_legal r (e ∷ es) h = (closing_fits r e h.0, closes_legal (after r e) es h.1)

-- the entries so far are the first ones that close
abbrev pub ClosesTo : Reading → List Entry → Reading → Type 0
ClosesTo r [] q = r ≡ q
ClosesTo r (e ∷ es) q = (closing r ≡ Some e) × ClosesTo (after r e) es q

pub closes_push : (r q : Reading) (es : List Entry) (e : Entry) → ClosesTo r es q → closing q ≡ Some e → ClosesTo r (es ++ e ∷ []) (after q e)
closes_push r q [] e h k = (ap closing h ∙ k, ap (λ (x : Reading). after x e) h)
closes_push r q (f ∷ es) e h k = (h.0, closes_push (after r f) q es e h.1 k)

pub closes_end : (r q : Reading) (es : List Entry) → ClosesTo r es q → closing q ≡ None → Closes r es
closes_end r q [] h k = ap closing h ∙ k
closes_end r q (e ∷ es) h k = (h.0, closes_end (after r e) q es h.1 k)

-- they are the next of the serial history
pub closing_step : (keys : List Name) (r : Reading) (todo : Todo) (e : Entry) → closing r ≡ Some e → first_step keys r todo ≡ Some (e, todo)
closing_step keys r todo e h = rw h refl

pub closes_serial : (keys : List Name) (r : Reading) (todo : Todo) (es : List Entry) → Closes r es → SerialFrom keys r todo es todo
closes_serial keys r todo [] h = refl
closes_serial keys r todo (e ∷ es) h = (todo, closing_step keys r todo e h.0, closes_serial keys (after r e) todo es h.1)

pub closed_in_the_end : (r : Reading) (es : List Entry) → Closes r es → closing (read_from r es) ≡ None
closed_in_the_end r [] h = h
closed_in_the_end r (e ∷ es) h = closed_in_the_end (after r e) es h.1

-- ---- one step of the serial history that isn't of these

pub ready_step : (keys : List Name) (r : Reading) (todo : Todo) (v : ℕ) → closing r ≡ None → least_var r (ready r) ≡ Some v → first_step keys r todo ≡ Some (next r v, todo)
ready_step keys r todo v h k = rw (h, k) refl

-- with no loader
first_of_none : (test : ℕ → Bool) (xs : List ℕ) → ((x : ℕ) → test x ≡ false) → first_where test xs ≡ None
first_of_none test [] h = refl
first_of_none test (x ∷ xs) h = rw (h x) (first_of_none test xs h)

never : (o : Option Ticket) → from_option false (λ (k : Ticket). list_any (λ key. bytes_eq key k.key) []) o ≡ false
never None = refl
never (Some k) = refl

no_ticket : (r : Reading) → loader_ticket r [] ≡ None
no_ticket r =
    first_of_none (λ t. is_live r t && from_option false (λ (k : Ticket). list_any (λ key. bytes_eq key k.key) []) (nth r.tickets t)) (numbers r.tickets)
    (λ t. and_right (is_live r t) (from_option false (λ (k : Ticket). list_any (λ key. bytes_eq key k.key) []) (nth r.tickets t)) (never (nth r.tickets t)))

-- nothing is to be loaded where no ticket is live
pub none_live_to_load : (keys : List Name) (r : Reading) → ((t : ℕ) → is_live r t ≡ false) → to_load keys r ≡ None
none_live_to_load keys r none = go (may_load r)
  where
    go : (b : Bool) → cond b (loader_ticket r keys) None ≡ None
    go true =
        first_of_none (λ t. is_live r t && from_option false (λ (k : Ticket). list_any (λ key. bytes_eq key k.key) keys) (nth r.tickets t)) (numbers r.tickets)
        (λ t. and_left (is_live r t) (from_option false (λ (k : Ticket). list_any (λ key. bytes_eq key k.key) keys) (nth r.tickets t)) (none t))
    go false = refl

pub nothing_to_load : (r : Reading) → to_load [] r ≡ None
nothing_to_load r = go (may_load r)
  where
    go : (b : Bool) → cond b (loader_ticket r []) None ≡ None
    go true = no_ticket r
    go false = refl

pub line_first : (r : Reading) (l : ℕ × Event) (lines : List (ℕ × Event)) (answers : List Answer)
    → closing r ≡ None → least_var r (ready r) ≡ None
    → first_step [] r (record { lines = l ∷ lines; answers = answers }) ≡ Some (admit r l.0 l.1, record { lines = lines; answers = answers })
line_first r l lines answers h k =
    let todo : Todo = record { lines = l ∷ lines; answers = answers } in
    rw (h, k) (ap (outer_step r todo) (nothing_to_load r))

pub no_step : (r : Reading) (answers : List Answer) → closing r ≡ None → least_var r (ready r) ≡ None
    → first_step [] r (record { lines = []; answers = answers }) ≡ None
no_step r answers h k =
    let todo : Todo = record { lines = []; answers = answers } in
    rw (h, k) (ap (outer_step r todo) (nothing_to_load r))

-- nothing is still to come from outside
abbrev pub nothing : Todo
nothing = record { lines = []; answers = [] }

-- a step that takes no line leaves nothing to come
pub same_todo : (r : Reading) (e : Entry) (mid : Todo) → first_step [] r nothing ≡ Some (e, mid) → mid ≡ nothing
same_todo r e mid h = go (closing r) refl (next_of_ready r) refl
  where
    from_entry : (x : Entry) → or_else (closing r) (next_of_ready r) ≡ Some x → mid ≡ nothing
    from_entry x is =
        let step : first_step [] r nothing ≡ Some (x, nothing) = rw is refl in
        sym (some_pair_parts x e nothing mid (sym step ∙ h)).1

    go : (a : Option Entry) → closing r ≡ a → (b : Option Entry) → next_of_ready r ≡ b → mid ≡ nothing
    go (Some x) p b q = from_entry x (ap (λ (o : Option Entry). or_else o (next_of_ready r)) p)
    go None p (Some x) q = from_entry x (ap (λ (o : Option Entry). or_else o (next_of_ready r)) p ∙ q)
    go None p None q = absurd (none-some (e, mid) (sym (no_step r [] p (no_ready q)) ∙ h))
      where
        no_ready : option_then (least_var r (ready r)) (λ v. Some (next r v)) ≡ None → least_var r (ready r) ≡ None
        no_ready k = least (least_var r (ready r)) refl
          where
            least : (o : Option ℕ) → least_var r (ready r) ≡ o → least_var r (ready r) ≡ None
            least None e = e
            least (Some v) e = absurd (none-some (next r v) (sym k ∙ ap (λ (o : Option ℕ). option_then o (λ v. Some (next r v))) e))
