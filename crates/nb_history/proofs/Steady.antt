-- What holds after every legal log, and what of it goes on holding of the variables whose start stays.
use Rattle.std.proofs.Common.{inl, inr, ℕ, zero, suc, ◌≡◌, ◌≢◌, ◌+◌, ◌≤◌, refl, sym, ◌∙◌, ap, subst, Bool, true, false, cond, not, ◌⊎◌, List, [], ◌∷◌, map, arith, Option, Some, None, is_some}
use Rattle.std.specs.Prelude.{slice_get, set}
use Rattle.std.specs.List.{list_any}
use Rattle.std.proofs.lemmas.Bool.{cases_eq, false≢true, false_from_ne_true}
use Rattle.std.proofs.lemmas.Option.{none-some}
use Rattle.nb_value.specs.declared.value.Value.{Value}
use Rattle.nb_value.specs.declared.pairs.Field.{Field}
use Rattle.nb_value.specs.declared.outcome.Outcome.{Outcome}
use Rattle.nb_sheet.specs.declared.row.VarRow.{VarRow}
use Rattle.nb_sheet.specs.Lists.{nth, put, from_option, option_then}
use Rattle.nb_sheet.specs.Sheet.{Sheet}
use Rattle.nb_graph.specs.Needs.{has}
use Rattle.nb_resolve.specs.Names.{direct, inputs}
use Rattle.nb_history.specs.Needs.{circular}
use Rattle.nb_history.specs.Reading.{Reading, Start, Footing, Ticket, start_of, shown, number, renewal}
use Rattle.nb_history.specs.Rules.{given, values_given, marked_error, body_of}
use Rattle.nb_graph.proofs.Reaches.{has_any}
use Rattle.nb_history.proofs.Closing.{nth_put_same, nth_put_other, footing_agree, footing_by}
use Rattle.nb_history.proofs.Lawful.{has_map}
use Rattle.nb_history.proofs.Scratches.{not_circular, any_agree, all_given_agree, values_agree}
use Rattle.nb_history.proofs.Sites.{Site, site_of, Holds, moves}
use Rattle.nb_history.proofs.LaterSheets.{IsLater, less_late}

-- v's site as the reading has it
abbrev pub site : Reading → ℕ → Site
site r v = site_of r.sheet (shown r) v

-- what v would rest on now, were this the sheet
abbrev pub rests_on : Reading → Sheet → ℕ → Footing
rests_on r t v = footing_by t (number r) (renewal r) v

-- what a start keeps is a place among n entries, starts that there were, and renewals of before
pub record Within (n : ℕ) (s : Start) : Type 0 where
  pub renewal : s.renewal ≤ n
  pub renewals : (x : ℕ) → has s.kept.renewals x ≡ true → x ≤ n
  pub starts : (x : ℕ) → has s.kept.starts x ≡ true → 1 ≤ x
  pub given : 1 ≤ s.kept.place
  pub place : s.kept.place ≤ n

pub within_more : (n : ℕ) (s : Start) → Within n s → Within (n + 1) s
within_more n s h = record {
  renewal = omega (arith, h.renewal);
  renewals = λ x k. omega (arith, h.renewals x k);
  starts = h.starts;
  given = h.given;
  place = omega (arith, h.place);
}

pub record Steady (r : Reading) : Type 0 where
  -- a row's place is that of an entry, and 0 only where the row has no body
  pub placed : (v : ℕ) (row : VarRow) → nth r.sheet.rows v ≡ Some row → (row.place ≤ r.entries) × (is_some row.body ≡ true → 1 ≤ row.place)
  pub within : (v : ℕ) (s : Start) → start_of r v ≡ Some s → Within r.entries s
  -- wherever v has its kept footing, now or after edits while it is held, its start holds at the site that it has there
  pub holds : (v : ℕ) (s : Start) → start_of r v ≡ Some s → (t : Sheet) → IsLater r.sheet r.entries t → rests_on r t v ≡ s.kept → Holds (site_of t (shown r) v) s

-- after one more entry, with these starts
abbrev pub later : Reading → List (Option Start) → List Ticket → ℕ → Reading
later r starts tickets size = record r { starts = starts; tickets = tickets; entries = r.entries + 1; size = size }

pub more_placed : (r : Reading) → Steady r → (v : ℕ) (row : VarRow) → nth r.sheet.rows v ≡ Some row → (row.place ≤ r.entries + 1) × (is_some row.body ≡ true → 1 ≤ row.place)
more_placed r h v row at = let p : (row.place ≤ r.entries) × (is_some row.body ≡ true → 1 ≤ row.place) = h.placed v row at in (omega (arith, p.0), p.1)

-- where no start changes
pub unchanged : (r : Reading) (tickets : List Ticket) (size : ℕ) → Steady r → Steady (later r r.starts tickets size)
unchanged r tickets size h = record {
  placed = more_placed r h;
  within = λ v s at. within_more r.entries s (h.within v s at);
  holds = λ v s at t l kept. h.holds v s at t (less_late r.sheet r.entries t l) kept;
}

-- ---- starts in their list

pub start_there : (o : Option (Option Start)) (s : Start) → option_then o (λ s. s) ≡ Some s → o ≡ Some (Some s)
start_there None s h = absurd (none-some s h)
start_there (Some None) s h = absurd (none-some s h)
start_there (Some (Some t)) s h = ap (λ (x : Option Start). Some x) h

get_out : {A : Type 0} (xs : List A) (i : ℕ) (y : A) → slice_get xs i ≡ None → set xs i y ≡ xs
get_out [] i y h = refl
get_out (x ∷ xs) zero y h = absurd (none-some x (sym h))
get_out (x ∷ xs) (suc i) y h = ap (λ l. x ∷ l) (get_out xs i y h)

-- past its end a list stays
pub nth_out : {A : Type 0} (xs : List A) (v : ℕ) (y : A) → nth xs v ≡ None → put xs v y ≡ xs
nth_out xs zero y h = refl
nth_out xs (suc i) y h = get_out xs i y h

-- ---- a site rests on what the inputs show

pub none_passes : (p : ℕ → Bool) (xs : List ℕ) → list_any p xs ≡ false → (u : ℕ) → has xs u ≡ true → p u ≡ false
none_passes p xs h u k = false_from_ne_true (p u) (λ j. false≢true (sym h ∙ has_any p xs u k j))

pub site_agree : (s : Sheet) (f g : ℕ → Option Outcome) (v : ℕ) → ((u : ℕ) → has (direct s v) u ≡ true → f u ≡ g u) → site_of s g v ≡ site_of s f v
site_agree s f g v h =
    let is = inputs s v in
    sym (ap (λ (b : Bool). record { marked = marked_error s v; body = body_of s v; waits = b; givens = map (given s f) is; values = values_given s f is }) (any_agree s f g (direct s v) h)
    ∙ ap (λ (xs : List (Option Outcome)). record { marked = marked_error s v; body = body_of s v; waits = list_any (λ u. not (is_some (g u))) (direct s v); givens = xs; values = values_given s f is }) (all_given_agree s f g is h)
    ∙ ap (λ (xs : List (Field Value)). record { marked = marked_error s v; body = body_of s v; waits = list_any (λ u. not (is_some (g u))) (direct s v); givens = map (given s g) is; values = xs }) (values_agree s f g is h))

pub is_none : (o : Option Outcome) → o ≡ None → not (is_some o) ≡ false → ⊥
is_none o e h = false≢true (sym h ∙ ap (λ (o : Option Outcome). not (is_some o)) e)

module _ (r : Reading) (starts : List (Option Start)) (tickets : List Ticket) (size : ℕ) where
  abbrev now : Reading
  now = later r starts tickets size

  -- its inputs show what they showed, if they showed something
  pub site_moves : (t : Sheet) (v : ℕ) (s : Start) → (marked_error t v ≡ None → (u : ℕ) → has (direct t v) u ≡ true → (shown r u ≡ None) ⊎ (shown r u ≡ shown now u)) → Holds (site_of t (shown r) v) s → Holds (site_of t (shown now) v) s
  site_moves t v s agree h =
      moves (site_of t (shown r) v) (site_of t (shown now) v) s refl
      (λ unmarked still. site_agree t (shown r) (shown now) v (λ u k. elim (agree unmarked u k) [
        | inl none ↦ absurd (is_none (shown r u) none (none_passes (λ u. not (is_some (shown r u))) (direct t v) still u k))
        | inr same ↦ same
      ]))
      h

  -- u's start and renewal stay, and so does what it shows, if it showed something
  pub record Stays (u : ℕ) : Type 0 where
    pub number : number now u ≡ number r u
    pub renewal : renewal now u ≡ renewal r u
    pub shows : (shown r u ≡ None) ⊎ (shown r u ≡ shown now u)

  -- a variable whose start and inputs stay
  pub keeps : Steady r → (t : Sheet) → IsLater r.sheet r.entries t → (v : ℕ) (s : Start) → start_of r v ≡ Some s → rests_on now t v ≡ s.kept
      → (circular t v ≡ false → (u : ℕ) → has (direct t v) u ≡ true → Stays u) → Holds (site_of t (shown now) v) s
  keeps h t l v s at kept stays =
      site_moves t v s (λ unmarked u k. Stays.shows (stays (not_circular t v unmarked) u k))
      (h.holds v s at t l
      (sym (footing_agree t (number now) (number r) (renewal now) (renewal r) v (λ c u k. Stays.number (stays c u k)) (λ c u k. Stays.renewal (stays c u k))) ∙ kept))

-- ---- one start changes

module _ (r : Reading) (steady : Steady r) (v : ℕ) (o : Option Start) (tickets : List Ticket) (size : ℕ) where
  abbrev next : Reading
  next = later r (put r.starts v o) tickets size

  pub start_else : (w : ℕ) → v ≢ w → start_of next w ≡ start_of r w
  start_else w other = ap (λ (z : Option (Option Start)). option_then z (λ s. s)) (nth_put_other r.starts v w o other)

  pub start_self : (z : Option Start) → nth r.starts v ≡ Some z → start_of next v ≡ o
  start_self z at = ap (λ (z : Option (Option Start)). option_then z (λ s. s)) (nth_put_same r.starts v z o at)

  pub else_stays : (w : ℕ) → v ≢ w → Stays r (put r.starts v o) tickets size w
  else_stays w other = record {
    number = ap (λ (z : Option Start). from_option 0 (λ (s : Start). s.number) z) (start_else w other);
    renewal = ap (λ (z : Option Start). from_option 0 (λ (s : Start). s.renewal) z) (start_else w other);
    shows = inr (sym (ap (λ (z : Option Start). option_then z (λ s. s.shown)) (start_else w other)));
  }

  -- another variable
  other_holds : (t : Sheet) → IsLater r.sheet r.entries t → (w : ℕ) (s : Start) → v ≢ w → start_of next w ≡ Some s → rests_on next t w ≡ s.kept
      → (circular t w ≡ false → has (direct t w) v ≡ true → Stays r (put r.starts v o) tickets size v) → Holds (site_of t (shown next) w) s
  other_holds t l w s other here kept own =
      keeps r (put r.starts v o) tickets size steady t l w s (sym (start_else w other) ∙ here) kept
      (λ c u k. elim (cases_eq v u) [
        | inl same ↦ subst (λ (x : ℕ). Stays r (put r.starts v o) tickets size x) same (own c (ap (has (direct t w)) same ∙ k))
        | inr apart ↦ else_stays u apart
      ])

  -- no start kept a new renewal
  pub renewed_not_kept : (t : Sheet) (w : ℕ) (s : Start) → v ≢ w → start_of next w ≡ Some s → rests_on next t w ≡ s.kept → renewal next v ≡ r.entries + 1 → circular t w ≡ false → has (direct t w) v ≡ true → ⊥
  renewed_not_kept t w s other here kept new c k =
      let renewals : map (renewal next) (direct t w) ≡ s.kept.renewals =
      sym (ap (λ (b : Bool). cond b [] (map (renewal next) (direct t w))) c) ∙ ap (λ (f : Footing). f.renewals) kept in
      let in_it : has s.kept.renewals (r.entries + 1) ≡ true =
      subst (λ (xs : List ℕ). has xs (r.entries + 1) ≡ true) renewals
      (subst (λ (x : ℕ). has (map (renewal next) (direct t w)) x ≡ true) new (has_map (renewal next) (direct t w) v k)) in
      omega (arith, Within.renewals (steady.within w s (sym (start_else w other) ∙ here)) (r.entries + 1) in_it)

  -- no start kept an idle variable
  pub idle_not_kept : (t : Sheet) (w : ℕ) (s : Start) → v ≢ w → start_of next w ≡ Some s → rests_on next t w ≡ s.kept → number next v ≡ 0 → circular t w ≡ false → has (direct t w) v ≡ true → ⊥
  idle_not_kept t w s other here kept none c k =
      let starts : map (number next) (direct t w) ≡ s.kept.starts =
      sym (ap (λ (b : Bool). cond b [] (map (number next) (direct t w))) c) ∙ ap (λ (f : Footing). f.starts) kept in
      let in_it : has s.kept.starts 0 ≡ true =
      subst (λ (xs : List ℕ). has xs 0 ≡ true) starts
      (subst (λ (x : ℕ). has (map (number next) (direct t w)) x ≡ true) none (has_map (number next) (direct t w) v k)) in
      omega (arith, Within.starts (steady.within w s (sym (start_else w other) ∙ here)) 0 in_it)

  -- v's new start, and what the others owe to it
  pub put_steady : (z : Option Start) → nth r.starts v ≡ Some z
      → ((s : Start) → o ≡ Some s → Within (r.entries + 1) s)
      → ((s : Start) → o ≡ Some s → (t : Sheet) → IsLater r.sheet r.entries t → rests_on next t v ≡ s.kept → Holds (site_of t (shown next) v) s)
      → ((t : Sheet) (w : ℕ) (s : Start) → v ≢ w → start_of next w ≡ Some s → rests_on next t w ≡ s.kept → circular t w ≡ false → has (direct t w) v ≡ true → Stays r (put r.starts v o) tickets size v)
      → Steady next
  put_steady z at small own others = record {
    placed = more_placed r steady;
    within = λ w s here. elim (cases_eq v w) [
      | inl same ↦ small s (sym (start_self z at) ∙ ap (start_of next) same ∙ here)
      | inr other ↦ within_more r.entries s (steady.within w s (sym (start_else w other) ∙ here))
    ];
    holds = λ w s here t l kept.
        let before : IsLater r.sheet r.entries t = less_late r.sheet r.entries t l in
        elim (cases_eq v w) [
          | inl same ↦
              let P : ℕ → Type 0 = λ x. start_of next x ≡ Some s → rests_on next t x ≡ s.kept → Holds (site_of t (shown next) x) s in
              subst P same (λ here kept. own s (sym (start_self z at) ∙ here) t before kept) here kept
          | inr other ↦ other_holds t before w s other here kept (others t w s other here kept)
        ];
  }
