-- Wherever a start has its kept footing, its inputs show what they showed: so a variable that was ready has the input values of then.
use Rattle.std.proofs.Common.{inl, inr, ℕ, ◌≡◌, ◌+◌, ◌≤◌, refl, sym, ◌∙◌, ap, subst, Bool, true, false, cond, ◌⊎◌, not, List, [], ◌∷◌, map, arith, Option, Some, None, is_some}
use Rattle.std.specs.Prelude.{nat_le}
use Rattle.std.proofs.lemmas.Option.{same_Some}
use Rattle.nb_value.specs.declared.outcome.CellError.{CellError}
use Rattle.nb_value.specs.declared.outcome.Outcome.{Outcome}
use Rattle.nb_value.specs.declared.outcome.Outcome.TheVariants.{Value as Shows, Error as Fails}
use Rattle.nb_sheet.specs.Sheet.{Sheet}
use Rattle.nb_sheet.specs.Lists.{from_option, option_then, or_else}
use Rattle.nb_graph.specs.Needs.{has}
use Rattle.nb_resolve.specs.Names.{direct}
use Rattle.nb_history.specs.Needs.{circular}
use Rattle.nb_history.specs.Reading.{Reading, Start, Footing, start_of, shown, number, renewal}
use Rattle.nb_history.specs.Rules.{footing, first_error, marked_error}
use Rattle.nb_history.specs.Log.{after, read_from, reading, new_start, change_start, showing, asking, ending_now, answering, ticket_var, settle, Fits}
use Rattle.nb_history.specs.Parked.{EvaluatesAlike, ReadyKeepsInputs}
use Rattle.nb_log.specs.Printing.{entry_size}
use Rattle.nb_log.specs.declared.entry.Entry.{Entry}
use Rattle.nb_log.specs.declared.entry.Entry.TheVariants.{Edit, Frame, Settled, Late, Loaded, Refused, Rest, Dispose, Pending, Fulfilled, Rejected, Asked, Ended, Left}
use Rattle.nb_history.proofs.Closing.{footing_agree}
use Rattle.nb_history.proofs.Histories.{legal_keeps}
use Rattle.nb_history.proofs.Lawful.{Earlier, put_cases, start_step, one_more_entry, has_map, kept_now, number_at}
use Rattle.nb_history.proofs.Scratches.{not_circular}
use Rattle.nb_history.proofs.Sites.{Site, site_of}
use Rattle.nb_history.proofs.LaterSheets.{IsLater, SameAt, same_later, less_late}
use Rattle.nb_history.proofs.Steady.{Steady, Within, rests_on, site, site_agree, none_passes, is_none}
use Rattle.nb_history.proofs.SteadyNotices.{Ready, ready_start, Renews, same_there, renews, live_start}
use Rattle.nb_history.proofs.SteadyEvents.{pulled_is, pulled_shown, pulled_number, pulled_renewal, settled_live}
use Rattle.nb_history.proofs.SteadyEdits.{start_same, before}
use Rattle.nb_history.proofs.RestHolds.{Stands, stands_from, stands_log}

-- ---- what an entry makes of a variable's start

-- from r to q: the start and the renewal stay, and so does what is shown, if something was
pub record Unmoved (r q : Reading) (u : ℕ) : Type 0 where
  pub number : number q u ≡ number r u
  pub renewal : renewal q u ≡ renewal r u
  pub shows : (shown r u ≡ None) ⊎ (shown r u ≡ shown q u)

-- it is idle, or its number or renewal is one that no start kept
abbrev pub Moved : Reading → Reading → ℕ → Type 0
Moved r q u = (number q u ≡ r.entries + 1) ⊎ (number q u ≡ 0) ⊎ (renewal q u ≡ r.entries + 1)

abbrev number_of : Option Start → ℕ
number_of o = from_option 0 (λ (s : Start). s.number) o

abbrev renewal_of : Option Start → ℕ
renewal_of o = from_option 0 (λ (s : Start). s.renewal) o

abbrev shown_by : Option Start → Option Outcome
shown_by o = option_then o (λ s. s.shown)

module _ (r q : Reading) where
  same_start : (u : ℕ) → start_of q u ≡ start_of r u → Unmoved r q u
  same_start u e = record { number = ap number_of e; renewal = ap renewal_of e; shows = inr (sym (ap shown_by e)) }

  other_start : (u : ℕ) (s t : Start) → start_of r u ≡ Some s → start_of q u ≡ Some t → t.number ≡ s.number → Renews r s t → Unmoved r q u ⊎ Moved r q u
  other_start u s t was is numbered (inl new) = inr (inr (inr (ap renewal_of is ∙ new)))
  other_start u s t was is numbered (inr old) =
      inl (record {
        number = ap number_of is ∙ numbered ∙ sym (ap number_of was);
        renewal = ap renewal_of is ∙ old.0 ∙ sym (ap renewal_of was);
        shows = elim old.1 [
          | inl none ↦ inl (ap shown_by was ∙ none)
          | inr same ↦ inr (ap shown_by was ∙ same ∙ sym (ap shown_by is))
        ];
      })

  -- v's start changes
  change_fate : (p : Reading) (v : ℕ) (s : Start) (change : Start → Start) → ((u : ℕ) → start_of p u ≡ start_of r u) → ((u : ℕ) → start_of q u ≡ start_of (change_start p v change) u)
      → start_of r v ≡ Some s → (change s).number ≡ s.number → Renews r s (change s) → (u : ℕ) → Unmoved r q u ⊎ Moved r q u
  change_fate p v s change before after there numbered renews u =
      elim (put_cases p v (option_then (start_of p v) (λ s. Some (change s))) u) [
        | inl same ↦ inl (same_start u (after u ∙ same ∙ before u))
        | inr c ↦
            let was : start_of r u ≡ Some s = sym (ap (start_of r) c.0) ∙ there in
            let is : start_of q u ≡ Some (change s) = after u ∙ c.1 ∙ ap (λ (o : Option Start). option_then o (λ s. Some (change s))) (before v ∙ there) in
            other_start u s (change s) was is numbered renews
      ]

pub fate : (r : Reading) (e : Entry) → Stands r → Fits r e → (u : ℕ) → Unmoved r (after r e) u ⊎ Moved r (after r e) u
fate r (Left v d) h fits u = elim (put_cases r v None u) [
  | inl same ↦ inl (same_start r (after r (Left v d)) u same)
  | inr c ↦ inr (inr (inl (ap number_of c.1)))
]
fate r (Pending v d) h fits u = elim (put_cases r v (Some (new_start (r.entries + 1) (footing r v))) u) [
  | inl same ↦ inl (same_start r (after r (Pending v d)) u same)
  | inr c ↦ inr (inl (ap number_of c.1))
]
fate r (Fulfilled v x) h fits u =
    let go : Ready r v = ready_start r v fits.1 in
    change_fate r (after r (Fulfilled v x)) r v go.start (showing r v (Shows x)) (λ u. refl) (λ u. refl) go.there refl (renews r h.steady v go (Shows x) (nat_le 2 go.start.pulls) refl) u
fate r (Rejected v d) h fits u =
    let go : Ready r v = ready_start r v fits.1 in
    change_fate r (after r (Rejected v d)) r v go.start (showing r v (Fails d)) (λ u. refl) (λ u. refl) go.there refl (renews r h.steady v go (Fails d) (nat_le 2 go.start.pulls) refl) u
fate r (Asked v t key) h fits u =
    let go : Ready r v = ready_start r v fits.1 in
    change_fate r (after r (Asked v t key)) r v go.start (asking r v t) (λ u. refl) (λ u. refl) go.there refl (inr (refl, inr refl)) u
fate r (Ended v) h fits u =
    let go : Ready r v = ready_start r v fits.1 in
    change_fate r (after r (Ended v)) r v go.start (ending_now r v) (λ u. refl) (λ u. refl) go.there refl (inr (refl, inr refl)) u
fate r (Edit editor edit) h fits u = inl (same_start r (after r (Edit editor edit)) u (start_same r h.steady edit (r.size + entry_size (Edit editor edit)) u))
fate r (Frame editor) h fits u =
    let is = pulled_is r (r.size + entry_size (Frame editor)) u in
    inl (record {
      number = ap number_of is ∙ pulled_number r u (start_of r u);
      renewal = ap renewal_of is ∙ pulled_renewal r u (start_of r u);
      shows = inr (sym (ap shown_by is ∙ pulled_shown r u (start_of r u)));
    })
fate r (Settled editor t a) h fits u =
    let p : (s : Start) × (start_of r (ticket_var r t) ≡ Some s) × (is_some s.ticket ≡ true) = live_start r t (settled_live r fits.1.0 editor t a fits.1.1 fits.1.3) in
    change_fate r (after r (Settled editor t a)) (settle r t) (ticket_var r t) p.0 (answering a) (λ u. refl) (λ u. refl) p.1 refl (inr (refl, inr refl)) u
fate r (Loaded t a) h fits u =
    let p : (s : Start) × (start_of r (ticket_var r t) ≡ Some s) × (is_some s.ticket ≡ true) = live_start r t fits.1 in
    change_fate r (after r (Loaded t a)) (settle r t) (ticket_var r t) p.0 (answering a) (λ u. refl) (λ u. refl) p.1 refl (inr (refl, inr refl)) u
fate r (Late editor t) h fits u = inl (same_start r (after r (Late editor t)) u refl)
fate r (Refused editor reason event) h fits u = inl (same_start r (after r (Refused editor reason event)) u refl)
fate r (Rest editor) h fits u = inl (same_start r (after r (Rest editor)) u refl)
fate r (Dispose editor) h fits u = inl (same_start r (after r (Dispose editor)) u refl)

-- a sheet that may come after an entry may come before it
later_before : (r : Reading) (e : Entry) → Steady r → (t : Sheet) → IsLater (after r e).sheet (after r e).entries t → IsLater r.sheet r.entries t
later_before r (Left v d) h t l = less_late r.sheet r.entries t l
later_before r (Pending v d) h t l = less_late r.sheet r.entries t l
later_before r (Fulfilled v x) h t l = less_late r.sheet r.entries t l
later_before r (Rejected v d) h t l = less_late r.sheet r.entries t l
later_before r (Asked v n key) h t l = less_late r.sheet r.entries t l
later_before r (Ended v) h t l = less_late r.sheet r.entries t l
later_before r (Edit editor edit) h t l = before r h edit (r.size + entry_size (Edit editor edit)) t l
later_before r (Frame editor) h t l = less_late r.sheet r.entries t l
later_before r (Settled editor n a) h t l = less_late r.sheet r.entries t l
later_before r (Late editor n) h t l = less_late r.sheet r.entries t l
later_before r (Loaded n a) h t l = less_late r.sheet r.entries t l
later_before r (Refused editor reason event) h t l = less_late r.sheet r.entries t l
later_before r (Rest editor) h t l = less_late r.sheet r.entries t l
later_before r (Dispose editor) h t l = less_late r.sheet r.entries t l

-- ---- what a start rests on after an entry it rested on before

module _ (r : Reading) (e : Entry) (h : Stands r) (fits : Fits r e) (v : ℕ) (s : Start) (there : start_of r v ≡ Some s) (t : Sheet) (kept : rests_on (after r e) t v ≡ s.kept) where
  in_kept : (f : ℕ → ℕ) (xs : List ℕ) → circular t v ≡ false → cond (circular t v) [] (map f (direct t v)) ≡ xs → (u : ℕ) → has (direct t v) u ≡ true → has xs (f u) ≡ true
  in_kept f xs c is u k =
      subst (λ (ys : List ℕ). has ys (f u) ≡ true) (sym (ap (λ (b : Bool). cond b [] (map f (direct t v))) c) ∙ is) (has_map f (direct t v) u k)

  -- its inputs don't move
  inputs_stay : circular t v ≡ false → (u : ℕ) → has (direct t v) u ≡ true → Unmoved r (after r e) u
  inputs_stay c u k = elim (fate r e h fits u) [
    | inl same ↦ same
    | inr moved ↦
        let numbered : has s.kept.starts (number (after r e) u) ≡ true = in_kept (number (after r e)) s.kept.starts c (ap (λ (f : Footing). f.starts) kept) u k in
        let renewed : has s.kept.renewals (renewal (after r e) u) ≡ true = in_kept (renewal (after r e)) s.kept.renewals c (ap (λ (f : Footing). f.renewals) kept) u k in
        absurd (clash moved numbered renewed)
  ]
    where
      p : Within r.entries s
      p = h.steady.within v s there

      clash : Moved r (after r e) u → has s.kept.starts (number (after r e) u) ≡ true → has s.kept.renewals (renewal (after r e) u) ≡ true → ⊥
      clash (inl new) n m = omega (arith, h.law.before v s there (number (after r e) u) n, new)
      clash (inr (inl idle)) n m = omega (arith, p.starts (number (after r e) u) n, idle)
      clash (inr (inr new)) n m = omega (arith, p.renewals (renewal (after r e) u) m, new)

  pub rested : rests_on r t v ≡ s.kept
  rested =
      sym (footing_agree t (number (after r e)) (number r) (renewal (after r e)) (renewal r) v
      (λ c u k. Unmoved.number (inputs_stay c u k))
      (λ c u k. Unmoved.renewal (inputs_stay c u k))) ∙ kept

  pub site_stays : marked_error t v ≡ None → Site.waits (site_of t (shown r) v) ≡ false → site_of t (shown (after r e)) v ≡ site_of t (shown r) v
  site_stays unmarked still = site_agree t (shown r) (shown (after r e)) v (λ u k. elim (Unmoved.shows (inputs_stay (not_circular t v unmarked) u k)) [
    | inl none ↦ absurd (is_none (shown r u) none (none_passes (λ u. not (is_some (shown r u))) (direct t v) still u k))
    | inr same ↦ same
  ])

-- ---- along a legal log

-- v's start of number n has site x wherever it has its kept footing
pub record Fixed (x : Site) (n v : ℕ) (r : Reading) : Type 0 where
  pub stands : Stands r
  pub past : n ≤ r.entries
  pub marks : (s : Start) → start_of r v ≡ Some s → s.number ≡ n → (t : Sheet) → IsLater r.sheet r.entries t → rests_on r t v ≡ s.kept → marked_error t v ≡ x.marked
  pub same : (s : Start) → start_of r v ≡ Some s → s.number ≡ n → (t : Sheet) → IsLater r.sheet r.entries t → rests_on r t v ≡ s.kept → x.marked ≡ None → site_of t (shown r) v ≡ x

module _ (x : Site) (n v : ℕ) (still : x.marked ≡ None → x.waits ≡ false) where
  fixed_after : (r : Reading) (e : Entry) → Fixed x n v r → Fits r e → Fixed x n v (after r e)
  fixed_after r e h fits = record {
    stands = stands_from r (e ∷ []) h.stands (fits, tt);
    past = omega (arith, h.past, one_more_entry r e);
    marks = λ s at num t l kept.
        let p : Earlier r v s = earlier s at num in
        let k : rests_on (after r e) t v ≡ p.start.kept = kept ∙ p.goes_on.kept in
        h.marks p.start p.there (sym p.goes_on.number ∙ num) t (later_before r e h.stands.steady t l) (rested r e h.stands fits v p.start p.there t k);
    same = λ s at num t l kept unmarked.
        let p : Earlier r v s = earlier s at num in
        let k : rests_on (after r e) t v ≡ p.start.kept = kept ∙ p.goes_on.kept in
        let was : rests_on r t v ≡ p.start.kept = rested r e h.stands fits v p.start p.there t k in
        let number_was : p.start.number ≡ n = sym p.goes_on.number ∙ num in
        let b : IsLater r.sheet r.entries t = later_before r e h.stands.steady t l in
        let is : site_of t (shown r) v ≡ x = h.same p.start p.there number_was t b was unmarked in
        site_stays r e h.stands fits v p.start p.there t k (h.marks p.start p.there number_was t b was ∙ unmarked) (ap Site.waits is ∙ still unmarked) ∙ is;
  }
    where
      earlier : (s : Start) → start_of (after r e) v ≡ Some s → s.number ≡ n → Earlier r v s
      earlier s at num = elim (start_step r e fits v s at) [
        | inl old ↦ old
        | inr new ↦ let p : s.number ≡ r.entries + 1 = ap (λ (z : Start). z.number) new.start in absurd (omega (arith, p, num, h.past))
      ]

-- where v is ready, its site is fixed
fixed_ready : (r : Reading) (v : ℕ) → Stands r → (go : Ready r v) → Fixed (site r v) go.start.number v r
fixed_ready r v h go = record {
  stands = h;
  past = (h.law.placed v go.start go.there).1;
  marks = λ s at num t l kept. ap Site.marked ((there s at t l kept).site (shown r));
  same = λ s at num t l kept unmarked. (there s at t l kept).site (shown r);
}
  where
    there : (s : Start) → start_of r v ≡ Some s → (t : Sheet) → IsLater r.sheet r.entries t → rests_on r t v ≡ s.kept → SameAt r.sheet t v
    there s at t l kept =
        let one : s ≡ go.start = same_Some s go.start (sym at ∙ go.there) in
        same_there r h.steady v s s at (ap (λ (z : Start). z.kept) one ∙ go.calm) t l kept

-- a start of this number
pub started : (r : Reading) (v n : ℕ) → 1 ≤ n → number r v ≡ n → (s : Start) × (start_of r v ≡ Some s) × (s.number ≡ n)
started r v n some h = go (start_of r v) refl
  where
    go : (o : Option Start) → start_of r v ≡ o → (s : Start) × (start_of r v ≡ Some s) × (s.number ≡ n)
    go None e = let none : number r v ≡ 0 = ap number_of e in absurd (omega (arith, some, h, none))
    go (Some s) e = (s, e, sym (ap number_of e) ∙ h)

pub ready_keeps_inputs : ReadyKeepsInputs
ready_keeps_inputs builtins log es v legal more ready_then numbered calm =
    let r : Reading = reading builtins log in
    let last : Reading = read_from r es in
    let h : Stands r = stands_log builtins log legal in
    let go : Ready r v = ready_start r v ready_then in
    let n : ℕ = go.start.number in
    let fixed : Fixed (site r v) n v last =
    legal_keeps (Fixed (site r v) n v) (fixed_after (site r v) n v go.inputs_show) r es (fixed_ready r v h go) more in
    let s : (s : Start) × (start_of last v ≡ Some s) × (s.number ≡ n) = started last v n (h.law.placed v go.start go.there).0 (numbered ∙ number_at r v go.start go.there) in
    let kept : rests_on last last.sheet v ≡ s.0.kept = sym (kept_now last v s.0 s.1 calm) in
    let l : IsLater last.sheet last.entries last.sheet = same_later last.sheet last.entries in
    alike last r v (fixed.marks s.0 s.1 s.2 last.sheet l kept) (fixed.same s.0 s.1 s.2 last.sheet l kept)
  where
    alike : (q r : Reading) (v : ℕ) → marked_error q.sheet v ≡ marked_error r.sheet v → (marked_error r.sheet v ≡ None → site q v ≡ site r v) → EvaluatesAlike r q v
    alike q r v marks same = (by_mark (marked_error r.sheet v) refl, λ unmarked. (ap Site.body (same unmarked), ap Site.values (same unmarked)))
      where
        by_mark : (m : Option CellError) → marked_error r.sheet v ≡ m
            → or_else (marked_error q.sheet v) (first_error (Site.givens (site q v))) ≡ or_else (marked_error r.sheet v) (first_error (Site.givens (site r v)))
        by_mark (Some e) k =
            ap (λ (o : Option CellError). or_else o (first_error (Site.givens (site q v)))) (marks ∙ k)
            ∙ sym (ap (λ (o : Option CellError). or_else o (first_error (Site.givens (site r v)))) k)
        by_mark None k = ap (λ (x : Site). or_else (Site.marked x) (first_error (Site.givens x))) (same k)
