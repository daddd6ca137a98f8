-- What the next entry of a ready variable leaves, as one sees it who works out what closes.
use Rattle.std.proofs.Common.{inl, inr, ℕ, ◌≡◌, ◌≢◌, ◌+◌, refl, sym, ◌∙◌, ap, subst, arith, Bool, true, false, cond, ◌&&◌, List, map, length, option_map, Option, Some}
use Rattle.std.specs.Prelude.{nat_le}
use Rattle.std.proofs.lemmas.Bool.{cases_eq}
use Rattle.nb_log.specs.declared.entry.Entry.{Entry}
use Rattle.nb_log.specs.declared.entry.Entry.TheVariants.{Fulfilled, Rejected, Asked, Ended}
use Rattle.nb_sheet.specs.Lists.{nth, put, from_option, option_then}
use Rattle.nb_history.specs.Reading.{Reading, Start, Footing, start_of}
use Rattle.nb_history.specs.Rules.{ready, next}
use Rattle.nb_history.specs.Log.{after}
use Rattle.nb_history.specs.History.{History, standing}
use Rattle.nb_history.proofs.Closing.{nth_put_same, nth_put_other, Shaped}
use Rattle.nb_history.proofs.Shapes.{shaped_after, sound_reading}
use Rattle.nb_history.proofs.Plus.{reading_entries}
use Rattle.nb_history.proofs.StartsAfter.{inside, Runs}
use Rattle.nb_history.proofs.NextEntry.{IsOutcome, next_outcome, ready_runs, outcome_start, outcome_starts, outcome_sheet, outcome_keeps}
use Rattle.nb_history.proofs.Working.{there_in}
use Rattle.nb_runs.specs.Starts.{start_in}
use Rattle.nb_closing.specs.declared.site.Site.{Site}
use Rattle.nb_closing.specs.declared.site.Moment.{Moment}
use Rattle.nb_closing.specs.Sites.{idle_site, site_of, site_in, kept_of, IsScene}
use Rattle.nb_closing.proofs.StartSites.{nth_map, site_map}
use Rattle.nb_core.specs.Sites.{is_outcome, stopped_site, stopped_at}

-- ---- sites of starts

site_there : (xs : List (Option Start)) (v : ℕ) (s : Start) → nth xs v ≡ Some (Some s) → nth (map site_of xs) v ≡ Some (site_of (Some s))
site_there xs v s h = nth_map site_of xs v ∙ ap (option_map site_of) h

abbrev stopped : ℕ → ℕ → Site
stopped n m = record { number = n; renewal = m; later = false }

module _ (r : Reading) (v : ℕ) (e : Entry) (of : IsOutcome v e) where
  -- the site of v's start after its entry
  outcome_site : (s : Start) → s.running ≡ true → site_of (Some (outcome_start r e s)) ≡ stopped_site (is_outcome e) (r.entries + 1) (site_of (Some s))
  outcome_site s runs = go e of
    where
      renews : cond (nat_le 2 s.pulls) (r.entries + 1) s.renewal ≡ cond (true && (s.running && nat_le 2 s.pulls)) (r.entries + 1) s.renewal
      renews = ap (λ (b : Bool). cond (b && nat_le 2 s.pulls) (r.entries + 1) s.renewal) (sym runs)

      go : (e : Entry) → IsOutcome v e → site_of (Some (outcome_start r e s)) ≡ stopped_site (is_outcome e) (r.entries + 1) (site_of (Some s))
      go (Fulfilled u x) h = ap (stopped s.number) renews
      go (Rejected u x) h = ap (stopped s.number) renews
      go (Asked u t key) h = refl
      go (Ended u) h = refl
      go e h = absurd h

  outcome_rest : ((after r e).disposed ≡ r.disposed) × ((after r e).entries ≡ r.entries + 1)
  outcome_rest = go e of
    where
      go : (e : Entry) → IsOutcome v e → ((after r e).disposed ≡ r.disposed) × ((after r e).entries ≡ r.entries + 1)
      go (Fulfilled u x) h = (refl, refl)
      go (Rejected u x) h = (refl, refl)
      go (Asked u t key) h = (refl, refl)
      go (Ended u) h = (refl, refl)
      go e h = absurd h

  module _ (s : Start) (there : start_of r v ≡ Some s) (runs : s.running ≡ true) where
    abbrev s' : Start
    s' = outcome_start r e s

    abbrev sites : List Site
    sites = map site_of r.starts

    at : nth r.starts v ≡ Some (Some s)
    at = there_in r.starts v s there

    starts_are : (after r e).starts ≡ put r.starts v (Some s')
    starts_are = outcome_starts r v e of ∙ ap (λ (o : Option Start). put r.starts v (option_then o (λ s. Some (outcome_start r e s)))) there

    start_self : start_of (after r e) v ≡ Some s'
    start_self = ap (λ (xs : List (Option Start)). inside (nth xs v)) starts_are ∙ ap inside (nth_put_same r.starts v (Some s) (Some s') at)

    start_other : (w : ℕ) → v ≢ w → start_of (after r e) w ≡ start_of r w
    start_other w other = ap (λ (xs : List (Option Start)). inside (nth xs w)) starts_are ∙ ap inside (nth_put_other r.starts v w (Some s') other)

    -- what each rests on stays
    kept_after : (w : ℕ) → kept_of (start_of (after r e) w) ≡ kept_of (start_in r.starts w)
    kept_after w = elim (cases_eq v w) [
      | inl same ↦
          ap (λ (x : ℕ). kept_of (start_of (after r e) x)) (sym same) ∙ ap kept_of start_self
          ∙ ap (λ (k : Footing). Some k) (outcome_keeps r v e s of).kept
          ∙ sym (ap kept_of there) ∙ ap (λ (x : ℕ). kept_of (start_in r.starts x)) same
      | inr other ↦ ap kept_of (start_other w other)
    ]

    abbrev place : ℕ
    place = r.entries + 1

    stopped_are : stopped_at sites v (is_outcome e) place ≡ put sites v (stopped_site (is_outcome e) place (site_of (Some s)))
    stopped_are = ap (from_option sites (λ (x : Site). put sites v (stopped_site (is_outcome e) place x))) (site_there r.starts v s at)

    -- and the sites but v's
    sites_after : (w : ℕ) → site_of (start_of (after r e) w) ≡ site_in (stopped_at sites v (is_outcome e) place) w
    sites_after w = elim (cases_eq v w) [
      | inl same ↦
          let mine : site_in (stopped_at sites v (is_outcome e) place) v ≡ stopped_site (is_outcome e) place (site_of (Some s)) =
          ap (λ (l : List Site). site_in l v) stopped_are
          ∙ ap (from_option idle_site (λ (x : Site). x)) (nth_put_same sites v (site_of (Some s)) (stopped_site (is_outcome e) place (site_of (Some s))) (site_there r.starts v s at)) in
          ap (λ (x : ℕ). site_of (start_of (after r e) x)) (sym same) ∙ ap site_of start_self ∙ outcome_site s runs ∙ sym mine
          ∙ ap (λ (x : ℕ). site_in (stopped_at sites v (is_outcome e) place) x) same
      | inr other ↦
          let theirs : site_in (stopped_at sites v (is_outcome e) place) w ≡ site_in sites w =
          ap (λ (l : List Site). site_in l w) stopped_are
          ∙ ap (from_option idle_site (λ (x : Site). x)) (nth_put_other sites v w (stopped_site (is_outcome e) place (site_of (Some s))) other) in
          ap site_of (start_other w other) ∙ sym (theirs ∙ site_map r.starts w)
    ]

-- the scene after the next entry
pub scene_after : (r : Reading) (v : ℕ) (e : Entry) (moment : Moment) → Shaped r → ready r v ≡ true → e ≡ next r v
    → moment.sites.items ≡ stopped_at (map site_of r.starts) v (is_outcome e) (r.entries + 1) → moment.disposed ≡ r.disposed → moment.place ≡ r.entries + 2
    → IsScene (after r e) r.sheet r.starts moment
scene_after r v e moment shaped is_ready is sites disposed place =
    let of : IsOutcome v e = subst (IsOutcome v) (sym is) (next_outcome r v) in
    let runs : Runs r v = ready_runs r v is_ready in
    let rest : ((after r e).disposed ≡ r.disposed) × ((after r e).entries ≡ r.entries + 1) = outcome_rest r v e of in
    record {
      sheet = outcome_sheet r v e of;
      shaped = shaped_after r e shaped;
      kept = kept_after r v e of runs.start runs.there runs.running;
      sites = λ w. sites_after r v e of runs.start runs.there runs.running w ∙ ap (λ (l : List Site). site_in l w) (sym sites);
      disposed = rest.0 ∙ sym disposed;
      place = omega (arith, place, rest.1);
    }

-- by its parts, in a history
pub scene_here : (h : History) (v : ℕ) (e : Entry) (moment : Moment) (xs : List (Option Start)) (sites : List Site) (shows : Bool) (n : ℕ) → ready (standing h) v ≡ true → e ≡ next (standing h) v
    → xs ≡ (standing h).starts → sites ≡ map site_of xs → shows ≡ is_outcome e → n ≡ length h.log
    → moment.sites.items ≡ stopped_at sites v shows (n + 1) → moment.disposed ≡ (standing h).disposed → moment.place ≡ n + 1 + 1
    → IsScene (after (standing h) e) (standing h).sheet (standing h).starts moment
scene_here h v e moment xs sites shows n is_ready is starts all outcome long sites_now disposed place =
    let count : n ≡ (standing h).entries = long ∙ sym (reading_entries h.builtins h.log) in
    scene_after (standing h) v e moment (sound_reading h.builtins h.log).shaped is_ready is
    (sites_now
    ∙ ap (λ (l : List Site). stopped_at l v shows (n + 1)) (all ∙ ap (λ (l : List (Option Start)). map site_of l) starts)
    ∙ ap (λ (b : Bool). stopped_at (map site_of (standing h).starts) v b (n + 1)) outcome
    ∙ ap (λ (m : ℕ). stopped_at (map site_of (standing h).starts) v (is_outcome e) (m + 1)) count)
    disposed (omega (arith, place, count))
