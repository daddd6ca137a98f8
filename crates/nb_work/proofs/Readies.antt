-- Which variables are behind or ready, by their starts and ties.
use Rattle.std.proofs.Common.{ℕ, ◌≡◌, refl, sym, ◌∙◌, ap, Bool, true, false, not, ◌&&◌, ◌||◌, List, Option, Some, None, is_some}
use Rattle.std.specs.Prelude.{nat_le}
use Rattle.std.specs.List.{list_all}
use Rattle.nb_sheet.specs.Lists.{from_option}
use Rattle.nb_sheet.specs.Sheet.{Sheet}
use Rattle.nb_resolve.specs.Names.{duplicate, direct}
use Rattle.nb_history.specs.Needs.{circular}
use Rattle.nb_history.specs.Reading.{Reading, Start, Footing, shown}
use Rattle.nb_history.specs.Serial.{least_var}
use Rattle.nb_history.specs.Rules.{place_of, footing, same_footing, is_behind, ready}
use Rattle.nb_runs.specs.Starts.{start_in}
use Rattle.nb_closing.specs.Ties.{Ties, ties_of, all_ties}
use Rattle.nb_work.specs.Over.{IsOver}
use Rattle.nb_work.specs.Tied.{over, ties_in, footing_by, has_inputs}
use Rattle.nb_work.proofs.TiesAt.{ties_read}

and_true : (b : Bool) → (b && true) ≡ b
and_true true = refl
and_true false = refl

none_of : (a b : Bool) → (a && b && false) ≡ false
none_of true true = refl
none_of true false = refl
none_of false b = refl

not_not : (b : Bool) → not (not b) ≡ b
not_not true = refl
not_not false = refl

module _ (r : Reading) (s : Sheet) (starts : List (Option Start)) (v : ℕ) (h : IsOver r s starts) where
  -- the reading's start
  start_now : (o : Option Start) → start_in starts v ≡ o → start_in r.starts v ≡ o
  start_now o e = ap (λ (l : List (Option Start)). start_in l v) h.starts ∙ e

  abbrev behind_by : Option Start → Bool
  behind_by o = from_option true (λ (x : Start). not (same_footing (footing r v) x.kept)) o

  abbrev running_by : Option Start → Bool
  running_by o = from_option false (λ (x : Start). x.running) o

  pub idle_behind : start_in starts v ≡ None → true ≡ is_behind r v
  idle_behind e = sym (ap (λ (o : Option Start). behind_by o) (start_now None e))

  abbrev all_shown : Bool
  all_shown = duplicate r.sheet v || circular r.sheet v || list_all (λ u. is_some (shown r u)) (direct r.sheet v)

  pub idle_not_ready : start_in starts v ≡ None → false ≡ ready r v
  idle_not_ready e = sym (ap (λ (o : Option Start). running_by o && not (is_behind r v) && all_shown) (start_now None e))

  module _ (ties : List Ties) (tied : ties ≡ all_ties s) (x : Start) (there : Some x ≡ start_in starts v) where
    footing_now : footing_by (ties_in ties v) starts (place_of s v) ≡ footing r v
    footing_now =
        ap (λ (t : Ties). footing_by t starts (place_of s v)) (ties_read s ties v tied)
        ∙ sym (λ j. footing (over (h.sheet j) (h.starts j)) v)

    pub started_behind : (b : Bool) → b ≡ same_footing (footing_by (ties_in ties v) starts (place_of s v)) x.kept → not b ≡ is_behind r v
    started_behind b e =
        ap not (e ∙ ap (λ (f : Footing). same_footing f x.kept) footing_now)
        ∙ sym (ap (λ (o : Option Start). behind_by o) (start_now (Some x) (sym there)))

    inputs_now : has_inputs (ties_in ties v) starts ≡ all_shown
    inputs_now =
        ap (λ (t : Ties). has_inputs t starts) (ties_read s ties v tied)
        ∙ sym (λ j. has_inputs (ties_of (h.sheet j) v) (h.starts j))

    pub started_ready : (b p : Bool) → b ≡ same_footing (footing_by (ties_in ties v) starts (place_of s v)) x.kept → p ≡ has_inputs (ties_in ties v) starts
        → (x.running && b && p) ≡ ready r v
    started_ready b p e q =
        ap (λ (z : Bool). x.running && z && p) (sym (not_not b) ∙ ap not (started_behind b e))
        ∙ ap (λ (z : Bool). x.running && not (is_behind r v) && z) (q ∙ inputs_now)
        ∙ sym (ap (λ (o : Option Start). running_by o && not (is_behind r v) && all_shown) (start_now (Some x) (sym there)))

    pub ready_shows : (b p : Bool) → b ≡ same_footing (footing_by (ties_in ties v) starts (place_of s v)) x.kept → p ≡ has_inputs (ties_in ties v) starts
        → x.running ≡ true → p ≡ true → b ≡ ready r v
    ready_shows b p e q runs shows =
        sym (ap (λ (z : Bool). z && b && p) runs ∙ ap (λ (z : Bool). b && z) shows ∙ and_true b) ∙ started_ready b p e q

    pub not_ready_waits : (p : Bool) → p ≡ has_inputs (ties_in ties v) starts → p ≡ false → false ≡ ready r v
    not_ready_waits p q waits =
        let b = same_footing (footing_by (ties_in ties v) starts (place_of s v)) x.kept in
        sym (ap (λ (z : Bool). x.running && b && z) waits ∙ none_of x.running b)
        ∙ started_ready b p refl q

    pub not_ready_runs : x.running ≡ false → false ≡ ready r v
    not_ready_runs stands =
        sym (ap (λ (o : Option Start). running_by o && not (is_behind r v) && all_shown) (start_now (Some x) (sym there))
        ∙ ap (λ (z : Bool). z && not (is_behind r v) && all_shown) stands)

-- ---- the least of them

pub least_over : (r : Reading) (s : Sheet) (starts : List (Option Start)) (a : ℕ) → IsOver r s starts
    → least_var (over s starts) (λ v. nat_le a v && ready (over s starts) v) ≡ least_var r (λ v. nat_le a v && ready r v)
least_over r s starts a h = sym (λ j. least_var (over (h.sheet j) (h.starts j)) (λ v. nat_le a v && ready (over (h.sheet j) (h.starts j)) v))

pub itself : (s : Sheet) (starts : List (Option Start)) → IsOver (over s starts) s starts
itself s starts = record { sheet = refl; starts = refl }
