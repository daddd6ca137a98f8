-- The parts after one more entry stand for the longer log, if they are what the entry makes of them.
use Rattle.std.proofs.Common.{ℕ, ◌≡◌, ◌+◌, refl, arith, sym, ◌∙◌, ap, Bool, List, [], ◌∷◌, ◌++◌, length, length-append, Option, Some, None}
use Rattle.std.specs.Prelude.{sum_by}
use Rattle.std.proofs.lemmas.List.Sums.{sum_by-cons, sum_by-append}
use Rattle.nb_value.specs.declared.value.Value.{Value}
use Rattle.nb_value.specs.declared.pairs.Field.{Field}
use Rattle.nb_sheet.specs.Sheet.{Sheet}
use Rattle.nb_log.specs.Printing.{entry_size}
use Rattle.nb_log.specs.Size.{total_size}
use Rattle.nb_log.specs.declared.entry.Entry.{Entry}
use Rattle.nb_history.specs.Reading.{Reading, Start, Ticket}
use Rattle.nb_history.specs.Log.{reading, nothing_yet, after, changed, counted, pulled, pulled_from}
use Rattle.nb_history.proofs.Histories.{read_append}
use Rattle.nb_runs.specs.Starts.{all_pulled}
use Rattle.nb_core.specs.Stands.{leaves, Stands}

one_longer : (log : List Entry) (e : Entry) → length log + 1 ≡ length (log ++ e ∷ [])
one_longer log e = sym (length-append log (e ∷ []))

one_size : (log : List Entry) (e : Entry) → total_size log + entry_size e ≡ total_size (log ++ e ∷ [])
one_size log e =
    let a : total_size (log ++ e ∷ []) ≡ total_size log + total_size (e ∷ []) = sum_by-append entry_size log (e ∷ []) in
    let b : total_size (e ∷ []) ≡ entry_size e + sum_by entry_size [] = sum_by-cons entry_size e [] in
    omega (arith, a, b)

module _ (sheet sheet' : Sheet) (starts starts' : List (Option Start)) (disposed disposed' : Bool) (tickets tickets' : List Ticket) (log log' : List Entry) (e : Entry) where
  pub stands_plus : Stands sheet starts disposed tickets log → log' ≡ log ++ e ∷ [] → sheet'.builtins ≡ sheet.builtins
      → changed (leaves sheet starts disposed tickets log) e ≡ leaves sheet' starts' disposed' tickets' log
      → Stands sheet' starts' disposed' tickets' log'
  stands_plus stands longer builtins step =
      let parts : ℕ → ℕ → Reading = λ n size. record { sheet = sheet'; starts = starts'; disposed = disposed'; tickets = tickets'; entries = n; size = size } in
      ap (λ (l : List Entry). reading sheet'.builtins l) longer
      ∙ ap (λ (b : List (Field Value)). reading b (log ++ e ∷ [])) builtins
      ∙ read_append (nothing_yet sheet.builtins) log (e ∷ [])
      ∙ ap (λ (r : Reading). after r e) stands
      ∙ ap (λ (r : Reading). counted r (entry_size e)) step
      ∙ ap (λ (n : ℕ). parts n (total_size log + entry_size e)) (one_longer log e)
      ∙ ap (λ (n : ℕ). parts (length (log ++ e ∷ [])) n) (one_size log e)
      ∙ ap (λ (l : List Entry). leaves sheet' starts' disposed' tickets' l) (sym longer)

pub all_pulled_is : (r : Reading) (v : ℕ) (xs : List (Option Start)) → pulled_from r v xs ≡ all_pulled r.sheet v xs
all_pulled_is r v [] = refl
all_pulled_is r v (None ∷ xs) = ap (λ (l : List (Option Start)). None ∷ l) (all_pulled_is r (v + 1) xs)
all_pulled_is r v (Some s ∷ xs) = ap (λ (l : List (Option Start)). pulled r v (Some s) ∷ l) (all_pulled_is r (v + 1) xs)
