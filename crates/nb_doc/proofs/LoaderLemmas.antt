-- Loaders, one after another.
use Rattle.std.proofs.Common.{◌≡◌, ℕ, ◌+◌, List, Option, None, ap, ◌∙◌, sym}
use Rattle.std.specs.Option.{option_or}
use Rattle.std.specs.Fmt.{decimal}
use Rattle.serde_json.specs.Data.{Data, Items, item}
use Rattle.nb_doc.specs.Faults.{Fault, in_part}
use Rattle.nb_doc.specs.Loading.{loader_fault, loaders_fault_from, with_key}

-- a loader without a fault leaves the first fault to the others
pub loaders_more : (all : Option Fault) (keys new : List (List ℕ)) (k : ℕ) (d : Data) (rest ds : Items) → all ≡ loaders_fault_from keys k rest → rest ≡ item d ds → loader_fault keys d ≡ None → new ≡ with_key keys d
    → all ≡ loaders_fault_from new (k + 1) ds
loaders_more all keys new k d rest ds is split none kept =
    is ∙ ap (loaders_fault_from keys k) split ∙ ap (λ (o : Option Fault). option_or (in_part (decimal k) o) (loaders_fault_from (with_key keys d) (k + 1) ds)) none
    ∙ ap (λ (ks : List (List ℕ)). loaders_fault_from ks (k + 1) ds) (sym kept)
