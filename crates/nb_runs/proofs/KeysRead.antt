-- What is read of a ticket at its index.
use Rattle.std.proofs.Common.{ℕ, ◌≡◌, ◌+◌, ◌<◌, sym, ◌∙◌, ap, Bool, false, List, length, get_or, Option, Some, add-one}
use Rattle.std.specs.Str.{bytes_eq}
use Rattle.std.proofs.lemmas.Option.{slice_get-get_or}
use Rattle.nb_sheet.specs.Lists.{nth, from_option, Name}
use Rattle.nb_history.specs.Reading.{Ticket}

pub key_read : (tickets : List Ticket) (k : ℕ) (t : Ticket) (key : Name) → k < length tickets → t ≡ get_or tickets k t
    → from_option false (λ (x : Ticket). bytes_eq x.key key) (nth tickets (k + 1)) ≡ bytes_eq t.key key
key_read tickets k t key inside read =
    ap (λ (n : ℕ). from_option false (λ (x : Ticket). bytes_eq x.key key) (nth tickets n)) (add-one k)
    ∙ ap (λ (o : Option Ticket). from_option false (λ (x : Ticket). bytes_eq x.key key) o) (slice_get-get_or tickets k t inside ∙ ap (λ (x : Ticket). Some x) (sym read))
