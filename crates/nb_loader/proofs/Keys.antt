-- The loader of a key, by a walk over the loaders.
use Rattle.std.proofs.Common.{ℕ, zero, suc, ◌≡◌, ◌+◌, ◌<◌, ◌≤◌, refl, sym, ◌∙◌, ap, Bool, true, false, cond, ◌||◌, List, [], ◌∷◌, All, arith, inl, inr, length, drop, get_or, drop-cons, add-one, Option, Some, None}
use Rattle.std.specs.List.{list_any}
use Rattle.std.specs.Str.{bytes_eq}
use Rattle.std.proofs.lemmas.Bool.{cases_Bool}
use Rattle.std.proofs.lemmas.Option.{none-some, same_Some}
use Rattle.nb_sheet.specs.Lists.{Name, nth, from_option, option_then}
use Rattle.nb_history.specs.Reading.{Reading, Ticket}
use Rattle.nb_history.specs.Loaders.{Loader, keys_of, argv_of, argv_for}
use Rattle.nb_core.specs.Core.{key_of}
use Rattle.nb_doc.specs.declared.document.Loader.{Loader as DocumentLoader}
use Rattle.nb_loader.specs.Loads.{as_loaders}
use Rattle.nb_loader.proofs.Tickets.{keyed}

-- ---- a walk

abbrev argv_from : List DocumentLoader → ℕ → Name → Option (List Name)
argv_from all i key = argv_of (as_loaders (drop i all)) key

walk_step : (all : List DocumentLoader) (i : ℕ) (l : DocumentLoader) (key : Name) → i < length all → l ≡ get_or all i l → argv_from all i key ≡ cond (bytes_eq l.key key) (Some l.argv) (argv_from all (i + 1) key)
walk_step all i l key inside is =
    ap (λ (ls : List DocumentLoader). argv_of (as_loaders ls) key) (drop-cons all i l inside ∙ ap (λ (j : ℕ). get_or all i l ∷ drop j all) (sym (add-one i)) ∙ ap (λ (x : DocumentLoader). x ∷ drop (i + 1) all) (sym is))

pub walk_hits : (all : List DocumentLoader) (i : ℕ) (l : DocumentLoader) (key : Name) → i < length all → l ≡ get_or all i l → bytes_eq l.key key ≡ true
    → argv_of (as_loaders all) key ≡ argv_from all i key → Some l.argv ≡ argv_of (as_loaders all) key
walk_hits all i l key inside is same so_far =
    sym (so_far ∙ walk_step all i l key inside is ∙ ap (λ (b : Bool). cond b (Some l.argv) (argv_from all (i + 1) key)) same)

pub walk_on : (all : List DocumentLoader) (i : ℕ) (l : DocumentLoader) (key : Name) → i < length all → l ≡ get_or all i l → bytes_eq l.key key ≡ false
    → argv_of (as_loaders all) key ≡ argv_from all i key → argv_of (as_loaders all) key ≡ argv_from all (i + 1) key
walk_on all i l key inside is other so_far =
    so_far ∙ walk_step all i l key inside is ∙ ap (λ (b : Bool). cond b (Some l.argv) (argv_from all (i + 1) key)) other

none_after : (all : List DocumentLoader) (i : ℕ) → length all ≤ i → drop i all ≡ []
none_after [] zero h = refl
none_after [] (suc i) h = refl
none_after (x ∷ xs) zero h = absurd (omega (arith, h))
none_after (x ∷ xs) (suc i) h = none_after xs i (omega (arith, h))

pub walk_ends : (all : List DocumentLoader) (i : ℕ) (key : Name) → length all ≤ i → argv_of (as_loaders all) key ≡ argv_from all i key → None ≡ argv_of (as_loaders all) key
walk_ends all i key over so_far = sym (so_far ∙ ap (λ (ls : List DocumentLoader). argv_of (as_loaders ls) key) (none_after all i over))

-- ---- whether there is one

argv_there : (loaders : List Loader) (key : Name) (argv : List Name) → argv_of loaders key ≡ Some argv → list_any (λ (k : Name). bytes_eq k key) (keys_of loaders) ≡ true
argv_there [] key argv h = absurd (none-some argv h)
argv_there (l ∷ loaders) key argv h =
    elim (cases_Bool (bytes_eq l.key key)) [
      | inl here ↦ ap (λ (b : Bool). b || list_any (λ (k : Name). bytes_eq k key) (keys_of loaders)) here
      | inr not_here ↦ ap (λ (b : Bool). b || list_any (λ (k : Name). bytes_eq k key) (keys_of loaders)) not_here ∙ argv_there loaders key argv (rw not_here at h)
    ]

no_argv : (loaders : List Loader) (key : Name) → argv_of loaders key ≡ None → list_any (λ (k : Name). bytes_eq k key) (keys_of loaders) ≡ false
no_argv [] key h = refl
no_argv (l ∷ loaders) key h =
    elim (cases_Bool (bytes_eq l.key key)) [
      | inl here ↦ let g : Some l.argv ≡ None = rw here at h in absurd (none-some l.argv (sym g))
      | inr not_here ↦ ap (λ (b : Bool). b || list_any (λ (k : Name). bytes_eq k key) (keys_of loaders)) not_here ∙ no_argv loaders key (rw not_here at h)
    ]

-- ---- the loader of a ticket's key

module _ (loaders : List Loader) (r : Reading) (t : ℕ) (k : Ticket) (there : nth r.tickets t ≡ Some k) where
  ticket_key : key_of r t ≡ k.key
  ticket_key = ap (λ (o : Option Ticket). from_option [] (λ (k : Ticket). k.key) o) there

  pub ticket_argv : argv_for loaders r t ≡ argv_of loaders (key_of r t)
  ticket_argv = ap (λ (o : Option Ticket). option_then o (λ (k : Ticket). argv_of loaders k.key)) there ∙ ap (argv_of loaders) (sym ticket_key)

  ticket_keyed : keyed (keys_of loaders) r t ≡ list_any (λ (key : Name). bytes_eq key (key_of r t)) (keys_of loaders)
  ticket_keyed =
      ap (λ (o : Option Ticket). from_option false (λ (k : Ticket). list_any (λ (key : Name). bytes_eq key k.key) (keys_of loaders)) o) there
      ∙ ap (λ (x : Name). list_any (λ (key : Name). bytes_eq key x) (keys_of loaders)) (sym ticket_key)

  pub keyed_there : (argv : List Name) → argv_of loaders (key_of r t) ≡ Some argv → keyed (keys_of loaders) r t ≡ true
  keyed_there argv h = ticket_keyed ∙ argv_there loaders (key_of r t) argv h

  pub keyed_none : argv_of loaders (key_of r t) ≡ None → keyed (keys_of loaders) r t ≡ false
  keyed_none h = ticket_keyed ∙ no_argv loaders (key_of r t) h

-- ---- its words

argv_words : (all : List DocumentLoader) (key : Name) (argv : List Name) → All (λ (l : DocumentLoader). 0 < length l.argv) all → argv_of (as_loaders all) key ≡ Some argv → 0 < length argv
argv_words [] key argv words h = absurd (none-some argv h)
argv_words (l ∷ all) key argv words h =
    elim (cases_Bool (bytes_eq l.key key)) [
      | inl here ↦
          let g : Some l.argv ≡ Some argv = rw here at h in
          let same : l.argv ≡ argv = same_Some l.argv argv g in
          let first : 0 < length l.argv = words 0 l (omega arith) in
          omega (arith, first, ap (λ (ws : List Name). length ws) same)
      | inr not_here ↦ argv_words all key argv (λ i d less. words (suc i) d (omega (arith, less))) (rw not_here at h)
    ]

pub ticket_words : (all : List DocumentLoader) (r : Reading) (t : ℕ) (argv : List Name) → All (λ (l : DocumentLoader). 0 < length l.argv) all → argv_for (as_loaders all) r t ≡ Some argv → 0 < length argv
ticket_words all r t argv words h = go (nth r.tickets t) h
  where
    go : (o : Option Ticket) → option_then o (λ (k : Ticket). argv_of (as_loaders all) k.key) ≡ Some argv → 0 < length argv
    go None k = absurd (none-some argv k)
    go (Some k) j = argv_words all k.key argv words j
