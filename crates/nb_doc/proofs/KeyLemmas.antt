-- The keys of loaders, as a set of texts has them.
use Rattle.std.proofs.Common.{◌≡◌, ◌||◌, ℕ, List, [], ◌∷◌, Bool, map, nat_eq, refl, ap, Bor}
use Rattle.std.specs.Cmp.Lexicographic.{pointwise}
use Rattle.std.specs.List.{list_any}
use Rattle.std.specs.Str.{bytes_eq}

pub among : (k : List ℕ) (ks : List (Bor (List ℕ))) → list_any (λ (y : Bor (List ℕ)). pointwise nat_eq k y.now) ks ≡ list_any (bytes_eq k) (map (λ (s : Bor (List ℕ)). s.now) ks)
among k [] = refl
among k (y ∷ ys) = ap (λ (b : Bool). bytes_eq k y.now || b) (among k ys)
