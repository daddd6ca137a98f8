-- When two footings are one, and when they differ in renewals at most.
use Rattle.std.specs.Prelude.{ℕ, Bool, true, false, ◌&&◌, ◌==◌, List, [], ◌∷◌}
use Rattle.nb_wave.specs.declared.footing.Footing.{Footing}

abbrev pub same_numbers : List ℕ → List ℕ → Bool
same_numbers [] [] = true
same_numbers [] (y ∷ ys) = false
same_numbers (x ∷ xs) [] = false
same_numbers (x ∷ xs) (y ∷ ys) = (x == y) && same_numbers xs ys

-- they differ in renewals at most
abbrev pub same_base : Footing → Footing → Bool
same_base f g = (f.place == g.place) && (f.mark == g.mark) && same_numbers f.inputs g.inputs && same_numbers f.starts g.starts

abbrev pub same_footing : Footing → Footing → Bool
same_footing f g = same_base f g && same_numbers f.renewals g.renewals
