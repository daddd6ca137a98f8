use Rattle.std.proofs.Common.{◌≡◌, ◌↔◌, IsTrue, List, ℕ, subst}
use Rattle.nb_wave.proofs.Numbers.{is_same_numbers}
use Rattle.nb_wave.proofs.footing.same_numbers.Goals as goal

pub returns : goal.returns
returns c =
    is_same_numbers c.are_equal.result c.args.xs.now c.args.ys.now
    (subst (λ (l : List ℕ). IsTrue c.are_equal.result ↔ (l ≡ c.args.ys.now)) c.as_slice.ensures
    (subst (λ (l : List ℕ). IsTrue c.are_equal.result ↔ (c.as_slice.result.now ≡ l)) c.as_slice-2.ensures c.are_equal.ensures))
