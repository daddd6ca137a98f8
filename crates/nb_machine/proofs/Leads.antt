-- From where a run ends as it is to: what stands in the code, one instruction, and steps in a row.
use Rattle.std.proofs.Common.{◌≡◌, ℕ, suc, ◌+◌, [], ◌∷◌, ◌++◌, length, Option, Some, Result, Ok, Err, refl, sym, ap, ◌∙◌, subst, arith}
use Rattle.std.specs.Prelude.{slice_get}
use Rattle.nb_eval.specs.declared.given.Segment.{Segment}
use Rattle.nb_eval.specs.declared.state.State.{State}
use Rattle.nb_eval.specs.declared.stop.Stop.{Stop}
use Rattle.nb_eval.specs.Run.{Run, Out, after, ◌>>=◌}
use Rattle.nb_machine.specs.declared.instr.Instr.{Instr}
use Rattle.nb_machine.specs.Code.{Code}
use Rattle.nb_machine.specs.Machine.{Spot, does, does_if, follow, go, End, Ends}

-- the instructions stand in the code at this place
abbrev pub HasAt : Code → ℕ → Code → Type 0
HasAt code pc [] = Unit {0}
HasAt code pc (i ∷ is) = (slice_get code pc ≡ Some i) × HasAt code (pc + 1) is

pub has_front : (code : Code) (pc : ℕ) (a b : Code) → HasAt code pc (a ++ b) → HasAt code pc a
has_front code pc [] b h = tt
has_front code pc (i ∷ a) b h = (h.0, has_front code (pc + 1) a b h.1)

pub has_back : (code : Code) (pc : ℕ) (a b : Code) → HasAt code pc (a ++ b) → HasAt code (pc + length a) b
has_back code pc [] b h = let e : pc ≡ pc + 0 = omega arith in subst (λ n. HasAt code n b) e h
has_back code pc (i ∷ a) b h =
    let e : pc + 1 + length a ≡ pc + length (i ∷ a) = omega arith in
    subst (λ n. HasAt code n b) e (has_back code (pc + 1) a b h.1)

at_end : (front : Code) (i : Instr) (is : Code) → slice_get (front ++ i ∷ is) (length front) ≡ Some i
at_end [] i is = refl
at_end (x ∷ xs) i is = at_end xs i is

one_more : (front : Code) (i : Instr) (is : Code) → (front ++ i ∷ []) ++ is ≡ front ++ i ∷ is
one_more [] i is = refl
one_more (x ∷ xs) i is = ap (λ r. x ∷ r) (one_more xs i is)

longer : (front : Code) (i : Instr) → length (front ++ i ∷ []) ≡ length front + 1
longer [] i = refl
longer (x ∷ xs) i = let e = longer xs i in omega (arith, e)

-- a code stands in itself after its front
pub has_after : (code front : Code) → HasAt (front ++ code) (length front) code
has_after [] front = tt
has_after (i ∷ is) front = (at_end front i is, subst (λ c. HasAt c (length front + 1) is) (one_more front i is) (subst (λ n. HasAt ((front ++ i ∷ []) ++ is) n is) (longer front i) (has_after is (front ++ i ∷ []))))

module _ (e : End) where
  -- what holds where a run goes on, or else that its stop is the end
  abbrev pub Wp : {A : Type 0} → Result A Stop → State → (A → State → Type 0) → Type 0
  Wp (Ok a) t K = K a t
  Wp (Err x) t K = e ≡ (x, t)

  abbrev pub After : {A : Type 0} → Out A → (A → State → Type 0) → Type 0
  After o K = Wp o.0 o.1 K

  module _ (A B : Type 0) (f : A → Run B) (K : B → State → Type 0) where
    wp_bind : (r : Result A Stop) (t : State) → Wp r t (λ a u. After (f a u) K) → After (after r t f) K
    wp_bind (Ok a) t h = h
    wp_bind (Err x) t h = h

    wp_split : (r : Result A Stop) (t : State) → After (after r t f) K → Wp r t (λ a u. After (f a u) K)
    wp_split (Ok a) t h = h
    wp_split (Err x) t h = h

    -- of two steps in a row, the second from where the first goes on
    pub bind : (p : Run A) (s : State) → After (p s) (λ a u. After (f a u) K) → After ((p >>= f) s) K
    bind p s h = wp_bind (p s).0 (p s).1 h

    pub split : (p : Run A) (s : State) → After ((p >>= f) s) K → After (p s) (λ a u. After (f a u) K)
    split p s h = wp_split (p s).0 (p s).1 h

  wp_weaken : (A : Type 0) (K L : A → State → Type 0) (o : Out A) (r : Result A Stop) (t : State) → o ≡ (r, t) → ((a : A) (u : State) → o ≡ (Ok a, u) → K a u → L a u) → Wp r t K → Wp r t L
  wp_weaken A K L o (Ok a) t h k w = k a t h w
  wp_weaken A K L o (Err x) t h k w = w

  pub weaken_at : (A : Type 0) (K L : A → State → Type 0) (o : Out A) → ((a : A) (u : State) → o ≡ (Ok a, u) → K a u → L a u) → After o K → After o L
  weaken_at A K L o k w = wp_weaken A K L o o.0 o.1 refl k w

  pub weaken : (A : Type 0) (K L : A → State → Type 0) (o : Out A) → ((a : A) (u : State) → K a u → L a u) → After o K → After o L
  weaken A K L o k w = weaken_at A K L o (λ a u x. k a u) w

  module _ (g : Segment) (code : Code) where
    abbrev pub From : Spot → State → Type 0
    From p s = Ends g code e p s

    stepped : (p : Spot) (s : State) (o : Out Spot) → After o From → (n : ℕ) × (follow n o.0 o.1 (go g code n) ≡ Some e)
    stepped p s o h = by_cases o.0 o.1 h
      where
        by_cases : (r : Result Spot Stop) (t : State) → Wp r t From → (n : ℕ) × (follow n r t (go g code n) ≡ Some e)
        by_cases (Ok q) t w = w
        by_cases (Err x) t w = (0, ap (λ (z : End). Some z) (sym w))

    -- one instruction, which stands here
    pub one : (p : Spot) (s : State) (i : Instr) → slice_get code p.pc ≡ Some i → After (does g i p s) From → From p s
    one p s i h w =
        let n = stepped p s (does g i p s) w in
        (suc n.0, ap (λ (x : Option Instr). follow n.0 (does_if g x p s).0 (does_if g x p s).1 (go g code n.0)) h ∙ n.1)
