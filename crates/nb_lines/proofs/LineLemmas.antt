-- Lines one after another: what the first adds, and what those behind it add.
use Rattle.std.proofs.Common.{◌≡◌, inl, inr, ◌<◌, ◌≤◌, ◌+◌, ℕ, suc, List, [], ◌∷◌, ◌++◌, length, drop, take, Option, Some, None, option_map, Bool, true, false, not, cond, refl, sym, ap, ◌∙◌, arith, append_assoc, nat_eq, IfNone, IfSome, Result, Ok, Err, IsErrAnd, subst}
use Rattle.std.proofs.lemmas.Bool.{lt-ltb, le-ltb}
use Rattle.std.proofs.lemmas.List.Splits.{slice_split_first}
use Rattle.std.proofs.lemmas.Option.{none-some}
use Rattle.std.proofs.Math.Nat.{lt_of_not-le}
use Rattle.std.specs.Option.{option_or}
use Rattle.std.specs.List.{onto_first, cons_option, position_or_len}
use Rattle.nb_lines.specs.declared.script.ScriptLine.{ScriptLine}
use Rattle.nb_lines.specs.declared.script.LineFail.{LineFail}
use Rattle.nb_lines.specs.declared.script.LineFail.TheVariants.{Bad, Memory}
use Rattle.nb_lines.specs.declared.script.BadReason.{BadReason}
use Rattle.nb_lines.specs.declared.script.BadReason.TheVariants.{LineTooLong, TooManyLines}
use Rattle.nb_lines.specs.declared.script.OneFail.TheVariants as one
use Rattle.nb_lines.specs.Reads.{Fails, IsTold}
use Rattle.nb_lines.specs.Reasons.{Fault, plain, line_fault}
use Rattle.nb_lines.specs.Says.{script_of}
use Rattle.nb_lines.specs.Lines.{lines, numbered, is_blank, fault_of, placed_fault, first_among, line_script, said, IsBad, Reads, AddsLine}

-- ---- one line

pub too_many : (n : ℕ) (line : List ℕ) → 65536 < n → placed_fault (n, line) ≡ Some (n, plain TooManyLines)
unfolding fault_of
too_many n line far = rw (lt-ltb 65536 n far) refl

pub too_wide : (n : ℕ) (line : List ℕ) → n ≤ 65536 → 65536 < length line → placed_fault (n, line) ≡ Some (n, plain LineTooLong)
unfolding fault_of
too_wide n line near long = rw (le-ltb 65536 n near, lt-ltb 65536 (length line) long) refl

-- a blank line within the limits
pub blank_fault : (n : ℕ) (line : List ℕ) → n ≤ 65536 → length line ≤ 65536 → is_blank line ≡ true → placed_fault (n, line) ≡ None
unfolding fault_of
blank_fault n line near short blank = rw (le-ltb 65536 n near, le-ltb 65536 (length line) short, blank) refl

pub blank_says : (line : List ℕ) → is_blank line ≡ true → line_script line ≡ None
unfolding line_script
blank_says line blank = rw blank refl

if_there : (o : Option Fault) → option_or o None ≡ o
if_there None = refl
if_there (Some f) = refl

-- another line within the limits
pub own_fault_of : (n : ℕ) (line : List ℕ) → n ≤ 65536 → length line ≤ 65536 → is_blank line ≡ false → fault_of (n, line) ≡ line_fault line
unfolding fault_of
own_fault_of n line near short text = rw (le-ltb 65536 n near, le-ltb 65536 (length line) short, text) (if_there (line_fault line))

pub own_script : (line : List ℕ) → is_blank line ≡ false → line_script line ≡ script_of line
unfolding line_script
own_script line text = rw text refl

-- the fault of such a line, which is told
same_Bad : (r s : BadReason) → one.Bad r ≡ one.Bad s → r ≡ s
same_Bad r s e = cc

bad_of : (fault : Option Fault) (reason : BadReason) → Fails fault (one.Bad reason) → IsTold fault reason
bad_of fault reason (inl e) = cc
bad_of fault reason (inr told) = subst (IsTold fault) (sym (same_Bad reason told.0 told.1)) told.2

pub own_bad : (n : ℕ) (line : List ℕ) (reason : BadReason) → n ≤ 65536 → length line ≤ 65536 → is_blank line ≡ false → Fails (line_fault line) (one.Bad reason) → IsBad (placed_fault (n, line)) n reason
own_bad n line reason near short text fails =
    let told = bad_of (line_fault line) reason fails in
    (told.0, ap (option_map (λ f. (n, f))) (own_fault_of n line near short text ∙ told.1), told.2)

-- a line without a fault has no more lines before it than the most
pub few_lines : (n : ℕ) (line : List ℕ) → placed_fault (n, line) ≡ None → n ≤ 65536
few_lines n line none =
    let fewer : n < 65537 = lt_of_not-le {n = 65537} {m = n} (λ far. none-some (n, plain TooManyLines) (sym none ∙ too_many n line (omega (arith, far)))) in
    omega (arith, fewer)

-- ---- lines one after another

among_more : (n : ℕ) (line : List ℕ) (ls : List (List ℕ)) → placed_fault (n, line) ≡ None → first_among (numbered n (line ∷ ls)) ≡ first_among (numbered (n + 1) ls)
among_more n line ls good = ap (λ o. option_or o (first_among (numbered (n + 1) ls))) good

one_said : (o : Option ScriptLine) (ss : List ScriptLine) → cons_option o ss ≡ cons_option o [] ++ ss
one_said None ss = refl
one_said (Some s) ss = refl

said_more : (n : ℕ) (line : List ℕ) (ls : List (List ℕ)) → said (numbered n (line ∷ ls)) ≡ said ((n, line) ∷ []) ++ said (numbered (n + 1) ls)
said_more n line ls = one_said (line_script line) (said (numbered (n + 1) ls))

-- ---- cutting

pub lines-first : (bytes : List ℕ) → position_or_len (λ b. nat_eq b 10) bytes < length bytes
    → lines bytes ≡ take (position_or_len (λ b. nat_eq b 10) bytes) bytes ∷ lines (drop (position_or_len (λ b. nat_eq b 10) bytes + 1) bytes)
lines-first bytes h = slice_split_first (λ b. nat_eq b 10) bytes 0 h

pub lines-last : (bytes : List ℕ) → position_or_len (λ b. nat_eq b 10) bytes ≡ length bytes → lines bytes ≡ bytes ∷ []
lines-last [] e = refl
lines-last (b ∷ bs) e = go (nat_eq b 10) e (lines-last bs)
  where
    go : (d : Bool) → cond (not d) (1 + position_or_len (λ x. nat_eq x 10) bs) 0 ≡ suc (length bs) → (position_or_len (λ x. nat_eq x 10) bs ≡ length bs → lines bs ≡ bs ∷ [])
        → cond d ([] ∷ lines bs) (onto_first b (lines bs)) ≡ (b ∷ bs) ∷ []
    go true e more = absurd (omega arith)
    go false e more = let same : position_or_len (λ x. nat_eq x 10) bs ≡ length bs = omega arith in ap (onto_first b) (more same)

-- ---- the loop over the lines

-- what was cut off has a first line
pub first_of : {X : Type 0} (o : Option X) (rest : X → List ℕ) (ls : List (List ℕ)) (line : List ℕ)
    → IfNone o (ls ≡ line ∷ []) → IfSome o (λ more. ls ≡ line ∷ lines (rest more)) → (more : List (List ℕ)) × (ls ≡ line ∷ more)
first_of None rest ls line last first = ([], last)
first_of (Some x) rest ls line last first = (lines (rest x), first)

-- a line that is bad is the first one of the input
pub stops : (whole : Option (ℕ × Fault)) (all : List ScriptLine) (n : ℕ) (ls : List (List ℕ)) (line : List ℕ) (old new : List ScriptLine) (fail : LineFail)
    → whole ≡ first_among (numbered n ls) → (more : List (List ℕ)) × (ls ≡ line ∷ more) → AddsLine n line old new (Err fail) → Reads whole all (Err fail)
stops whole all n ls line old new (Bad k reason) same first adds =
    (adds.0, same ∙ ap (λ ms. first_among (numbered n ms)) first.1 ∙ ap (λ o. option_or o (first_among (numbered (n + 1) first.0))) adds.1, adds.2)
stops whole all n ls line old new Memory same first adds = tt

-- what the first line leaves to the others
pub later_bad : (whole : Option (ℕ × Fault)) (n : ℕ) (ls : List (List ℕ)) (line : List ℕ) (more : List (List ℕ))
    → whole ≡ first_among (numbered n ls) → ls ≡ line ∷ more → placed_fault (n, line) ≡ None → whole ≡ first_among (numbered (n + 1) more)
later_bad whole n ls line more same is good = same ∙ ap (λ ms. first_among (numbered n ms)) is ∙ among_more n line more good

pub later_said : (whole : List ScriptLine) (n : ℕ) (ls : List (List ℕ)) (line : List ℕ) (more : List (List ℕ)) (old new : List ScriptLine)
    → whole ≡ old ++ said (numbered n ls) → ls ≡ line ∷ more → new ≡ old ++ said ((n, line) ∷ []) → whole ≡ new ++ said (numbered (n + 1) more)
later_said whole n ls line more old new same is put =
    same ∙ ap (λ ms. old ++ said (numbered n ms)) is ∙ ap (λ ss. old ++ ss) (said_more n line more)
    ∙ sym (append_assoc old (said ((n, line) ∷ [])) (said (numbered (n + 1) more)))
    ∙ ap (λ ss. ss ++ said (numbered (n + 1) more)) (sym put)

-- a `?` hands the same cause on
pub passes : (whole : Option (ℕ × Fault)) (all : List ScriptLine) (r : Result (List ScriptLine) LineFail) (fail : LineFail) → IsErrAnd r (λ e. e ≡ fail) → Reads whole all (Err fail) → Reads whole all r
passes whole all (Ok x) fail h reads = absurd h
passes whole all (Err e) fail h reads = subst (λ f. Reads whole all (Err f)) (sym h) reads
