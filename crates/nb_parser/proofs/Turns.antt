-- One turn of a loop of the code: what is left, from here, is the whole from the start.
use Rattle.std.proofs.Common.{◌≡◌, ◌≤◌, ◌<◌, ◌-◌, ◌+◌, ℕ, zero, suc, refl, sym, ap, subst, ◌∙◌, List, [], ◌∷◌, ◌++◌, length, Option, Some, None, Result, Ok, Err, MatchResult, arith}
use Rattle.nb_value.specs.Function.{arity}
use Rattle.nb_value.specs.declared.function.Function.{Function}
use Rattle.nb_lexer.specs.declared.word.Word.{Word}
use Rattle.nb_lexer.specs.declared.word.Word.TheVariants as word
use Rattle.nb_syntax.specs.declared.tree.Sign.{Sign}
use Rattle.nb_syntax.specs.declared.tree.Expr.{Expr}
use Rattle.nb_syntax.specs.declared.tree.Expr.TheVariants as tree
use Rattle.nb_syntax.specs.declared.tree.Operand.{Operand}
use Rattle.nb_syntax.specs.declared.tree.Member.{Member}
use Rattle.nb_grammar.specs.declared.fault.Fault.{Fault}
use Rattle.nb_grammar.specs.declared.fault.Stop.{Stop}
use Rattle.nb_grammar.specs.declared.fault.Stop.TheVariants as stops
use Rattle.nb_grammar.specs.Words.{compare_sign, sum_sign, product_sign}
use Rattle.nb_grammar.specs.Reading.{Read, ◌>>=◌, many, rounds, onward, Inside, inside_of, or_part, and_part, product, unary, step, item, next_pair, expr, operand, signed, and, sum, compare, compared, pair, compare_at, arguments, comma, items, close_square, pairs, close_curly, Fails, Gives}
use Rattle.std.specs.Option.{option_map}
use Rattle.std.specs.Result.{IsErrAnd}
use Rattle.nb_grammar.proofs.Loops.{Falls, rounds_go}
use Rattle.nb_parser.specs.Heads.{sign_at, after_or, after_and, after_comma}

-- What is left of a loop and of what follows it, from these words on, is the whole.
pub record Left {A B : Type 0} (next : List Word → Read (Option A)) (k : List A × List Word → Result B Fault) (done : List A) (ws : List Word)
    (total : Result B Fault) : Type 0 where
  pub same : (rounds next done ws >>= k) ≡ total

-- a turn of the code's loop, which pushes what it found
pub turn : {A B : Type 0} (next : List Word → Read (Option A)) → Falls next → (k : List A × List Word → Result B Fault)
    → (done pushed : List A) (ws mid : List Word) (o : Option A) (a : A) (total : Result B Fault)
    → next ws ≡ Ok (o, mid) → o ≡ Some a → pushed ≡ done ++ a ∷ [] → Left next k done ws total → Left next k pushed mid total
turn {A} next f k done pushed ws mid o a total e is push left = record {
  same =
      ap (λ h. rounds next h mid >>= k) push
      ∙ ap (λ (y : Read (List A)). y >>= k) (rounds_go next f done ws mid a (e ∙ ap (λ h. Ok (h, mid)) is))
      ∙ left.same;
}

pub bind_ok : {A B : Type 0} (y : Result A Fault) (k : A → Result B Fault) (x : A) → y ≡ Ok x → y >>= k ≡ k x
bind_ok y k x is = ap (λ z. z >>= k) is

pub bind_err : {A B : Type 0} (y : Result A Fault) (k : A → Result B Fault) (f : Fault) → y ≡ Err f → y >>= k ≡ Err f
bind_err y k f is = ap (λ z. z >>= k) is

-- a turn that stops at a fault
pub stop : {A B : Type 0} (next : List Word → Read (Option A)) (k : List A × List Word → Result B Fault)
    → (done : List A) (ws : List Word) (f : Fault) (total : Result B Fault)
    → next ws ≡ Err f → Left next k done ws total → total ≡ Err f
stop {A} next k done ws f total e left =
    sym left.same
    ∙ ap (λ (y : Read (List A)). y >>= k) (bind_err (next ws) (λ x. onward x.0 (Ok (done, x.1)) (λ v. many next (length ws) (done ++ v ∷ []) x.1)) f e)

-- a turn of a loop alone that stops at a fault
pub rounds_stop : {A : Type 0} (next : List Word → Read (Option A)) (done : List A) (ws : List Word) (f : Fault) (total : Read (List A))
    → next ws ≡ Err f → rounds next done ws ≡ total → total ≡ Err f
rounds_stop next done ws f total e same =
    sym same ∙ bind_err (next ws) (λ x. onward x.0 (Ok (done, x.1)) (λ v. many next (length ws) (done ++ v ∷ []) x.1)) f e

-- ---- what a `?` hands on

fails_on : {Y Z : Type 0} (s : Stop) (part : Result Z Fault) (read : Result Y Fault) → Fails s part
    → ((f : Fault) → part ≡ Err f → read ≡ Err f) → Fails s read
fails_on stops.Memory part read fails on = tt
fails_on (stops.Fault f) part read fails on = on f fails

pub fails : {X Y Z : Type 0} (view : X → Y) (result : Result X Stop) (s : Stop) (part : Result Z Fault) (read : Result Y Fault)
    → IsErrAnd result (λ e. e ≡ s) → Fails s part → ((f : Fault) → part ≡ Err f → read ≡ Err f) → Gives view result read
fails view (Ok x) s part read is f on = absurd is
fails view (Err e) s part read is f on = subst (λ t. Fails t read) (sym is) (fails_on s part read f on)

-- ---- equations of pairs and options

some_is : {A : Type 0} {a b : A} → Some a ≡ Some b → a ≡ b
some_is e = cc

first_is : {A B : Type 0} {a c : A} {b d : B} → ◌≡◌ {A = A × B} (a, b) (c, d) → a ≡ c
first_is {A} {B} e = ap (λ (x : A × B). x.0) e

second_is : {A B : Type 0} {a c : A} {b d : B} → ◌≡◌ {A = A × B} (a, b) (c, d) → b ≡ d
second_is {A} {B} e = ap (λ (x : A × B). x.1) e

-- ---- what was read while a value was kept

pub both_ok : {A B Y : Type 0} (view : B → Y) (kept : A) (other : Result B Stop) (a : A) (b : B) (read : Result Y Fault)
    → MatchResult other (λ o. ◌≡◌ {A = Result (A × B) Stop} (Ok (a, b)) (Ok (kept, o))) (λ e. ◌≡◌ {A = Result (A × B) Stop} (Ok (a, b)) (Err e))
    → Gives view other read → (a ≡ kept) × (read ≡ Ok (view b))
both_ok {A} {B} view kept (Ok o) a b read is gives =
    let p : ◌≡◌ {A = A × B} (a, b) (kept, o) = cc in
    (first_is p, gives ∙ ap (λ x. Ok (view x)) (sym (second_is p)))
both_ok view kept (Err e) a b read is gives = cc

pub both_err : {A B Y : Type 0} (view : B → Y) (kept : A) (other : Result B Stop) (s : Stop) (read : Result Y Fault)
    → MatchResult other (λ o. ◌≡◌ {A = Result (A × B) Stop} (Err s) (Ok (kept, o))) (λ e. ◌≡◌ {A = Result (A × B) Stop} (Err s) (Err e))
    → Gives view other read → Fails s read
both_err view kept (Ok o) s read is gives = cc
both_err view kept (Err e) s read is gives = let p : s ≡ e = cc in subst (λ t. Fails t read) (sym p) gives

-- ---- operators at the head

pub record Head (sign : Word → Option Sign) (ws : List Word) (s : Sign) (rest : List Word) : Type 0 where
  pub word : Word
  pub words_are : ws ≡ word ∷ rest
  pub sign_is : sign word ≡ Some s

pub head : (sign : Word → Option Sign) (ws rest : List Word) (s : Sign) → Some (s, rest) ≡ sign_at sign ws → Head sign ws s rest
head sign [] rest s e = cc
head sign (w ∷ ws) rest s e = at (sign w) refl e
  where
    at : (o : Option Sign) → sign w ≡ o → ◌≡◌ {A = Option (Sign × List Word)} (Some (s, rest)) (option_map (λ t. (t, ws)) o) → Head sign (w ∷ ws) s rest
    at None is e = cc
    at (Some t) is e = let p : (s, rest) ≡ (t, ws) = some_is e in
        record { word = w; words_are = ap (λ r. w ∷ r) (sym (second_is p)); sign_is = is ∙ ap Some (sym (first_is p)) }

-- an operand whose operator stands at the head
pub operand_at : (sign : Word → Option Sign) (part : List Word → Read Expr) (ws rest : List Word) (s : Sign) → Some (s, rest) ≡ sign_at sign ws
    → operand sign part ws ≡ part rest >>= (λ e. Ok (Some (record { sign = s; expr = e.0 }), e.1))
operand_at sign part ws rest s at =
    let h = head sign ws rest s at in
    ap (operand sign part) h.words_are ∙ ap (λ o. signed part o h.word rest) h.sign_is

-- a comparison whose operator stands at the head
pub compared_at : (inside : Inside) (left : Expr) (ws rest : List Word) (s : Sign) → Some (s, rest) ≡ sign_at compare_sign ws
    → compare_at inside left ws ≡ sum inside rest >>= (λ right. Ok (tree.Compare s left right.0, right.1))
compared_at inside left ws rest s at =
    let h = head compare_sign ws rest s at in
    ap (compare_at inside left) h.words_are ∙ ap (λ o. compared inside left o h.word rest) h.sign_is

-- ---- what stands behind a word

pub or_at : (inside : Inside) (ws rest : List Word) → Some rest ≡ after_or ws
    → or_part inside ws ≡ and inside rest >>= (λ e. Ok (Some e.0, e.1))
or_at inside (word.Or ∷ ws) rest at = ap (λ r. or_part inside (word.Or ∷ r)) (sym (some_is at))
or_at inside ws rest at = cc

pub and_at : (inside : Inside) (ws rest : List Word) → Some rest ≡ after_and ws
    → and_part inside ws ≡ compare inside rest >>= (λ e. Ok (Some e.0, e.1))
and_at inside (word.And ∷ ws) rest at = ap (λ r. and_part inside (word.And ∷ r)) (sym (some_is at))
and_at inside ws rest at = cc

pub item_at : (expr : List Word → Read Expr) (ws rest : List Word) → Some rest ≡ after_comma ws
    → item expr ws ≡ expr rest >>= (λ e. Ok (Some e.0, e.1))
item_at expr (word.Comma ∷ ws) rest at = ap (λ r. item expr (word.Comma ∷ r)) (sym (some_is at))
item_at expr ws rest at = cc

pub pair_at : (expr : List Word → Read Expr) (ws rest : List Word) → Some rest ≡ after_comma ws
    → next_pair expr ws ≡ pair expr rest >>= (λ p. Ok (Some p.0, p.1))
pair_at expr (word.Comma ∷ ws) rest at = ap (λ r. next_pair expr (word.Comma ∷ r)) (sym (some_is at))
pair_at expr ws rest at = cc

-- a list that begins with an item
pub items_begin : (inside : Inside) (ws mid : List Word) (e : Expr) (none one : List Expr)
    → expr inside ws ≡ Ok (e, mid) → none ≡ [] → one ≡ none ++ e ∷ []
    → Left (item (expr inside)) (λ m. close_square m.1 >>= (λ rest. Ok (tree.List m.0, rest))) one mid (items (expr inside) ws)
items_begin inside (word.CloseSquare ∷ ws) mid e none one is empty push = cc
items_begin inside ws mid e none one is empty push = record {
  same =
      ap (λ h. rounds (item (expr inside)) h mid >>= (λ m. close_square m.1 >>= (λ rest. Ok (tree.List m.0, rest)))) (push ∙ ap (λ h. h ++ e ∷ []) empty)
      ∙ sym (bind_ok (expr inside ws)
      (λ first. rounds (item (expr inside)) (first.0 ∷ []) first.1 >>= (λ m. close_square m.1 >>= (λ rest. Ok (tree.List m.0, rest)))) (e, mid) is);
}

-- a record that begins with a pair
pub pairs_begin : (expr : List Word → Read Expr) (ws mid : List Word) (p : Member) (none one : List Member)
    → pair expr ws ≡ Ok (p, mid) → none ≡ [] → one ≡ none ++ p ∷ []
    → Left (next_pair expr) (λ m. close_curly m.1 >>= (λ rest. Ok (tree.Rec m.0, rest))) one mid (pairs expr ws)
pairs_begin expr (word.CloseCurly ∷ ws) mid p none one is empty push = cc
pairs_begin expr ws mid p none one is empty push = record {
  same =
      ap (λ h. rounds (next_pair expr) h mid >>= (λ m. close_curly m.1 >>= (λ rest. Ok (tree.Rec m.0, rest)))) (push ∙ ap (λ h. h ++ p ∷ []) empty)
      ∙ sym (bind_ok (pair expr ws)
      (λ first. rounds (next_pair expr) (first.0 ∷ []) first.1 >>= (λ m. close_curly m.1 >>= (λ rest. Ok (tree.Rec m.0, rest)))) (p, mid) is);
}

-- ---- the arguments of a function

pub argument_turn : {B : Type 0} (expr : List Word → Read Expr) (k : List Expr × List Word → Result B Fault) (n m : ℕ) (done pushed : List Expr)
    (ws rest mid : List Word) (e : Expr) (total : Result B Fault)
    → n ≡ suc m → comma ws ≡ Ok rest → expr rest ≡ Ok (e, mid) → pushed ≡ done ++ e ∷ [] → (arguments expr n done ws >>= k) ≡ total
    → (arguments expr m pushed mid >>= k) ≡ total
argument_turn expr k n m done pushed ws rest mid e total more sep is push same =
    ap (λ h. arguments expr m h mid >>= k) push
    ∙ sym (ap (λ (y : Read Expr). (y >>= (λ x. arguments expr m (done ++ x.0 ∷ []) x.1)) >>= k) is)
    ∙ sym (ap (λ (y : Result (List Word) Fault). (y >>= (λ r. expr r >>= (λ x. arguments expr m (done ++ x.0 ∷ []) x.1))) >>= k) sep)
    ∙ sym (ap (λ i. arguments expr i done ws >>= k) more)
    ∙ same

pub argument_comma : {B : Type 0} (expr : List Word → Read Expr) (k : List Expr × List Word → Result B Fault) (n m : ℕ) (done : List Expr)
    (ws : List Word) (f : Fault) (total : Result B Fault)
    → n ≡ suc m → comma ws ≡ Err f → (arguments expr n done ws >>= k) ≡ total → total ≡ Err f
argument_comma expr k n m done ws f total more sep same =
    sym same ∙ ap (λ i. arguments expr i done ws >>= k) more
    ∙ ap (λ (y : Result (List Word) Fault). (y >>= (λ r. expr r >>= (λ x. arguments expr m (done ++ x.0 ∷ []) x.1))) >>= k) sep

pub argument_stop : {B : Type 0} (expr : List Word → Read Expr) (k : List Expr × List Word → Result B Fault) (n m : ℕ) (done : List Expr)
    (ws rest : List Word) (f : Fault) (total : Result B Fault)
    → n ≡ suc m → comma ws ≡ Ok rest → expr rest ≡ Err f → (arguments expr n done ws >>= k) ≡ total → total ≡ Err f
argument_stop expr k n m done ws rest f total more sep is same =
    sym same ∙ ap (λ i. arguments expr i done ws >>= k) more
    ∙ ap (λ (y : Result (List Word) Fault). (y >>= (λ r. expr r >>= (λ x. arguments expr m (done ++ x.0 ∷ []) x.1))) >>= k) sep
    ∙ ap (λ (y : Read Expr). (y >>= (λ x. arguments expr m (done ++ x.0 ∷ []) x.1)) >>= k) is
