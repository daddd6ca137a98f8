-- The text of a way has the way's words: those of expressions.
use Rattle.std.proofs.Common.{ℕ, List, ◌∷◌, ◌++◌, refl}
use Rattle.nb_value.specs.Function.{function_name}
use Rattle.nb_lexer.specs.declared.word.Word.{Word}
use Rattle.nb_lexer.specs.declared.word.Word.TheVariants as word
use Rattle.nb_lexer.specs.Spelling.{Ends}
use Rattle.nb_lexer.specs.Written.{word_text, IsWritable}
use Rattle.nb_grammar.specs.Grammar as g
use Rattle.nb_grammar.specs.Grammar.{ExprWay, OrWay, OrParts, AndWay, AndParts, CompareWay, CompareSign, SumWay, SumSign, Summands, ProductWay, ProductSign, Factors, UnaryWay, PostfixWay, Steps, PrimaryWay, Items, Pairs, PairWay, KeyWay}
use Rattle.nb_grammar.proofs.EachWord.{expr_each, or_each, or_parts_each, and_each, and_parts_each, compare_each, sum_each, summands_each, product_each, factors_each, unary_each, postfix_each, steps_each, primary_each, items_each, pairs_each, pair_each}
use Rattle.nb_parser.proofs.Tight.{Loose, Tight, first, close, spaced, Stops, ends_by, ends_free, not_in_name}
use Rattle.nb_parser.proofs.WayTexts as text
use Rattle.nb_parser.proofs.WayTexts.{between}
use Rattle.nb_parser.proofs.FirstBytes.{not_ends}

or_parts_stop : (d : OrParts) (t : List ℕ) → Stops t → Stops (text.or_parts_text d t)
or_parts_stop g.no_or_part t s = s
or_parts_stop (g.or_part a more) t s = refl

and_parts_stop : (d : AndParts) (t : List ℕ) → Stops t → Stops (text.and_parts_text d t)
and_parts_stop g.no_and_part t s = s
and_parts_stop (g.and_part c more) t s = refl

summands_stop : (d : Summands) (t : List ℕ) → Stops t → Stops (text.summands_text d t)
summands_stop g.no_summand t s = s
summands_stop (g.summand z p more) t s = refl

factors_stop : (d : Factors) (t : List ℕ) → Stops t → Stops (text.factors_text d t)
factors_stop g.no_factor t s = s
factors_stop (g.factor z u more) t s = refl

pub steps_stop : (d : Steps) (t : List ℕ) → Stops t → Stops (text.steps_text d t)
steps_stop g.no_step t s = s
steps_stop (g.field x more) t s = refl
steps_stop (g.at e more) t s = refl

items_stop : (d : Items) (t : List ℕ) → Stops t → Stops (text.items_text d t)
items_stop g.no_item t s = s
items_stop (g.item e more) t s = refl

pairs_stop : (d : Pairs) (t : List ℕ) → Stops t → Stops (text.pairs_text d t)
pairs_stop g.no_pair t s = s
pairs_stop (g.next_pair p more) t s = refl

-- an operator between spaces, and what stands behind it
pub operator : (w : Word) (ws : List Word) (t : List ℕ) → Ends w (32 ∷ t) → Tight ws t → Loose (w ∷ ws) (between w t)
operator w ws t e h = spaced (w ∷ ws) (word_text w ++ (32 ∷ t)) (first w ws (32 ∷ t) e (spaced ws t h))

compare_ends : (c : CompareSign) (t : List ℕ) → Ends (g.compare_word c) (32 ∷ t)
compare_ends g.equal t = refl
compare_ends g.not_equal t = refl
compare_ends g.less t = refl
compare_ends g.less_or_equal t = refl
compare_ends g.greater t = refl
compare_ends g.greater_or_equal t = refl

sum_ends : (c : SumSign) (t : List ℕ) → Ends (g.sum_word c) (32 ∷ t)
sum_ends g.plus t = refl
sum_ends g.minus t = refl

product_ends : (c : ProductSign) (t : List ℕ) → Ends (g.product_word c) (32 ∷ t)
product_ends g.times t = refl
product_ends g.divide t = refl
product_ends g.remainder t = refl

key_ends : (k : KeyWay) (t : List ℕ) → Ends (g.key_word k) (58 ∷ t)
key_ends (g.name_key x) t = refl
key_ends (g.quoted_key x) t = refl

-- "(", "[" and "{" end anywhere,
pub round : (ws : List Word) (t : List ℕ) → Tight ws t → Tight (word.OpenRound ∷ ws) (40 ∷ t)
round ws t h = first word.OpenRound ws t (ends_free word.OpenRound (λ b. refl) t) (close ws t h)

square : (ws : List Word) (t : List ℕ) → Tight ws t → Tight (word.OpenSquare ∷ ws) (91 ∷ t)
square ws t h = first word.OpenSquare ws t (ends_free word.OpenSquare (λ b. refl) t) (close ws t h)

pub curly : (ws : List Word) (t : List ℕ) → Tight ws t → Tight (word.OpenCurly ∷ ws) (123 ∷ t)
curly ws t h = first word.OpenCurly ws t (ends_free word.OpenCurly (λ b. refl) t) (close ws t h)

-- and so do the closing ones.
pub unround : (ws : List Word) (t : List ℕ) → Loose ws t → Loose (word.CloseRound ∷ ws) (41 ∷ t)
unround ws t h = close (word.CloseRound ∷ ws) (41 ∷ t) (first word.CloseRound ws t (ends_free word.CloseRound (λ b. refl) t) h)

unsquare : (ws : List Word) (t : List ℕ) → Loose ws t → Loose (word.CloseSquare ∷ ws) (93 ∷ t)
unsquare ws t h = close (word.CloseSquare ∷ ws) (93 ∷ t) (first word.CloseSquare ws t (ends_free word.CloseSquare (λ b. refl) t) h)

pub uncurly : (ws : List Word) (t : List ℕ) → Loose ws t → Loose (word.CloseCurly ∷ ws) (125 ∷ t)
uncurly ws t h = close (word.CloseCurly ∷ ws) (125 ∷ t) (first word.CloseCurly ws t (ends_free word.CloseCurly (λ b. refl) t) h)

-- a comma and a space
comma : (ws : List Word) (t : List ℕ) → Tight ws t → Loose (word.Comma ∷ ws) (44 ∷ 32 ∷ t)
comma ws t h = close (word.Comma ∷ ws) (44 ∷ 32 ∷ t) (first word.Comma ws (32 ∷ t) refl (spaced ws t h))

mutual
  pub expr_words : (d : ExprWay) (ws : List Word) (t : List ℕ) → expr_each IsWritable d → Stops t → Loose ws t → Tight (g.expr_words d ws) (text.expr_text d t)
  expr_words (g.plain o) ws t p s h = or_words o ws t p s h
  expr_words (g.choose c a b) ws t p s h =
      let vs : List Word = word.Colon ∷ g.or_words b ws in
      let u : List ℕ = between word.Colon (text.or_text b t) in
      let colon : Loose vs u = operator word.Colon (g.or_words b ws) (text.or_text b t) refl (or_words b ws t p.4 s h) in
      let question = operator word.Question (g.or_words a vs) (text.or_text a u) refl (or_words a vs u p.2 refl colon) in
      or_words c (word.Question ∷ g.or_words a vs) (between word.Question (text.or_text a u)) p.0 refl question

  pub or_words : (d : OrWay) (ws : List Word) (t : List ℕ) → or_each IsWritable d → Stops t → Loose ws t → Tight (g.or_words d ws) (text.or_text d t)
  or_words (g.or a more) ws t p s h = and_words a (g.or_parts_words more ws) (text.or_parts_text more t) p.0 (or_parts_stop more t s) (or_parts_words more ws t p.1 s h)

  pub or_parts_words : (d : OrParts) (ws : List Word) (t : List ℕ) → or_parts_each IsWritable d → Stops t → Loose ws t → Loose (g.or_parts_words d ws) (text.or_parts_text d t)
  or_parts_words g.no_or_part ws t p s h = h
  or_parts_words (g.or_part a more) ws t p s h =
      let vs : List Word = g.or_parts_words more ws in
      let u : List ℕ = text.or_parts_text more t in
      operator word.Or (g.and_words a vs) (text.and_text a u) refl (and_words a vs u p.1 (or_parts_stop more t s) (or_parts_words more ws t p.2 s h))

  pub and_words : (d : AndWay) (ws : List Word) (t : List ℕ) → and_each IsWritable d → Stops t → Loose ws t → Tight (g.and_words d ws) (text.and_text d t)
  and_words (g.and a more) ws t p s h = compare_words a (g.and_parts_words more ws) (text.and_parts_text more t) p.0 (and_parts_stop more t s) (and_parts_words more ws t p.1 s h)

  pub and_parts_words : (d : AndParts) (ws : List Word) (t : List ℕ) → and_parts_each IsWritable d → Stops t → Loose ws t → Loose (g.and_parts_words d ws) (text.and_parts_text d t)
  and_parts_words g.no_and_part ws t p s h = h
  and_parts_words (g.and_part a more) ws t p s h =
      let vs : List Word = g.and_parts_words more ws in
      let u : List ℕ = text.and_parts_text more t in
      operator word.And (g.compare_words a vs) (text.compare_text a u) refl (compare_words a vs u p.1 (and_parts_stop more t s) (and_parts_words more ws t p.2 s h))

  pub compare_words : (d : CompareWay) (ws : List Word) (t : List ℕ) → compare_each IsWritable d → Stops t → Loose ws t → Tight (g.compare_words d ws) (text.compare_text d t)
  compare_words (g.single a) ws t p s h = sum_words a ws t p s h
  compare_words (g.compare c a b) ws t p s h =
      let u : List ℕ = text.sum_text b t in
      sum_words a (g.compare_word c ∷ g.sum_words b ws) (between (g.compare_word c) u) p.0 refl (operator (g.compare_word c) (g.sum_words b ws) u (compare_ends c u) (sum_words b ws t p.2 s h))

  pub sum_words : (d : SumWay) (ws : List Word) (t : List ℕ) → sum_each IsWritable d → Stops t → Loose ws t → Tight (g.sum_words d ws) (text.sum_text d t)
  sum_words (g.sum a more) ws t p s h = product_words a (g.summands_words more ws) (text.summands_text more t) p.0 (summands_stop more t s) (summands_words more ws t p.1 s h)

  pub summands_words : (d : Summands) (ws : List Word) (t : List ℕ) → summands_each IsWritable d → Stops t → Loose ws t → Loose (g.summands_words d ws) (text.summands_text d t)
  summands_words g.no_summand ws t p s h = h
  summands_words (g.summand z a more) ws t p s h =
      let vs : List Word = g.summands_words more ws in
      let u : List ℕ = text.summands_text more t in
      operator (g.sum_word z) (g.product_words a vs) (text.product_text a u) (sum_ends z (text.product_text a u)) (product_words a vs u p.1 (summands_stop more t s) (summands_words more ws t p.2 s h))

  pub product_words : (d : ProductWay) (ws : List Word) (t : List ℕ) → product_each IsWritable d → Stops t → Loose ws t → Tight (g.product_words d ws) (text.product_text d t)
  product_words (g.product a more) ws t p s h = unary_words a (g.factors_words more ws) (text.factors_text more t) p.0 (factors_stop more t s) (factors_words more ws t p.1 s h)

  pub factors_words : (d : Factors) (ws : List Word) (t : List ℕ) → factors_each IsWritable d → Stops t → Loose ws t → Loose (g.factors_words d ws) (text.factors_text d t)
  factors_words g.no_factor ws t p s h = h
  factors_words (g.factor z a more) ws t p s h =
      let vs : List Word = g.factors_words more ws in
      let u : List ℕ = text.factors_text more t in
      operator (g.product_word z) (g.unary_words a vs) (text.unary_text a u) (product_ends z (text.unary_text a u)) (unary_words a vs u p.1 (factors_stop more t s) (factors_words more ws t p.2 s h))

  pub unary_words : (d : UnaryWay) (ws : List Word) (t : List ℕ) → unary_each IsWritable d → Stops t → Loose ws t → Tight (g.unary_words d ws) (text.unary_text d t)
  unary_words (g.unsigned a) ws t p s h = postfix_words a ws t p s h
  unary_words (g.signed g.negative a) ws t p s h =
      let u : List ℕ = text.postfix_text a t in
      first word.Minus (g.postfix_words a ws) u (ends_free word.Minus (λ b. refl) u) (close (g.postfix_words a ws) u (postfix_words a ws t p.1 s h))
  unary_words (g.signed g.not a) ws t p s h =
      let u : List ℕ = text.postfix_text a t in
      first word.Not (g.postfix_words a ws) u (not_ends a t p.1 s) (close (g.postfix_words a ws) u (postfix_words a ws t p.1 s h))

  pub postfix_words : (d : PostfixWay) (ws : List Word) (t : List ℕ) → postfix_each IsWritable d → Stops t → Loose ws t → Tight (g.postfix_words d ws) (text.postfix_text d t)
  postfix_words (g.postfix a more) ws t p s h = primary_words a (g.steps_words more ws) (text.steps_text more t) p.0 (steps_stop more t s) (steps_words more ws t p.1 s h)

  pub steps_words : (d : Steps) (ws : List Word) (t : List ℕ) → steps_each IsWritable d → Stops t → Loose ws t → Loose (g.steps_words d ws) (text.steps_text d t)
  steps_words g.no_step ws t p s h = h
  steps_words (g.field x more) ws t p s h =
      let vs : List Word = g.steps_words more ws in
      let u : List ℕ = text.steps_text more t in
      let named : Tight (word.Name x ∷ vs) (x ++ u) = first (word.Name x) vs u (ends_by (word.Name x) not_in_name u (steps_stop more t s)) (steps_words more ws t p.2 s h) in
      close (word.Dot ∷ word.Name x ∷ vs) (46 ∷ (x ++ u)) (first word.Dot (word.Name x ∷ vs) (x ++ u) (ends_free word.Dot (λ b. refl) (x ++ u)) (close (word.Name x ∷ vs) (x ++ u) named))
  steps_words (g.at e more) ws t p s h =
      let vs : List Word = word.CloseSquare ∷ g.steps_words more ws in
      let u : List ℕ = 93 ∷ text.steps_text more t in
      let closed : Loose vs u = unsquare (g.steps_words more ws) (text.steps_text more t) (steps_words more ws t p.3 s h) in
      close (word.OpenSquare ∷ g.expr_words e vs) (91 ∷ text.expr_text e u) (square (g.expr_words e vs) (text.expr_text e u) (expr_words e vs u p.1 refl closed))

  pub primary_words : (d : PrimaryWay) (ws : List Word) (t : List ℕ) → primary_each IsWritable d → Stops t → Loose ws t → Tight (g.primary_words d ws) (text.primary_text d t)
  primary_words (g.number x) ws t p s h = first (word.Number x) ws t (ends_by (word.Number x) not_in_name t s) h
  primary_words g.true_word ws t p s h = first word.True ws t (ends_by word.True not_in_name t s) h
  primary_words g.false_word ws t p s h = first word.False ws t (ends_by word.False not_in_name t s) h
  primary_words g.null_word ws t p s h = first word.Null ws t (ends_by word.Null not_in_name t s) h
  primary_words (g.name x) ws t p s h = first (word.Name x) ws t (ends_by (word.Name x) not_in_name t s) h
  primary_words (g.quoted x) ws t p s h = first (word.Quoted x) ws t (ends_free (word.Quoted x) (λ b. refl) t) h
  primary_words (g.call1 f is a) ws t p s h =
      let v1 : List Word = word.CloseRound ∷ ws in
      let u1 : List ℕ = 41 ∷ t in
      let h1 : Loose v1 u1 = unround ws t h in
      first (word.Name (function_name f)) (word.OpenRound ∷ g.expr_words a v1) (40 ∷ text.expr_text a u1) refl (close (word.OpenRound ∷ g.expr_words a v1) (40 ∷ text.expr_text a u1) (round (g.expr_words a v1) (text.expr_text a u1) (expr_words a v1 u1 p.2 refl h1)))
  primary_words (g.call2 f is a b) ws t p s h =
      let v2 : List Word = word.CloseRound ∷ ws in
      let u2 : List ℕ = 41 ∷ t in
      let h2 : Loose v2 u2 = unround ws t h in
      let v1 : List Word = word.Comma ∷ g.expr_words b v2 in
      let u1 : List ℕ = 44 ∷ 32 ∷ text.expr_text b u2 in
      let h1 : Loose v1 u1 = comma (g.expr_words b v2) (text.expr_text b u2) (expr_words b v2 u2 p.4 refl h2) in
      first (word.Name (function_name f)) (word.OpenRound ∷ g.expr_words a v1) (40 ∷ text.expr_text a u1) refl (close (word.OpenRound ∷ g.expr_words a v1) (40 ∷ text.expr_text a u1) (round (g.expr_words a v1) (text.expr_text a u1) (expr_words a v1 u1 p.2 refl h1)))
  primary_words (g.call3 f is a b c) ws t p s h =
      let v3 : List Word = word.CloseRound ∷ ws in
      let u3 : List ℕ = 41 ∷ t in
      let h3 : Loose v3 u3 = unround ws t h in
      let v2 : List Word = word.Comma ∷ g.expr_words c v3 in
      let u2 : List ℕ = 44 ∷ 32 ∷ text.expr_text c u3 in
      let h2 : Loose v2 u2 = comma (g.expr_words c v3) (text.expr_text c u3) (expr_words c v3 u3 p.6 refl h3) in
      let v1 : List Word = word.Comma ∷ g.expr_words b v2 in
      let u1 : List ℕ = 44 ∷ 32 ∷ text.expr_text b u2 in
      let h1 : Loose v1 u1 = comma (g.expr_words b v2) (text.expr_text b u2) (expr_words b v2 u2 p.4 refl h2) in
      first (word.Name (function_name f)) (word.OpenRound ∷ g.expr_words a v1) (40 ∷ text.expr_text a u1) refl (close (word.OpenRound ∷ g.expr_words a v1) (40 ∷ text.expr_text a u1) (round (g.expr_words a v1) (text.expr_text a u1) (expr_words a v1 u1 p.2 refl h1)))
  primary_words (g.fetch e) ws t p s h =
      let v1 : List Word = word.CloseRound ∷ ws in
      let u1 : List ℕ = 41 ∷ t in
      let h1 : Loose v1 u1 = unround ws t h in
      first word.Fetch (word.OpenRound ∷ g.expr_words e v1) (40 ∷ text.expr_text e u1) refl (close (word.OpenRound ∷ g.expr_words e v1) (40 ∷ text.expr_text e u1) (round (g.expr_words e v1) (text.expr_text e u1) (expr_words e v1 u1 p.2 refl h1)))
  primary_words (g.round e) ws t p s h =
      let v1 : List Word = word.CloseRound ∷ ws in
      let u1 : List ℕ = 41 ∷ t in
      let h1 : Loose v1 u1 = unround ws t h in
      round (g.expr_words e v1) (text.expr_text e u1) (expr_words e v1 u1 p.1 refl h1)
  primary_words g.no_items ws t p s h = first word.OpenSquare (word.CloseSquare ∷ ws) (93 ∷ t) refl (unsquare ws t h)
  primary_words (g.items e more) ws t p s h =
      let v : List Word = word.CloseSquare ∷ ws in
      let u : List ℕ = 93 ∷ t in
      let vs : List Word = g.items_words more v in
      let us : List ℕ = text.items_text more u in
      square (g.expr_words e vs) (text.expr_text e us) (expr_words e vs us p.1 (items_stop more u refl) (items_words more v u p.2 refl (unsquare ws t h)))
  primary_words g.no_pairs ws t p s h = first word.OpenCurly (word.CloseCurly ∷ ws) (125 ∷ t) refl (uncurly ws t h)
  primary_words (g.pairs q more) ws t p s h =
      let v : List Word = word.CloseCurly ∷ ws in
      let u : List ℕ = 125 ∷ t in
      let vs : List Word = g.pairs_words more v in
      let us : List ℕ = text.pairs_text more u in
      curly (g.pair_words q vs) (text.pair_text q us) (pair_words q vs us p.1 (pairs_stop more u refl) (pairs_words more v u p.2 refl (uncurly ws t h)))

  pub items_words : (d : Items) (ws : List Word) (t : List ℕ) → items_each IsWritable d → Stops t → Loose ws t → Loose (g.items_words d ws) (text.items_text d t)
  items_words g.no_item ws t p s h = h
  items_words (g.item a more) ws t p s h =
      let vs : List Word = g.items_words more ws in
      let u : List ℕ = text.items_text more t in
      comma (g.expr_words a vs) (text.expr_text a u) (expr_words a vs u p.1 (items_stop more t s) (items_words more ws t p.2 s h))

  pub pairs_words : (d : Pairs) (ws : List Word) (t : List ℕ) → pairs_each IsWritable d → Stops t → Loose ws t → Loose (g.pairs_words d ws) (text.pairs_text d t)
  pairs_words g.no_pair ws t p s h = h
  pairs_words (g.next_pair a more) ws t p s h =
      let vs : List Word = g.pairs_words more ws in
      let u : List ℕ = text.pairs_text more t in
      comma (g.pair_words a vs) (text.pair_text a u) (pair_words a vs u p.1 (pairs_stop more t s) (pairs_words more ws t p.2 s h))

  pub pair_words : (d : PairWay) (ws : List Word) (t : List ℕ) → pair_each IsWritable d → Stops t → Loose ws t → Tight (g.pair_words d ws) (text.pair_text d t)
  pair_words (g.pair k e) ws t p s h =
      let vs : List Word = g.expr_words e ws in
      let u : List ℕ = text.expr_text e t in
      let colon : Tight (word.Colon ∷ vs) (58 ∷ 32 ∷ u) = first word.Colon vs (32 ∷ u) refl (spaced vs u (expr_words e ws t p.2 s h)) in
      first (g.key_word k) (word.Colon ∷ vs) (58 ∷ 32 ∷ u) (key_ends k (32 ∷ u)) (close (word.Colon ∷ vs) (58 ∷ 32 ∷ u) colon)
