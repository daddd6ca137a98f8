-- A record and a block are told apart by the words behind the bracket.
use Rattle.std.proofs.Common.{◌≡◌, Bool, true, false, refl, sym, ap, subst, ◌∙◌, List, [], ◌∷◌}
use Rattle.nb_lexer.specs.declared.word.Word.{Word}
use Rattle.nb_lexer.specs.declared.word.Word.TheVariants as word
use Rattle.nb_grammar.specs.Grammar as g
use Rattle.nb_grammar.specs.Grammar.{ExprWay, OrWay, CompareWay, SumWay, UnaryWay, PrimaryWay, StmtWay, BodyWay}

-- What stands behind "{" begins a record: "}", or a name or quoted text and ":".
abbrev pub begins_record : List Word → Bool
begins_record (word.CloseCurly ∷ ws) = true
begins_record (word.Name x ∷ word.Colon ∷ ws) = true
begins_record (word.Quoted x ∷ word.Colon ∷ ws) = true
begins_record ws = false

abbrev Braced : List Word → Type 0
Braced (word.OpenCurly ∷ ws) = begins_record ws ≡ true
Braced ws = Unit {0}

primary_braced : (d : PrimaryWay) (ws : List Word) → Braced (g.primary_words d ws)
primary_braced (g.number n) ws = tt
primary_braced (g.quoted x) ws = tt
primary_braced g.true_word ws = tt
primary_braced g.false_word ws = tt
primary_braced g.null_word ws = tt
primary_braced (g.name x) ws = tt
primary_braced (g.call1 f is a) ws = tt
primary_braced (g.call2 f is a b) ws = tt
primary_braced (g.call3 f is a b c) ws = tt
primary_braced (g.fetch e) ws = tt
primary_braced (g.round e) ws = tt
primary_braced g.no_items ws = tt
primary_braced (g.items e more) ws = tt
primary_braced g.no_pairs ws = refl
primary_braced (g.pairs (g.pair (g.name_key x) e) more) ws = refl
primary_braced (g.pairs (g.pair (g.quoted_key x) e) more) ws = refl

unary_braced : (d : UnaryWay) (ws : List Word) → Braced (g.unary_words d ws)
unary_braced (g.unsigned (g.postfix p more)) ws = primary_braced p (g.steps_words more ws)
unary_braced (g.signed g.negative p) ws = tt
unary_braced (g.signed g.not p) ws = tt

sum_braced : (d : SumWay) (ws : List Word) → Braced (g.sum_words d ws)
sum_braced (g.sum (g.product u f) more) ws = unary_braced u (g.factors_words f (g.summands_words more ws))

compare_braced : (d : CompareWay) (ws : List Word) → Braced (g.compare_words d ws)
compare_braced (g.single s) ws = sum_braced s ws
compare_braced (g.compare c s t) ws = sum_braced s (g.compare_word c ∷ g.sum_words t ws)

or_braced : (d : OrWay) (ws : List Word) → Braced (g.or_words d ws)
or_braced (g.or (g.and c f) more) ws = compare_braced c (g.and_parts_words f (g.or_parts_words more ws))

expr_braced : (d : ExprWay) (ws : List Word) → Braced (g.expr_words d ws)
expr_braced (g.plain o) ws = or_braced o ws
expr_braced (g.choose c a b) ws = or_braced c (word.Question ∷ g.or_words a (word.Colon ∷ g.or_words b ws))

-- An expression that begins with "{" begins with a record,
pub expr_begins_record : (d : ExprWay) (ws rest : List Word) → g.expr_words d ws ≡ word.OpenCurly ∷ rest → begins_record rest ≡ true
expr_begins_record d ws rest is = subst (λ z. Braced z) is (expr_braced d ws)

-- and what stands behind the "{" of a block with a statement begins none.
pub stmt_begins_none : (d : StmtWay) (ws : List Word) → begins_record (g.stmt_words d ws) ≡ false
stmt_begins_none (g.let_stmt x e) ws = refl
stmt_begins_none (g.assign_stmt x e) ws = refl
stmt_begins_none (g.if_stmt e b more other) ws = refl
stmt_begins_none (g.while_stmt e b) ws = refl
stmt_begins_none (g.for_stmt x e b) ws = refl
stmt_begins_none (g.yield_stmt e) ws = refl
stmt_begins_none (g.return_stmt e) ws = refl
stmt_begins_none (g.throw_stmt e) ws = refl
stmt_begins_none (g.cleanup_stmt e) ws = refl

abbrev pub is_expr : BodyWay → Bool
is_expr (g.expr_body e) = true
is_expr (g.block_body s more) = false

-- A body that begins with "{" is an expression exactly where a record begins there.
pub brace_record : (d : BodyWay) (rest : List Word) → g.body_words d [] ≡ word.OpenCurly ∷ rest → is_expr d ≡ begins_record rest
brace_record (g.expr_body e) rest is = sym (expr_begins_record e [] rest is)
brace_record (g.block_body s more) rest is =
    let k : g.stmt_words s (g.stmts_words more (word.CloseCurly ∷ [])) ≡ rest = cc in
    sym (sym (ap (λ z. begins_record z) k) ∙ stmt_begins_none s (g.stmts_words more (word.CloseCurly ∷ [])))
