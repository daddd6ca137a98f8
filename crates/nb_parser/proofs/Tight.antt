-- Words that stand in a text with one space or none before each, so that none goes on with the one before it.
use Rattle.std.proofs.Common.{◌≡◌, ◌⊎◌, inl, inr, ◌==◌, ◌||◌, ℕ, Bool, true, false, if◌then◌else◌, List, [], ◌∷◌, ◌++◌, map, refl, sym, ap, subst, ◌∙◌, append_assoc}
use Rattle.nb_lexer.specs.declared.word.Word.{Word}
use Rattle.nb_lexer.specs.Characters.{is_in_name, begins}
use Rattle.nb_lexer.specs.Spelling.{Ends, goes_on}
use Rattle.nb_lexer.specs.Lexes.{Placed, word_of, Leads, HasWords}
use Rattle.nb_lexer.specs.Written.{Spaced, spaced_word, spaced_text, word_text, IsWritable, IsApart, AreApart, AreWritable}
use Rattle.nb_lexer.proofs.WrittenLemmas.{written_words, spells_writable}
use Rattle.nb_grammar.proofs.EachWord.{Each}

-- ---- the words of a text

-- The text begins with the word, which ends there, and goes on as asked.
abbrev pub Begins : (List ℕ → Type 0) → Word → List ℕ → Type 0
Begins more w t = (rest : List ℕ) × (t ≡ word_text w ++ rest) × Ends w rest × more rest

-- These are the words of the text. One space may stand before each.
abbrev pub Loose : List Word → List ℕ → Type 0
Loose [] t = t ≡ []
Loose (w ∷ ws) t = Begins (λ rest. Loose ws rest) w t ⊎ ((u : List ℕ) × (t ≡ 32 ∷ u) × Begins (λ rest. Loose ws rest) w u)

-- There is a first word, and no space before it.
abbrev pub Tight : List Word → List ℕ → Type 0
Tight [] t = ⊥
Tight (w ∷ ws) t = Begins (λ rest. Loose ws rest) w t

pub first : (w : Word) (ws : List Word) (t : List ℕ) → Ends w t → Loose ws t → Tight (w ∷ ws) (word_text w ++ t)
first w ws t e h = (t, refl, e, h)

pub close : (ws : List Word) (t : List ℕ) → Tight ws t → Loose ws t
close [] t h = absurd h
close (w ∷ ws) t h = inl h

pub spaced : (ws : List Word) (t : List ℕ) → Tight ws t → Loose ws (32 ∷ t)
spaced [] t h = absurd h
spaced (w ∷ ws) t h = inr (t, refl, h)

-- ---- where words end

-- whether some word goes on with this byte
abbrev pub runs_on : ℕ → Bool
runs_on b = is_in_name b || (b == 61)

-- no word goes on with what stands here
abbrev pub Stops : List ℕ → Type 0
Stops t = begins runs_on t ≡ false

-- A word ends where a byte stands with which it doesn't go on.
pub ends_by : (w : Word) → ((b : ℕ) → runs_on b ≡ false → goes_on w b ≡ false) → (t : List ℕ) → Stops t → Ends w t
ends_by w f [] s = refl
ends_by w f (b ∷ t) s = f b s

or_none : (p q : Bool) → (p || q) ≡ false → p ≡ false
or_none false q e = refl
or_none true q e = e

-- names, numbers and keywords
pub not_in_name : (b : ℕ) → runs_on b ≡ false → is_in_name b ≡ false
not_in_name b e = or_none (is_in_name b) (b == 61) e

-- A sign that is no part of a longer one ends anywhere.
pub ends_free : (w : Word) → ((b : ℕ) → goes_on w b ≡ false) → (t : List ℕ) → Ends w t
ends_free w f [] = refl
ends_free w f (b ∷ t) = f b

-- ---- from there to the words of a text

-- the words with their spaces
pub record Written (ws : List Word) (t : List ℕ) : Type 0 where
  pub parts : List Spaced
  pub words_are : map spaced_word parts ≡ ws
  pub text_is : spaced_text parts ≡ t
  pub apart : AreApart parts
  pub writable : AreWritable parts

begins_front : (p : ℕ → Bool) (front text : List ℕ) → begins p (front ++ text) ≡ false → begins p front ≡ false
begins_front p [] text e = refl
begins_front p (b ∷ front) text e = e

-- what ends before the text ends before its first word
is_apart : (v : Word) (s : Spaced) (more : List Spaced) → Ends v (spaced_text (s ∷ more)) → IsApart v s
is_apart v s more e none =
    begins_front (goes_on v) (word_text s.word) (spaced_text more) (subst (λ b. Ends v ((if b then 32 ∷ [] else []) ++ word_text s.word ++ spaced_text more)) none e)

join_apart : (s : Spaced) (more : List Spaced) → Ends s.word (spaced_text more) → AreApart more → AreApart (s ∷ more)
join_apart s [] e h = tt
join_apart s (t ∷ more) e h = (is_apart s.word t more e, h)

-- one word before them
written_first : (space : Bool) (w : Word) (ws : List Word) (t rest : List ℕ) → IsWritable w → t ≡ word_text w ++ rest → Ends w rest → Written ws rest
    → Written (w ∷ ws) ((if space then 32 ∷ [] else []) ++ t)
written_first space w ws t rest ok is ends more =
    let gap : List ℕ = if space then 32 ∷ [] else [] in
    let s : Spaced = record { space = space; word = w } in record {
      parts = s ∷ more.parts;
      words_are = ap (λ vs. w ∷ vs) more.words_are;
      text_is = ap (λ r. gap ++ word_text w ++ r) more.text_is ∙ append_assoc gap (word_text w) rest ∙ ap (λ r. gap ++ r) (sym is);
      apart = join_apart s more.parts (subst (λ r. Ends w r) (sym more.text_is) ends) more.apart;
      writable = (ok, more.writable);
    }

pub written : (ws : List Word) (t : List ℕ) → Each IsWritable ws → Loose ws t → Written ws t
written [] t ok h = record { parts = []; words_are = refl; text_is = sym h; apart = tt; writable = tt }
written (w ∷ ws) t ok (inl h) = written_first false w ws t h.0 ok.0 h.1 h.2 (written ws h.0 ok.1 h.3)
written (w ∷ ws) t ok (inr h) =
    let k = h.2 in
    subst (λ z. Written (w ∷ ws) z) (sym h.1) (written_first true w ws h.0 k.0 ok.0 k.1 k.2 (written ws k.0 ok.1 k.3))

-- The text's words are these.
pub loose_words : (ws : List Word) (t : List ℕ) → Each IsWritable ws → Loose ws t → HasWords t ws
loose_words ws t ok h =
    let w : Written ws t = written ws t ok h in
    subst (λ z. HasWords z ws) w.text_is (subst (λ z. HasWords (spaced_text w.parts) z) w.words_are (written_words w.parts w.writable w.apart))

-- ---- what holds of the words of a text

leads_writable : (at : ℕ) (text : List ℕ) (ps : List Placed) (stop : ℕ) (after : List ℕ) → Leads at text ps stop after → Each IsWritable (map word_of ps)
leads_writable at text [] stop after h = tt
leads_writable at text (p ∷ ps) stop after h =
    let take = h.3 in
    (spells_writable p.word take.spelling take.spells, leads_writable p.end h.1 ps stop after h.4)

-- Each word of a text can be written.
pub words_writable : (text : List ℕ) (ws : List Word) → HasWords text ws → Each IsWritable ws
words_writable text ws h =
    let r = h.1 in
    subst (λ vs. Each IsWritable vs) r.words_are (leads_writable 0 text r.placed _ [] r.lexes)
