-- How far the tokens of a text are known.
use Rattle.std.proofs.Common.{◌≡◌, ◌≤◌, ◌+◌, ◌-◌, ℕ, false, List, [], ◌∷◌, ◌++◌, length, take, drop, map, refl, sym, ap, subst, ◌∙◌, zero-add, length-drop, arith}
use Rattle.std.proofs.lemmas.List.{take-append-drop, drop-drop, drop_all}
use Rattle.std.proofs.lemmas.List.Folds.{length-prefix_len}
use Rattle.std.proofs.lemmas.List.Sums.{prefix_len-le-length}
use Rattle.std.specs.List.{prefix_len}
use Rattle.std.specs.Str.{IsUtf8}
use Rattle.nb_lexer.specs.declared.token.Token.{Token}
use Rattle.nb_lexer.specs.declared.fault.LexError.{LexError}
use Rattle.nb_lexer.specs.declared.fault.LexError.TheVariants.{BadCharacter, OpenText, BadEscape, TooWide, Memory}
use Rattle.nb_lexer.specs.Characters.{is_gap, begins}
use Rattle.nb_lexer.specs.Lexes.{Placed, word_of, token_of, Skips, Takes, Leads, AreTokens}
use Rattle.nb_lexer.specs.Faults.{Refuses}
use Rattle.nb_lexer.specs.Scan.{Stands, FaultsAt}
use Rattle.nb_lexer.proofs.Runs.{run_passes, run_clear, gap_ascii, utf8_behind_run}

-- up to the place at, where no gap goes on
pub record Reached (text : List ℕ) (found : List Token) (at : ℕ) : Type 0 where
  pub placed : List Placed
  pub leads : Leads 0 text placed at (drop at text)
  pub tokens_are : map token_of placed ≡ found
  pub clear : begins is_gap (drop at text) ≡ false
  pub utf8 : IsUtf8 (drop at text)
  pub within : at ≤ length text

skipped : (at : ℕ) (text : List ℕ) → Skips at text (at + prefix_len is_gap text) (drop (prefix_len is_gap text) text)
skipped at text =
    let n = prefix_len is_gap text in record {
      gap = take n text;
      gap_is = run_passes is_gap text;
      text_is = sym (take-append-drop n text);
      stop_is = ap (λ k. at + k) (sym (length-prefix_len is_gap text));
    }

utf8_skipped : (text : List ℕ) → IsUtf8 text → IsUtf8 (drop (prefix_len is_gap text) text)
utf8_skipped text u =
    let n = prefix_len is_gap text in
    utf8_behind_run is_gap gap_ascii (take n text) (drop n text) (run_passes is_gap text) (subst IsUtf8 (sym (take-append-drop n text)) u)

pub reached_start : (text : List ℕ) (found : List Token) (at : ℕ) → IsUtf8 text → found ≡ [] → at ≡ prefix_len is_gap text → Reached text found at
reached_start text found at u none is = subst (Reached text found) (sym is) (record {
  placed = [];
  leads = subst (λ n. Skips 0 text n (drop (prefix_len is_gap text) text)) (zero-add (prefix_len is_gap text)) (skipped 0 text);
  tokens_are = sym none;
  clear = run_clear is_gap text;
  utf8 = utf8_skipped text u;
  within = prefix_len-le-length is_gap text;
})

-- one word more, and the gap behind it
leads_more : (at : ℕ) (text : List ℕ) (ps : List Placed) (p : Placed) (front back : List ℕ) (stop : ℕ) (after : List ℕ)
    → Leads at text ps p.start front → Takes p front back → Skips p.end back stop after → Leads at text (ps ++ p ∷ []) stop after
leads_more at text [] p front back stop after l t s = (front, back, l, t, s)
leads_more at text (q ∷ ps) p front back stop after l t s = (l.0, l.1, l.2, l.3, leads_more q.end l.1 ps p front back stop after l.4 t s)

map_more : (ps : List Placed) (p : Placed) → map token_of (ps ++ p ∷ []) ≡ map token_of ps ++ token_of p ∷ []
map_more [] p = refl
map_more (q ∷ ps) p = ap (λ ts. token_of q ∷ ts) (map_more ps p)

pub reached_more : (text : List ℕ) (found pushed : List Token) (at n : ℕ) (front back : List ℕ) (t : Token) → Reached text found at → front ≡ drop at text → Stands at front t
    → pushed ≡ found ++ t ∷ [] → back ≡ drop t.end text → n ≡ prefix_len is_gap back → Reached text pushed (t.end + n)
reached_more text found pushed at n front back t r front_is s put back_is gap =
    let p : Placed = record { word = s.word; start = at; end = t.end } in
    let within = s.within in
    let further = s.further in
    let part : at + (t.end - at) ≡ t.end = omega arith in
    let left : s.behind ≡ back = sym s.behind_is ∙ ap (drop (t.end - at)) front_is ∙ drop-drop (t.end - at) at text ∙ ap (λ k. drop k text) part ∙ sym back_is in
    let m : ℕ = prefix_len is_gap s.behind in
    let same : m ≡ n = ap (prefix_len is_gap) left ∙ sym gap in
    let rest : drop m s.behind ≡ drop (t.end + n) text = ap (λ k. drop k s.behind) same ∙ ap (drop n) (left ∙ back_is) ∙ drop-drop n t.end text in
    let skip : Skips t.end s.behind (t.end + n) (drop (t.end + n) text) =
    subst (λ k. Skips t.end s.behind (t.end + k) (drop (t.end + n) text)) same (subst (Skips t.end s.behind (t.end + m)) rest (skipped t.end s.behind)) in
    let take : Takes p (drop at text) s.behind = subst (λ f. Takes p f s.behind) front_is s.takes in
    let reach = r.within in
    let front_len : length front ≡ length text - at = ap length front_is ∙ length-drop at text in
    let back_len : length back ≡ length text - t.end = ap length back_is ∙ length-drop t.end text in
    let no_more : n ≤ length back = subst (λ k. k ≤ length back) (sym gap) (prefix_len-le-length is_gap back) in
    record {
      placed = r.placed ++ p ∷ [];
      leads = leads_more 0 text r.placed p (drop at text) s.behind (t.end + n) (drop (t.end + n) text) r.leads take skip;
      tokens_are = map_more r.placed p ∙ ap (λ ts. ts ++ token_of p ∷ []) r.tokens_are ∙ ap (λ x. found ++ x ∷ []) (sym s.token_is) ∙ sym put;
      clear = subst (λ b. begins is_gap b ≡ false) rest (run_clear is_gap s.behind);
      utf8 = subst IsUtf8 rest (utf8_skipped s.behind s.utf8);
      within = omega arith;
    }

pub reached_end : (text : List ℕ) (found : List Token) (at : ℕ) → Reached text found at → length text ≤ at → AreTokens text found
reached_end text found at r done =
    let within = r.within in
    let last : at ≡ length text = omega arith in
    let none : drop at text ≡ [] = drop_all at text done in (
      map word_of r.placed,
      record {
        placed = r.placed;
        lexes = subst (λ k. Leads 0 text r.placed k []) last (subst (Leads 0 text r.placed at) none r.leads);
        tokens_are = r.tokens_are;
        words_are = refl;
      },
    )

pub reached_fault : (text : List ℕ) (found : List Token) (at : ℕ) (e : LexError) → Reached text found at → FaultsAt at (drop at text) e → Refuses text e
reached_fault text found at (BadCharacter place) r h = record { placed = r.placed; stop = at; rest = drop at text; leads = r.leads; fault = h }
reached_fault text found at (OpenText place) r h = record { placed = r.placed; stop = at; rest = drop at text; leads = r.leads; fault = h }
reached_fault text found at (BadEscape place) r h = record { placed = r.placed; stop = at; rest = drop at text; leads = r.leads; fault = h }
reached_fault text found at (TooWide place) r h = record { placed = r.placed; stop = at; rest = drop at text; leads = r.leads; fault = h }
reached_fault text found at Memory r h = tt
