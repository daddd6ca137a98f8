-- The words that are read from left to right are those of the text.
use Rattle.std.proofs.Common.{◌≡◌, ◌≤◌, ◌<◌, ◌+◌, ℕ, zero, suc, Bool, true, false, List, [], ◌∷◌, ◌++◌, length, take, drop, map, Option, Some, None, option_map, Ok, Err, refl, sym, ap, subst, ◌∙◌, length-append, arith}
use Rattle.std.proofs.lemmas.List.{take-append-drop, drop_at}
use Rattle.std.proofs.lemmas.List.Folds.{length-prefix_len}
use Rattle.std.specs.List.{prefix_len}
use Rattle.nb_lexer.specs.declared.word.Word.{Word}
use Rattle.nb_lexer.specs.declared.token.Token.{Token}
use Rattle.nb_lexer.specs.Characters.{is_gap, begins}
use Rattle.nb_lexer.specs.Lexes.{Placed, word_of, token_of, Skips, Takes, Leads, Reads, HasWords}
use Rattle.nb_lexer.specs.Scan.{Found, front}
use Rattle.nb_lexer.proofs.Runs.{run_passes, run_stops, run_clear}
use Rattle.nb_lexer.proofs.Spelled.{spelling_some, spelling_clear}
use Rattle.nb_lexer.proofs.Complete.{front_complete}
use Rattle.nb_lexer.proofs.Sound.{Spelled, IsRight, front_right}
use Rattle.nb_parser.specs.Text.{behind_gap, and_more, words_within, words_of}

-- ---- gaps

skips_behind : (at : ℕ) (text rest : List ℕ) → behind_gap text ≡ rest → Skips at text (at + prefix_len is_gap text) rest
skips_behind at text rest is = record {
  gap = take (prefix_len is_gap text) text;
  gap_is = run_passes is_gap text;
  text_is = sym (take-append-drop (prefix_len is_gap text) text) ∙ ap (λ r. take (prefix_len is_gap text) text ++ r) is;
  stop_is = ap (λ n. at + n) (sym (length-prefix_len is_gap text));
}

behind_length : (text rest : List ℕ) → behind_gap text ≡ rest → length text ≡ prefix_len is_gap text + length rest
behind_length text rest is =
    let n : ℕ = prefix_len is_gap text in
    let whole : length (take n text ++ drop n text) ≡ length text = ap length (take-append-drop n text) in
    omega (arith, whole, length-append (take n text) (drop n text), length-prefix_len is_gap text, ap length is)

behind_is : (at : ℕ) (text : List ℕ) (stop : ℕ) (after : List ℕ) → Skips at text stop after → begins is_gap after ≡ false → behind_gap text ≡ after
behind_is at text stop after s clear =
    let len : prefix_len is_gap text ≡ length s.gap = ap (prefix_len is_gap) s.text_is ∙ run_stops is_gap s.gap after s.gap_is clear in
    ap (drop (prefix_len is_gap text)) s.text_is ∙ drop_at s.gap after (prefix_len is_gap text) (sym len)

-- ---- what is read stands there

map_some : (w : Word) (o : Option (List Word)) (ws : List Word) → option_map (λ ws. w ∷ ws) o ≡ Some ws → (vs : List Word) × (o ≡ Some vs) × (w ∷ vs ≡ ws)
map_some w None ws e = cc
map_some w (Some vs) ws e = let same : w ∷ vs ≡ ws = cc in (vs, refl, same)

abbrev Led : ℕ → List ℕ → List Word → Type 0
Led at text ws = (ps : List Placed) × Leads at text ps (at + length text) [] × (map word_of ps ≡ ws)

one_more : (at : ℕ) (text rest : List ℕ) (w : Word) (end : ℕ) (vs : List Word) → behind_gap text ≡ rest → Spelled 0 rest w end
    → ((at : ℕ) → Led at (drop end rest) vs) → Led at text (w ∷ vs)
one_more at text rest w end vs is s again =
    let start : ℕ = at + prefix_len is_gap text in
    let p : Placed = record { word = w; start = start; end = start + length s.spelling } in
    let end_is = s.end_is in
    let len : length s.spelling ≡ end = omega arith in
    let behind : drop end rest ≡ s.behind = ap (drop end) s.text_is ∙ drop_at s.spelling s.behind end len in
    let takes : Takes p rest (drop end rest) = subst (Takes p rest) (sym behind) (record { spelling = s.spelling; spells = s.spells; ends = s.ends; text_is = s.text_is; end_is = refl }) in
    let more : Led p.end (drop end rest) vs = again p.end in
    let stop : p.end + length (drop end rest) ≡ at + length text =
    omega (arith, ap length behind, ap length s.text_is, length-append s.spelling s.behind, behind_length text rest is) in (
      p ∷ more.0,
      (rest, drop end rest, skips_behind at text rest is, takes, subst (λ n. Leads p.end (drop end rest) more.0 n []) stop more.1),
      ap (λ ws. w ∷ ws) more.2,
    )

words_led : (n at : ℕ) (text rest : List ℕ) (ws : List Word) → behind_gap text ≡ rest → words_within n rest ≡ Some ws → Led at text ws
words_led n at text [] ws is e =
    let none : [] ≡ ws = cc in
    let len : prefix_len is_gap text ≡ length text = omega (arith, behind_length text [] is) in
    ([], subst (λ k. Skips at text k []) (ap (λ k. at + k) len) (skips_behind at text [] is), none)
words_led zero at text (b ∷ rest) ws is e = cc
words_led (suc n) at text (b ∷ rest) ws is e = step (λ at text ws. words_led n at text (behind_gap text) ws refl) (front 0 (b ∷ rest)) refl e
  where
    clear : begins is_gap (b ∷ rest) ≡ false
    clear = ap (begins is_gap) (sym is) ∙ run_clear is_gap text

    right : IsRight 0 (b ∷ rest) (front 0 (b ∷ rest))
    right = front_right 0 (b ∷ rest) clear (omega arith)

    step : ((at : ℕ) (text : List ℕ) (ws : List Word) → words_within n (behind_gap text) ≡ Some ws → Led at text ws)
        → (y : Found Word) → front 0 (b ∷ rest) ≡ y → and_more (λ r. words_within n (behind_gap r)) (b ∷ rest) y ≡ Some ws → Led at text ws
    step again (Err f) found e = cc
    step again (Ok x) found e =
        let m = map_some x.0 (words_within n (behind_gap (drop x.1 (b ∷ rest)))) ws e in
        let s : Spelled 0 (b ∷ rest) x.0 x.1 = subst (IsRight 0 (b ∷ rest)) found right in
        subst (Led at text) m.2 (one_more at text (b ∷ rest) x.0 x.1 m.0 is s (λ at. again at (drop x.1 (b ∷ rest)) m.0 m.1))

-- ---- what stands there is read

words_step : (n : ℕ) (text : List ℕ) (w : Word) (end : ℕ) → 0 < length text → front 0 text ≡ Ok (w, end)
    → words_within (suc n) text ≡ option_map (λ ws. w ∷ ws) (words_within n (behind_gap (drop end text)))
words_step n [] w end some e = absurd (omega arith)
words_step n (b ∷ text) w end some e = ap (and_more (λ r. words_within n (behind_gap r)) (b ∷ text)) e

led_words : (n at : ℕ) (text : List ℕ) (ps : List Placed) (stop : ℕ) → Leads at text ps stop [] → length text ≤ n → words_within n (behind_gap text) ≡ Some (map word_of ps)
led_words n at text [] stop l fits = ap (words_within n) (behind_is at text stop [] l refl)
led_words n at text (p ∷ ps) stop l fits = step n fits (λ k. led_words k p.end l.1 ps stop l.4)
  where
    t : Takes p l.0 l.1
    t = l.3

    clear : begins is_gap l.0 ≡ false
    clear = ap (begins is_gap) t.text_is ∙ spelling_clear p.word t.spelling l.1 t.spells

    behind : behind_gap text ≡ l.0
    behind = behind_is at text p.start l.0 l.2 clear

    found : front 0 l.0 ≡ Ok (p.word, length t.spelling)
    found =
        let start : 0 + length t.spelling ≡ length t.spelling = omega arith in
        ap (front 0) t.text_is ∙ front_complete 0 p.word t.spelling l.1 t.spells t.ends ∙ ap (λ n. let r : Found Word = Ok (p.word, n) in r) start

    after : drop (length t.spelling) l.0 ≡ l.1
    after = ap (drop (length t.spelling)) t.text_is ∙ drop_at t.spelling l.1 (length t.spelling) refl

    step : (n : ℕ) → length text ≤ n → ((k : ℕ) → length l.1 ≤ k → words_within k (behind_gap l.1) ≡ Some (map word_of ps)) → words_within n (behind_gap text) ≡ Some (p.word ∷ map word_of ps)
    step zero fits again = absurd (omega (arith, fits, behind_length text l.0 behind, ap length t.text_is, length-append t.spelling l.1, spelling_some p.word t.spelling t.spells))
    step (suc k) fits again =
        let some : 0 < length l.0 = omega (arith, ap length t.text_is, length-append t.spelling l.1, spelling_some p.word t.spelling t.spells) in
        let less : length l.1 ≤ k = omega (arith, fits, behind_length text l.0 behind, ap length t.text_is, length-append t.spelling l.1, spelling_some p.word t.spelling t.spells) in
        ap (words_within (suc k)) behind
        ∙ words_step k l.0 p.word (length t.spelling) some found
        ∙ ap (λ r. option_map (λ ws. p.word ∷ ws) (words_within k (behind_gap r))) after
        ∙ ap (option_map (λ ws. p.word ∷ ws)) (again k less)

-- ---- whole texts

pub words_read : (text : List ℕ) (ws : List Word) → words_of text ≡ Some ws → HasWords text ws
words_read text ws e =
    let led = words_led (length text) 0 text (behind_gap text) ws refl e in
    let stop : 0 + length text ≡ length text = omega arith in
    (map token_of led.0, record { placed = led.0; lexes = subst (λ n. Leads 0 text led.0 n []) stop led.1; tokens_are = refl; words_are = led.2 })

pub read_words : (text : List ℕ) (ws : List Word) → HasWords text ws → words_of text ≡ Some ws
read_words text ws h =
    let r = h.1 in
    led_words (length text) 0 text r.placed (length text) r.lexes (omega arith) ∙ ap (λ ws. Some ws) r.words_are
