-- The places of tokens: in order, and where the text may be cut.
use Rattle.std.proofs.Common.{◌≡◌, ◌≤◌, ◌+◌, ◌-◌, ℕ, List, [], ◌∷◌, ◌++◌, length, take, drop, map, All, refl, sym, ap, subst, ◌∙◌, length-append, length-drop, arith}
use Rattle.std.proofs.lemmas.List.{take_at, drop_at, drop-drop}
use Rattle.std.proofs.lemmas.List.Elements.{All-from_recursion}
use Rattle.std.proofs.lemmas.Str.{IsCharBoundary-from_drop}
use Rattle.std.specs.List.{AllByRecursion, slice_range}
use Rattle.std.specs.Str.{IsUtf8}
use Rattle.nb_lexer.specs.declared.token.Token.{Token}
use Rattle.nb_lexer.specs.Characters.{is_gap}
use Rattle.nb_lexer.specs.Lexes.{Placed, token_of, Skips, Takes, Leads, AreTokens, IsSpan, InOrder}
use Rattle.nb_lexer.specs.Spelling.{Spells}
use Rattle.nb_lexer.proofs.Runs.{gap_ascii, utf8_behind_run}
use Rattle.nb_lexer.proofs.Spelled.{spelling_some, spelling_cut}

-- ---- in order

leads_order : (at : ℕ) (text : List ℕ) (ps : List Placed) (stop : ℕ) (after : List ℕ) → Leads at text ps stop after → InOrder at (map token_of ps)
leads_order at text [] stop after l = tt
leads_order at text (p ∷ ps) stop after l =
    let start_is = l.2.stop_is in
    let end_is = l.3.end_is in
    let some = spelling_some p.word l.3.spelling l.3.spells in
    (omega arith, omega arith, leads_order p.end l.1 ps stop after l.4)

pub tokens_order : (text : List ℕ) (ts : List Token) → AreTokens text ts → InOrder 0 ts
tokens_order text ts h = subst (InOrder 0) h.1.tokens_are (leads_order 0 text h.1.placed (length text) [] h.1.lexes)

-- ---- where the text may be cut

-- what follows the place at is the rest
pub record IsRest (whole : List ℕ) (at : ℕ) (rest : List ℕ) : Type 0 where
  pub rest_is : drop at whole ≡ rest
  pub within : at ≤ length whole
  pub utf8 : IsUtf8 rest

rest_len : (whole : List ℕ) (at : ℕ) (rest : List ℕ) → IsRest whole at rest → at + length rest ≡ length whole
rest_len whole at rest r =
    let len : length rest ≡ length whole - at = ap length (sym r.rest_is) ∙ length-drop at whole in
    let within = r.within in omega arith

-- behind a front that may be cut off
rest_behind : (whole : List ℕ) (at stop : ℕ) (rest front after : List ℕ) → IsRest whole at rest → rest ≡ front ++ after → stop ≡ at + length front → IsUtf8 after → IsRest whole stop after
rest_behind whole at stop rest front after r split place u =
    let all = rest_len whole at rest r in
    let len : length rest ≡ length front + length after = ap length split ∙ length-append front after in record {
      rest_is = ap (λ n. drop n whole) place ∙ sym (drop-drop (length front) at whole) ∙ ap (drop (length front)) (r.rest_is ∙ split) ∙ drop_at front after (length front) refl;
      within = omega arith;
      utf8 = u;
    }

pub skips_rest : (whole : List ℕ) (at : ℕ) (rest : List ℕ) (stop : ℕ) (after : List ℕ) → IsRest whole at rest → Skips at rest stop after → IsRest whole stop after
skips_rest whole at rest stop after r s = rest_behind whole at stop rest s.gap after r s.text_is s.stop_is (utf8_behind_run is_gap gap_ascii s.gap after s.gap_is (subst IsUtf8 s.text_is r.utf8))

pub takes_rest : (whole : List ℕ) (p : Placed) (rest after : List ℕ) → IsRest whole p.start rest → Takes p rest after → IsRest whole p.end after
takes_rest whole p rest after r t = rest_behind whole p.start p.end rest t.spelling after r t.text_is t.end_is (spelling_cut p.word t.spelling after t.spells (subst IsUtf8 t.text_is r.utf8))

pub takes_slice : (whole : List ℕ) (p : Placed) (rest after : List ℕ) → IsRest whole p.start rest → Takes p rest after → Spells p.word (slice_range whole p.start p.end)
takes_slice whole p rest after r t =
    let end_is = t.end_is in
    let len : length t.spelling ≡ p.end - p.start = omega arith in
    let slice : slice_range whole p.start p.end ≡ t.spelling = ap (take (p.end - p.start)) (r.rest_is ∙ t.text_is) ∙ take_at t.spelling after (p.end - p.start) len in
    subst (Spells p.word) (sym slice) t.spells

takes_span : (whole : List ℕ) (p : Placed) (rest after : List ℕ) → IsRest whole p.start rest → Takes p rest after → IsSpan whole (token_of p)
takes_span whole p rest after r t =
    let behind = takes_rest whole p rest after r t in
    let some = spelling_some p.word t.spelling t.spells in
    let end_is = t.end_is in record {
      order = omega arith;
      within = behind.within;
      start_cut = IsCharBoundary-from_drop whole p.start r.within (subst IsUtf8 (sym r.rest_is) r.utf8);
      end_cut = IsCharBoundary-from_drop whole p.end behind.within (subst IsUtf8 (sym behind.rest_is) behind.utf8);
      word = p.word;
      kind_is = refl;
      spells = takes_slice whole p rest after r t;
    }

leads_spans : (whole : List ℕ) (at : ℕ) (text : List ℕ) (ps : List Placed) (stop : ℕ) (after : List ℕ) → IsRest whole at text → Leads at text ps stop after → AllByRecursion (IsSpan whole) (map token_of ps)
leads_spans whole at text [] stop after r l = tt
leads_spans whole at text (p ∷ ps) stop after r l =
    let front = skips_rest whole at text p.start l.0 r l.2 in
    (takes_span whole p l.0 l.1 front l.3, leads_spans whole p.end l.1 ps stop after (takes_rest whole p l.0 l.1 front l.3) l.4)

pub tokens_spans : (text : List ℕ) (ts : List Token) → IsUtf8 text → AreTokens text ts → All (IsSpan text) ts
tokens_spans text ts u h =
    let whole : IsRest text 0 text = record { rest_is = refl; within = omega arith; utf8 = u } in
    subst (All (IsSpan text)) h.1.tokens_are (All-from_recursion (IsSpan text) (map token_of h.1.placed) (leads_spans text 0 text h.1.placed (length text) [] whole h.1.lexes))
