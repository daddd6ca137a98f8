-- Lemmas on texts.
use Rattle.std.proofs.Common.{◌≡◌, ◌∙◌, ap, List, ◌++◌, append-nil, ℕ, ◌-◌, arith}
use Rattle.std.specs.Fmt.{take_chars, padded, format_spec, char_count, fill_text}

-- a text that is cut and not filled up
pub padded_cut : (text : List ℕ) → padded (format_spec 32 0 0 0 200) text ≡ take_chars 200 text
unfolding padded
padded_cut text =
    let none : 0 - char_count (take_chars 200 text) - 0 ≡ 0 = omega arith in
    ap (λ (n : ℕ). take_chars 200 text ++ fill_text (format_spec 32 0 0 0 200) n) none ∙ append-nil (take_chars 200 text)
