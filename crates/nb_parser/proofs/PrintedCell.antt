-- The text that is printed of a cell that is spelled has the words of its form, so it spells the cell again.
use Rattle.std.proofs.Common.{◌≡◌, ℕ, true, List, [], ◌∷◌, refl, sym, subst, ◌∙◌, append-nil, arith}
use Rattle.std.proofs.lemmas.Bool.{and_parts, and_from}
use Rattle.std.proofs.lemmas.Bool.Decides.{nat_tests}
use Rattle.std.specs.List.{list_all}
use Rattle.nb_lexer.specs.declared.word.Word.{Word}
use Rattle.nb_lexer.specs.Characters.{is_in_name}
use Rattle.nb_lexer.specs.Lexes.{HasWords}
use Rattle.nb_lexer.specs.Written.{is_quotable, IsWritable}
use Rattle.nb_lexer.proofs.Cases.{name_passes}
use Rattle.nb_syntax.specs.declared.tree.Cell.{Cell}
use Rattle.nb_syntax.specs.Print.{cell_text}
use Rattle.nb_grammar.specs.Trees as trees
use Rattle.nb_grammar.specs.Law.{Spells}
use Rattle.nb_grammar.specs.Forms.{cell_form, printed}
use Rattle.nb_grammar.proofs.EachWord.{Each, cell_each, cell_split, cell_join}
use Rattle.nb_grammar.proofs.FormWords.{Keeps, cell_kept}
use Rattle.nb_parser.proofs.Tight.{Loose, loose_words, words_writable}
use Rattle.nb_parser.proofs.WayTexts.{way_text}
use Rattle.nb_parser.proofs.WayStmts.{cell_words}
use Rattle.nb_grammar.proofs.Printing.{printed_again}
use Rattle.nb_parser.specs.Parse.{Parses}
use Rattle.nb_parser.proofs.PrintCell.{cell_prints}

byte_quotable : (b : ℕ) → is_in_name b ≡ true → is_quotable b ≡ true
byte_quotable b e = grind (arith, nat_tests)

name_quotable : (x : List ℕ) → list_all is_in_name x ≡ true → list_all is_quotable x ≡ true
name_quotable [] e = refl
name_quotable (b ∷ x) e =
    let both = and_parts (is_in_name b) (list_all is_in_name x) e in
    and_from (is_quotable b) (list_all is_quotable x) (byte_quotable b both.0) (name_quotable x both.1)

writable_kept : Keeps IsWritable
writable_kept = record { opening = tt; closing = tt; key = λ x h. name_quotable x (name_passes x h) }

-- The words of what is printed are the words of the printed form.
pub printed_words : (room : ℕ) (text : List ℕ) (ws : List Word) (c : Cell) → HasWords text ws → Spells room ws c → HasWords (cell_text c) (printed c)
printed_words room text ws c has s =
    let d : Cell = trees.cell_tree s.way in
    let read = cell_split IsWritable s.way [] (subst (λ z. Each IsWritable z) (sym s.words) (words_writable text ws has)) in
    let kept : cell_each IsWritable (cell_form d) = cell_kept IsWritable writable_kept s.way read.0 in
    let is : way_text (cell_form d) [] ≡ cell_text d = cell_prints s.way [] ∙ append-nil (cell_text d) in
    let loose : Loose (printed d) (cell_text d) = subst (λ z. Loose (printed d) z) is (cell_words (cell_form d) kept) in
    subst (λ z. HasWords (cell_text z) (printed z)) s.tree_is
    (loose_words (printed d) (cell_text d) (cell_join IsWritable (cell_form d) [] kept tt) loose)

-- What is printed of a cell that is spelled spells it again.
pub printed_parses : (text : List ℕ) (c : Cell) → Parses text c → Parses (cell_text c) c
printed_parses text c p =
    record { words = printed c; has = printed_words 64 text p.words c p.has p.spells; spells = printed_again 64 p.words c p.spells }
