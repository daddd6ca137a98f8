-- What is printed is read back.
use Rattle.std.proofs.Common.{◌≡◌, ℕ, refl, sym, subst, List, [], Ok, arith}
use Rattle.nb_lexer.specs.declared.word.Word.{Word}
use Rattle.nb_syntax.specs.declared.tree.Cell.{Cell}
use Rattle.nb_grammar.specs.Reading as r
use Rattle.nb_grammar.specs.Trees as trees
use Rattle.nb_grammar.specs.Law.{Spells}
use Rattle.nb_grammar.specs.Forms.{cell_form, printed}
use Rattle.nb_grammar.proofs.Viable.{only}
use Rattle.nb_grammar.proofs.EachWord.{Each, cell_split, cell_join}
use Rattle.nb_grammar.proofs.FormCell.{cell_fine}
use Rattle.nb_grammar.proofs.FormDepth.{cell_low}
use Rattle.nb_grammar.proofs.FormWords.{Keeps, cell_kept}

-- What is printed of a cell that was spelled spells it again, with no more brackets open.
pub printed_again : (room : ℕ) (ws : List Word) (c : Cell) → Spells room ws c → Spells room (printed c) c
printed_again room ws c s =
    subst (λ z. Spells room (printed z) z) s.tree_is
    (record { way = cell_form (trees.cell_tree s.way); words = refl; tree_is = cell_fine s.way; deep = omega (arith, cell_low s.way, s.deep) })

-- What is printed of a cell that was read is read as that cell.
pub printed_read : (room : ℕ) (ws : List Word) (c : Cell) → Spells room ws c → r.whole room (printed c) ≡ Ok c
printed_read room ws c s = only room (printed c) (Ok c) (printed_again room ws c s)

-- What holds of each word that was read holds of each that is printed.
pub printed_each : (P : Word → Type 0) → Keeps P → (room : ℕ) (ws : List Word) (c : Cell) → Spells room ws c → Each P ws → Each P (printed c)
printed_each P k room ws c s h =
    let a = cell_split P s.way [] (subst (λ z. Each P z) (sym s.words) h) in
    subst (λ z. Each P (printed z)) s.tree_is (cell_join P (cell_form (trees.cell_tree s.way)) [] (cell_kept P k s.way a.0) tt)
