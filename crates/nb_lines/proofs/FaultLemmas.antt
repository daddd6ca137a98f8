-- Faults that calls tell.
use Rattle.std.proofs.Common.{◌≡◌, inl, inr, ℕ, List, Some, None, false, is_some, refl}
use Rattle.serde_json.specs.Data.{Data}
use Rattle.serde_json.specs.Find.{as_object}
use Rattle.nb_syntax.specs.declared.tree.Cell.{Cell}
use Rattle.nb_parser.specs.declared.error.ParseError.{ParseError}
use Rattle.nb_parser.specs.declared.error.ParseError.TheVariants.{Lex, Unexpected, Ended, TooDeep, Memory}
use Rattle.nb_parser.specs.Text.{cell_of}
use Rattle.nb_parser.specs.Parse.{HasNone, Refuses, IsRefused}
use Rattle.nb_lines.specs.declared.script.BadReason.TheVariants.{NotObject, Unnamed, BadCell}
use Rattle.nb_lines.specs.declared.script.OneFail.TheVariants as one
use Rattle.nb_lines.specs.Reasons.{plain, no_cell, text_fault, name_fault, data_fault}
use Rattle.nb_lines.specs.Reads.{Fails, cell_fail}

refused : (text : List ℕ) (e : ParseError) → cell_of text ≡ None → IsRefused text e → Fails (text_fault text) (one.Bad (BadCell e))
refused text e none is = inr (BadCell e, refl, (no_cell text, rw none refl, (e, refl, is)))

-- a text that is no cell
pub cell_fails : (text : List ℕ) (e : ParseError) → HasNone text e → Refuses text e → Fails (text_fault text) (cell_fail e)
cell_fails text (Lex f) none is = refused text (Lex f) none is
cell_fails text (Unexpected n t) none is = refused text (Unexpected n t) none is
cell_fails text (Ended n) none is = refused text (Ended n) none is
cell_fails text (TooDeep n) none is = refused text (TooDeep n) none is
cell_fails text Memory none is = inl refl

-- a cell that has no name
pub unnamed_fails : (text : List ℕ) (c : Cell) → cell_of text ≡ Some c → is_some c.name ≡ false → Fails (name_fault text) (one.Bad Unnamed)
unnamed_fails text c is none = inr (Unnamed, refl, (plain Unnamed, rw (is, none) refl, refl))

-- what is no object
pub not_object_fails : (d : Data) → as_object d ≡ None → Fails (data_fault d) (one.Bad NotObject)
unfolding data_fault
not_object_fails d none = inr (NotObject, refl, (plain NotObject, rw none refl, refl))
