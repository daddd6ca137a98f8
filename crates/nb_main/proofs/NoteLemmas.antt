-- The text of a fault that is told in one of two ways.
use Rattle.std.proofs.Common.{◌≡◌, ℕ, List, [], decimal, refl}
use Rattle.nb_parser.specs.declared.error.ParseError.{ParseError}
use Rattle.nb_parser.specs.declared.error.ParseError.TheVariants as parse
use Rattle.nb_lines.specs.declared.script.BadReason.{BadReason}
use Rattle.nb_lines.specs.declared.script.BadReason.TheVariants as reason
use Rattle.nb_doc.specs.declared.reason.DocReason.{DocReason}
use Rattle.nb_doc.specs.declared.reason.DocReason.TheVariants as doc
use Rattle.nb_main.specs.Notes.{bad_cell_text, fault_text, fault_word, fault_place, bad_line, bad_document, reason_text, line_head, document_head, reason_word, reason_key, document_word}

-- of a fault that is no token
pub fault_told : (what place : List ℕ) (e : ParseError) → ((n : ℕ) (token : List ℕ) → e ≡ parse.Unexpected n token → ⊥) → bad_cell_text what place e ≡ fault_text what place (fault_word e) (decimal (fault_place e))
fault_told what place (parse.Lex e) other = refl
fault_told what place (parse.Unexpected n token) other = absurd (other n token refl)
fault_told what place (parse.Ended n) other = refl
fault_told what place (parse.TooDeep n) other = refl
fault_told what place parse.Memory other = refl

-- of a reason that is no cell's
pub line_told : (line : ℕ) (r : BadReason) → ((e : ParseError) → r ≡ reason.BadCell e → ⊥) → bad_line line r ≡ reason_text line_head (decimal line) (reason_word r) (reason_key r)
line_told line reason.LineTooLong other = refl
line_told line reason.TooManyLines other = refl
line_told line reason.NotJson other = refl
line_told line reason.NotObject other = refl
line_told line reason.UnknownDo other = refl
line_told line (reason.UnknownField key) other = refl
line_told line (reason.MissingField key) other = refl
line_told line (reason.WrongField key) other = refl
line_told line reason.Unnamed other = refl
line_told line (reason.BadCell e) other = absurd (other e refl)

pub document_told : (path : List ℕ) (r : DocReason) → ((e : ParseError) → r ≡ doc.BadCell e → ⊥) → bad_document path r ≡ reason_text document_head path (document_word r) []
document_told path doc.NotJson other = refl
document_told path doc.NotObject other = refl
document_told path doc.UnknownField other = refl
document_told path doc.MissingField other = refl
document_told path doc.WrongField other = refl
document_told path (doc.BadCell e) other = absurd (other e refl)
document_told path doc.TwoLoaders other = refl
document_told path doc.TwoModules other = refl
