-- The text of each status.
use Rattle.std.specs.Prelude.{ℕ, List, [], ◌++◌, codes, decimal, Option, ◌⊎◌}
use Rattle.std.specs.Io.KnownBytes.{Appends}
use Rattle.nb_io.specs.Causes.{Rose}
use Rattle.nb_io.specs.Streams.{AppendsFront}
use Rattle.nb_lines.specs.declared.script.BadReason.{BadReason}
use Rattle.nb_lines.specs.declared.script.BadReason.TheVariants as reason
use Rattle.nb_doc.specs.declared.reason.DocReason.{DocReason}
use Rattle.nb_doc.specs.declared.reason.DocReason.TheVariants as doc
use Rattle.nb_lexer.specs.declared.fault.LexError.{LexError}
use Rattle.nb_lexer.specs.declared.fault.LexError.TheVariants as lex
use Rattle.nb_parser.specs.declared.error.ParseError.{ParseError}
use Rattle.nb_parser.specs.declared.error.ParseError.TheVariants as parse
use Rattle.nb_main.specs.declared.status.Status.{Status}
use Rattle.nb_main.specs.declared.status.Status.TheVariants.{Ok, Memory, Usage, BadInput, ReadFault, WriteFault, FileFault, TooLong, BadDocument}

-- What the lexer finds fault with, and where.
abbrev pub lex_word : LexError → List ℕ
lex_word (lex.BadCharacter n) = codes "BadCharacter"
lex_word (lex.OpenText n) = codes "OpenText"
lex_word (lex.BadEscape n) = codes "BadEscape"
lex_word (lex.TooWide n) = codes "TooWide"
lex_word lex.Memory = codes "Memory"

abbrev pub lex_place : LexError → ℕ
lex_place (lex.BadCharacter n) = n
lex_place (lex.OpenText n) = n
lex_place (lex.BadEscape n) = n
lex_place (lex.TooWide n) = n
lex_place lex.Memory = 0

-- The name of a cell's fault, and its place. No bad line has want of memory as its fault.
abbrev pub fault_word : ParseError → List ℕ
fault_word (parse.Lex e) = lex_word e
fault_word (parse.Unexpected n token) = codes "Unexpected"
fault_word (parse.Ended n) = codes "Ended"
fault_word (parse.TooDeep n) = codes "TooDeep"
fault_word parse.Memory = codes "Memory"

abbrev pub fault_place : ParseError → ℕ
fault_place (parse.Lex e) = lex_place e
fault_place (parse.Unexpected n token) = n
fault_place (parse.Ended n) = n
fault_place (parse.TooDeep n) = n
fault_place parse.Memory = 0

-- The word of a reason, with a space behind it where something follows.
abbrev pub reason_word : BadReason → List ℕ
reason_word reason.LineTooLong = codes "LineTooLong"
reason_word reason.TooManyLines = codes "TooManyLines"
reason_word reason.NotJson = codes "NotJson"
reason_word reason.NotObject = codes "NotObject"
reason_word reason.UnknownDo = codes "UnknownDo"
reason_word (reason.UnknownField key) = codes "UnknownField "
reason_word (reason.MissingField key) = codes "MissingField "
reason_word (reason.WrongField key) = codes "WrongField "
reason_word reason.Unnamed = codes "Unnamed"
reason_word (reason.BadCell fault) = codes "BadCell "

abbrev pub reason_key : BadReason → List ℕ
reason_key (reason.UnknownField key) = key
reason_key (reason.MissingField key) = key
reason_key (reason.WrongField key) = key
reason_key _ = []

-- The word of a document's reason.
abbrev pub document_word : DocReason → List ℕ
document_word doc.NotJson = codes "NotJson"
document_word doc.NotObject = codes "NotObject"
document_word doc.UnknownField = codes "UnknownField"
document_word doc.MissingField = codes "MissingField"
document_word doc.WrongField = codes "WrongField"
document_word (doc.BadCell fault) = codes "BadCell"
document_word doc.TwoLoaders = codes "TwoLoaders"
document_word doc.TwoModules = codes "TwoModules"

-- what is bad and where, a word, and a key behind it
abbrev pub reason_text : List ℕ → List ℕ → List ℕ → List ℕ → List ℕ
reason_text what place word key = what ++ (place ++ (codes ": " ++ (word ++ (key ++ codes "\n"))))

-- what is bad and where, the name of its cell's fault, and the place of that
abbrev pub fault_text : List ℕ → List ℕ → List ℕ → List ℕ → List ℕ
fault_text what place word at = what ++ (place ++ (codes ": BadCell " ++ (word ++ (codes " " ++ (at ++ codes "\n")))))

-- what is bad and where, the place of a token, and the token
abbrev pub unexpected_text : List ℕ → List ℕ → List ℕ → List ℕ → List ℕ
unexpected_text what place at token = what ++ (place ++ (codes ": BadCell Unexpected " ++ (at ++ (codes " " ++ (token ++ codes "\n")))))

abbrev pub bad_cell_text : List ℕ → List ℕ → ParseError → List ℕ
bad_cell_text what place (parse.Unexpected n token) = unexpected_text what place (decimal n) token
bad_cell_text what place e = fault_text what place (fault_word e) (decimal (fault_place e))

abbrev pub line_head : List ℕ
line_head = codes "notebook: line "

abbrev pub document_head : List ℕ
document_head = codes "notebook: document "

-- The text of a bad line.
abbrev pub bad_line : ℕ → BadReason → List ℕ
bad_line line (reason.BadCell fault) = bad_cell_text line_head (decimal line) fault
bad_line line r = reason_text line_head (decimal line) (reason_word r) (reason_key r)

-- The text of a bad document.
abbrev pub bad_document : List ℕ → DocReason → List ℕ
bad_document path (doc.BadCell fault) = bad_cell_text document_head path fault
bad_document path r = reason_text document_head path (document_word r) []

abbrev pub too_long_text : ℕ → List ℕ
too_long_text most = codes "notebook: more than " ++ decimal most ++ codes " bytes\n"

abbrev pub note : Status → List ℕ
note Ok = []
note Memory = codes "notebook: out of memory\n"
note Usage = codes "notebook: usage: notebook run [FILE] | workers N [FILE] | make N SEED | upgrade FILE\n"
note (BadInput line r) = bad_line line r
note ReadFault = codes "notebook: read fault\n"
note WriteFault = codes "notebook: write fault\n"
note FileFault = codes "notebook: file fault\n"
note (TooLong most) = too_long_text most
note (BadDocument path r) = bad_document path r

-- The object gained just this text, or, where its count of faults rose, a front of it.
abbrev pub Notes : List ℕ → Option (List ℕ) → Option (List ℕ) → ℕ → ℕ → Type 0
Notes text old new before now = Appends old new text ⊎ (Rose before now × AppendsFront old new text)

-- The number that the process ends with.
abbrev pub number : Status → ℕ
number Ok = 0
number Memory = 1
number Usage = 2
number (BadInput line r) = 3
number ReadFault = 4
number WriteFault = 5
number FileFault = 6
number (TooLong most) = 7
number (BadDocument path r) = 8
