-- A fault of a document: where it stands, and why.
use Rattle.std.specs.Prelude.{◌≡◌, ◌⊎◌, ℕ, Bool, List, [], ◌∷◌, ◌++◌, Option, Some, None, option_map, if◌then◌else◌}
use Rattle.std.specs.Option.{option_or}
use Rattle.nb_parser.specs.declared.error.ParseError.{ParseError}
use Rattle.nb_parser.specs.declared.error.ParseError.TheVariants as parse
use Rattle.nb_parser.specs.Parse.{IsRefused}
use Rattle.nb_doc.specs.declared.reason.DocReason.{DocReason}
use Rattle.nb_doc.specs.declared.reason.DocReason.TheVariants.{WrongField, BadCell}
use Rattle.nb_doc.specs.declared.reason.DocFail.{DocFail}
use Rattle.nb_doc.specs.declared.reason.DocFail.TheVariants.{Bad, Memory}

-- A reason that stands by itself, or that this text is no cell.
pub data Cause : Type 0 where
  plain : DocReason → Cause
  no_cell : List ℕ → Cause

-- The path is empty for what is looked at itself; else it has `/` and a field's key or a position, level by level.
pub record Fault : Type 0 where
  pub path : List ℕ
  pub cause : Cause

-- of what is looked at itself
abbrev pub here : DocReason → Fault
here r = record { path = []; cause = plain r }

-- of what stands in it, under this key or at this position
abbrev pub under : List ℕ → Fault → Fault
under step f = record { path = 47 ∷ step ++ f.path; cause = f.cause }

abbrev pub in_part : List ℕ → Option Fault → Option Fault
in_part step o = option_map (under step) o

abbrev pub fault_if : Bool → DocReason → Option Fault
fault_if b r = if b then Some (here r) else None

abbrev pub wrong_unless : Bool → Option Fault
wrong_unless b = if b then None else Some (here WrongField)

-- the first of several that is there
abbrev pub first_of : {X : Type 0} → List (Option X) → Option X
first_of [] = None
first_of (x ∷ xs) = option_or x (first_of xs)

-- ---- how faults are told

-- where a text is no cell, with what the parser says of the text
abbrev pub Tells : Cause → DocReason → Type 0
Tells (plain r) reason = reason ≡ r
Tells (no_cell text) reason = (e : ParseError) × (reason ≡ BadCell e) × IsRefused text e

-- this fault is there, and is told by its path and the reason
abbrev pub IsTold : Option Fault → List ℕ → DocReason → Type 0
IsTold fault path reason = (f : Fault) × (fault ≡ Some f) × (path ≡ f.path) × Tells f.cause reason

-- memory may run out; else the fault is told
abbrev pub Fails : Option Fault → DocFail → Type 0
Fails fault e = (e ≡ Memory) ⊎ ((path : List ℕ) × (reason : DocReason) × (e ≡ Bad path reason) × IsTold fault path reason)

-- the parser's want of memory is that of the call
abbrev pub cell_fail : ParseError → DocFail
cell_fail parse.Memory = Memory
cell_fail e = Bad [] (BadCell e)
