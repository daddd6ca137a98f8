-- A document: its first fault, or what it says.
use Rattle.std.specs.Prelude.{◌≡◌, ℕ, ◌==◌, Bool, true, false, List, ◌∷◌, [], Option, Some, None, is_some, option_map, option_and_then, unwrap_or, Result, Ok, Err, ⊤, if◌then◌else◌}
use Rattle.serde_json.specs.Data.{Data}
use Rattle.serde_json.specs.Find.{get}
use Rattle.nb_lines.specs.Fields.{number_in}
use Rattle.nb_lines.specs.Reasons.{line_data}
use Rattle.nb_doc.specs.declared.document.Document.{Document}
use Rattle.nb_doc.specs.declared.module.Module.{Module}
use Rattle.nb_doc.specs.declared.form.Field.TheVariants as field
use Rattle.nb_doc.specs.declared.reason.DocReason.TheVariants.{NotJson}
use Rattle.nb_doc.specs.declared.reason.DocFail.{DocFail}
use Rattle.nb_doc.specs.declared.reason.DocFail.TheVariants.{Bad, Memory}
use Rattle.nb_doc.specs.Faults.{Fault, here, wrong_unless, IsTold}
use Rattle.nb_doc.specs.Forms.{Row, needs, may, field_name, object_fault}
use Rattle.nb_doc.specs.Modules.{modules_fault, modules_at}
use Rattle.nb_doc.specs.Loading.{builtins_fault, builtins_of, loaders_fault, loaders_of}
use Rattle.nb_doc.specs.Says.{lines_of}

-- ---- the version: in version 2 modules have names, in version 1 they have not

abbrev pub named_by : ℕ → Option Bool
named_by n = if n == 1 then Some false else if n == 2 then Some true else None

abbrev pub version_in : Data → Option Bool
version_in d = option_and_then named_by (number_in d)

abbrev pub version_fault : Data → Option Fault
version_fault d = wrong_unless (is_some (version_in d))

abbrev pub version_at : Data → Option Bool
version_at d = option_and_then version_in (get (field_name field.Notebook) d)

abbrev pub is_named : Data → Bool
is_named d = unwrap_or (version_at d) false

-- ---- the whole

abbrev pub document_rows : Bool → List Row
document_rows named = needs field.Notebook version_fault ∷ may field.Builtins builtins_fault ∷ needs field.Modules (modules_fault named) ∷ may field.Loaders loaders_fault ∷ []

unfoldable pub data_fault : Data → Option Fault
data_fault d = object_fault (document_rows (is_named d)) d

abbrev pub document_by : Data → List Module → Document
document_by d ms = record { builtins = builtins_of d; lines = lines_of ms; loaders = loaders_of d }

unfoldable pub data_document : Data → Option Document
data_document d = option_map (document_by d) (modules_at (is_named d) d)

abbrev pub fault_case : Option Data → Option Fault
fault_case None = Some (here NotJson)
fault_case (Some d) = data_fault d

-- the first fault of a document
unfoldable pub first_fault : List ℕ → Option Fault
first_fault bytes = fault_case (line_data bytes)

-- the document that the bytes are, if they have no fault
unfoldable pub document_of : List ℕ → Option Document
document_of bytes = option_and_then data_document (line_data bytes)

-- what comes is what the bytes give, where there is no fault; else the first fault comes; memory may run out
abbrev pub Reads : {X : Type 0} → Option Fault → Option X → Result X DocFail → Type 0
Reads fault given (Ok x) = (fault ≡ None) × (given ≡ Some x)
Reads fault given (Err (Bad path reason)) = IsTold fault path reason
Reads fault given (Err Memory) = ⊤

abbrev pub ReadsDocument : List ℕ → Result Document DocFail → Type 0
ReadsDocument bytes result = Reads (first_fault bytes) (document_of bytes) result

-- what holds of a call's answer, unless memory ran out
abbrev pub UnlessMemory : {X : Type 0} → Result X DocFail → Type 0 → Type 0
UnlessMemory (Err Memory) claim = ⊤
UnlessMemory _ claim = claim
