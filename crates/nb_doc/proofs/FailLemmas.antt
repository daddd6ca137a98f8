-- Faults that calls tell: of what is looked at, of what has it as a part, and of several tests in order.
use Rattle.std.proofs.Common.{◌≡◌, ◌⊎◌, inl, inr, ℕ, List, [], ◌∷◌, ◌++◌, Option, Some, None, find, not, Result, Ok, Err, IfOk, IfErr, refl, sym, ◌∙◌, ap, subst}
use Rattle.std.specs.Option.{option_or}
use Rattle.serde_json.specs.Data.{Data, Members, member}
use Rattle.serde_json.specs.Find.{get, as_object}
use Rattle.nb_parser.specs.declared.error.ParseError.{ParseError}
use Rattle.nb_parser.specs.declared.error.ParseError.TheVariants.{Lex, Unexpected, Ended, TooDeep, Memory}
use Rattle.nb_parser.specs.Text.{cell_of}
use Rattle.nb_parser.specs.Parse.{HasNone, Refuses, IsRefused}
use Rattle.nb_doc.specs.declared.reason.DocReason.{DocReason}
use Rattle.nb_doc.specs.declared.reason.DocReason.TheVariants.{BadCell, NotJson, NotObject, UnknownField}
use Rattle.nb_doc.specs.declared.reason.DocFail.{DocFail}
use Rattle.nb_doc.specs.declared.reason.DocFail.TheVariants as fail
use Rattle.nb_doc.specs.Faults.{Fault, Tells, IsTold, Fails, here, under, in_part, no_cell, cell_fail}
use Rattle.std.specs.Str.{IsUtf8}
use Rattle.serde_json.specs.Read.{read}
use Rattle.nb_lines.specs.Fields.{member_keys}
use Rattle.nb_lines.specs.Reasons.{line_data}
use Rattle.nb_lines.proofs.DataLemmas.{line_data-none}
use Rattle.nb_doc.specs.declared.form.Field.{Field}
use Rattle.nb_doc.specs.Forms.{Row, field_name, field_case, field_fault, is_among, head_fault}
use Rattle.nb_doc.specs.Contents.{text_fault}
use Rattle.nb_doc.specs.Loading.{member_fault, members_fault}
use Rattle.nb_doc.specs.Documents.{first_fault, Reads}

pub here_fails : (r : DocReason) (e : DocFail) → e ≡ fail.Bad [] r → Fails (Some (here r)) e
here_fails r e is = inr ([], r, is, (here r, refl, refl, refl))

same_path : (p q : List ℕ) (r s : DocReason) → fail.Bad p r ≡ fail.Bad q s → p ≡ q
same_path p q r s e = cc

same_reason : (p q : List ℕ) (r s : DocReason) → fail.Bad p r ≡ fail.Bad q s → r ≡ s
same_reason p q r s e = cc

pub under_fails : (step path longer : List ℕ) (r : DocReason) (fault : Option Fault) → longer ≡ 47 ∷ step ++ path → Fails fault (fail.Bad path r) → Fails (in_part step fault) (fail.Bad longer r)
under_fails step path longer r fault is (inl e) = absurd (cc)
under_fails step path longer r fault is (inr told) =
    let same = same_path path told.0 r told.1 told.2 in
    let f = told.3.0 in
    inr (
      longer,
      r,
      refl,
      (
        under step f,
        ap (in_part step) told.3.1,
        is ∙ ap (λ (p : List ℕ). 47 ∷ step ++ p) (same ∙ told.3.2),
        subst (Tells f.cause) (sym (same_reason path told.0 r told.1 told.2)) told.3.3,
      ),
    )

-- the fault of the content is that of the field
pub in_field : (d c : Data) (r : Row) (e : DocFail) → get (field_name r.field) d ≡ Some c → Fails (in_part (field_name r.field) (r.content c)) e → Fails (field_fault d r) e
unfolding field_fault
in_field d c r e there h = subst (λ (o : Option Data). Fails (field_case r o) e) (sym there) h

-- of two tests in order, the first, or the second where the first finds nothing
pub first_fails : (o rest : Option Fault) (e : DocFail) → Fails o e → Fails (option_or o rest) e
first_fails None rest e (inl m) = inl m
first_fails None rest e (inr told) = absurd (cc)
first_fails (Some f) rest e h = h

pub second_fails : (o rest : Option Fault) (e : DocFail) → o ≡ None → Fails rest e → Fails (option_or o rest) e
second_fails None rest e is h = h
second_fails (Some f) rest e is h = absurd (cc)

-- a text that is no cell
refused : (text : List ℕ) (e : ParseError) → cell_of text ≡ None → IsRefused text e → Fails (text_fault text) (fail.Bad [] (BadCell e))
refused text e none is = inr ([], BadCell e, refl, (record { path = []; cause = no_cell text }, rw none refl, refl, (e, refl, is)))

pub cell_fails : (text : List ℕ) (e : ParseError) → HasNone text e → Refuses text e → Fails (text_fault text) (cell_fail e)
cell_fails text (Lex f) none is = refused text (Lex f) none is
cell_fails text (Unexpected n t) none is = refused text (Unexpected n t) none is
cell_fails text (Ended n) none is = refused text (Ended n) none is
cell_fails text (TooDeep n) none is = refused text (TooDeep n) none is
cell_fails text Memory none is = inl refl

-- an object with an unknown field, and what is no object
pub unknown_fails : (known : List Field) (d : Data) (ms : Members) (k : List ℕ) (e : DocFail) → as_object d ≡ Some ms → find (λ n. not (is_among known n)) (member_keys ms) ≡ Some k
    → Fails (Some (under k (here UnknownField))) e → Fails (head_fault known d) e
unknown_fails known d ms k e object found h = rw (object, found) h

pub not_object_fails : (known : List Field) (d : Data) (e : DocFail) → as_object d ≡ None → e ≡ fail.Bad [] NotObject → Fails (head_fault known d) e
not_object_fails known d e none is = rw none (here_fails NotObject e is)

-- a member without a fault leaves the first fault to the others
pub members_more : (all : Option Fault) (ms : Members) (k : List ℕ) (d : Data) (left : Members) → all ≡ members_fault ms → ms ≡ member k d left → member_fault k d ≡ None → all ≡ members_fault left
members_more all ms k d left is split none = is ∙ ap members_fault split ∙ ap (λ (o : Option Fault). option_or o (members_fault left)) none

-- bytes that are no JSON
pub json_fails : (bytes : List ℕ) (e : DocFail) (M : Type 0) → ((e ≡ fail.Memory) × M) ⊎ ((e ≡ fail.Bad [] NotJson) × (M → ⊥)) → ((M → ⊥) → IsUtf8 bytes → read bytes ≡ None) → Fails (first_fault bytes) e
unfolding first_fault
json_fails bytes e M (inl told) none = inl told.0
json_fails bytes e M (inr told) none = let nothing : line_data bytes ≡ None = line_data-none bytes (none told.1) in rw nothing (here_fails NotJson e told.0)

-- ---- the whole

told_of : (fault : Option Fault) (p : List ℕ) (r : DocReason) → Fails fault (fail.Bad p r) → IsTold fault p r
told_of fault p r (inl e) = absurd (cc)
told_of fault p r (inr told) =
    subst (λ (q : List ℕ). IsTold fault q r) (sym (same_path p told.0 r told.1 told.2)) (subst (IsTold fault told.0) (sym (same_reason p told.0 r told.1 told.2)) told.3)

pub reads_of : {X : Type 0} (fault : Option Fault) (given : Option X) (r : Result X DocFail) → IfOk r (λ x. fault ≡ None) → IfOk r (λ x. given ≡ Some x) → IfErr r (Fails fault) → Reads fault given r
reads_of fault given (Ok x) good said bad = (good, said)
reads_of fault given (Err (fail.Bad p r)) good said bad = told_of fault p r bad
reads_of fault given (Err fail.Memory) good said bad = tt
