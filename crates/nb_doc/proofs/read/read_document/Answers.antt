-- The document, or its first fault; that no other fault is answered; and what holds of its builtins and loaders.
use Rattle.nb_doc.specs.Documents.{first_fault, document_of}
use Rattle.nb_doc.proofs.FailLemmas.{reads_of}
use Rattle.nb_doc.proofs.Once.{only_told}
use Rattle.nb_doc.proofs.PartLemmas.{few_builtins, distinct_keys, all_have_words}
use Rattle.nb_doc.proofs.read.read_document.Goals as goal

pub returns-clause-document : goal.returns-clause-document
returns-clause-document c =
    reads_of (first_fault c.args.bytes.now) (document_of c.args.bytes.now) c.document_of_bytes.result c.document_of_bytes.ensures.good c.document_of_bytes.ensures.said c.document_of_bytes.ensures.bad

pub returns-clause-only : goal.returns-clause-only
returns-clause-only c =
    only_told (first_fault c.args.bytes.now) (document_of c.args.bytes.now) c.document_of_bytes.result
    (reads_of (first_fault c.args.bytes.now) (document_of c.args.bytes.now) c.document_of_bytes.result c.document_of_bytes.ensures.good c.document_of_bytes.ensures.said c.document_of_bytes.ensures.bad)

pub returns-clause-few : goal.returns-clause-few
returns-clause-few c =
    few_builtins c.args.bytes.now c.document_of_bytes.result
    (reads_of (first_fault c.args.bytes.now) (document_of c.args.bytes.now) c.document_of_bytes.result c.document_of_bytes.ensures.good c.document_of_bytes.ensures.said c.document_of_bytes.ensures.bad)

pub returns-clause-keys : goal.returns-clause-keys
returns-clause-keys c =
    distinct_keys c.args.bytes.now c.document_of_bytes.result
    (reads_of (first_fault c.args.bytes.now) (document_of c.args.bytes.now) c.document_of_bytes.result c.document_of_bytes.ensures.good c.document_of_bytes.ensures.said c.document_of_bytes.ensures.bad)

pub returns-clause-words : goal.returns-clause-words
returns-clause-words c =
    all_have_words c.args.bytes.now c.document_of_bytes.result
    (reads_of (first_fault c.args.bytes.now) (document_of c.args.bytes.now) c.document_of_bytes.result c.document_of_bytes.ensures.good c.document_of_bytes.ensures.said c.document_of_bytes.ensures.bad)
