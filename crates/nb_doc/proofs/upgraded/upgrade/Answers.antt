-- The bytes, or the first fault; that no other fault is answered; and that the bytes are the same document.
use Rattle.nb_doc.specs.Documents.{first_fault}
use Rattle.nb_doc.specs.Upgraded.{upgraded}
use Rattle.nb_doc.proofs.FailLemmas.{reads_of}
use Rattle.nb_doc.proofs.Once.{only_told}
use Rattle.nb_doc.proofs.UpgradedSays.{upgrade_is_read}
use Rattle.nb_doc.proofs.upgraded.upgrade.Goals as goal

pub returns-clause-text : goal.returns-clause-text
returns-clause-text c =
    reads_of (first_fault c.args.bytes.now) (upgraded c.args.bytes.now) c.upgraded_bytes.result c.upgraded_bytes.ensures.good c.upgraded_bytes.ensures.said c.upgraded_bytes.ensures.bad

pub returns-clause-only : goal.returns-clause-only
returns-clause-only c =
    only_told (first_fault c.args.bytes.now) (upgraded c.args.bytes.now) c.upgraded_bytes.result
    (reads_of (first_fault c.args.bytes.now) (upgraded c.args.bytes.now) c.upgraded_bytes.result c.upgraded_bytes.ensures.good c.upgraded_bytes.ensures.said c.upgraded_bytes.ensures.bad)

pub returns-clause-same : goal.returns-clause-same
returns-clause-same c = upgrade_is_read c.args.bytes.now c.upgraded_bytes.result c.upgraded_bytes.ensures.good c.upgraded_bytes.ensures.data
