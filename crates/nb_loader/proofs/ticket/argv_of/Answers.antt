use Rattle.std.proofs.Common.{sym, ◌∙◌, ap, List}
use Rattle.nb_history.specs.Loaders.{argv_of as argv_of_key}
use Rattle.nb_doc.specs.declared.document.Loader.{Loader as DocumentLoader}
use Rattle.nb_loader.specs.Loads.{as_loaders}
use Rattle.nb_loader.proofs.Keys.{walk_hits, walk_on, walk_ends}
use Rattle.nb_loader.proofs.ticket.argv_of.Goals as goal

pub returns-then-has_key : goal.returns-then-has_key
returns-then-has_key c =
    walk_hits c.as_slice-loader-items.result.now c.loop-loader.loader-index c.loader-item.result c.args.key.now c.loop-loader-test.true c.loader-item.is
    (sym c.has_key.ensures ∙ c.if-has_key.true) c.loop-loader.invariant
    ∙ ap (λ (all : List DocumentLoader). argv_of_key (as_loaders all) c.args.key.now) c.as_slice-loader-items.ensures

pub loop-loader-preserved : goal.loop-loader-preserved
loop-loader-preserved c =
    walk_on c.as_slice-loader-items.result.now c.loop-loader.loader-index c.loader-item.result c.args.key.now c.loop-loader-test.true c.loader-item.is
    (sym c.has_key.ensures ∙ c.if-has_key.false) c.loop-loader.invariant

pub returns : goal.returns
returns c =
    walk_ends c.as_slice-loader-items.result.now c.loop-loader.loader-index c.args.key.now c.loop-loader-test.false c.loop-loader.invariant
    ∙ ap (λ (all : List DocumentLoader). argv_of_key (as_loaders all) c.args.key.now) c.as_slice-loader-items.ensures
