use Rattle.std.proofs.Common.{◌∙◌, sym}
use Rattle.nb_work.proofs.TiesAt.{tied_read, untied_row}
use Rattle.nb_work.proofs.Works.{no_work, work_over}
use Rattle.nb_work.proofs.work.work_of.Goals as goal

pub tied_work-requires : goal.tied_work-requires
tied_work-requires c = tied_read c.args.sheet.now.sheet c.args.ties.now.items c.args.var c.in-Some.tied.now c.requires.ties c.in-Some.ensures

pub returns-in-None : goal.returns-in-None
returns-in-None c = λ r h now.
    no_work c.args.sheet.now.sheet c.args.starts.now.items c.args.var (untied_row c.args.sheet.now.sheet c.args.ties.now.items c.args.var c.requires.ties (sym c.in-None.ensures))
    ∙ work_over r c.args.sheet.now.sheet c.args.starts.now.items c.args.var h

pub returns-in_ok-work-in-Some : goal.returns-in_ok-work-in-Some
returns-in_ok-work-in-Some c = λ r h now. c.in_ok-work-in-Some.ensures ∙ work_over r c.args.sheet.now.sheet c.args.starts.now.items c.args.var h
