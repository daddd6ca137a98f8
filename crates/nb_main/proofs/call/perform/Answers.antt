use Rattle.nb_main.specs.Answers.{Call, seen, seen_files, seen_runs}
use Rattle.nb_main.proofs.CallLemmas.{ended_by, stopped, keeps}
use Rattle.nb_main.proofs.call.perform.Goals as goal

pub returns-in_err-text-clause-answer : goal.returns-in_err-text-clause-answer
returns-in_err-text-clause-answer g c =
    let call : Call = record {
      words = c.args.words.now;
      input = seen g.S.Source.left g.S.Source.faults c.args.input.now c.text_of.new.input;
      files = seen_files g.F.Files.file_of g.F.Files.faults c.args.files.now c.text_of.new.files;
      programs = seen_runs g.P.Spawner.runs c.args.programs.now c.text_of.new.programs;
      out = seen g.K.Sink.written g.K.Sink.faults c.args.out.now c.args.out.now;
    } in
    rw (ended_by c.from_residual-in_err-text.result c.in_err-text.field-0.0 c.from_residual-in_err-text.ensures.1)
    (stopped c.in_err-text.field-0.0 call c.in_ok-task.task c.in_ok-task.ensures c.in_err-text.ensures.stops c.in_err-text.ensures.unrun (keeps call.out.old))
