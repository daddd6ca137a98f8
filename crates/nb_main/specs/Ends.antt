-- The status by which a call ends, for each way to fail below it.
use Rattle.std.specs.Prelude.{ℕ, Result}
use Rattle.std.specs.declared.result.Result.TheVariants as result
use Rattle.nb_cli.specs.declared.command.WordsFail.{WordsFail}
use Rattle.nb_cli.specs.declared.command.WordsFail.TheVariants as words
use Rattle.nb_io.specs.declared.files.FileFail.{FileFail}
use Rattle.nb_io.specs.declared.files.FileFail.TheVariants as file
use Rattle.nb_io.specs.declared.reading.ReadFail.{ReadFail}
use Rattle.nb_io.specs.declared.reading.ReadFail.TheVariants as read
use Rattle.nb_doc.specs.declared.reason.DocFail.{DocFail}
use Rattle.nb_doc.specs.declared.reason.DocFail.TheVariants as document
use Rattle.nb_lines.specs.declared.script.LineFail.{LineFail}
use Rattle.nb_lines.specs.declared.script.LineFail.TheVariants as line
use Rattle.nb_main.specs.declared.status.Status.{Status}
use Rattle.nb_main.specs.declared.status.Status.TheVariants.{Ok, Memory, Usage, BadInput, ReadFault, FileFault, TooLong, BadDocument}

-- The most bytes that a file or an input may have.
abbrev pub limit : ℕ
limit = 4194304

abbrev pub by_words : WordsFail → Status
by_words words.Usage = Usage
by_words words.Memory = Memory

abbrev pub by_file : FileFail → Status
by_file file.Failed = FileFault
by_file file.TooLong = TooLong limit
by_file file.Memory = Memory

abbrev pub by_document : DocFail → Status
by_document (document.Bad path reason) = BadDocument path reason
by_document document.Memory = Memory

abbrev pub by_read : ReadFail → Status
by_read read.Fault = ReadFault
by_read (read.TooLong most) = TooLong most
by_read read.Memory = Memory

abbrev pub by_line : LineFail → Status
by_line (line.Bad number reason) = BadInput number reason
by_line line.Memory = Memory

-- how a call ended that did all, or stopped with this status
abbrev pub ended : Result (Unit {0}) Status → Status
ended (result.Ok done) = Ok
ended (result.Err status) = status
