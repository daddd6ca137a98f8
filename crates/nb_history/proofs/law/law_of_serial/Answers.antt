use Rattle.nb_history.proofs.Loading.{loads_end, serial_ends}
use Rattle.nb_history.proofs.Ending.{work_ends, serial_ends_alone, edited_is_there}
use Rattle.nb_history.proofs.Serials.{is_serial_legal, is_serial_one, is_serial_rests, is_serial_first}
use Rattle.nb_history.proofs.law.law_of_serial.Goals as goal

pub returns : goal.returns
returns c = record { work = work_ends; loads = loads_end; ends = serial_ends; ends_alone = serial_ends_alone; legal = is_serial_legal; one = is_serial_one; rests = is_serial_rests; first = is_serial_first; edited = edited_is_there }
