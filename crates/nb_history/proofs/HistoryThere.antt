-- Each serial history of editors' lines is a history of them, given it is promised, and it is there.
use Rattle.std.proofs.Common.{ℕ, ◌≡◌, sym, subst, List, []}
use Rattle.nb_value.specs.declared.value.Value.{Value}
use Rattle.nb_value.specs.declared.pairs.Field.{Field}
use Rattle.nb_value.specs.declared.outcome.Answer.{Answer}
use Rattle.nb_history.specs.Log.{nothing_yet, IsLegal}
use Rattle.nb_history.specs.Serial.{IsSerial}
use Rattle.nb_history.specs.Loaders.{keys_of, answers_in}
use Rattle.nb_history.specs.Ends.{SerialHistory, SerialIsHistory, HistoryIsThere, HistoryIsThereAlone}
use Rattle.nb_history.specs.Headline.{IsHistoryOf}
use Rattle.nb_log.specs.declared.event.Event.{Event}
use Rattle.nb_log.specs.declared.entry.Entry.{Entry}
use Rattle.nb_history.proofs.RestHolds.{rest_holds}
use Rattle.nb_history.proofs.Serials.{is_serial_legal, is_serial_rests}
use Rattle.nb_history.proofs.Ending.{serial_ends_alone}
use Rattle.nb_history.proofs.Loading.{serial_ends}
use Rattle.nb_history.proofs.LoaderRuns.{answers_are_in, runs_are, no_runs}

pub serial_is_history : SerialIsHistory
serial_is_history builtins loaders lines runs log editors serial told =
    let legal : IsLegal builtins log = is_serial_legal builtins (keys_of loaders) lines (answers_in log) log editors serial in record {
      serial = serial;
      told = told;
      legal = legal;
      rests = rest_holds builtins log legal;
      ends_at_rest = is_serial_rests builtins (keys_of loaders) lines (answers_in log) log serial;
    }

pub history_is_there : HistoryIsThere
history_is_there builtins loaders programs lines editors =
    let h : SerialHistory builtins (keys_of loaders) programs.answer lines = serial_ends builtins (keys_of loaders) programs.answer lines editors in
    let used : IsSerial builtins (keys_of loaders) lines (answers_in h.log) h.log
    = subst (λ (given : List Answer). IsSerial builtins (keys_of loaders) lines given h.log) (answers_are_in builtins (keys_of loaders) lines h.used h.log h.serial) h.serial in (
      h.log,
      serial_is_history builtins loaders lines _ h.log editors used
          (runs_are loaders programs (nothing_yet builtins) (record { lines = lines; answers = h.used }) (record { lines = []; answers = [] }) h.log h.serial.steps h.told),
    )

-- a serial history without loaders runs no program
pub history_alone : (builtins : List (Field Value)) (lines : List (ℕ × Event)) (log : List Entry) → IsLegal builtins log → IsSerial builtins [] lines [] log → IsHistoryOf builtins [] lines [] log
history_alone builtins lines log legal serial =
    let none : [] ≡ answers_in log = answers_are_in builtins [] lines [] log serial in record {
      serial = subst (λ (given : List Answer). IsSerial builtins [] lines given log) none serial;
      told = no_runs [] (nothing_yet builtins) log (sym none);
      legal = legal;
      rests = rest_holds builtins log legal;
      ends_at_rest = is_serial_rests builtins [] lines [] log serial;
    }

pub history_is_there_alone : HistoryIsThereAlone
history_is_there_alone builtins lines editors =
    let t : (log : List Entry) × IsSerial builtins [] lines [] log × IsLegal builtins log = serial_ends_alone builtins lines editors in
    (t.0, history_alone builtins lines t.0 t.2 t.1)
