-- In a serial history nothing is pulling before any external entry.
use Rattle.std.proofs.Common.{◌≡◌, false, List, [], ◌∷◌, ◌++◌}
use Rattle.nb_sheet.specs.Lists.{Name}
use Rattle.nb_history.specs.Reading.{Reading}
use Rattle.nb_history.specs.Log.{nothing_yet, after, read_from, LegalFrom, Rests}
use Rattle.nb_history.specs.Serial.{Todo, AreEditors, SerialFrom}
use Rattle.nb_history.specs.Starts.{is_of_variable, SerialPullsNothing}
use Rattle.nb_log.specs.declared.entry.Entry.{Entry}
use Rattle.nb_history.proofs.Histories.{legal_front}
use Rattle.nb_history.proofs.Shapes.{Sound, sound_after, sound_first}
use Rattle.nb_history.proofs.Lawful.{Lawful, lawful_from, lawful_first, rest_pulls_nothing}
use Rattle.nb_history.proofs.Serials.{StepFits, step_fits, serial_legal}

-- before an external entry of the serial history the log rests
rests_before : (keys : List Name) (r : Reading) (todo left : Todo) (front : List Entry) (e : Entry) (back : List Entry) → Sound r → AreEditors todo.lines → SerialFrom keys r todo (front ++ e ∷ back) left
    → is_of_variable e ≡ false → Rests (read_from r front)
rests_before keys r todo left [] e back sound editors h is = (step_fits keys r sound todo editors e h.0 h.1).outer is
rests_before keys r todo left (x ∷ front) e back sound editors h is =
    let step : StepFits r x h.0 = step_fits keys r sound todo editors x h.0 h.1 in
    rests_before keys (after r x) h.0 left front e back (sound_after r x sound) step.editors h.2 is

pub serial_pulls_nothing : SerialPullsNothing
serial_pulls_nothing builtins keys lines answers front e back editors serial is =
    let r = nothing_yet builtins in
    let todo : Todo = record { lines = lines; answers = answers } in
    let left : Todo = record { lines = []; answers = [] } in
    let q : Reading = read_from r front in
    let legal : LegalFrom r (front ++ e ∷ back) = serial_legal keys r todo left (front ++ e ∷ back) (sound_first builtins) editors serial.steps in
    let law : Lawful q = lawful_from r front (lawful_first builtins) (legal_front r front (e ∷ back) legal) in
    rest_pulls_nothing q law (rests_before keys r todo left front e back (sound_first builtins) editors serial.steps is)
