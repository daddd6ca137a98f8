-- After which entries something may be leaving or due where nothing was, and how often a start is pulled.
use Rattle.std.specs.Prelude.{ℕ, ◌≡◌, ◌≤◌, Bool, true, false, List}
use Rattle.nb_value.specs.declared.value.Value.{Value}
use Rattle.nb_value.specs.declared.pairs.Field.{Field}
use Rattle.nb_log.specs.declared.entry.Entry.{Entry}
use Rattle.nb_log.specs.declared.entry.Entry.TheVariants.{Edit, Frame, Settled, Late, Loaded, Refused, Rest, Dispose, Pending, Fulfilled, Rejected, Asked, Ended, Left}
use Rattle.nb_history.specs.Reading.{Reading}
use Rattle.nb_history.specs.Rules.{pulls_of}
use Rattle.nb_history.specs.Log.{after, reading, IsLegal, IsQuiet}
use Rattle.nb_history.specs.Starts.{is_notice_of}

-- An edit changes what is wanted and what a start rests on; a dispose, what is wanted; a start and a leaving, the start
-- numbers; an outcome, the renewals. Each notice of a variable that was pulling lets go of what was held, too.
abbrev pub may_open : Entry → Bool
may_open (Edit editor edit) = true
may_open (Dispose editor) = true
may_open (Pending v d) = true
may_open (Fulfilled v x) = true
may_open (Rejected v e) = true
may_open (Asked v t key) = true
may_open (Ended v) = true
may_open (Left v d) = true
may_open (Frame editor) = false
may_open (Settled editor t a) = false
may_open (Late editor t) = false
may_open (Loaded t a) = false
may_open (Refused editor reason event) = false
may_open (Rest editor) = false

-- after any other entry nothing is leaving or due where nothing was
abbrev pub OthersStayQuiet : Type 0
OthersStayQuiet = (r : Reading) (e : Entry) → may_open e ≡ false → IsQuiet r → IsQuiet (after r e)

-- nor after a notice of a variable at its first pull: it was not pulling, and its renewal stays
abbrev pub FirstPullsStayQuiet : Type 0
FirstPullsStayQuiet = (r : Reading) (v : ℕ) (e : Entry) → is_notice_of v e ≡ true → pulls_of r v ≤ 1 → IsQuiet r → IsQuiet (after r e)

-- in a legal log each start was pulled at most so often: a frame pulls only while the log isn't full
abbrev pub PullsAreFew : Type 0
PullsAreFew = (builtins : List (Field Value)) (log : List Entry) → IsLegal builtins log → (v : ℕ) → pulls_of (reading builtins log) v ≤ 4000001
