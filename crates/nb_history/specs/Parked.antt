-- What an evaluation finds again that goes on later in its start.
use Rattle.std.specs.Prelude.{ℕ, ⊤, ◌+◌, ◌≡◌, Bool, true, false, ◌==◌, List, [], ◌∷◌, ◌++◌, None}
use Rattle.nb_value.specs.declared.value.Value.{Value}
use Rattle.nb_value.specs.declared.pairs.Field.{Field}
use Rattle.nb_value.specs.declared.outcome.Answer.{Answer}
use Rattle.nb_log.specs.declared.entry.Entry.{Entry}
use Rattle.nb_log.specs.declared.entry.Entry.TheVariants.{Fulfilled, Rejected, Asked, Ended}
use Rattle.nb_sheet.specs.Lists.{Name}
use Rattle.nb_resolve.specs.Names.{inputs}
use Rattle.nb_history.specs.Reading.{Reading, shown, number}
use Rattle.nb_history.specs.Rules.{ready, is_behind, deciding_error, marked_error, body_of, values_given, answers_of, pulls_of}
use Rattle.nb_history.specs.Log.{reading, read_from, IsLegal, LegalFrom}
use Rattle.nb_history.specs.Starts.{is_notice_of}

-- the same error decides of v, or none, and without a mark it is the same body over the same input values
abbrev pub EvaluatesAlike : Reading → Reading → ℕ → Type 0
EvaluatesAlike r q v =
    (deciding_error q (shown q) v ≡ deciding_error r (shown r) v)
    × (marked_error r.sheet v ≡ None → (body_of q.sheet v ≡ body_of r.sheet v) × (values_given q.sheet (shown q) (inputs q.sheet v) ≡ values_given r.sheet (shown r) (inputs r.sheet v)))

-- a variable that was ready in its present start has the input values of then, while it isn't behind. So a ready one has
-- those of the first entry of its start
abbrev pub ReadyKeepsInputs : Type 0
ReadyKeepsInputs =
    (builtins : List (Field Value)) (log es : List Entry) (v : ℕ) → IsLegal builtins log → LegalFrom (reading builtins log) es
    → ready (reading builtins log) v ≡ true → number (read_from (reading builtins log) es) v ≡ number (reading builtins log) v
    → is_behind (read_from (reading builtins log) es) v ≡ false
    → EvaluatesAlike (reading builtins log) (read_from (reading builtins log) es) v

abbrev pub NoNoticeOf : ℕ → List Entry → Type 0
NoNoticeOf v [] = ⊤
NoNoticeOf v (e ∷ es) = (is_notice_of v e ≡ false) × NoNoticeOf v es

-- what asked goes on with one answer more and as many pulls
abbrev pub AskGoesOn : Type 0
AskGoesOn =
    (builtins : List (Field Value)) (log es : List Entry) (v t : ℕ) (key : Name) → IsLegal builtins log → LegalFrom (reading builtins log) (Asked v t key ∷ es)
    → NoNoticeOf v es → number (read_from (reading builtins log) (Asked v t key ∷ es)) v ≡ number (reading builtins log) v
    → ready (read_from (reading builtins log) (Asked v t key ∷ es)) v ≡ true
    → (a : Answer) × (answers_of (read_from (reading builtins log) (Asked v t key ∷ es)) v ≡ answers_of (reading builtins log) v ++ a ∷ [])
    × (pulls_of (read_from (reading builtins log) (Asked v t key ∷ es)) v ≡ pulls_of (reading builtins log) v)

-- what showed a value goes on with the same answers and one pull more
abbrev pub ValueGoesOn : Type 0
ValueGoesOn =
    (builtins : List (Field Value)) (log es : List Entry) (v : ℕ) (x : Value) → IsLegal builtins log → LegalFrom (reading builtins log) (Fulfilled v x ∷ es)
    → NoNoticeOf v es → number (read_from (reading builtins log) (Fulfilled v x ∷ es)) v ≡ number (reading builtins log) v
    → ready (read_from (reading builtins log) (Fulfilled v x ∷ es)) v ≡ true
    → (answers_of (read_from (reading builtins log) (Fulfilled v x ∷ es)) v ≡ answers_of (reading builtins log) v)
    × (pulls_of (read_from (reading builtins log) (Fulfilled v x ∷ es)) v ≡ pulls_of (reading builtins log) v + 1)
