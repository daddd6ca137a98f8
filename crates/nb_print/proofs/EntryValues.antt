-- The array of an entry is of one.
use Rattle.std.proofs.Common.{◌≡◌, ◌∙◌, ℕ, List, [], ◌∷◌, refl, sym, ap, arith, codes}
use Rattle.nb_value.specs.declared.value.Value.{Value}
use Rattle.nb_value.specs.declared.value.Value.TheVariants as V
use Rattle.nb_value.specs.declared.value.Value.TheViews as values
use Rattle.nb_value.specs.declared.value.Value.TheViews.{out-Value}
use Rattle.nb_value.specs.declared.value.Value.TheOpen.{Value-F}
use Rattle.nb_value.specs.declared.outcome.CellError.{CellError}
use Rattle.nb_value.specs.declared.outcome.ErrorKind.{ErrorKind}
use Rattle.nb_value.specs.declared.outcome.ErrorKind.TheVariants as kind
use Rattle.nb_value.specs.declared.outcome.Answer.{Answer}
use Rattle.nb_value.specs.declared.outcome.Answer.TheVariants.{Value as Given, Failure}
use Rattle.nb_log.specs.declared.entry.Refusal.{Refusal}
use Rattle.nb_log.specs.declared.entry.Refusal.TheVariants as refusal
use Rattle.nb_log.specs.declared.entry.Entry.{Entry}
use Rattle.nb_log.specs.declared.entry.Entry.TheVariants.{Edit, Frame, Settled, Late, Loaded, Refused, Rest, Dispose, Pending, Fulfilled, Rejected, Asked, Ended, Left}
use Rattle.nb_log.specs.Printing.{number, text_or_null, edit_object, event_object, kind_name, refusal_name, refusal_number, error_items, answer_items, entry_value}
use Rattle.nb_print.specs.Law.{EntryIsSpelled}
use Rattle.nb_print.proofs.ValueParts.{same_list, same_or_null, first_same, first_text, first_number, text_in, weight}
use Rattle.nb_print.proofs.EditObjects.{edits_same, events_same}

-- ---- names

kinds_same : (k l : ErrorKind) → weight (kind_name k) ≡ weight (kind_name l) → k ≡ l
kinds_same kind.NotDefined kind.NotDefined w = refl
kinds_same kind.DefinedTwice kind.DefinedTwice w = refl
kinds_same kind.Circular kind.Circular w = refl
kinds_same kind.WrongKind kind.WrongKind w = refl
kinds_same kind.Overflow kind.Overflow w = refl
kinds_same kind.ZeroDivisor kind.ZeroDivisor w = refl
kinds_same kind.OutOfRange kind.OutOfRange w = refl
kinds_same kind.NoField kind.NoField w = refl
kinds_same kind.Thrown kind.Thrown w = refl
kinds_same kind.FetchFailed kind.FetchFailed w = refl
kinds_same kind.OutOfFuel kind.OutOfFuel w = refl
kinds_same kind.TooLarge kind.TooLarge w = refl
kinds_same kind.TooManyFetches kind.TooManyFetches w = refl
kinds_same kind.Unassigned kind.Unassigned w = refl
kinds_same k l w = absurd (omega arith)

reasons_same : (r q : Refusal) → refusal_number r ≡ refusal_number q → r ≡ q
reasons_same refusal.NoModule refusal.NoModule e = refl
reasons_same refusal.NoVariable refusal.NoVariable e = refl
reasons_same refusal.TooManyModules refusal.TooManyModules e = refl
reasons_same refusal.TooManyVariables refusal.TooManyVariables e = refl
reasons_same refusal.NotNamed refusal.NotNamed e = refl
reasons_same refusal.NamedTwice refusal.NamedTwice e = refl
reasons_same refusal.Disposed refusal.Disposed e = refl
reasons_same refusal.LogFull refusal.LogFull e = refl
reasons_same refusal.NoTicket refusal.NoTicket e = refl
reasons_same refusal.AlreadySettled refusal.AlreadySettled e = refl
reasons_same refusal.NoAsk refusal.NoAsk e = refl
reasons_same r q e = absurd (omega arith)

-- ---- items

answers_same : (a b : Answer) → answer_items a ≡ answer_items b → a ≡ b
answers_same (Given x) (Given y) e =
    let both = first_same x y [] [] (first_text (codes "value") (codes "value") (x ∷ []) (y ∷ []) e).1 in ap Given both.0
answers_same (Failure s) (Failure t) e =
    let both = first_text s t [] [] (first_text (codes "error") (codes "error") (V.Text s ∷ []) (V.Text t ∷ []) e).1 in ap Failure both.0
answers_same (Given x) (Failure t) e = absurd (omega (arith, ap weight (first_text (codes "value") (codes "error") (x ∷ []) (V.Text t ∷ []) e).0))
answers_same (Failure t) (Given x) e = absurd (omega (arith, ap weight (first_text (codes "error") (codes "value") (V.Text t ∷ []) (x ∷ []) e).0))

errors_same : (a b : CellError) → error_items a ≡ error_items b → a ≡ b
errors_same a b e =
    let kinds = first_text (kind_name a.kind) (kind_name b.kind) _ _ e in
    let details = first_text a.detail b.detail _ _ kinds.1 in
    let vias = first_same (text_or_null a.via) (text_or_null b.via) [] [] details.1 in
    let kind_is = kinds_same a.kind b.kind (ap weight kinds.0) in
    let via_is = same_or_null a.via b.via vias.0 in
    λ i. record { kind = kind_is i; detail = details.0 i; via = via_is i }

-- ---- entries

items_in : Value-F Value → List Value
items_in (Value-F.List vs) = vs
items_in x = []

first_in : List Value → List ℕ
first_in [] = []
first_in (v ∷ vs) = text_in (out-Value v)

-- the text that an array begins with
abbrev word_of : Value → List ℕ
word_of v = first_in (items_in (out-Value v))

word_first : (word : List ℕ) (vs : List Value) → word_of (V.List (V.Text word ∷ vs)) ≡ word
unfolding items_in first_in
word_first word vs = ap (λ (x : Value-F Value). first_in (items_in x)) (values.outs-List (V.Text word ∷ vs)) ∙ ap text_in (values.outs-Text word)

abbrev entry_word : Entry → List ℕ
entry_word (Edit editor edit) = codes "edit"
entry_word (Frame editor) = codes "frame"
entry_word (Settled editor t a) = codes "settled"
entry_word (Late editor t) = codes "late"
entry_word (Loaded t a) = codes "loaded"
entry_word (Refused editor reason event) = codes "refused"
entry_word (Rest editor) = codes "rest"
entry_word (Dispose editor) = codes "dispose"
entry_word (Pending v d) = codes "pending"
entry_word (Fulfilled v x) = codes "fulfilled"
entry_word (Rejected v error) = codes "rejected"
entry_word (Asked v t key) = codes "asked"
entry_word (Ended v) = codes "ended"
entry_word (Left v d) = codes "left"

entry_says : (e : Entry) → word_of (entry_value e) ≡ entry_word e
entry_says (Edit editor edit) = word_first (codes "edit") _
entry_says (Frame editor) = word_first (codes "frame") _
entry_says (Settled editor t a) = word_first (codes "settled") _
entry_says (Late editor t) = word_first (codes "late") _
entry_says (Loaded t a) = word_first (codes "loaded") _
entry_says (Refused editor reason event) = word_first (codes "refused") _
entry_says (Rest editor) = word_first (codes "rest") _
entry_says (Dispose editor) = word_first (codes "dispose") _
entry_says (Pending v d) = word_first (codes "pending") _
entry_says (Fulfilled v x) = word_first (codes "fulfilled") _
entry_says (Rejected v error) = word_first (codes "rejected") _
entry_says (Asked v t key) = word_first (codes "asked") _
entry_says (Ended v) = word_first (codes "ended") _
entry_says (Left v d) = word_first (codes "left") _

-- the number behind the word, and what stands behind that
numbered : (word : List ℕ) (m n : ℕ) (xs ys : List Value) → V.List (V.Text word ∷ number m ∷ xs) ≡ V.List (V.Text word ∷ number n ∷ ys) → (m ≡ n) × (xs ≡ ys)
numbered word m n xs ys e = first_number m n xs ys (first_text word word (number m ∷ xs) (number n ∷ ys) (same_list _ _ e)).1

by_word : (e f : Entry) → EntryIsSpelled e → EntryIsSpelled f → weight (entry_word e) ≡ weight (entry_word f) → entry_value e ≡ entry_value f → e ≡ f
by_word (Edit a x) (Edit b y) p q w h =
    let front = numbered (codes "edit") a b _ _ h in
    let edit = edits_same x y p q (first_same (edit_object x) (edit_object y) [] [] front.1).0 in
    λ i. Edit (front.0 i) (edit i)
by_word (Frame a) (Frame b) p q w h = ap Frame (numbered (codes "frame") a b [] [] h).0
by_word (Settled a t x) (Settled b u y) p q w h =
    let front = numbered (codes "settled") a b _ _ h in
    let tickets = first_number t u (answer_items x) (answer_items y) front.1 in
    let answer = answers_same x y tickets.1 in
    λ i. Settled (front.0 i) (tickets.0 i) (answer i)
by_word (Late a t) (Late b u) p q w h =
    let front = numbered (codes "late") a b _ _ h in
    let tickets = first_number t u [] [] front.1 in
    λ i. Late (front.0 i) (tickets.0 i)
by_word (Loaded t x) (Loaded u y) p q w h =
    let front = numbered (codes "loaded") t u _ _ h in
    let answer = answers_same x y front.1 in
    λ i. Loaded (front.0 i) (answer i)
by_word (Refused a r x) (Refused b s y) p q w h =
    let front = numbered (codes "refused") a b _ _ h in
    let reasons = first_number (refusal_number r) (refusal_number s) _ _ front.1 in
    let names = first_text (refusal_name r) (refusal_name s) _ _ reasons.1 in
    let reason = reasons_same r s reasons.0 in
    let event = events_same x y p q (first_same (event_object x) (event_object y) [] [] names.1).0 in
    λ i. Refused (front.0 i) (reason i) (event i)
by_word (Rest a) (Rest b) p q w h = ap Rest (numbered (codes "rest") a b [] [] h).0
by_word (Dispose a) (Dispose b) p q w h = ap Dispose (numbered (codes "dispose") a b [] [] h).0
by_word (Pending v d) (Pending u c) p q w h =
    let front = numbered (codes "pending") v u _ _ h in
    let disposed = same_list d c (first_same (V.List d) (V.List c) [] [] front.1).0 in
    λ i. Pending (front.0 i) (disposed i)
by_word (Fulfilled v x) (Fulfilled u y) p q w h =
    let front = numbered (codes "fulfilled") v u _ _ h in
    let shown = (first_same x y [] [] front.1).0 in
    λ i. Fulfilled (front.0 i) (shown i)
by_word (Rejected v x) (Rejected u y) p q w h =
    let front = numbered (codes "rejected") v u _ _ h in
    let error = errors_same x y front.1 in
    λ i. Rejected (front.0 i) (error i)
by_word (Asked v t k) (Asked u s l) p q w h =
    let front = numbered (codes "asked") v u _ _ h in
    let tickets = first_number t s _ _ front.1 in
    let keys = first_text k l [] [] tickets.1 in
    λ i. Asked (front.0 i) (tickets.0 i) (keys.0 i)
by_word (Ended v) (Ended u) p q w h = ap Ended (numbered (codes "ended") v u [] [] h).0
by_word (Left v d) (Left u c) p q w h =
    let front = numbered (codes "left") v u _ _ h in
    let disposed = same_list d c (first_same (V.List d) (V.List c) [] [] front.1).0 in
    λ i. Left (front.0 i) (disposed i)
by_word e f p q w h = absurd (omega arith)

-- Entries whose cells a text spells are one where their arrays are.
pub entries_same : (e f : Entry) → EntryIsSpelled e → EntryIsSpelled f → entry_value e ≡ entry_value f → e ≡ f
entries_same e f p q h = by_word e f p q (ap weight (sym (entry_says e) ∙ ap word_of h ∙ entry_says f)) h
