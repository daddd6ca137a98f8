-- The object of an edit, and of an event, is of one.
use Rattle.std.proofs.Common.{◌≡◌, ◌∙◌, ℕ, ◌==◌, Bool, List, [], ◌∷◌, map, length, cond, refl, sym, ap, subst, arith, codes, true, false, ◌+◌, ◌*◌, ◌||◌}
use Rattle.std.proofs.lemmas.Bool.{true≢false}
use Rattle.nb_value.specs.declared.value.Value.{Value}
use Rattle.nb_value.specs.declared.value.Value.TheVariants as V
use Rattle.nb_value.specs.declared.value.Value.TheViews as values
use Rattle.nb_value.specs.declared.value.Value.TheViews.{out-Value}
use Rattle.nb_value.specs.declared.value.Value.TheOpen.{Value-F}
use Rattle.nb_value.specs.declared.pairs.Field.{Field}
use Rattle.nb_value.specs.declared.outcome.Answer.{Answer}
use Rattle.nb_value.specs.declared.outcome.Answer.TheVariants.{Value as Given, Failure}
use Rattle.nb_syntax.specs.declared.tree.Cell.{Cell}
use Rattle.nb_syntax.specs.Print.{cell_text}
use Rattle.nb_sheet.specs.declared.edit.Edit.{Edit}
use Rattle.nb_sheet.specs.declared.edit.Edit.TheVariants.{AddModule, AddVariable, AddCell, Define, Import, Delete, Redefine, Derive}
use Rattle.nb_sheet.specs.declared.edit.Specifier.{Specifier}
use Rattle.nb_log.specs.declared.event.Target.{Target}
use Rattle.nb_log.specs.declared.event.Target.TheVariants.{Ticket, Key}
use Rattle.nb_log.specs.declared.event.Event.{Event}
use Rattle.nb_log.specs.declared.event.Event.TheVariants as event
use Rattle.nb_log.specs.Printing.{Name, field, number, specifier_object, edit_object, settle_fields, event_object}
use Rattle.nb_parser.specs.Parse.{Parses}
use Rattle.nb_parser.proofs.CellLaws.{one_cell}
use Rattle.nb_parser.proofs.PrintedCell.{printed_parses}
use Rattle.nb_print.specs.Law.{IsSpelled, EditIsSpelled, EventIsSpelled}
use Rattle.nb_print.proofs.ValueParts.{same_fields, same_list, first_same, first_field, field_text, field_number, field_bool, text_in, weight}

-- ---- cells

-- Cells that a text spells are one where they are printed as one.
pub cells_same : (c d : Cell) → IsSpelled c → IsSpelled d → cell_text c ≡ cell_text d → c ≡ d
cells_same c d p q e = one_cell (cell_text d) c d (subst (λ (t : List ℕ). Parses t c) e (printed_parses p.0 c p.1)) (printed_parses q.0 d q.1)

-- ---- what an object says is done

-- the text of the field whose name has two bytes, which is `do`
done_in : List (Field Value) → List ℕ
done_in [] = []
done_in (f ∷ fs) = cond (length f.name == 2) (text_in (out-Value f.value)) (done_in fs)

abbrev edit_word : Edit → List ℕ
edit_word AddModule = codes "module"
edit_word (AddVariable m observed) = codes "variable"
edit_word (AddCell m c observed) = codes "cell"
edit_word (Define v c) = codes "define"
edit_word (Import v name alias from) = codes "import"
edit_word (Delete v) = codes "delete"
edit_word (Redefine m c) = codes "redefine"
edit_word (Derive m specifiers source) = codes "derive"

abbrev event_word : Event → List ℕ
event_word (event.Edit e) = edit_word e
event_word event.Frame = codes "frame"
event_word (event.Settle target answer) = codes "settle"
event_word event.Rest = codes "rest"
event_word event.Dispose = codes "dispose"

fields_in : Value-F Value → List (Field Value)
fields_in (Value-F.Rec fs) = fs
fields_in x = []

abbrev done_of : Value → List ℕ
done_of v = done_in (fields_in (out-Value v))

done_first : (word : List ℕ) (fs : List (Field Value)) → done_of (V.Rec (field (codes "do") (V.Text word) ∷ fs)) ≡ word
unfolding done_in fields_in
done_first word fs =
    ap (λ (x : Value-F Value). done_in (fields_in x)) (values.outs-Rec (field (codes "do") (V.Text word) ∷ fs)) ∙ ap text_in (values.outs-Text word)

done_second : (name : Name) (x : Value) (word : List ℕ) (fs : List (Field Value)) → (length name == 2) ≡ false → done_of (V.Rec (field name x ∷ field (codes "do") (V.Text word) ∷ fs)) ≡ word
unfolding done_in fields_in
done_second name x word fs other =
    ap (λ (y : Value-F Value). done_in (fields_in y)) (values.outs-Rec (field name x ∷ field (codes "do") (V.Text word) ∷ fs))
    ∙ ap (λ (b : Bool). cond b (text_in (out-Value x)) (text_in (out-Value (V.Text word)))) other ∙ ap text_in (values.outs-Text word)

edit_says : (e : Edit) → done_of (edit_object e) ≡ edit_word e
edit_says AddModule = done_first (codes "module") _
edit_says (AddVariable m observed) = done_first (codes "variable") _
edit_says (AddCell m c observed) = done_second (codes "cell") _ (codes "cell") _ refl
edit_says (Define v c) = done_second (codes "cell") _ (codes "define") _ refl
edit_says (Import v name alias from) = done_second (codes "alias") _ (codes "import") _ refl
edit_says (Delete v) = done_first (codes "delete") _
edit_says (Redefine m c) = done_second (codes "cell") _ (codes "redefine") _ refl
edit_says (Derive m specifiers source) = done_first (codes "derive") _

event_says : (e : Event) → done_of (event_object e) ≡ event_word e
event_says (event.Edit e) = edit_says e
event_says event.Frame = done_first (codes "frame") _
event_says (event.Settle (Ticket t) (Given x)) = done_first (codes "settle") _
event_says (event.Settle (Ticket t) (Failure why)) = done_first (codes "settle") _
event_says (event.Settle (Key k) (Given x)) = done_first (codes "settle") _
event_says (event.Settle (Key k) (Failure why)) = done_first (codes "settle") _
event_says event.Rest = done_first (codes "rest") _
event_says event.Dispose = done_first (codes "dispose") _

-- ---- specifiers

specifier_same : (s t : Specifier) → specifier_object s ≡ specifier_object t → s ≡ t
specifier_same s t e =
    let alias = field_text (codes "alias") (codes "alias") s.alias t.alias _ _ (same_fields _ _ e) in
    let name = field_text (codes "name") (codes "name") s.name t.name _ _ alias.1 in
    λ i. record { name = name.0 i; alias = alias.0 i }

specifiers_same : (ss ts : List Specifier) → map specifier_object ss ≡ map specifier_object ts → ss ≡ ts
specifiers_same [] [] e = refl
specifiers_same [] (t ∷ ts) e = absurd (cc)
specifiers_same (s ∷ ss) [] e = absurd (cc)
specifiers_same (s ∷ ss) (t ∷ ts) e =
    let both = first_same (specifier_object s) (specifier_object t) (map specifier_object ss) (map specifier_object ts) e in
    λ i. specifier_same s t both.0 i ∷ specifiers_same ss ts both.1 i

-- ---- edits

module_same : (word : List ℕ) (m n : ℕ) (fs gs : List (Field Value)) → V.Rec (field (codes "do") (V.Text word) ∷ field (codes "module") (number m) ∷ fs) ≡ V.Rec (field (codes "do") (V.Text word) ∷ field (codes "module") (number n) ∷ gs)
    → (m ≡ n) × (fs ≡ gs)
module_same word m n fs gs e = field_number (codes "module") (codes "module") m n fs gs (first_field (codes "do") (codes "do") (V.Text word) (V.Text word) _ _ (same_fields _ _ e)).1

-- the cell in front of an object, and the rest behind what is done
cell_same : (word : List ℕ) (c d : Cell) (fs gs : List (Field Value)) → IsSpelled c → IsSpelled d
    → V.Rec (field (codes "cell") (V.Text (cell_text c)) ∷ field (codes "do") (V.Text word) ∷ fs) ≡ V.Rec (field (codes "cell") (V.Text (cell_text d)) ∷ field (codes "do") (V.Text word) ∷ gs)
    → (c ≡ d) × (fs ≡ gs)
cell_same word c d fs gs p q e =
    let front = field_text (codes "cell") (codes "cell") (cell_text c) (cell_text d) _ _ (same_fields _ _ e) in
    (cells_same c d p q front.0, (first_field (codes "do") (codes "do") (V.Text word) (V.Text word) fs gs front.1).1)

edits_by_word : (e f : Edit) → EditIsSpelled e → EditIsSpelled f → weight (edit_word e) ≡ weight (edit_word f) → edit_object e ≡ edit_object f → e ≡ f
edits_by_word AddModule AddModule p q w h = refl
edits_by_word (AddVariable m x) (AddVariable n y) p q w h =
    let modules = module_same (codes "variable") m n _ _ h in
    let observed = field_bool (codes "observed") (codes "observed") x y [] [] modules.1 in
    λ i. AddVariable (modules.0 i) (observed.0 i)
edits_by_word (AddCell m c x) (AddCell n d y) p q w h =
    let cells = cell_same (codes "cell") c d _ _ p q h in
    let modules = field_number (codes "module") (codes "module") m n _ _ cells.1 in
    let observed = field_bool (codes "observed") (codes "observed") x y [] [] modules.1 in
    λ i. AddCell (modules.0 i) (cells.0 i) (observed.0 i)
edits_by_word (Define v c) (Define u d) p q w h =
    let cells = cell_same (codes "define") c d _ _ p q h in
    let variables = field_number (codes "variable") (codes "variable") v u [] [] cells.1 in
    λ i. Define (variables.0 i) (cells.0 i)
edits_by_word (Import v name alias from) (Import u other nick source) p q w h =
    let aliases = field_text (codes "alias") (codes "alias") alias nick _ _ (same_fields _ _ h) in
    let sources = field_number (codes "from") (codes "from") from source _ _ (first_field (codes "do") (codes "do") (V.Text (codes "import")) (V.Text (codes "import")) _ _ aliases.1).1 in
    let names = field_text (codes "name") (codes "name") name other _ _ sources.1 in
    let variables = field_number (codes "variable") (codes "variable") v u [] [] names.1 in
    λ i. Import (variables.0 i) (names.0 i) (aliases.0 i) (sources.0 i)
edits_by_word (Delete v) (Delete u) p q w h =
    let variables = field_number (codes "variable") (codes "variable") v u [] [] (first_field (codes "do") (codes "do") (V.Text (codes "delete")) (V.Text (codes "delete")) _ _ (same_fields _ _ h)).1 in
    ap Delete variables.0
edits_by_word (Redefine m c) (Redefine n d) p q w h =
    let cells = cell_same (codes "redefine") c d _ _ p q h in
    let modules = field_number (codes "module") (codes "module") m n [] [] cells.1 in
    λ i. Redefine (modules.0 i) (cells.0 i)
edits_by_word (Derive m ss source) (Derive n ts other) p q w h =
    let modules = module_same (codes "derive") m n _ _ h in
    let sources = field_number (codes "source") (codes "source") source other _ _ modules.1 in
    let lists = first_field (codes "with") (codes "with") (V.List (map specifier_object ss)) (V.List (map specifier_object ts)) [] [] sources.1 in
    let specifiers = specifiers_same ss ts (same_list _ _ lists.0) in
    λ i. Derive (modules.0 i) (specifiers i) (sources.0 i)
edits_by_word e f p q w h = absurd (omega arith)

-- Edits whose cells a text spells are one where their objects are.
pub edits_same : (e f : Edit) → EditIsSpelled e → EditIsSpelled f → edit_object e ≡ edit_object f → e ≡ f
edits_same e f p q h = edits_by_word e f p q (ap weight (sym (edit_says e) ∙ ap done_of h ∙ edit_says f)) h

-- ---- events

-- which fields a settlement has
names_weight : List (Field Value) → ℕ
names_weight [] = 0
names_weight (f ∷ fs) = length f.name + 2 * names_weight fs

targets_apart : (t : ℕ) (k : Name) (a b : Answer) → names_weight (settle_fields (Ticket t) a) ≡ names_weight (settle_fields (Key k) b) → ⊥
unfolding names_weight
targets_apart t k (Given x) (Given y) w = omega arith
targets_apart t k (Given x) (Failure b) w = omega arith
targets_apart t k (Failure a) (Given y) w = omega arith
targets_apart t k (Failure a) (Failure b) w = omega arith

settled_same : (t u : Target) (a b : Answer) → names_weight (settle_fields t a) ≡ names_weight (settle_fields u b) → settle_fields t a ≡ settle_fields u b → (t ≡ u) × (a ≡ b)
unfolding names_weight
settled_same (Ticket t) (Ticket u) (Given x) (Given y) w h =
    let tickets = field_number (codes "ticket") (codes "ticket") t u _ _ (first_field (codes "do") (codes "do") (V.Text (codes "settle")) (V.Text (codes "settle")) _ _ h).1 in
    (ap Ticket tickets.0, ap Given (first_field (codes "value") (codes "value") x y [] [] tickets.1).0)
settled_same (Ticket t) (Ticket u) (Failure a) (Failure b) w h =
    let errors = field_text (codes "error") (codes "error") a b _ _ (first_field (codes "do") (codes "do") (V.Text (codes "settle")) (V.Text (codes "settle")) _ _ h).1 in
    (ap Ticket (field_number (codes "ticket") (codes "ticket") t u [] [] errors.1).0, ap Failure errors.0)
settled_same (Key k) (Key l) (Given x) (Given y) w h =
    let keys = field_text (codes "key") (codes "key") k l _ _ (first_field (codes "do") (codes "do") (V.Text (codes "settle")) (V.Text (codes "settle")) _ _ h).1 in
    (ap Key keys.0, ap Given (first_field (codes "value") (codes "value") x y [] [] keys.1).0)
settled_same (Key k) (Key l) (Failure a) (Failure b) w h =
    let errors = field_text (codes "error") (codes "error") a b _ _ (first_field (codes "do") (codes "do") (V.Text (codes "settle")) (V.Text (codes "settle")) _ _ h).1 in
    (ap Key (field_text (codes "key") (codes "key") k l [] [] errors.1).0, ap Failure errors.0)
settled_same (Ticket t) (Key k) a b w h = absurd (targets_apart t k a b w)
settled_same (Key k) (Ticket t) a b w h = absurd (targets_apart t k b a (sym w))
settled_same t u a b w h = absurd (omega arith)

is_edit : Event → Bool
is_edit (event.Edit e) = true
is_edit e = false

-- the weight of a word of the events that are no edits
is_other : ℕ → Bool
is_other n = (n == weight (codes "frame")) || (n == weight (codes "settle")) || (n == weight (codes "rest")) || (n == weight (codes "dispose"))

edit_is_none : (e : Edit) → is_other (weight (edit_word e)) ≡ false
unfolding is_other
edit_is_none AddModule = refl
edit_is_none (AddVariable m observed) = refl
edit_is_none (AddCell m c observed) = refl
edit_is_none (Define v c) = refl
edit_is_none (Import v name alias from) = refl
edit_is_none (Delete v) = refl
edit_is_none (Redefine m c) = refl
edit_is_none (Derive m specifiers source) = refl

-- no edit has the word of an event that is no edit
edit_apart : (e : Edit) (f : Event) → is_edit f ≡ false → weight (edit_word e) ≡ weight (event_word f) → ⊥
unfolding is_edit is_other
edit_apart e (event.Edit f) n w = true≢false n
edit_apart e f n w = true≢false (ap is_other (sym w) ∙ edit_is_none e)

events_by_word : (e f : Event) → EventIsSpelled e → EventIsSpelled f → weight (event_word e) ≡ weight (event_word f) → event_object e ≡ event_object f → e ≡ f
unfolding is_edit
events_by_word (event.Edit e) (event.Edit f) p q w h = ap event.Edit (edits_same e f p q h)
events_by_word event.Frame event.Frame p q w h = refl
events_by_word (event.Settle t a) (event.Settle u b) p q w h =
    let fields = same_fields (settle_fields t a) (settle_fields u b) h in
    let both = settled_same t u a b (ap names_weight fields) fields in
    λ i. event.Settle (both.0 i) (both.1 i)
events_by_word event.Rest event.Rest p q w h = refl
events_by_word event.Dispose event.Dispose p q w h = refl
events_by_word (event.Edit e) f p q w h = absurd (edit_apart e f refl w)
events_by_word e (event.Edit f) p q w h = absurd (edit_apart f e refl (sym w))
events_by_word e f p q w h = absurd (omega arith)

-- Events whose cells a text spells are one where their objects are.
pub events_same : (e f : Event) → EventIsSpelled e → EventIsSpelled f → event_object e ≡ event_object f → e ≡ f
events_same e f p q h = events_by_word e f p q (ap weight (sym (event_says e) ∙ ap done_of h ∙ event_says f)) h
