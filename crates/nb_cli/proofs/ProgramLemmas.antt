-- What a parse of the program's words comes to.
use Rattle.std.proofs.Common.{◌≡◌, ◌⊎◌, ◌∙◌, ◌++◌, ◌&&◌, ◌||◌, ℕ, Bool, true, false, not, cond, List, [], ◌∷◌, Option, Some, None, refl, sym, subst, ap, ap₂, inl, inr, codes, is_some}
use Rattle.std.specs.Prelude.{◌==◌, fold, option_map, option_and_then}
use Rattle.std.specs.Str.{bytes_eq}
use Rattle.std.specs.List.{list_all}
use Rattle.std.proofs.lemmas.List.{append-nil, append_assoc}
use Rattle.std.proofs.lemmas.Slice.Eq.{bytes_eq-Decides}
use Rattle.clap.specs.Walk.{Text, Rule, Row, Held, Names, Walk, Waiting, Step, settled, finished, walked, walk, walk_from, nothing_held, to_positional, arg_by_index}
use Rattle.clap.specs.Walk.{idle, value, trailing, after_step, word_met, long_or_other, short_or_plain, subcommand_met, subcommand_or_other, first_of, rows_of}
use Rattle.std.specs.Option.{option_map_or}
use Rattle.clap.specs.Lexer.{long_of, short_of}
use Rattle.clap.specs.Simple.{is_simple, app_of, app_of_fields, on_top, new_app, with_subcommand, subcommand_rows, subcommand_rows_of, App, Shape, built, built_leaf, inherited, names_of, entered, rows_at, subcommand_of}
use Rattle.clap.specs.Kinds.{Kinds, or_else, HasKind}
use Rattle.clap.specs.Values.{kind_of}
use Rattle.clap.specs.declared.builder.command.Command.{Command as Clap}
use Rattle.clap.specs.declared.builder.command.Command.TheViews.{out-Command as fields_of}
use Rattle.clap.specs.declared.error.Error.{Error}
use Rattle.clap.specs.declared.error.kind.ErrorKind.{ErrorKind}
use Rattle.clap.specs.declared.error.kind.ErrorKind.TheVariants as kind
use Rattle.clap.specs.declared.parser.matches.ArgMatches.{ArgMatches}
use Rattle.clap.specs.declared.parser.matches.ArgMatches.TheViews.{out-SubCommand}
use Rattle.clap.specs.declared.parser.matches.SubCommand.{SubCommand}
use Rattle.std.specs.Prelude.{Box, Result, Ok, Err}
use Rattle.std.specs.Box.{box_value}
use Rattle.nb_cli.specs.declared.command.Command.{Command}
use Rattle.nb_cli.specs.declared.command.WordsFail.{WordsFail}
use Rattle.nb_cli.specs.declared.command.WordsFail.TheVariants.{Usage, Memory}
use Rattle.clap.specs.Faults.{word_fault, other_fault, flag_word_fault, bundle_fault, level_fault, walk_fault, turn_fault, step_fault, entered_fault, settle_fault, defaults_fault, check_fault, fault_of, is_simple_and_free}
use Rattle.clap.proofs.FaultLemmas.{stopped_fault}
use Rattle.clap.proofs.OnLiterals.{clap_on_literals}
use Rattle.nb_cli.specs.Command.{is_word, run, workers, make, upgrade, named, command, Reads}
use Rattle.nb_cli.specs.Program.{bare, Finds, fail_by, command_by, program, run_words, workers_words, make_words, upgrade_words, Parts, parts_of, parts_in, run_parts, workers_parts, make_parts, upgrade_parts}

-- the program is one whose parses are known
pub known : is_simple_and_free program ≡ true
unfolding clap_on_literals
known = refl

pub simple : is_simple program ≡ true
unfolding clap_on_literals
simple = refl

left_empty : (a b : Kinds) → or_else a b ≡ [] → a ≡ []
left_empty [] b e = refl
left_empty (k ∷ ks) b e = e

right_empty : (a b : Kinds) → or_else a b ≡ [] → b ≡ []
right_empty [] b e = e
right_empty (k ∷ ks) b e = cc

-- ---- the words of a subcommand

-- where the walk stands in a subcommand, before the text at a place
abbrev at : ℕ → Held → Walk
at place h = record { held = h; waiting = idle; position = place; is_trailing = false; stopped = None }

-- the text goes to its place
abbrev put : Shape → ℕ → Text → Held → Walk
put s place word h = to_positional s.rules (arg_by_index s.rules place) word (at place h) h

-- a word is no `--`, no long option and no short one
record IsText (word : Text) : Type 0 where
  dashes : bytes_eq word (45 ∷ 45 ∷ []) ≡ false
  long : long_of word ≡ None
  short : short_of word ≡ None

text_of : (word : Text) → is_word word ≡ true → IsText word
text_of [] e = cc
text_of (byte ∷ bytes) e = go (byte == 45) refl e
  where
    go : (b : Bool) → (byte == 45) ≡ b → not b ≡ true → IsText (byte ∷ bytes)
    go true same e = cc
    go false same e = record { dashes = rw same refl; long = rw same refl; short = rw same refl }

word_is : (rules : List Rule) (place : ℕ) (h : Held) (word : Text) → IsText word
    → word_met rules [] false idle place word h ≡ (h, value)
word_is rules place h word t =
    ap (λ b. cond b (h, trailing place) (long_or_other rules idle word (long_of word) h)) t.dashes
    ∙ ap (λ (o : Option (Text × Option Text)). long_or_other rules idle word o h) t.long
    ∙ ap (λ (o : Option Text). short_or_plain rules idle word o h) t.short

no_fault : (s : Shape) (h : Held) (word : Text) → IsText word → word_fault s [] false idle word h ≡ []
no_fault s h word t =
    ap (λ b. cond b [] (flag_word_fault s.rules s.args_override_self (long_of word) word h)) t.dashes
    ∙ ap (λ (o : Option (Text × Option Text)). flag_word_fault s.rules s.args_override_self o word h) t.long
    ∙ ap (λ (o : Option Text). option_map_or (λ flags. bundle_fault s.rules s.args_override_self flags h) o []) t.short

word_walked : (s : Shape) (place : ℕ) (h : Held) (word : Text) → is_word word ≡ true
    → walked s.rules [] (at place h) word ≡ put s place word h
unfolding walked
word_walked s place h word e =
    ap (λ (m : Held × Step). after_step s.rules word (at place h) m.0 m.1) (word_is s.rules place h word (text_of word e))

word_turn : (s : Shape) (place : ℕ) (h : Held) (word : Text) → is_word word ≡ true
    → turn_fault s [] (at place h) word ≡ step_fault s place h value
word_turn s place h word e =
    ap₂ (λ (k : Kinds) (m : Held × Step). or_else k (step_fault s place m.0 m.1)) (no_fault s h word (text_of word e)) (word_is s.rules place h word (text_of word e))

-- the fault of a subcommand's level, from where the walk ends and its own fault
abbrev level_from : Shape → Walk → Kinds → Kinds
level_from s w k =
    or_else k (or_else [] (or_else (settle_fault s.rules s.args_override_self w.held)
    (or_else (defaults_fault (settled s.rules w.held).rows s.rules) (check_fault s (finished s.rules w.held) false))))

abbrev level : Shape → List Text → Kinds
level s words = level_fault s [] nothing_held words false []

level_one : (s : Shape) (a : Text) → is_word a ≡ true
    → level s (a ∷ []) ≡ level_from s (put s 1 a nothing_held) (or_else (step_fault s 1 nothing_held value) [])
unfolding walk_fault
level_one s a e = ap₂ (λ (w : Walk) (t : Kinds). level_from s w (or_else t [])) (word_walked s 1 nothing_held a e) (word_turn s 1 nothing_held a e)

level_two : (s : Shape) (h : Held) (a b : Text) → is_word a ≡ true → is_word b ≡ true → put s 1 a nothing_held ≡ at 2 h
    → level s (a ∷ b ∷ []) ≡ level_from s (put s 2 b h) (or_else (step_fault s 1 nothing_held value) (or_else (step_fault s 2 h value) []))
unfolding walk_fault
level_two s h a b e f same =
    ap₂ (λ (w : Walk) (t : Kinds). level_from s (walked s.rules [] w b) (or_else t (or_else (turn_fault s [] w b) [])))
    (word_walked s 1 nothing_held a e ∙ same) (word_turn s 1 nothing_held a e)
    ∙ ap₂ (λ (w : Walk) (t : Kinds). level_from s w (or_else (step_fault s 1 nothing_held value) (or_else t [])))
    (word_walked s 2 h b f) (word_turn s 2 h b f)

-- a second word has a place, and a third
has_second : (s : Shape) (h : Held) (a b : Text) (more : List Text) → is_word a ≡ true → is_word b ≡ true → put s 1 a nothing_held ≡ at 2 h
    → level s (a ∷ b ∷ more) ≡ [] → step_fault s 2 h value ≡ []
unfolding walk_fault
has_second s h a b more e f same none =
    sym (ap (λ (w : Walk). turn_fault s [] w b) (word_walked s 1 nothing_held a e ∙ same) ∙ word_turn s 2 h b f)
    ∙ left_empty _ _ (right_empty (turn_fault s [] (at 1 nothing_held) a) _ (left_empty _ _ none))

has_third : (s : Shape) (h i : Held) (a b c : Text) (more : List Text) → is_word a ≡ true → is_word b ≡ true → is_word c ≡ true
    → put s 1 a nothing_held ≡ at 2 h → put s 2 b h ≡ at 3 i
    → level s (a ∷ b ∷ c ∷ more) ≡ [] → step_fault s 3 i value ≡ []
unfolding walk_fault
has_third s h i a b c more e f g same next none =
    let first : walked s.rules [] (at 1 nothing_held) a ≡ at 2 h = word_walked s 1 nothing_held a e ∙ same in
    let second : walked s.rules [] (walked s.rules [] (at 1 nothing_held) a) b ≡ at 3 i =
    ap (λ (w : Walk). walked s.rules [] w b) first ∙ word_walked s 2 h b f ∙ next in
    sym (ap (λ (w : Walk). turn_fault s [] w c) second ∙ word_turn s 3 i c g)
    ∙ left_empty _ _ (right_empty (turn_fault s [] (walked s.rules [] (at 1 nothing_held) a) b) _ (right_empty (turn_fault s [] (at 1 nothing_held) a) _ (left_empty _ _ none)))

abbrev parts_from : Shape → Walk → Option Parts
parts_from s w = parts_in (Some (s.name, finished s.rules w.held))

parts_one : (s : Shape) (a : Text) → is_word a ≡ true → parts_in (Some (rows_at s (a ∷ []))) ≡ parts_from s (put s 1 a nothing_held)
parts_one s a e = ap (parts_from s) (word_walked s 1 nothing_held a e)

parts_two : (s : Shape) (h : Held) (a b : Text) → is_word a ≡ true → is_word b ≡ true → put s 1 a nothing_held ≡ at 2 h
    → parts_in (Some (rows_at s (a ∷ b ∷ []))) ≡ parts_from s (put s 2 b h)
parts_two s h a b e f same =
    ap (λ (w : Walk). parts_from s (walked s.rules [] w b)) (word_walked s 1 nothing_held a e ∙ same)
    ∙ ap (parts_from s) (word_walked s 2 h b f)

-- ---- the word that names a subcommand

-- the words after it are the subcommand's
stopped_walk : (rules : List Rule) (names : Names) (w : Walk) (name : Text) (before rest : List Text)
    → fold (walked rules names) (record w { stopped = Some (name, before) }) rest ≡ record w { stopped = Some (name, before ++ rest) }
unfolding walked
stopped_walk rules names w name before [] = ap (λ (l : List Text). record w { stopped = Some (name, l) }) (sym (append-nil before))
stopped_walk rules names w name before (x ∷ xs) =
    stopped_walk rules names w name (before ++ x ∷ []) xs ∙ ap (λ (l : List Text). record w { stopped = Some (name, l) }) (append_assoc before (x ∷ []) xs)

abbrev whole : App
whole = built program

-- a subcommand's leaf of the built program
abbrev leaf : App → Shape
leaf a = built_leaf (inherited whole.top a.top)

abbrev named_at : Text → List Text → Walk
named_at name rest = record (walk_from nothing_held) { stopped = Some (name, rest) }

abbrev fault_from : Walk → Kinds → Kinds
fault_from w k =
    or_else k (or_else (entered_fault whole w.stopped) (or_else (settle_fault whole.top.rules whole.top.args_override_self w.held)
    (or_else (defaults_fault (settled whole.top.rules w.held).rows whole.top.rules)
    (check_fault whole.top (finished whole.top.rules w.held) (is_some (entered whole w.stopped))))))

abbrev Enters : Text → App → List Text → Type 0
Enters name a rest = (fault_of program (name ∷ rest) ≡ or_else (level (leaf a) rest) [])
    × (subcommand_of program (name ∷ rest) ≡ Some (rows_at (leaf a) rest))

enters_run : (rest : List Text) → Enters (codes "run") run_words rest
unfolding clap_on_literals
enters_run rest =
    let met = stopped_walk whole.top.rules (names_of whole) (walk_from nothing_held) (codes "run") [] rest in (
      ap₂ fault_from met (stopped_fault whole.top (names_of whole) (walk_from nothing_held) (codes "run", []) rest),
      ap (λ (w : Walk). entered whole w.stopped) met,
    )

enters_workers : (rest : List Text) → Enters (codes "workers") workers_words rest
unfolding clap_on_literals
enters_workers rest =
    let met = stopped_walk whole.top.rules (names_of whole) (walk_from nothing_held) (codes "workers") [] rest in (
      ap₂ fault_from met (stopped_fault whole.top (names_of whole) (walk_from nothing_held) (codes "workers", []) rest),
      ap (λ (w : Walk). entered whole w.stopped) met,
    )

enters_make : (rest : List Text) → Enters (codes "make") make_words rest
unfolding clap_on_literals
enters_make rest =
    let met = stopped_walk whole.top.rules (names_of whole) (walk_from nothing_held) (codes "make") [] rest in (
      ap₂ fault_from met (stopped_fault whole.top (names_of whole) (walk_from nothing_held) (codes "make", []) rest),
      ap (λ (w : Walk). entered whole w.stopped) met,
    )

enters_upgrade : (rest : List Text) → Enters (codes "upgrade") upgrade_words rest
unfolding clap_on_literals
enters_upgrade rest =
    let met = stopped_walk whole.top.rules (names_of whole) (walk_from nothing_held) (codes "upgrade") [] rest in (
      ap₂ fault_from met (stopped_fault whole.top (names_of whole) (walk_from nothing_held) (codes "upgrade", []) rest),
      ap (λ (w : Walk). entered whole w.stopped) met,
    )

-- ---- what the words come to, name by name

not_empty : (k : ErrorKind) (ks : Kinds) → k ∷ ks ≡ [] → ⊥
not_empty k ks e = cc

both : (a b : Bool) → (a && b) ≡ true → (a ≡ true) × (b ≡ true)
both true b e = (refl, e)
both false b e = cc

abbrev Verdict : List Text → Option Parts → Type 0
Verdict words None = fault_of program words ≡ [] → ⊥
Verdict words (Some parts) = (fault_of program words ≡ []) × (parts_in (subcommand_of program words) ≡ Some parts)

abbrev first_held : Shape → Text → Held
first_held s a = (put s 1 a nothing_held).held

abbrev second_held : Shape → Text → Text → Held
second_held s a b = (put s 2 b (first_held s a)).held

run_verdict : (rest : List Text) → list_all is_word rest ≡ true → Verdict (codes "run" ∷ rest) (run_parts rest)
unfolding clap_on_literals
run_verdict [] e = ((enters_run []).0, ap parts_in (enters_run []).1)
run_verdict (a ∷ []) e =
    let s = leaf run_words in
    let words = both (is_word a) _ e in (
      (enters_run (a ∷ [])).0 ∙ ap (λ (k : Kinds). or_else k []) (level_one s a words.0),
      ap parts_in (enters_run (a ∷ [])).1 ∙ parts_one s a words.0,
    )
run_verdict (a ∷ b ∷ more) e = λ none.
    let s = leaf run_words in
    let words = both (is_word a) _ e in
    let second = both (is_word b) _ words.1 in
    not_empty kind.UnknownArgument [] (has_second s (first_held s a) a b more words.0 second.0 refl (left_empty (level s (a ∷ b ∷ more)) [] (sym (enters_run (a ∷ b ∷ more)).0 ∙ none)))

upgrade_verdict : (rest : List Text) → list_all is_word rest ≡ true → Verdict (codes "upgrade" ∷ rest) (upgrade_parts rest)
unfolding clap_on_literals
upgrade_verdict [] e = λ none. not_empty kind.MissingRequiredArgument [] (left_empty (level (leaf upgrade_words) []) [] (sym (enters_upgrade []).0 ∙ none))
upgrade_verdict (a ∷ []) e =
    let s = leaf upgrade_words in
    let words = both (is_word a) _ e in (
      (enters_upgrade (a ∷ [])).0 ∙ ap (λ (k : Kinds). or_else k []) (level_one s a words.0),
      ap parts_in (enters_upgrade (a ∷ [])).1 ∙ parts_one s a words.0,
    )
upgrade_verdict (a ∷ b ∷ more) e = λ none.
    let s = leaf upgrade_words in
    let words = both (is_word a) _ e in
    let second = both (is_word b) _ words.1 in
    not_empty kind.UnknownArgument [] (has_second s (first_held s a) a b more words.0 second.0 refl (left_empty (level s (a ∷ b ∷ more)) [] (sym (enters_upgrade (a ∷ b ∷ more)).0 ∙ none)))

workers_verdict : (rest : List Text) → list_all is_word rest ≡ true → Verdict (codes "workers" ∷ rest) (workers_parts rest)
unfolding clap_on_literals
workers_verdict [] e = λ none. not_empty kind.MissingRequiredArgument [] (left_empty (level (leaf workers_words) []) [] (sym (enters_workers []).0 ∙ none))
workers_verdict (a ∷ []) e =
    let s = leaf workers_words in
    let words = both (is_word a) _ e in (
      (enters_workers (a ∷ [])).0 ∙ ap (λ (k : Kinds). or_else k []) (level_one s a words.0),
      ap parts_in (enters_workers (a ∷ [])).1 ∙ parts_one s a words.0,
    )
workers_verdict (a ∷ b ∷ []) e =
    let s = leaf workers_words in
    let words = both (is_word a) _ e in
    let second = both (is_word b) _ words.1 in (
      (enters_workers (a ∷ b ∷ [])).0 ∙ ap (λ (k : Kinds). or_else k []) (level_two s (first_held s a) a b words.0 second.0 refl),
      ap parts_in (enters_workers (a ∷ b ∷ [])).1 ∙ parts_two s (first_held s a) a b words.0 second.0 refl,
    )
workers_verdict (a ∷ b ∷ c ∷ more) e = λ none.
    let s = leaf workers_words in
    let words = both (is_word a) _ e in
    let second = both (is_word b) _ words.1 in
    let third = both (is_word c) _ second.1 in
    not_empty kind.UnknownArgument [] (has_third s (first_held s a) (second_held s a b) a b c more words.0 second.0 third.0 refl refl (left_empty (level s (a ∷ b ∷ c ∷ more)) [] (sym (enters_workers (a ∷ b ∷ c ∷ more)).0 ∙ none)))

make_verdict : (rest : List Text) → list_all is_word rest ≡ true → Verdict (codes "make" ∷ rest) (make_parts rest)
unfolding clap_on_literals
make_verdict [] e = λ none. not_empty kind.MissingRequiredArgument [] (left_empty (level (leaf make_words) []) [] (sym (enters_make []).0 ∙ none))
make_verdict (a ∷ []) e = λ none.
    let s = leaf make_words in
    let words = both (is_word a) _ e in
    not_empty kind.MissingRequiredArgument [] (sym (level_one s a words.0) ∙ left_empty (level s (a ∷ [])) [] (sym (enters_make (a ∷ [])).0 ∙ none))
make_verdict (a ∷ b ∷ []) e =
    let s = leaf make_words in
    let words = both (is_word a) _ e in
    let second = both (is_word b) _ words.1 in (
      (enters_make (a ∷ b ∷ [])).0 ∙ ap (λ (k : Kinds). or_else k []) (level_two s (first_held s a) a b words.0 second.0 refl),
      ap parts_in (enters_make (a ∷ b ∷ [])).1 ∙ parts_two s (first_held s a) a b words.0 second.0 refl,
    )
make_verdict (a ∷ b ∷ c ∷ more) e = λ none.
    let s = leaf make_words in
    let words = both (is_word a) _ e in
    let second = both (is_word b) _ words.1 in
    let third = both (is_word c) _ second.1 in
    not_empty kind.UnknownArgument [] (has_third s (first_held s a) (second_held s a b) a b c more words.0 second.0 third.0 refl refl (left_empty (level s (a ∷ b ∷ c ∷ more)) [] (sym (enters_make (a ∷ b ∷ c ∷ more)).0 ∙ none)))

-- ---- a word that names none

abbrev label : Text → Text × List Text
label name = (name, [])

-- the subcommand met, by the tests of the four names
abbrev met_by : Bool → Bool → Bool → Bool → Option Text
met_by a b c d = option_map (λ (s : Text × List Text). s.0)
    (cond (a || false) (Some (label (codes "run"))) (cond (b || false) (Some (label (codes "workers")))
    (cond (c || false) (Some (label (codes "make"))) (cond (d || false) (Some (label (codes "upgrade"))) None))))

none_met : (name : Text) → bytes_eq (codes "run") name ≡ false → bytes_eq (codes "workers") name ≡ false → bytes_eq (codes "make") name ≡ false
    → bytes_eq (codes "upgrade") name ≡ false → subcommand_met (names_of whole) idle name ≡ None
none_met name e f g h =
    ap (λ b. met_by b (bytes_eq (codes "workers") name) (bytes_eq (codes "make") name) (bytes_eq (codes "upgrade") name)) e
    ∙ ap (λ b. met_by false b (bytes_eq (codes "make") name) (bytes_eq (codes "upgrade") name)) f
    ∙ ap (λ b. met_by false false b (bytes_eq (codes "upgrade") name)) g
    ∙ ap (met_by false false false) h

stray_turn : (name : Text) → is_word name ≡ true → subcommand_met (names_of whole) idle name ≡ None
    → turn_fault whole.top (names_of whole) (walk_from nothing_held) name ≡ kind.UnknownArgument ∷ kind.InvalidSubcommand ∷ []
stray_turn name e none =
    ap (λ (o : Option Text). or_else (other_fault whole.top o name nothing_held)
    (step_fault whole.top 1 (subcommand_or_other whole.top.rules o idle 1 name nothing_held).0 (subcommand_or_other whole.top.rules o idle 1 name nothing_held).1)) none
    ∙ word_turn whole.top 1 nothing_held name e

other_verdict : (name : Text) (rest : List Text) → is_word name ≡ true → subcommand_met (names_of whole) idle name ≡ None
    → fault_of program (name ∷ rest) ≡ [] → ⊥
unfolding walk_fault
other_verdict name rest e met none =
    not_empty kind.UnknownArgument (kind.InvalidSubcommand ∷ []) (sym (stray_turn name e met)
    ∙ left_empty (turn_fault whole.top (names_of whole) (walk_from nothing_held) name) _
    (left_empty (walk_fault whole.top (names_of whole) (walk_from nothing_held) (name ∷ rest)) _ none))

other_name : (x y : Text) → bytes_eq x y ≡ false → bytes_eq y x ≡ false
other_name x y e = go (bytes_eq y x) refl
  where
    go : (b : Bool) → bytes_eq y x ≡ b → bytes_eq y x ≡ false
    go true f =
        let same : bytes_eq x y ≡ true = (bytes_eq-Decides x y).1 (sym ((bytes_eq-Decides y x).0 f)) in
        cc
    go false f = f

verdict : (words : List Text) → list_all is_word words ≡ true → Verdict words (parts_of words)
unfolding clap_on_literals
verdict [] e = λ none. not_empty kind.MissingSubcommand [] none
verdict (name ∷ rest) e =
    go (both (is_word name) _ e) (bytes_eq name (codes "run")) (bytes_eq name (codes "workers")) (bytes_eq name (codes "make")) (bytes_eq name (codes "upgrade")) refl refl refl refl
  where
    go : (is_word name ≡ true) × (list_all is_word rest ≡ true) → (a b c d : Bool) → bytes_eq name (codes "run") ≡ a → bytes_eq name (codes "workers") ≡ b
        → bytes_eq name (codes "make") ≡ c → bytes_eq name (codes "upgrade") ≡ d
        → Verdict (name ∷ rest) (cond a (run_parts rest) (cond b (workers_parts rest) (cond c (make_parts rest) (cond d (upgrade_parts rest) None))))
    go w true b c d p q r s = subst (λ (n : Text). Verdict (n ∷ rest) (run_parts rest)) (sym ((bytes_eq-Decides name (codes "run")).0 p)) (run_verdict rest w.1)
    go w false true c d p q r s = subst (λ (n : Text). Verdict (n ∷ rest) (workers_parts rest)) (sym ((bytes_eq-Decides name (codes "workers")).0 q)) (workers_verdict rest w.1)
    go w false false true d p q r s = subst (λ (n : Text). Verdict (n ∷ rest) (make_parts rest)) (sym ((bytes_eq-Decides name (codes "make")).0 r)) (make_verdict rest w.1)
    go w false false false true p q r s = subst (λ (n : Text). Verdict (n ∷ rest) (upgrade_parts rest)) (sym ((bytes_eq-Decides name (codes "upgrade")).0 s)) (upgrade_verdict rest w.1)
    go w false false false false p q r s = other_verdict name rest w.0 (none_met name (other_name name _ p) (other_name name _ q) (other_name name _ r) (other_name name _ s))

-- ---- what a parse gives

pub found : (words : List Text) (m : ArgMatches) → list_all is_word words ≡ true → fault_of program words ≡ []
    → subcommand_rows_of m ≡ subcommand_of program words → Finds (parts_of words) (Ok m)
found words m e none same = go (parts_of words) refl (verdict words e)
  where
    go : (o : Option Parts) → parts_of words ≡ o → Verdict words o → Finds (parts_of words) (Ok m)
    go None p v = absurd (v none)
    go (Some x) p v = (x, p, ap parts_in same ∙ v.1)

any_fail : (x : WordsFail) → Finds None (Err x)
any_fail Usage = refl
any_fail Memory = tt

pub failed : (words : List Text) (error : Error) → list_all is_word words ≡ true → HasKind (fault_of program words) error
    → Finds (parts_of words) (Err (fail_by (kind_of error)))
failed words error e among = go (parts_of words) refl (verdict words e)
  where
    go : (o : Option Parts) → parts_of words ≡ o → Verdict words o → Finds (parts_of words) (Err (fail_by (kind_of error)))
    go None p v = subst (λ (o : Option Parts). Finds o (Err (fail_by (kind_of error)))) (sym p) (any_fail (fail_by (kind_of error)))
    go (Some x) p v = elim (subst (λ (k : Kinds). HasKind k error) v.0 among) [
      | inl memory ↦ subst (λ (k : ErrorKind). Finds (parts_of words) (Err (fail_by k))) (sym memory) tt
      | inr none ↦ absurd none
    ]

-- ---- the builder

pub is_bare : (a b c d e f : Clap) → app_of a ≡ new_app (codes "notebook") → fields_of b ≡ record (fields_of a) { no_binary_name = true }
    → fields_of c ≡ record (fields_of b) { disable_help_flag = true } → fields_of d ≡ record (fields_of c) { disable_help_subcommand = true }
    → fields_of e ≡ record (fields_of d) { disable_version_flag = true } → fields_of f ≡ record (fields_of e) { subcommand_required = true }
    → app_of f ≡ bare
is_bare a b c d e f new p q r s t =
    ap app_of_fields t ∙ ap (on_top (λ (x : Shape). record x { subcommand_required = true }))
    (ap app_of_fields s ∙ ap (on_top (λ (x : Shape). record x { disable_version_flag = true }))
    (ap app_of_fields r ∙ ap (on_top (λ (x : Shape). record x { disable_help_subcommand = true }))
    (ap app_of_fields q ∙ ap (on_top (λ (x : Shape). record x { disable_help_flag = true }))
    (ap app_of_fields p ∙ ap (on_top (λ (x : Shape). record x { no_binary_name = true })) new))))

-- ---- from what was found to the command

run_joined : (rest : List Text) → run rest ≡ option_and_then command_by (run_parts rest)
run_joined [] = refl
run_joined (a ∷ []) = refl
run_joined (a ∷ b ∷ more) = refl

workers_joined : (rest : List Text) → workers rest ≡ option_and_then command_by (workers_parts rest)
workers_joined [] = refl
workers_joined (a ∷ []) = refl
workers_joined (a ∷ b ∷ []) = refl
workers_joined (a ∷ b ∷ c ∷ more) = refl

make_joined : (rest : List Text) → make rest ≡ option_and_then command_by (make_parts rest)
make_joined [] = refl
make_joined (a ∷ []) = refl
make_joined (a ∷ b ∷ []) = refl
make_joined (a ∷ b ∷ c ∷ more) = refl

upgrade_joined : (rest : List Text) → upgrade rest ≡ option_and_then command_by (upgrade_parts rest)
upgrade_joined [] = refl
upgrade_joined (a ∷ []) = refl
upgrade_joined (a ∷ b ∷ more) = refl

joined : (words : List Text) → named words ≡ option_and_then command_by (parts_of words)
joined [] = refl
joined (name ∷ rest) = go (bytes_eq name (codes "run")) (bytes_eq name (codes "workers")) (bytes_eq name (codes "make")) (bytes_eq name (codes "upgrade"))
  where
    go : (a b c d : Bool) → cond a (run rest) (cond b (workers rest) (cond c (make rest) (cond d (upgrade rest) None)))
        ≡ option_and_then command_by (cond a (run_parts rest) (cond b (workers_parts rest) (cond c (make_parts rest) (cond d (upgrade_parts rest) None))))
    go true b c d = run_joined rest
    go false true c d = workers_joined rest
    go false false true d = make_joined rest
    go false false false true = upgrade_joined rest
    go false false false false = refl

-- of words that aren't empty and don't begin with a hyphen the command is that of their parts
pub command_of_parts : (words : List Text) → list_all is_word words ≡ true → command words ≡ option_and_then command_by (parts_of words)
command_of_parts words e = ap (λ b. cond b (named words) None) e ∙ joined words

inside : {A : Type 0} (a b : A) → Some a ≡ Some b → a ≡ b
inside a b e = cc

pub parts_named : {Z : Type 0} (o : Option (Box SubCommand Z)) (name : Text) (rows : List Row)
    → Some name ≡ option_map (λ b. (out-SubCommand (box_value b)).name.now) o → Some rows ≡ option_map (λ p. p.1) (subcommand_rows o)
    → parts_in (subcommand_rows o) ≡ parts_in (Some (name, rows))
parts_named None name rows e f = cc
parts_named (Some b) name rows e f = ap₂ (λ (n : Text) (r : List Row). parts_in (Some (n, r))) (inside _ _ (sym e)) (inside _ _ (sym f))

pub parts_read : (name : Text) (rows : List Row) (count seed file : Option Text) → count ≡ first_of (codes "count") rows → seed ≡ first_of (codes "seed") rows
    → file ≡ first_of (codes "file") rows → parts_in (Some (name, rows)) ≡ Some (record { name = name; count = count; seed = seed; file = file })
parts_read name rows count seed file e f g =
    let made : (x y z : Option Text) → Option Parts = λ x y z. Some (record { name = name; count = x; seed = y; file = z }) in
    sym (ap (λ x. made x seed file) e ∙ ap (λ y. made (first_of (codes "count") rows) y file) f ∙ ap (made (first_of (codes "count") rows) (first_of (codes "seed") rows)) g)

-- the parts that a parse found are the command's
pub command_read : (words : List Text) (m : ArgMatches) → list_all is_word words ≡ true → Finds (parts_of words) (Ok m)
    → command words ≡ option_and_then command_by (parts_in (subcommand_rows_of m))
command_read words m e finds = command_of_parts words e ∙ ap (option_and_then command_by) (finds.1 ∙ sym finds.2)

-- and why there is none
pub fail_read : (words : List Text) (fail : WordsFail) → list_all is_word words ≡ true → Finds (parts_of words) (Err fail) → Reads (command words) (Err fail)
fail_read words Usage e none = command_of_parts words e ∙ ap (option_and_then command_by) none
fail_read words Memory e none = tt

pub none_named : {Z : Type 0} (o : Option (Box SubCommand Z)) → false ≡ is_some o → parts_in (subcommand_rows o) ≡ None
none_named None e = refl
none_named (Some b) e = cc
