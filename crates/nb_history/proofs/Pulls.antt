-- A start is pulled at most once for each entry, and no more once the log is full.
use Rattle.std.proofs.Common.{inl, inr, ℕ, zero, suc, ◌≡◌, ◌⊎◌, ◌+◌, ◌≤◌, refl, arith, sym, ◌∙◌, ap, subst, Bool, true, false, not, ◌&&◌, nat_lt, List, [], ◌∷◌, length, Option, Some, None, is_some}
use Rattle.std.proofs.lemmas.Bool.{cases_Bool, false_from_ne_true, ltb-false}
use Rattle.nb_value.specs.declared.value.Value.{Value}
use Rattle.nb_value.specs.declared.pairs.Field.{Field}
use Rattle.nb_value.specs.declared.outcome.Outcome.TheVariants.{Value as Shows, Error as Fails}
use Rattle.nb_sheet.specs.Lists.{from_option, option_then, or_else}
use Rattle.nb_sheet.specs.Sheet.{edited_sheet}
use Rattle.nb_log.specs.declared.event.Event.{Event}
use Rattle.nb_log.specs.declared.entry.Refusal.TheVariants.{Disposed, LogFull}
use Rattle.nb_log.specs.declared.entry.Entry.{Entry}
use Rattle.nb_log.specs.declared.entry.Entry.TheVariants.{Edit as EditEntry, Frame, Settled, Late, Loaded, Refused, Rest, Dispose, Pending, Fulfilled, Rejected, Asked, Ended, Left}
use Rattle.nb_history.specs.Reading.{Reading, Start, start_of, is_full}
use Rattle.nb_history.specs.Rules.{footing, generates, body_of, pulls_of}
use Rattle.nb_history.specs.Log.{nothing_yet, after, reading, read_from, change_start, with_start, settle, ticket_var, answering, showing, asking, ending_now, new_start, pulled, shows_value, when, event_refusal, admitted, admit, Fits}
use Rattle.nb_history.specs.Quiet.{PullsAreFew}
use Rattle.nb_history.proofs.Histories.{legal_keeps}
use Rattle.nb_history.proofs.Lawful.{put_cases, one_more_entry}
use Rattle.nb_history.proofs.StartsAfter.{changed_part, start_pulled, start_sheet}
use Rattle.nb_history.proofs.Plus.{some_size, size_after, reading_entries}

abbrev pulls_in : Option Start → ℕ
pulls_in o = from_option 0 (λ (s : Start). s.pulls) o

abbrev IsFrame : Entry → Type 0
IsFrame e = (editor : ℕ) × (e ≡ Frame editor)

-- it has no more pulls than before, or one, or one more at a frame
abbrev Pulled : Reading → Entry → ℕ → Type 0
Pulled r e v = (pulls_of (after r e) v ≤ pulls_of r v) ⊎ ((pulls_of (after r e) v ≤ 1) ⊎ (IsFrame e × (pulls_of (after r e) v ≤ pulls_of r v + 1)))

same_le : (a b : ℕ) → a ≡ b → a ≤ b
same_le a b e = omega (arith, e)

keeps : (f : Start → Start) → ((s : Start) → (f s).pulls ≡ s.pulls) → (o : Option Start) → pulls_in (option_then o (λ s. Some (f s))) ≡ pulls_in o
keeps f h None = refl
keeps f h (Some s) = h s

changes : (r : Reading) (u v : ℕ) (f : Start → Start) → ((s : Start) → (f s).pulls ≡ s.pulls) → pulls_in (start_of (change_start r u f) v) ≤ pulls_in (start_of r v)
changes r u v f h = same_le (pulls_in (start_of (change_start r u f) v)) (pulls_in (start_of r v)) (changed_part pulls_in r u v f (keeps f h (start_of r u)))

puts : (r : Reading) (u v : ℕ) (o : Option Start) → pulls_in o ≤ 1 → (pulls_in (start_of (with_start r u o) v) ≤ pulls_in (start_of r v)) ⊎ (pulls_in (start_of (with_start r u o) v) ≤ 1)
puts r u v o h =
    elim (put_cases r u o v) [
      | inl same ↦ inl (same_le (pulls_in (start_of (with_start r u o) v)) (pulls_in (start_of r v)) (ap pulls_in same))
      | inr p ↦ inr (omega (arith, h, ap pulls_in p.1))
    ]

put_pulls : (r : Reading) (e : Entry) (v : ℕ) → (pulls_of (after r e) v ≤ pulls_of r v) ⊎ (pulls_of (after r e) v ≤ 1) → Pulled r e v
put_pulls r e v h = elim h [ inl same ↦ inl same | inr one ↦ inr (inl one) ]

pulls : (r : Reading) (v : ℕ) (o : Option Start) → pulls_in (pulled r v o) ≤ pulls_in o + 1
pulls r v None = omega arith
pulls r v (Some s) =
    elim (cases_Bool (generates (body_of r.sheet v) && shows_value s.shown && not s.ended && not s.running && not (is_some s.ticket))) [
      | inl y ↦ rw y (omega arith)
      | inr n ↦ rw n (omega arith)
    ]

pulled_once : (r : Reading) (e : Entry) (v : ℕ) → Pulled r e v
pulled_once r (EditEntry editor edit) v = inl (same_le (pulls_of (after r (EditEntry editor edit)) v) (pulls_of r v) (ap pulls_in (start_sheet r (edited_sheet r.sheet edit (r.entries + 1)) v)))
pulled_once r (Frame editor) v = let t : pulls_in (pulled r v (start_of r v)) ≤ pulls_in (start_of r v) + 1 = pulls r v (start_of r v) in inr (inr ((editor, refl), omega (arith, t, ap pulls_in (start_pulled r v))))
pulled_once r (Settled editor t a) v = inl (changes (settle r t) (ticket_var r t) v (answering a) (λ s. refl))
pulled_once r (Loaded t a) v = inl (changes (settle r t) (ticket_var r t) v (answering a) (λ s. refl))
pulled_once r (Late editor t) v = inl (omega arith)
pulled_once r (Refused editor reason event) v = inl (omega arith)
pulled_once r (Rest editor) v = inl (omega arith)
pulled_once r (Dispose editor) v = inl (omega arith)
pulled_once r (Pending u d) v = put_pulls r (Pending u d) v (puts r u v (Some (new_start (r.entries + 1) (footing r u))) (omega arith))
pulled_once r (Fulfilled u x) v = inl (changes r u v (showing r u (Shows x)) (λ s. refl))
pulled_once r (Rejected u e) v = inl (changes r u v (showing r u (Fails e)) (λ s. refl))
pulled_once r (Asked u t key) v = inl (changes r u v (asking r u t) (λ s. refl))
pulled_once r (Ended u) v = inl (changes r u v (ending_now r u) (λ s. refl))
pulled_once r (Left u d) v = put_pulls r (Left u d) v (puts r u v None (omega arith))

-- ---- in any log

once_more : (r : Reading) (e : Entry) (v : ℕ) → pulls_of (after r e) v ≤ pulls_of r v + 1
once_more r e v = elim (pulled_once r e v) [
  | inl same ↦ omega (arith, same)
  | inr other ↦ elim other [
    | inl one ↦ omega (arith, one)
    | inr frame ↦ frame.1
  ]
]

few_from : (es : List Entry) (r : Reading) → ((v : ℕ) → pulls_of r v ≤ r.entries) → (v : ℕ) → pulls_of (read_from r es) v ≤ (read_from r es).entries
few_from [] r h v = h v
few_from (e ∷ es) r h v = few_from es (after r e) (λ w. omega (arith, once_more r e w, h w, one_more_entry r e)) v

none_yet : (builtins : List (Field Value)) (v n : ℕ) → pulls_of (nothing_yet builtins) v ≤ n
none_yet builtins zero n = omega arith
none_yet builtins (suc i) n = omega arith

-- each start was pulled at most as often as there are entries
pub few_pulls : (builtins : List (Field Value)) (log : List Entry) (v : ℕ) → pulls_of (reading builtins log) v ≤ length log
few_pulls builtins log v =
    let few : pulls_of (reading builtins log) v ≤ (reading builtins log).entries = few_from log (nothing_yet builtins) (λ w. none_yet builtins w 0) v in
    omega (arith, few, reading_entries builtins log)

-- ---- in a legal log

-- a full log refuses each event
admit_full : (r : Reading) (editor : ℕ) (event : Event) → is_full r ≡ true → (o : Entry) → o ≡ admit r editor event → (n : ℕ) → o ≡ Frame n → ⊥
admit_full r editor event full o is n frame = go r.disposed refl
  where
    go : (b : Bool) → r.disposed ≡ b → ⊥
    go true d =
        let refused : admit r editor event ≡ Refused editor Disposed event =
        ap (λ (b : Bool). from_option (admitted r editor event) (λ reason. Refused editor reason event) (or_else (when b Disposed) (or_else (when (is_full r) LogFull) (event_refusal r event)))) d in
        let same : Frame n ≡ Refused editor Disposed event = sym frame ∙ is ∙ refused in absurd (cc)
    go false d =
        let refused : admit r editor event ≡ Refused editor LogFull event =
        ap (λ (b : Bool). from_option (admitted r editor event) (λ reason. Refused editor reason event) (or_else (when b Disposed) (or_else (when (is_full r) LogFull) (event_refusal r event)))) d
        ∙ ap (λ (b : Bool). from_option (admitted r editor event) (λ reason. Refused editor reason event) (or_else (when b LogFull) (event_refusal r event))) full in
        let same : Frame n ≡ Refused editor LogFull event = sym frame ∙ is ∙ refused in absurd (cc)

-- so a frame comes where there is room
frame_room : (r : Reading) (n : ℕ) → Fits r (Frame n) → r.size ≤ 4000000
frame_room r n fits =
    let event = fits.1 in
    let room : is_full r ≡ false = false_from_ne_true (is_full r) (λ full. admit_full r event.0 event.1 full (Frame n) event.3 n refl) in
    let known : nat_lt 4000000 r.size ≡ false = room in
    omega (arith, ltb-false 4000000 r.size known)

record Few (r : Reading) : Type 0 where
  size : r.entries ≤ r.size
  entries : (v : ℕ) → pulls_of r v ≤ r.entries
  few : (v : ℕ) → pulls_of r v ≤ 4000001

few_after : (r : Reading) (e : Entry) → Few r → Fits r e → Few (after r e)
few_after r e h fits = record {
  size = omega (arith, h.size, one_more_entry r e, size_after r e, some_size e);
  entries = λ v. omega (arith, once_more r e v, h.entries v, one_more_entry r e);
  few = λ v. elim (pulled_once r e v) [
    | inl same ↦ omega (arith, same, h.few v)
    | inr other ↦ elim other [
      | inl one ↦ omega (arith, one)
      | inr frame ↦ at_frame v frame.0.0 frame.0.1 frame.1
    ]
  ];
}
  where
    at_frame : (v n : ℕ) → e ≡ Frame n → pulls_of (after r e) v ≤ pulls_of r v + 1 → pulls_of (after r e) v ≤ 4000001
    at_frame v n is more =
        let room : r.size ≤ 4000000 = frame_room r n (subst (Fits r) is fits) in
        omega (arith, room, more, h.entries v, h.size)

pub pulls_are_few : PullsAreFew
pulls_are_few builtins log legal v =
    let none : Few (nothing_yet builtins) = record { size = omega arith; entries = λ w. none_yet builtins w 0; few = λ w. none_yet builtins w 4000001 } in
    let h : Few (reading builtins log) = legal_keeps Few few_after (nothing_yet builtins) log none legal in
    h.few v
