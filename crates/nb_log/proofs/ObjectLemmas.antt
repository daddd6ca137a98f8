-- The fields of a settlement: which fetch it answers, and what it says. The specifiers of a derive as an array.
use Rattle.std.proofs.Common.{◌≡◌, ℕ, List, [], ◌∷◌, map, length, codes, refl, append_assoc, append-nil, arith}
use Rattle.nb_value.specs.declared.value.Value.{Value}
use Rattle.nb_value.specs.declared.value.Value.TheVariants as V
use Rattle.nb_value.specs.declared.outcome.Answer.TheVariants.{Value as Given, Failure}
use Rattle.nb_log.specs.declared.event.Target.{Target}
use Rattle.nb_log.specs.declared.event.Target.TheVariants.{Ticket, Key}
use Rattle.nb_value.specs.Json.{json_text}
use Rattle.nb_sheet.specs.declared.edit.Specifier.{Specifier}
use Rattle.nb_log.specs.Printing.{field, settle_fields, specifier_object}
use Rattle.nb_log.specs.Objects.{target_field}
use Rattle.nb_log.proofs.PieceLemmas.{record_json, empty_json}

pub settle_value : (target : Target) (x : Value) → settle_fields target (Given x) ≡ field (codes "do") (V.Text (codes "settle")) ∷ target_field target ∷ field (codes "value") x ∷ []
settle_value (Ticket t) x = refl
settle_value (Key k) x = refl

pub settle_failure : (target : Target) (e : List ℕ) → settle_fields target (Failure e) ≡ field (codes "do") (V.Text (codes "settle")) ∷ field (codes "error") (V.Text e) ∷ target_field target ∷ []
settle_failure (Ticket t) e = refl
settle_failure (Key k) e = refl

pub ruleset settlements = (settle_value, settle_failure, record_json, append_assoc, append-nil)

pub no_specifiers : (specifiers : List Specifier) → length specifiers ≡ 0 → json_text (V.List (map specifier_object specifiers)) ≡ 91 ∷ 93 ∷ []
no_specifiers [] h = empty_json
no_specifiers (s ∷ specifiers) h = absurd (omega (arith, h))
