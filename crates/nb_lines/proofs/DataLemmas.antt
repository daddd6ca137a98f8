-- The data of a line that is UTF-8, and of one that is not.
use Rattle.std.proofs.Common.{◌≡◌, ◌⊎◌, inl, inr, ℕ, List, Some, None, Bool, true, false, cond, refl, ap, is_none}
use Rattle.std.specs.Str.{IsUtf8, is_utf8}
use Rattle.std.proofs.lemmas.Str.{IsUtf8-from_is_utf8, is_utf8-from_IsUtf8}
use Rattle.serde_json.specs.Data.{Data}
use Rattle.serde_json.specs.Read.{read}
use Rattle.nb_lines.specs.declared.script.BadReason.TheVariants.{NotJson}
use Rattle.nb_lines.specs.declared.script.OneFail.{OneFail}
use Rattle.nb_lines.specs.declared.script.OneFail.TheVariants.{Bad, Memory}
use Rattle.nb_lines.specs.Reasons.{line_data, not_json, reason_if}
use Rattle.nb_lines.specs.Reads.{FailsPlainly}

pub line_data-read : (line : List ℕ) (d : Data) → IsUtf8 line → read line ≡ Some d → line_data line ≡ Some d
unfolding line_data
line_data-read line d utf8 e = let test : is_utf8 line ≡ true = is_utf8-from_IsUtf8 line utf8 in rw test e

pub line_data-none : (line : List ℕ) → (IsUtf8 line → read line ≡ None) → line_data line ≡ None
unfolding line_data
line_data-none line none = go (is_utf8 line) (λ e. none (IsUtf8-from_is_utf8 line e))
  where
    go : (b : Bool) → (b ≡ true → read line ≡ None) → cond b (read line) None ≡ None
    go true h = h refl
    go false h = refl

-- a line that is no JSON
pub no_data : (line : List ℕ) → line_data line ≡ None → not_json line ≡ Some NotJson
no_data line none = ap (λ o. reason_if (is_none o) NotJson) none

pub json_fails : (line : List ℕ) (e : OneFail) (M : Type 0) → ((e ≡ Memory) × M) ⊎ ((e ≡ Bad NotJson) × (M → ⊥)) → ((M → ⊥) → IsUtf8 line → read line ≡ None) → FailsPlainly (not_json line) e
json_fails line e M (inl told) none = inl told.0
json_fails line e M (inr told) none = inr (NotJson, told.0, no_data line (line_data-none line (none told.1)))
