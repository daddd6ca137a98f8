-- Codes, by which proofs tell histories apart.
use Rattle.std.specs.Prelude.{ℕ, List, refl}
use Rattle.std.specs.Coded.{Coded, code_by, coded×, coded_ℕ, coded_list}
use Rattle.nb_value.specs.declared.value.Value.{Value}
use Rattle.nb_value.specs.declared.pairs.Field.{Field}
use Rattle.nb_value.specs.Fields.{fields_code}
use Rattle.nb_log.specs.declared.entry.Entry.{Entry}
use Rattle.nb_history.specs.History.{History}
use Rattle.nb_core.specs.Stands.{Kept}

abbrev pub history_code : Coded Value → Coded Entry → Coded History
history_code value entry =
    code_by (List (Field Value) × List Entry) (coded× (fields_code value) (coded_list entry)) (λ h. (h.builtins, h.log)) (λ p. record { builtins = p.0; log = p.1 }) (λ _. refl)

abbrev pub kept_code : Coded Value → Coded Entry → Coded Kept
kept_code value entry =
    code_by (History × ℕ) (coded× (history_code value entry) coded_ℕ) (λ k. (k.history, k.room)) (λ p. record { history = p.0; room = p.1 }) (λ _. refl)
