-- What the log holds.
use Rattle.std.specs.Prelude.{ℕ, List, refl}
use Rattle.std.specs.Coded.{Coded, code_by, coded×, coded_ℕ, coded_list}
use Rattle.nb_log.specs.declared.entry.Entry.{Entry}

pub record Written : Type 0 where
  pub entries : List Entry
  -- how many entries go in without more memory
  pub room : ℕ

abbrev pub written_code : Coded Entry → Coded Written
written_code c = code_by (List Entry × ℕ) (coded× (coded_list c) coded_ℕ) (λ w. (w.entries, w.room)) (λ p. record { entries = p.0; room = p.1 }) (λ _. refl)
