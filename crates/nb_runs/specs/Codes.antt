-- Codes, by which proofs tell starts and tickets apart.
use Rattle.std.specs.Prelude.{ℕ, Bool, List, Option, refl}
use Rattle.std.specs.Coded.{Coded, code_by, coded×, coded_ℕ, coded_bool, coded_list, coded_option}
use Rattle.nb_value.specs.declared.value.Value.{Value}
use Rattle.nb_value.specs.declared.outcome.Answer.{Answer}
use Rattle.nb_value.specs.declared.outcome.Outcome.{Outcome}
use Rattle.nb_history.specs.Reading.{Footing, Start, Ticket}

abbrev pub FootingParts : Type 0
FootingParts = ℕ × (Bool × (Bool × (List ℕ × (List ℕ × List ℕ))))

abbrev pub footing_code : Coded Footing
footing_code =
    code_by FootingParts (coded× coded_ℕ (coded× coded_bool (coded× coded_bool (coded× (coded_list coded_ℕ) (coded× (coded_list coded_ℕ) (coded_list coded_ℕ))))))
    (λ f. (f.place, (f.is_duplicate, (f.is_circular, (f.inputs, (f.starts, f.renewals))))))
    (λ p. record { place = p.0; is_duplicate = p.1.0; is_circular = p.1.1.0; inputs = p.1.1.1.0; starts = p.1.1.1.1.0; renewals = p.1.1.1.1.1 })
    (λ _. refl)

-- the numbers and truths of a start
abbrev pub CountParts : Type 0
CountParts = ℕ × (ℕ × (Option ℕ × (Bool × (Bool × ℕ))))

abbrev pub count_code : Coded CountParts
count_code = coded× coded_ℕ (coded× coded_ℕ (coded× (coded_option coded_ℕ) (coded× coded_bool (coded× coded_bool coded_ℕ))))

abbrev pub StartParts : Type 0
StartParts = CountParts × (Footing × (List Answer × (Option Outcome × List Value)))

abbrev pub start_code : Coded Answer → Coded Outcome → Coded Value → Coded Start
start_code answer outcome value =
    code_by StartParts (coded× count_code (coded× footing_code (coded× (coded_list answer) (coded× (coded_option outcome) (coded_list value)))))
    (λ s. ((s.number, (s.pulls, (s.ticket, (s.running, (s.ended, s.renewal))))), (s.kept, (s.answers, (s.shown, s.owed)))))
    (λ p. record { number = p.0.0; pulls = p.0.1.0; ticket = p.0.1.1.0; running = p.0.1.1.1.0; ended = p.0.1.1.1.1.0; renewal = p.0.1.1.1.1.1; kept = p.1.0; answers = p.1.1.0; shown = p.1.1.1.0; owed = p.1.1.1.1 })
    (λ _. refl)

abbrev pub ticket_code : Coded Ticket
ticket_code =
    code_by (ℕ × (ℕ × (List ℕ × Bool))) (coded× coded_ℕ (coded× coded_ℕ (coded× (coded_list coded_ℕ) coded_bool)))
    (λ t. (t.var, (t.number, (t.key, t.settled))))
    (λ p. record { var = p.0; number = p.1.0; key = p.1.1.0; settled = p.1.1.1 })
    (λ _. refl)
