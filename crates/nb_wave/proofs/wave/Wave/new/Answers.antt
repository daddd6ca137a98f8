use Rattle.std.proofs.Common.{◌∙◌, ap, refl, List}
use Rattle.nb_wave.specs.declared.table.Change.{Change}
use Rattle.nb_wave.specs.Changes.{put_back}
use Rattle.nb_wave.proofs.Rows.{no_rows_is, wave_begins}
use Rattle.nb_wave.proofs.wave.Wave.new.Goals as goal

pub invariant_of-result : goal.invariant_of-result
invariant_of-result c = wave_begins 1025 refl c.in_ok-rows.rows.items c.new.result.items c.in_ok-rows.ensures c.new.ensures.items

pub returns-clause-rows : goal.returns-clause-rows
returns-clause-rows c = c.in_ok-rows.ensures ∙ no_rows_is 1025 refl

pub returns-clause-marked : goal.returns-clause-marked
returns-clause-marked c =
    ap (λ (l : List Change). put_back l c.in_ok-rows.rows.items) c.new.ensures.items ∙ (c.in_ok-rows.ensures ∙ no_rows_is 1025 refl)
