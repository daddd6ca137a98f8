use Rattle.std.proofs.Common.{ℕ, ◌≡◌, ◌<◌, ◌≤◌, ◌∙◌, sym, ap, subst, true, length, arith}
use Rattle.nb_graph.specs.Needs.{has}
use Rattle.nb_wave.specs.declared.row.Row.{Row}
use Rattle.nb_wave.specs.Rules.{needs_of}
use Rattle.nb_wave.specs.Steps.{changed}
use Rattle.nb_wave.specs.Wave.{Wave, kept_row, IsRows}
use Rattle.nb_wave.proofs.Back.{since_back}
use Rattle.nb_wave.proofs.Places.{needs_read}
use Rattle.nb_wave.proofs.Rows.{set_changed, set_rows, wave_since}
use Rattle.nb_wave.proofs.wave.Wave.keep.Goals as goal

pub invariant_of-self-2 : goal.invariant_of-self-2
invariant_of-self-2 c =
    let rows = c.self.inside.rows.items in
    let is : IsRows rows = c.self.invariant.present in
    let v = c.args.var in
    let row = c.in_ok-row.row in
    let old = c.index.result.now in
    let inside : v < length rows = omega (arith, c.requires.var.1, is.all) in
    let own : needs_of rows v ≡ row.needs = needs_read rows v old inside c.index.ensures ∙ ap (λ (r : Row). r.needs) (sym c.in_ok-row.ensures) in
    let needs : (u : ℕ) → has row.needs u ≡ true → (1 ≤ u) × (u < 1025) =
    λ u h. let t : (1 ≤ u) × (u < length rows) = is.needs v u (ap (λ l. has l u) own ∙ h) in (t.0, omega (arith, t.1, is.all)) in
    wave_since c.self.inside.changes.items c.replace.new.changes.items rows c.replace.new.rows.items c.self.invariant c.in_ok-replace.ensures.since
    (subst IsRows (sym c.in_ok-replace.ensures.ok) (set_rows rows v row is inside needs))

pub returns-clause-ok : goal.returns-clause-ok
returns-clause-ok c =
    let rows = c.self.inside.rows.items in
    let v = c.args.var in
    let row = c.in_ok-row.row in
    let old = c.index.result.now in
    let f = kept_row c.args.kept in
    let inside : v < length rows = omega (arith, c.requires.var.1, c.self.invariant.present.all) in
    c.in_ok-replace.ensures.ok
    ∙ set_changed f rows v old row inside c.index.ensures c.in_ok-row.ensures
    ∙ ap (λ (w : Wave). changed f v w.rows) c.self.view_is

pub returns-clause-marked : goal.returns-clause-marked
returns-clause-marked c =
    since_back c.self.inside.changes.items c.replace.new.changes.items c.self.inside.rows.items c.replace.new.rows.items c.in_ok-replace.ensures.since
    ∙ ap (λ (w : Wave). w.marked) c.self.view_is
