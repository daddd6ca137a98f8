use Rattle.std.proofs.Common.{◌<◌, ◌+◌, refl, sym, subst, length, take, arith, List}
use Rattle.std.proofs.lemmas.List.{take_all}
use Rattle.nb_sheet.specs.declared.row.VarRow.{VarRow}
use Rattle.nb_closing.specs.Names.{IsTable}
use Rattle.nb_closing.proofs.Named.{table_named, table_unnamed}
use Rattle.nb_closing.proofs.names.table_of.Goals as goal
use Rattle.nb_closing.proofs.names.table_of.Goals.{in-Some+in_ok-note, in_default}

pub loop-i-preserved : goal.loop-i-preserved
loop-i-preserved c =
    let rows = c.args.rows.now in
    let i = c.loop-i.i in
    let row = c.index-rows-i.result in
    let inside : i < length rows = omega arith in
    elim c.match-row.branch [
      | in-Some+in_ok-note w ↦
          subst (IsTable (take (i + 1) rows)) (sym w.table-is)
          (table_named c.loop-i.table w.note.new.table rows i row inside c.index-rows-i.is c.loop-i.invariant (row.«module», w.as_str.result) w.in-Some.name w.in-Some.is refl w.as_str.ensures.value w.in_ok-note.ensures)
      | in_default w ↦
          subst (IsTable (take (i + 1) rows)) (sym w.table-is) (table_unnamed c.loop-i.table c.loop-i.table rows i row inside c.index-rows-i.is c.loop-i.invariant w.in_default.is)
    ]

pub returns : goal.returns
returns c = subst (λ (rows : List VarRow). IsTable rows c.loop-i.table) (take_all c.loop-i.i c.args.rows.now (omega arith)) c.loop-i.invariant
