use Rattle.std.proofs.Common.{◌≡◌, ◌+◌, ◌<◌, ◌^◌, ◌++◌, length}
use Rattle.std.specs.Vec.Iter.{into_iter_items, into_iter_len}
use Rattle.nb_doc.specs.Says.{lines_from}
use Rattle.nb_doc.specs.Numbers.{places_of}
use Rattle.nb_doc.proofs.lines.lines_of.Given as goal

abbrev pub invariant-loop-module : goal.invariant-loop-module
invariant-loop-module l = record {
  lines : l.events ++ lines_from l.places.items l.position (into_iter_items l.module-iterator) ≡ lines_from (places_of l.fn.modules.items) 0 l.fn.modules.items;
  left : into_iter_len l.module-iterator ≡ length (into_iter_items l.module-iterator);
  room : l.position + into_iter_len l.module-iterator < 2 ^ 63;
}
