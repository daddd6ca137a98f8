use Rattle.std.proofs.Common.{◌≡◌, ◌++◌, map}
use Rattle.std.specs.Str.Iter.{split_text, split_has_more, split_pattern}
use Rattle.nb_value.specs.declared.value.Value.TheVariants as variant
use Rattle.nb_builtins.specs.Parts.{parts}
use Rattle.nb_builtins.proofs.PartLemmas.{parts_left}
use Rattle.nb_builtins.proofs.parts.parts.Given as goal

abbrev pub invariant-loop-part : goal.invariant-loop-part
invariant-loop-part l = record {
  same : (split_pattern l.part-iterator).now ≡ l.separator;
  rest : l.items ++ map variant.Text (parts_left l.separator (split_has_more l.part-iterator) (split_text l.part-iterator)) ≡ map variant.Text (parts l.separator l.text);
}
