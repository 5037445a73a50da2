use Rattle.std.proofs.Common.{◌≡◌, []}
use Rattle.rule_values.specs.NameList.{names_left, names_of}
use Rattle.yaml_lines.specs.Trees.{trees_of}
use Rattle.rule_traits.specs.Kinds.{numbers_after}
use Rattle.rule_traits.proofs.reading.read_kinds.Given as goal

abbrev pub invariant-loop-name : goal.invariant-loop-name
invariant-loop-name l =
    numbers_after (trees_of l.kinds) l.place (names_left l.name-iterator) l.list ≡ numbers_after (trees_of l.kinds) l.place (names_of l.text) []
