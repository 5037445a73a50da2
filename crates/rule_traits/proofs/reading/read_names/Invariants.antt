use Rattle.std.proofs.Common.{◌≡◌, ◌++◌}
use Rattle.rule_values.specs.NameList.{names_left, names_of}
use Rattle.rule_traits.proofs.reading.read_names.Given as goal

abbrev pub invariant-loop-name : goal.invariant-loop-name
invariant-loop-name l = l.list ++ names_left l.name-iterator ≡ names_of l.text
