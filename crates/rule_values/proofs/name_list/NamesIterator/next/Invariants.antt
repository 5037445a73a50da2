use Rattle.std.proofs.Common.{◌≡◌, length}
use Rattle.rule_values.specs.NameList.{names_of}
use Rattle.rule_values.proofs.name_list.NamesIterator.next.Given as goal

abbrev pub invariant-loop-part : goal.invariant-loop-part
invariant-loop-part l = names_of l.self.rest.now ≡ names_of l.initial.self.rest.now

abbrev pub decreases-loop-part : goal.decreases-loop-part
decreases-loop-part l = length l.self.rest.now
