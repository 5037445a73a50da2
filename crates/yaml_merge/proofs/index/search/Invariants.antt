use Rattle.std.proofs.Common.{take}
use Rattle.yaml_merge.specs.Slots.{LacksKey}
use Rattle.yaml_merge.proofs.index.search.Given as goal

abbrev pub invariant-loop-at : goal.invariant-loop-at
invariant-loop-at l = LacksKey l.key (take l.at l.slots)
