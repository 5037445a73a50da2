use Rattle.yaml_lines.specs.Trees.{trees_of}
use Rattle.yaml_merge.proofs.DescentSteps.{Descends}
use Rattle.yaml_merge.proofs.keeping.next_made.Given as goal

abbrev pub decreases-parents : goal.decreases-parents
decreases-parents l = l.free

abbrev pub invariant-parents : goal.invariant-parents
invariant-parents l = Descends (trees_of l.tops.forest) l.kept l.root l.at l.free l.path.items
