use Rattle.std.proofs.Common.{◌≡◌, length}
use Rattle.yaml_lines.specs.Trees.{trees_of}
use Rattle.yaml_merge.specs.Kept.{AreKept, StayKept, weight}
use Rattle.yaml_merge.specs.Places.{width}
use Rattle.yaml_merge.proofs.keeping.keep.Given as goal

abbrev pub decreases-vacant : goal.decreases-vacant
decreases-vacant l = weight l.kept.items

abbrev pub invariant-vacant : goal.invariant-vacant
invariant-vacant l = record {
  are_kept : AreKept (trees_of l.tops.forest) l.kept.items;
  long : length l.kept.items ≡ width (trees_of l.tops.forest);
  stay : StayKept l.initial.kept.items l.kept.items;
}
