use Rattle.std.proofs.Common.{◌≡◌, length, drop}
use Rattle.yaml_lines.specs.declared.forest.Forest.TheViews.{out-Forest}
use Rattle.yaml_lines.specs.Trees.{trees_of, trees_of_nodes}
use Rattle.yaml_merge.specs.Kept.{AreKept, AreKeptBefore}
use Rattle.yaml_merge.specs.Places.{width}
use Rattle.yaml_merge.proofs.TopSteps.{SoFar}
use Rattle.yaml_merge.proofs.files.keep_tops.Given as goal

abbrev pub invariant-loop-at : goal.invariant-loop-at
invariant-loop-at l = record {
  are_kept : AreKept (trees_of l.tops.forest) l.kept.items;
  long : length l.kept.items ≡ width (trees_of l.tops.forest);
  before : AreKeptBefore l.at (trees_of l.tops.forest) l.kept.items;
  far : SoFar (trees_of l.tops.forest) (trees_of_nodes (drop l.at (out-Forest l.tops.forest).nodes.items)) l.total;
}
