use Rattle.std.proofs.Common.{◌≡◌, ℕ, ◌≤◌, drop, length}
use Rattle.yaml_lines.specs.declared.forest.Forest.TheViews.{out-Forest}
use Rattle.yaml_lines.specs.Trees.{none, trees_of, trees_of_nodes}
use Rattle.yaml_merge.specs.declared.TheConstants.{MAX_FOREST_NODES}
use Rattle.yaml_merge.specs.Kept.{slot}
use Rattle.yaml_merge.specs.Places.{width}
use Rattle.yaml_merge.specs.Merging.{count}
use Rattle.yaml_merge.specs.Resolving.{resolved_tops}
use Rattle.yaml_merge.proofs.files.take_tops.Given as goal

abbrev pub invariant-loop-at : goal.invariant-loop-at
invariant-loop-at l = record {
  rest : resolved_tops (trees_of_nodes (drop l.at (out-Forest l.tops.forest).nodes.items)) (trees_of l.tops.forest) (trees_of_nodes l.nodes.items)
      ≡ resolved_tops (trees_of l.tops.forest) (trees_of l.tops.forest) none;
  total : l.total ≡ count (trees_of_nodes l.nodes.items);
  small : l.total ≤ MAX_FOREST_NODES;
  held : (other : ℕ) → l.at ≤ other → slot l.kept.items other ≡ slot l.initial.kept.items other;
  long : length l.kept.items ≡ width (trees_of l.tops.forest);
}
