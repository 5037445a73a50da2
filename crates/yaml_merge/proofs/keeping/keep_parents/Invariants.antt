use Rattle.std.proofs.Common.{◌≡◌, length}
use Rattle.yaml_lines.specs.Trees.{trees_of}
use Rattle.yaml_merge.specs.Kept.{AreKept, StayKept}
use Rattle.yaml_merge.specs.Places.{width}
use Rattle.yaml_merge.proofs.keeping.keep_parents.Given as goal

abbrev pub invariant-loop-at : goal.invariant-loop-at
invariant-loop-at l = record {
  are_kept : AreKept (trees_of l.tops.forest) l.kept.items;
  long : length l.kept.items ≡ width (trees_of l.tops.forest);
  stay : StayKept l.initial.kept.items l.kept.items;
}
