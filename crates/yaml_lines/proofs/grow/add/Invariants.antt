use Rattle.std.proofs.Common.{◌≡◌, ◌≤◌}
use Rattle.yaml_lines.specs.Grown.{flat_grown, height}
use Rattle.yaml_lines.proofs.grow.add.Given as goal

abbrev pub invariant-loop-grown : goal.invariant-loop-grown
invariant-loop-grown l = (l.level ≤ height l.grown) × (flat_grown l.grown ≡ flat_grown l.initial.grown)

abbrev pub decreases-loop-grown : goal.decreases-loop-grown
decreases-loop-grown l = height l.grown
