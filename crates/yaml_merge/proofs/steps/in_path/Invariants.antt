use Rattle.std.proofs.Common.{◌≡◌, drop}
use Rattle.yaml_merge.specs.Resolving.{in_path}
use Rattle.yaml_merge.proofs.steps.in_path.Given as goal

abbrev pub invariant-loop-first : goal.invariant-loop-first
invariant-loop-first l = in_path l.name (drop l.first-index l.path) ≡ in_path l.name l.path
