use Rattle.std.proofs.Common.{◌≡◌, replicate, None}
use Rattle.yaml_merge.proofs.files.vacant.Given as goal

abbrev pub invariant-loop-node : goal.invariant-loop-node
invariant-loop-node l = l.kept.items ≡ replicate l._node-index None
