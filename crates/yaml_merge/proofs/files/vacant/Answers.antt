use Rattle.std.proofs.Common.{◌∙◌, ap, length, arith}
use Rattle.yaml_lines.specs.Trees.{trees_of}
use Rattle.yaml_merge.proofs.TopSteps.{none_kept, vacant_long, width_forest}
use Rattle.yaml_merge.proofs.files.vacant.Goals as goal

pub returns-clause-are_kept : goal.returns-clause-are_kept
returns-clause-are_kept c = none_kept (trees_of c.args.tops.now.forest) c.loop-node.kept.items c.loop-node._node-index c.loop-node.invariant

pub returns-clause-long : goal.returns-clause-long
returns-clause-long c =
    vacant_long c.loop-node.kept.items c.loop-node._node-index c.loop-node.invariant
    ∙ omega (arith, width_forest c.args.tops.now.forest, ap length c.deref-node-items.ensures.value)
