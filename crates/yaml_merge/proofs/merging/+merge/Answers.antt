use Rattle.std.proofs.Common.{arith}
use Rattle.yaml_lines.specs.declared.forest.Forest.TheViews.{out-Node}
use Rattle.yaml_lines.specs.Trees.{trees_of}
use Rattle.yaml_merge.specs.Merging.{merged_into}
use Rattle.yaml_merge.proofs.JoinSteps.{joined_back, leaf_merged, merge_step}
use Rattle.yaml_merge.proofs.merging.+merge.Goals as goal

pub loop-node-preserved : goal.loop-node-preserved
loop-node-preserved t c =
    let node = c.node-item.result in
    let o = out-Node node in
    merge_step c.deref-node-items.result.now c.loop-node.node-index node c.loop-node.list c.join.new.self _ (omega arith) c.node-item.is
    (joined_back o.key o.value o.place c.loop-node.list c.take-children.new.self c.take-children.result c.in_ok-children.children c.join.new.self
    (merged_into (trees_of o.children)) c.take-children.ensures.left c.take-children.ensures.children (c.in_ok-children.ensures {u = tt}) (c.in_ok-join.ensures {u = tt}))
    c.loop-node.invariant

pub loop-node-preserved-then-is_leaf : goal.loop-node-preserved-then-is_leaf
loop-node-preserved-then-is_leaf t c =
    let node = c.node-item.result in
    let o = out-Node node in
    merge_step c.deref-node-items.result.now c.loop-node.node-index node c.loop-node.list c.join_leaf.new.self _ (omega arith) c.node-item.is
    (leaf_merged o.key o.value o.place (trees_of o.children) c.loop-node.list c.join_leaf.new.self (c.if-is_leaf.ensures {u = tt}) (c.in_ok-join_leaf.ensures {u = tt}))
    c.loop-node.invariant
