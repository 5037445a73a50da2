use Rattle.std.proofs.Common.{rules, ◌≡◌, Ok}
use Rattle.yaml_lines.specs.Trees.{trees_of}
use Rattle.rule_traits.specs.Typed.{field_taken, step_at}
use Rattle.rule_traits.proofs.EachLemmas.{each_next}
use Rattle.rule_traits.proofs.typing.read_trait.Goals as goal

pub loop-node-preserved : goal.loop-node-preserved
loop-node-preserved c =
    let step = field_taken (trees_of c.args.kinds.now) in
    let taken : step_at step (c.loop-node.value, c.loop-node.skipped.items) c.node-item.result ≡ Ok (c.set.new.self, c.if-not-branch.skipped.items) = search rules in
    each_next step c.deref-node-items.result.now c.loop-node.node-index _ _ _ _ c.loop-node-test.true c.node-item.is taken c.loop-node.invariant
