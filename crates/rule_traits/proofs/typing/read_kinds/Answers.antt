use Rattle.std.proofs.lemmas.Result.{err_from_is_err_and}
use Rattle.yaml_lines.specs.Trees.{trees_of}
use Rattle.rule_traits.specs.Typed.{kind_taken}
use Rattle.rule_traits.proofs.EachLemmas.{each_next, each_stops}
use Rattle.rule_traits.proofs.typing.read_kinds.Goals as goal

pub returns-in_err-take_kind-clause-fault : goal.returns-in_err-take_kind-clause-fault
returns-in_err-take_kind-clause-fault c =
    let p = err_from_is_err_and c.from_residual.result c.from_residual.ensures.1 in
    rw (p.1, p.2)
    (each_stops (kind_taken (trees_of c.args.kinds.now)) c.deref-node-items.result.now c.loop-node.node-index _ _ _ _ c.loop-node-test.true c.node-item.is (c.in_err-take_kind.ensures {u = tt}).fault c.loop-node.invariant)

pub loop-node-preserved : goal.loop-node-preserved
loop-node-preserved c =
    each_next (kind_taken (trees_of c.args.kinds.now)) c.deref-node-items.result.now c.loop-node.node-index _ _ _ _ c.loop-node-test.true
    c.node-item.is c.in_ok-take_kind.ensures.taken c.loop-node.invariant
