use Rattle.std.proofs.lemmas.Result.{err_from_is_err_and}
use Rattle.yaml_lines.specs.Trees.{trees_of}
use Rattle.rule_traits.specs.Typed.{trait_taken}
use Rattle.rule_traits.proofs.EachLemmas.{each_next, each_stops}
use Rattle.rule_traits.proofs.typing.read_kind.Goals as goal

pub returns-in_err-take_trait-clause-fault : goal.returns-in_err-take_trait-clause-fault
returns-in_err-take_trait-clause-fault c =
    let p = err_from_is_err_and c.from_residual-in_err-take_trait.result c.from_residual-in_err-take_trait.ensures.1 in
    rw (p.1, p.2)
    (each_stops (trait_taken (trees_of c.args.kinds.now)) c.deref-below-items.result.now c.loop-below.below-index _ _ _ _ c.loop-below-test.true c.below-item.is (c.in_err-take_trait.ensures {u = tt}).fault c.loop-below.invariant)

pub loop-below-preserved : goal.loop-below-preserved
loop-below-preserved c =
    each_next (trait_taken (trees_of c.args.kinds.now)) c.deref-below-items.result.now c.loop-below.below-index _ _ _ _ c.loop-below-test.true
    c.below-item.is c.in_ok-take_trait.ensures.taken c.loop-below.invariant
