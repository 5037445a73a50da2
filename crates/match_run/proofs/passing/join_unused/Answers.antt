use Rattle.match_run.proofs.Splitting.{unused_last, unused_more}
use Rattle.match_run.proofs.passing.join_unused.Goals as goal

pub loop-own-preserved : goal.loop-own-preserved
loop-own-preserved c =
    unused_more _ _ _ _ _ _ _ c.in-Some.own c.loop-own.invariant c.in-Some.ensures.items c.join.ensures.pass c.join.ensures.joined

pub join-requires-clause-other : goal.join-requires-clause-other
join-requires-clause-other c = unused_last _ _ _ c.in-Some.own c.loop-own.invariant.passes_are c.in-Some.ensures.items
