use Rattle.sync_hash.proofs.SumLemmas.{mod_parts}
use Rattle.sync_hash.proofs.whole_world.with_parts.Goals as goal

-- The sum of the three numbers.
pub returns : goal.returns
returns c =
    mod_parts c.args.header _ _ c.actors_sum-actors.result c.ore_sum.result
    (rw c.as_slice.ensures at c.actors_sum-actors.ensures) c.ore_sum.ensures
