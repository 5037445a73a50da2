use Rattle.sync_hash.proofs.SumLemmas.{lent_1_is}
use Rattle.sync_hash.proofs.whole_world.lent_hash_1.Goals as goal

-- The sum of the three numbers.
pub returns : goal.returns
returns c = λ w is.
    lent_1_is w c.args.head.now c.args.actors c.args.sum c.args.ore.now c.header_number_1.result c.ore_sum.result is
    c.header_number_1.ensures c.ore_sum.ensures
