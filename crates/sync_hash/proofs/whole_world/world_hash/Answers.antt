use Rattle.sync_hash.proofs.SumLemmas.{world_hash_is}
use Rattle.sync_hash.proofs.whole_world.world_hash.Goals as goal

-- The number of the header with those of the parts.
pub returns : goal.returns
returns c =
    world_hash_is c.args.w.now c.header_number.result c.with_parts.result
    (rw (c.head_of.ensures, c.len.ensures) at c.header_number.ensures) c.with_parts.ensures
