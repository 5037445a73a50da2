use Rattle.std.proofs.Common.{◌*◌}
use Rattle.twister.specs.Block.{HoldsFrom}
use Rattle.twister.proofs.block.block_after.Given as goal

abbrev pub invariant-loop-made : goal.invariant-loop-made
invariant-loop-made l = HoldsFrom l.seed (624 * l._made) l.block
