use Rattle.std.proofs.Common.{rules}
use Rattle.twister.proofs.Renewals.{renewed_middle}
use Rattle.twister.proofs.block.renew_middle.Goals as goal

pub loop-k-preserved : goal.loop-k-preserved
loop-k-preserved c =
    λ seed base holds.
    renewed_middle seed base c.loop-k.k c.twisted.result c.loop-k.block (search rules) (search rules) (search rules)
    (c.loop-k.invariant seed base holds) c.twisted.ensures
