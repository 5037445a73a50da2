use Rattle.std.proofs.Common.{rules}
use Rattle.twister.proofs.Renewals.{renewed_last}
use Rattle.twister.proofs.block.refill.Goals as goal

pub returns : goal.returns
returns c =
    λ seed base holds.
    renewed_last seed base c.twisted.result c.renew_middle.new.block (search rules)
    (c.renew_middle.ensures seed base (c.renew_front.ensures seed base holds)) c.twisted.ensures
