use Rattle.std.proofs.Common.{ℕ}
use Rattle.twister.specs.Block.{HoldsFrom, IsRenewedTo}
use Rattle.twister.proofs.block.renew_front.Given as goal

abbrev pub invariant-loop-k : goal.invariant-loop-k
invariant-loop-k l = (seed base : ℕ) → HoldsFrom seed base l.initial.block → IsRenewedTo seed base l.k l.block
