use Rattle.std.proofs.Common.{ℕ, ◌-◌}
use Rattle.twister.specs.Block.{IsRenewedTo}
use Rattle.twister.proofs.block.renew_middle.Given as goal

abbrev pub invariant-loop-k : goal.invariant-loop-k
invariant-loop-k l = (seed base : ℕ) → IsRenewedTo seed base (624 - 397) l.initial.block → IsRenewedTo seed base l.k l.block
