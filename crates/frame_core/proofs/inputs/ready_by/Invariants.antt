-- The clients that are left decide as all clients do; a play stands within the frames.
use Rattle.std.proofs.Common.{◌≡◌, ◌<◌, true}
use Rattle.game_orders.specs.declared.limits.TheConstants.{MAX_FRAMES}
use Rattle.frame_core.proofs.InputSteps.{IsLeft}
use Rattle.frame_core.proofs.inputs.ready_by.Given as goal

abbrev pub invariant-loop-c : goal.invariant-loop-c
invariant-loop-c g l = IsLeft (g.I.Inputs.inputs l.inputs l.n) l.c l.played × (l.played ≡ true → l.n < MAX_FRAMES)
