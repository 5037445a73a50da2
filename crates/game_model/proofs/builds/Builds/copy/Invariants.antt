use Rattle.std.proofs.Common.{◌≡◌, take}
use Rattle.game_model.proofs.builds.Builds.copy.Given as goal

-- The builds so far are copied.
abbrev pub invariant-loop-build : goal.invariant-loop-build
invariant-loop-build l = l.held.items ≡ take l.build-index l.build-items
