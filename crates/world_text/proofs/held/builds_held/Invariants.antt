-- Those so far are held.
use Rattle.std.proofs.Common.{take}
use Rattle.std.specs.List.{All}
use Rattle.world_text.specs.Numbers.{IsBuildHeld}
use Rattle.world_text.proofs.held.builds_held.Given as goal

abbrev pub invariant-loop-build : goal.invariant-loop-build
invariant-loop-build l = All IsBuildHeld (take l.build-index l.builds)
