-- Those so far are held.
use Rattle.std.proofs.Common.{take}
use Rattle.std.specs.List.{All}
use Rattle.world_text.specs.Numbers.{IsActivityHeld}
use Rattle.world_text.proofs.held.acts_held.Given as goal

abbrev pub invariant-loop-act : goal.invariant-loop-act
invariant-loop-act l = All IsActivityHeld (take l.act-index l.acts)
