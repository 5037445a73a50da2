-- The buildings among the first actors are marked.
use Rattle.std.proofs.Common.{◌≡◌, take}
use Rattle.game_tick.specs.Turn.{blocks_of}
use Rattle.tick_core.proofs.blocks.blocks_of.Given as goal

abbrev pub invariant-loop-a : goal.invariant-loop-a
invariant-loop-a l =
    l.blocks ≡ blocks_of (record { rules = l.rules; map = l.map }) (take l.a-index l.actors)
