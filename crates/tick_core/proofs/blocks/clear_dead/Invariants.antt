-- The dead buildings among the first actors are cleared.
use Rattle.std.proofs.Common.{◌≡◌}
use Rattle.game_tick.specs.Turn.{blocks_of}
use Rattle.tick_core.proofs.BurialLemmas.{buried_up_to}
use Rattle.tick_core.proofs.blocks.clear_dead.Given as goal

abbrev pub invariant-loop-i : goal.invariant-loop-i
invariant-loop-i l =
    l.blocks ≡ blocks_of (record { rules = l.rules; map = l.map }) (buried_up_to l.table.actors l.i)
