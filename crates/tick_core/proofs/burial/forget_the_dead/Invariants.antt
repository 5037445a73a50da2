-- The numbers of the dead among the first actors are out.
use Rattle.std.proofs.Common.{◌≡◌, map}
use Rattle.sync_hash.specs.Kept.{numbered}
use Rattle.tick_core.proofs.BurialLemmas.{buried_up_to}
use Rattle.tick_core.proofs.burial.forget_the_dead.Given as goal

abbrev pub invariant-loop-i : goal.invariant-loop-i
invariant-loop-i l =
    l.hasher ≡ record l.initial.hasher { actors = map numbered (buried_up_to l.table.actors l.i) }
