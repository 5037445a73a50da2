use Rattle.tick_core.proofs.LiveLemmas.{none_buried}
use Rattle.tick_core.proofs.live_world.LiveWorld.bury.Goals as goal

-- Nobody has died.
pub returns-else-self : goal.returns-else-self
returns-else-self c =
    rw (← c.self.view_is) (none_buried c.self.inside.scene (c.self.invariant.1 c.if-self.false))
