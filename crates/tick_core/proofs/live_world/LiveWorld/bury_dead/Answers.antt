use Rattle.std.proofs.Common.{ap, refl}
use Rattle.tick_core.specs.Live.{Standing}
use Rattle.tick_core.proofs.LiveLemmas.{buried_live}
use Rattle.tick_core.proofs.TellLemmas.{buried_if, numbered_if}
use Rattle.tick_core.proofs.live_world.LiveWorld.bury_dead.Goals as goal

pub forget_the_dead-requires : goal.forget_the_dead-requires
forget_the_dead-requires c =
    numbered_if c.self.inside.hasher c.self.inside.scene.world.actors c.self.inside.scene.world.ore c.self.invariant.0

-- All who are left have health, and their numbers are kept.
pub invariant_of-self : goal.invariant_of-self
invariant_of-self c =
    let s = c.self.inside.scene in
    let left = ap (λ (x : Standing). x.world.actors) c.bury.ensures in (
      rw (c.bury.ensures) (buried_if c.self.inside.hasher c.forget_the_dead.new.hasher s.world.actors _ s.world.ore c.self.invariant.0 c.forget_the_dead.ensures refl),
      λ calm. buried_live s.world.actors c.bury.new.self.world.actors left,
    )
