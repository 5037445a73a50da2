use Rattle.tick_core.proofs.TellLemmas.{begun_if}
use Rattle.tick_core.proofs.LiveLemmas.{healthy_live}
use Rattle.tick_core.proofs.live_world.LiveWorld.of.Goals as goal

-- The hasher begins with the numbers of the world, in which all have health.
pub invariant_of-result : goal.invariant_of-result
invariant_of-result c =
    let map = c.args.map.value in
    let valid = c.requires.valid in
    rw (c.in_ok-scene.ensures) (
      begun_if map.width map.height c.args.world _ valid.ore.size.width valid.ore.size.height valid.actors.rise
          (rw (c.deref.ensures) at c.in_ok-hasher.ensures),
      λ calm. healthy_live c.args.rules.value c.args.world.actors valid.health,
    )
