use Rattle.std.proofs.Common.{ap}
use Rattle.game_model.specs.declared.world.World.{World}
use Rattle.game_model.specs.Setup.{Setup}
use Rattle.game_model.specs.World.{world_with}
use Rattle.actor_table.specs.Table.{Table}
use Rattle.tick_core.proofs.SceneLemmas.{bury_scene, sized_left}
use Rattle.tick_core.proofs.scene.Scene.bury.Goals as goal

pub invariant_of-self : goal.invariant_of-self
invariant_of-self c =
    let s = c.self.inside in
    let setup : Setup = record { rules = s.rules.value; map = s.map.value } in
    let w : World = world_with s.head s.table.actors s.ore in
    let cleared = rw (c.deref.ensures, c.deref-2.ensures) at c.clear_dead.ensures in
    let looks = rw c.deref-3.ensures at c.look.ensures.looks in
    bury_scene setup w _ s.table c.bury.new.self s.blocks c.clear_dead.new.blocks s.router c.look.new.self s.dice c.self.invariant
    (ap (λ (t : Table). world_with s.head t.actors s.ore) c.bury.ensures) (ap (λ (t : Table). t.width) c.bury.ensures) (ap (λ (t : Table). t.height) c.bury.ensures) cleared looks

pub look-requires : goal.look-requires
look-requires c =
    let s = c.self.inside in
    let setup : Setup = record { rules = s.rules.value; map = s.map.value } in
    let w : World = world_with s.head s.table.actors s.ore in
    let cleared = rw (c.deref.ensures, c.deref-2.ensures) at c.clear_dead.ensures in
    rw c.deref-3.ensures (sized_left setup w s.table s.blocks c.clear_dead.new.blocks s.router s.dice c.self.invariant cleared)
