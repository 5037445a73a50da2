use Rattle.std.proofs.Common.{◌∙◌, ap, refl}
use Rattle.game_model.specs.declared.world.World.{World}
use Rattle.game_model.specs.Setup.{Setup}
use Rattle.game_model.specs.World.{world_with}
use Rattle.actor_table.specs.Table.{Table}
use Rattle.tick_core.proofs.SceneLemmas.{build_is, build_scene}
use Rattle.tick_core.proofs.scene.Scene.build.Goals as goal

pub invariant_of-self : goal.invariant_of-self
invariant_of-self c =
    let s = c.self.inside in
    let setup : Setup = record { rules = s.rules.value; map = s.map.value } in
    let w : World = world_with s.head s.table.actors s.ore in
    let built = rw (c.deref.ensures, c.deref-2.ensures) at c.build_step.ensures.actors in
    let next = rw (c.deref.ensures, c.deref-2.ensures) at c.build_step.ensures.next_id in
    build_scene setup w _ s.table c.build_step.new.t s.blocks s.router s.dice c.args.id c.self.invariant
    (build_is setup w s.table c.build_step.new.t c.build_step.new.next_id c.args.id _ c.in-Some.ensures.living c.in-Some.ensures.found refl built next)
    (ap (λ (t : Table). t.width) built) (ap (λ (t : Table). t.height) built)
