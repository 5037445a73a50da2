use Rattle.std.proofs.Common.{◌∙◌, ap, refl, sym, subst}
use Rattle.std.specs.Prelude.{IsSome}
use Rattle.game_model.specs.declared.world.World.{World}
use Rattle.game_model.specs.Setup.{Setup}
use Rattle.game_model.specs.World.{living_of, world_with}
use Rattle.actor_table.specs.Table.{Table}
use Rattle.tick_core.specs.Live.{Standing}
use Rattle.tick_core.proofs.SceneLemmas.{reload_scene}
use Rattle.tick_core.proofs.scene.Scene.reload.Goals as goal

pub invariant_of-self : goal.invariant_of-self
invariant_of-self c =
    let s = c.self.inside in
    let setup : Setup = record { rules = s.rules.value; map = s.map.value } in
    let w : World = world_with s.head s.table.actors s.ore in
    let lives : IsSome (living_of w.actors c.args.id) =
    subst (λ (x : Standing). IsSome (living_of x.world.actors c.args.id)) (sym c.self.view_is) c.requires.lives in
    reload_scene setup w _ s.table c.reload.new.t s.blocks s.router s.dice c.args.id (living_of w.actors c.args.id) refl lives c.self.invariant
    (ap (λ (t : Table). world_with s.head t.actors s.ore) c.reload.ensures) (ap (λ (t : Table). t.width) c.reload.ensures) (ap (λ (t : Table). t.height) c.reload.ensures)
