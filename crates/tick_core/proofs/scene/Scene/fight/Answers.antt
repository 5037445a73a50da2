use Rattle.std.proofs.Common.{◌∙◌, ap, refl, sym, subst}
use Rattle.std.specs.Prelude.{IsSomeAnd}
use Rattle.game_model.specs.declared.world.World.{World}
use Rattle.game_model.specs.Setup.{Setup}
use Rattle.game_model.specs.World.{living_of, world_with}
use Rattle.actor_table.specs.Table.{Table}
use Rattle.tick_core.specs.Live.{Standing}
use Rattle.activities.specs.declared.activity.Activity.TheVariants.{Attack}
use Rattle.tick_core.specs.Scene.{DoesFirst}
use Rattle.tick_core.proofs.SceneLemmas.{fight_dice, fight_is, way_scene}
use Rattle.tick_core.proofs.scene.Scene.fight.Goals as goal

pub invariant_of-self : goal.invariant_of-self
invariant_of-self c =
    let s = c.self.inside in
    let setup : Setup = record { rules = s.rules.value; map = s.map.value } in
    let w : World = world_with s.head s.table.actors s.ore in
    let does : IsSomeAnd (living_of w.actors c.args.id) (DoesFirst (Attack c.args.target c.args.waits)) =
    subst (λ (x : Standing). IsSomeAnd (living_of x.world.actors c.args.id) (DoesFirst (Attack c.args.target c.args.waits))) (sym c.self.view_is) c.requires.first in
    let done = rw (c.deref.ensures, c.deref-2.ensures) at c.attack_step_on_current_ground.ensures.fought in
    rw c.drawn-self-inside.ensures
    (way_scene setup w _ s.table c.attack_step_on_current_ground.new.t s.blocks s.router c.attack_step_on_current_ground.new.r s.dice c.attack_step_on_current_ground.new.dice c.args.id c.self.invariant
    (fight_is setup w s.table c.attack_step_on_current_ground.new.t s.blocks s.router s.dice c.attack_step_on_current_ground.new.dice c.args.id c.args.target c.args.waits c.self.invariant does refl done)
    (ap (λ (t : Table). t.width) done.actors) (ap (λ (t : Table). t.height) done.actors) c.attack_step_on_current_ground.ensures.router
    (fight_dice setup w s.table c.attack_step_on_current_ground.new.t s.blocks s.dice c.attack_step_on_current_ground.new.dice c.args.id c.self.invariant.thrown done))

pub returns : goal.returns
returns c =
    let s = c.self.inside in
    let setup : Setup = record { rules = s.rules.value; map = s.map.value } in
    let w : World = world_with s.head s.table.actors s.ore in
    let does : IsSomeAnd (living_of w.actors c.args.id) (DoesFirst (Attack c.args.target c.args.waits)) =
    subst (λ (x : Standing). IsSomeAnd (living_of x.world.actors c.args.id) (DoesFirst (Attack c.args.target c.args.waits))) (sym c.self.view_is) c.requires.first in
    let done = rw (c.deref.ensures, c.deref-2.ensures) at c.attack_step_on_current_ground.ensures.fought in
    rw (← c.self.view_is, c.drawn-self-inside.ensures)
    (ap (λ (x : World). record { setup = setup; world = x })
    (fight_is setup w s.table c.attack_step_on_current_ground.new.t s.blocks s.router s.dice c.attack_step_on_current_ground.new.dice c.args.id c.args.target c.args.waits c.self.invariant does refl done))
