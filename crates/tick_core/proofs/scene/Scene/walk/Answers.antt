use Rattle.std.proofs.Common.{◌∙◌, ap, refl, sym, subst}
use Rattle.std.specs.Prelude.{IsSomeAnd}
use Rattle.game_model.specs.declared.world.World.{World}
use Rattle.game_model.specs.Setup.{Setup}
use Rattle.game_model.specs.World.{living_of, world_with}
use Rattle.actor_table.specs.Table.{Table}
use Rattle.tick_core.specs.Live.{Standing}
use Rattle.activities.specs.declared.activity.Activity.TheVariants.{Move}
use Rattle.tick_core.specs.Scene.{DoesFirst}
use Rattle.tick_core.proofs.SceneLemmas.{goal_on, walk_is, way_scene}
use Rattle.tick_core.proofs.scene.Scene.walk.Goals as goal

pub move_activity_on_current_ground-requires-clause-goal : goal.move_activity_on_current_ground-requires-clause-goal
move_activity_on_current_ground-requires-clause-goal c =
    let s = c.self.inside in
    let setup : Setup = record { rules = s.rules.value; map = s.map.value } in
    let w : World = world_with s.head s.table.actors s.ore in
    let does : IsSomeAnd (living_of w.actors c.args.id) (DoesFirst (Move c.args.goal c.args.waits)) =
    subst (λ (x : Standing). IsSomeAnd (living_of x.world.actors c.args.id) (DoesFirst (Move c.args.goal c.args.waits))) (sym c.self.view_is) c.requires.first in
    rw c.deref-2.ensures (goal_on setup w c.args.id c.args.goal c.args.waits c.self.invariant.acting does)

pub invariant_of-self : goal.invariant_of-self
invariant_of-self c =
    let s = c.self.inside in
    let setup : Setup = record { rules = s.rules.value; map = s.map.value } in
    let w : World = world_with s.head s.table.actors s.ore in
    let does : IsSomeAnd (living_of w.actors c.args.id) (DoesFirst (Move c.args.goal c.args.waits)) =
    subst (λ (x : Standing). IsSomeAnd (living_of x.world.actors c.args.id) (DoesFirst (Move c.args.goal c.args.waits))) (sym c.self.view_is) c.requires.first in
    let moved = rw (c.deref.ensures, c.deref-2.ensures) at c.move_activity_on_current_ground.ensures.actors in
    way_scene setup w _ s.table c.move_activity_on_current_ground.new.t s.blocks s.router c.move_activity_on_current_ground.new.r s.dice s.dice c.args.id c.self.invariant
    (walk_is setup w s.table c.move_activity_on_current_ground.new.t s.blocks s.router s.dice c.args.id c.args.goal c.args.waits c.self.invariant does refl moved)
    (ap (λ (t : Table). t.width) moved) (ap (λ (t : Table). t.height) moved) c.move_activity_on_current_ground.ensures.router c.self.invariant.thrown

pub returns : goal.returns
returns c =
    let s = c.self.inside in
    let setup : Setup = record { rules = s.rules.value; map = s.map.value } in
    let w : World = world_with s.head s.table.actors s.ore in
    let does : IsSomeAnd (living_of w.actors c.args.id) (DoesFirst (Move c.args.goal c.args.waits)) =
    subst (λ (x : Standing). IsSomeAnd (living_of x.world.actors c.args.id) (DoesFirst (Move c.args.goal c.args.waits))) (sym c.self.view_is) c.requires.first in
    let moved = rw (c.deref.ensures, c.deref-2.ensures) at c.move_activity_on_current_ground.ensures.actors in
    rw (← c.self.view_is)
    (ap (λ (x : World). record { setup = setup; world = x })
    (walk_is setup w s.table c.move_activity_on_current_ground.new.t s.blocks s.router s.dice c.args.id c.args.goal c.args.waits c.self.invariant does refl moved))
