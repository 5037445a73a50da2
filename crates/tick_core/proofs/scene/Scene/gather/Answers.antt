use Rattle.std.proofs.Common.{◌∙◌, ap, refl, sym, subst}
use Rattle.std.specs.Prelude.{IsSomeAnd}
use Rattle.game_model.specs.declared.world.World.{World}
use Rattle.game_model.specs.Setup.{Setup}
use Rattle.game_model.specs.World.{living_of, world_with}
use Rattle.actor_table.specs.Table.{Table}
use Rattle.tick_core.specs.Live.{Standing}
use Rattle.tick_core.specs.Scene.{DoesFirst}
use Rattle.tick_core.proofs.SceneLemmas.{gather_is, way_on, way_scene}
use Rattle.tick_core.proofs.scene.Scene.gather.Goals as goal

pub harvest_step_on_current_ground-requires-clause-way : goal.harvest_step_on_current_ground-requires-clause-way
harvest_step_on_current_ground-requires-clause-way c =
    let s = c.self.inside in
    let setup : Setup = record { rules = s.rules.value; map = s.map.value } in
    let w : World = world_with s.head s.table.actors s.ore in
    let does : IsSomeAnd (living_of w.actors c.args.id) (DoesFirst c.args.first) =
    subst (λ (x : Standing). IsSomeAnd (living_of x.world.actors c.args.id) (DoesFirst c.args.first)) (sym c.self.view_is) c.requires.first in
    rw c.deref-2.ensures (way_on setup w c.args.id c.args.first c.self.invariant.acting does)

pub invariant_of-self : goal.invariant_of-self
invariant_of-self c =
    let s = c.self.inside in
    let setup : Setup = record { rules = s.rules.value; map = s.map.value } in
    let w : World = world_with s.head s.table.actors s.ore in
    let does : IsSomeAnd (living_of w.actors c.args.id) (DoesFirst c.args.first) =
    subst (λ (x : Standing). IsSomeAnd (living_of x.world.actors c.args.id) (DoesFirst c.args.first)) (sym c.self.view_is) c.requires.first in
    let done = rw (c.deref.ensures, c.deref-2.ensures) at c.harvest_step_on_current_ground.ensures.harvested in
    way_scene setup w _ s.table c.harvest_step_on_current_ground.new.t s.blocks s.router c.harvest_step_on_current_ground.new.r s.dice s.dice c.args.id c.self.invariant
    (gather_is setup w s.table c.harvest_step_on_current_ground.new.t s.blocks s.router s.dice c.harvest_step_on_current_ground.new.ore c.harvest_step_on_current_ground.new.purse c.args.id c.args.first c.self.invariant does c.requires.gathers refl done)
    (ap (λ (t : Table). t.width) done.actors) (ap (λ (t : Table). t.height) done.actors) c.harvest_step_on_current_ground.ensures.router c.self.invariant.thrown

pub returns : goal.returns
returns c =
    let s = c.self.inside in
    let setup : Setup = record { rules = s.rules.value; map = s.map.value } in
    let w : World = world_with s.head s.table.actors s.ore in
    let does : IsSomeAnd (living_of w.actors c.args.id) (DoesFirst c.args.first) =
    subst (λ (x : Standing). IsSomeAnd (living_of x.world.actors c.args.id) (DoesFirst c.args.first)) (sym c.self.view_is) c.requires.first in
    let done = rw (c.deref.ensures, c.deref-2.ensures) at c.harvest_step_on_current_ground.ensures.harvested in
    rw (← c.self.view_is)
    (ap (λ (x : World). record { setup = setup; world = x })
    (gather_is setup w s.table c.harvest_step_on_current_ground.new.t s.blocks s.router s.dice c.harvest_step_on_current_ground.new.ore c.harvest_step_on_current_ground.new.purse c.args.id c.args.first c.self.invariant does c.requires.gathers refl done))
