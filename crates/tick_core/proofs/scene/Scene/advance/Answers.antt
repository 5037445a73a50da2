use Rattle.std.proofs.Common.{◌∙◌, ap, refl, sym, subst}
use Rattle.std.specs.Prelude.{IsSome, IsSomeAnd}
use Rattle.game_model.specs.declared.actor.Actor.{Actor}
use Rattle.game_model.specs.declared.world.World.{World}
use Rattle.game_model.specs.Setup.{Setup}
use Rattle.game_model.specs.World.{living_of, world_with}
use Rattle.actor_table.specs.Table.{Table}
use Rattle.tick_core.specs.Live.{Standing}
use Rattle.tick_core.proofs.SceneLemmas.{advance_is, leg_on, same_sight, way_scene}
use Rattle.tick_core.proofs.scene.Scene.advance.Goals as goal

pub advance_leg-requires : goal.advance_leg-requires
advance_leg-requires c =
    let s = c.self.inside in
    let setup : Setup = record { rules = s.rules.value; map = s.map.value } in
    let w : World = world_with s.head s.table.actors s.ore in
    let does : IsSomeAnd (living_of w.actors c.args.id) (λ (a : Actor). IsSome a.body.leg) =
    subst (λ (x : Standing). IsSomeAnd (living_of x.world.actors c.args.id) (λ (a : Actor). IsSome a.body.leg)) (sym c.self.view_is) c.requires.leg in
    leg_on setup w c.args.id c.self.invariant.acting does

pub invariant_of-self : goal.invariant_of-self
invariant_of-self c =
    let s = c.self.inside in
    let setup : Setup = record { rules = s.rules.value; map = s.map.value } in
    let w : World = world_with s.head s.table.actors s.ore in
    let does : IsSomeAnd (living_of w.actors c.args.id) (λ (a : Actor). IsSome a.body.leg) =
    subst (λ (x : Standing). IsSomeAnd (living_of x.world.actors c.args.id) (λ (a : Actor). IsSome a.body.leg)) (sym c.self.view_is) c.requires.leg in
    let moved = rw c.deref.ensures at c.advance_leg.ensures in
    way_scene setup w _ s.table c.advance_leg.new.t s.blocks s.router s.router s.dice s.dice c.args.id c.self.invariant
    (advance_is setup w s.table c.advance_leg.new.t c.args.id does refl moved)
    (ap (λ (t : Table). t.width) moved) (ap (λ (t : Table). t.height) moved) (same_sight s.router) c.self.invariant.thrown

pub returns : goal.returns
returns c =
    let s = c.self.inside in
    let setup : Setup = record { rules = s.rules.value; map = s.map.value } in
    let w : World = world_with s.head s.table.actors s.ore in
    let does : IsSomeAnd (living_of w.actors c.args.id) (λ (a : Actor). IsSome a.body.leg) =
    subst (λ (x : Standing). IsSomeAnd (living_of x.world.actors c.args.id) (λ (a : Actor). IsSome a.body.leg)) (sym c.self.view_is) c.requires.leg in
    let moved = rw c.deref.ensures at c.advance_leg.ensures in
    rw (← c.self.view_is)
    (ap (λ (x : World). record { setup = setup; world = x }) (advance_is setup w s.table c.advance_leg.new.t c.args.id does refl moved))
