use Rattle.std.proofs.Common.{◌≡◌, ◌∙◌, Some, ap, sym, subst}
use Rattle.std.specs.Prelude.{slice_get}
use Rattle.game_model.specs.Setup.{Setup}
use Rattle.game_model.specs.World.{ids_of}
use Rattle.tick_core.specs.Live.{Standing}
use Rattle.tick_core.specs.Scene.{IsActing}
use Rattle.tick_core.proofs.BusyLemmas.{busy_grows_by, busy_kept_if, cell_on, grown_told_if, prepared_at, step_whole, told_size, way_is}
use Rattle.tick_core.proofs.LiveLemmas.{step_live}
use Rattle.tick_core.proofs.live_world.LiveWorld.step_busy.Goals as goal

-- The actor stays at its place.
pub is_waiting_at-waited-requires : goal.is_waiting_at-waited-requires
is_waiting_at-waited-requires c =
    subst (λ (s : Standing). slice_get (ids_of s.world.actors) c.args.i ≡ Some c.args.id) (sym c.self.view_is) c.requires.at

pub prepare-requires : goal.prepare-requires
prepare-requires c =
    subst (λ (s : Standing). slice_get (ids_of s.world.actors) c.args.i ≡ Some c.args.id) (sym c.self.view_is) c.requires.at

pub effects_at-effects-requires : goal.effects_at-effects-requires
effects_at-effects-requires c =
    prepared_at c.self.inside.scene c.prepare.new.self c.args.i c.args.id c.prepare.ensures
    (subst (λ (s : Standing). slice_get (ids_of s.world.actors) c.args.i ≡ Some c.args.id) (sym c.self.view_is) c.requires.at)

pub go_on-requires-clause-at : goal.go_on-requires-clause-at
go_on-requires-clause-at c =
    prepared_at c.self.inside.scene c.prepare.new.self c.args.i c.args.id c.prepare.ensures
    (subst (λ (s : Standing). slice_get (ids_of s.world.actors) c.args.i ≡ Some c.args.id) (sym c.self.view_is) c.requires.at)

pub update_hasher-died-requires : goal.update_hasher-died-requires
update_hasher-died-requires c =
    let live = c.self.inside in
    let p_is = c.prepare.ensures in
    let way = way_is live.scene c.prepare.new.self c.go_on.new.self c.args.id p_is c.go_on.ensures in
    let world = ap (λ (x : Standing). x.world) p_is in
    grown_told_if _ live.scene.world.actors c.go_on.new.self.world.actors live.scene.world.ore live.hasher c.self.invariant.0
    (busy_grows_by live.scene.setup live.scene.world c.prepare.new.self.world c.go_on.new.self.world c.args.id c.is_waiting_at-waited.result c.if_stepped-stepped.result c.if_changed-target.result c.if_changed-added.result c.effects_at-effects.result.target c.drawn-drawn.result c.drawn.result c.next_id-next_id.result c.next_id-new_id.result c.from.result c.from-2.result
    c.recall_invariant.ensures.acting.actors.ready.rise c.is_waiting_at-waited.ensures world way c.drawn-drawn.ensures c.drawn.ensures c.next_id-next_id.ensures c.next_id-new_id.ensures c.from.ensures c.from-2.ensures c.effects_at-effects.ensures.target c.if_changed-target.ensures c.if_changed-added.ensures c.if_stepped-stepped.ensures)

pub update_hasher_cell-requires-clause-on_map : goal.update_hasher_cell-requires-clause-on_map
update_hasher_cell-requires-clause-on_map c =
    let live = c.self.inside in
    let p_is = c.prepare.ensures in
    let way = way_is live.scene c.prepare.new.self c.go_on.new.self c.args.id p_is c.go_on.ensures in
    let world = ap (λ (x : Standing). x.world) p_is in
    let setup = ap (λ (x : Standing). x.setup) p_is in
    let setup_after = ap (λ (x : Standing). x.setup) c.go_on.ensures ∙ setup in
    cell_on live.scene.setup c.prepare.new.self.world c.go_on.new.self.world c.args.id c.effects_at-effects.result.cell
    (subst (λ (s : Setup). IsActing s c.prepare.new.self.world) setup c.recall_invariant-2.ensures.acting)
    (subst (λ (s : Setup). IsActing s c.go_on.new.self.world) setup_after c.recall_invariant-3.ensures.acting) c.effects_at-effects.ensures.cell

pub update_hasher_cell-requires-clause-size : goal.update_hasher_cell-requires-clause-size
update_hasher_cell-requires-clause-size c =
    let live = c.self.inside in
    let p_is = c.prepare.ensures in
    let way = way_is live.scene c.prepare.new.self c.go_on.new.self c.args.id p_is c.go_on.ensures in
    told_size live.scene.setup live.scene.world c.prepare.new.self.world c.go_on.new.self.world c.args.id live.hasher
    c.update_hasher-died.new.hasher (ap (λ (x : Standing). x.world) p_is) way c.self.invariant.0 c.update_hasher-died.ensures.told

pub invariant_of-self : goal.invariant_of-self
invariant_of-self c =
    let live = c.self.inside in
    let p_is = c.prepare.ensures in
    let way = way_is live.scene c.prepare.new.self c.go_on.new.self c.args.id p_is c.go_on.ensures in
    let world = ap (λ (x : Standing). x.world) p_is in
    let setup = ap (λ (x : Standing). x.setup) p_is in
    let setup_after = ap (λ (x : Standing). x.setup) c.go_on.ensures ∙ setup in
    let on = cell_on live.scene.setup c.prepare.new.self.world c.go_on.new.self.world c.args.id c.effects_at-effects.result.cell
    (subst (λ (s : Setup). IsActing s c.prepare.new.self.world) setup c.recall_invariant-2.ensures.acting)
    (subst (λ (s : Setup). IsActing s c.go_on.new.self.world) setup_after c.recall_invariant-3.ensures.acting) c.effects_at-effects.ensures.cell in
    let after = subst (λ (u : Setup). IsActing u c.go_on.new.self.world) setup_after c.recall_invariant-3.ensures.acting in
    let grows =
    busy_grows_by live.scene.setup live.scene.world c.prepare.new.self.world c.go_on.new.self.world c.args.id c.is_waiting_at-waited.result c.if_stepped-stepped.result c.if_changed-target.result c.if_changed-added.result c.effects_at-effects.result.target c.drawn-drawn.result c.drawn.result c.next_id-next_id.result c.next_id-new_id.result c.from.result c.from-2.result
    c.recall_invariant.ensures.acting.actors.ready.rise c.is_waiting_at-waited.ensures world way c.drawn-drawn.ensures c.drawn.ensures c.next_id-next_id.ensures c.next_id-new_id.ensures c.from.ensures c.from-2.ensures c.effects_at-effects.ensures.target c.if_changed-target.ensures c.if_changed-added.ensures c.if_stepped-stepped.ensures in (
      busy_kept_if live.scene.setup live.scene.world c.prepare.new.self.world c.go_on.new.self.world c.args.id live.hasher c.update_hasher-died.new.hasher c.update_hasher_cell.new.hasher c.effects_at-effects.result.cell
          world way c.effects_at-effects.ensures.cell c.self.invariant.0 c.update_hasher-died.ensures.told c.update_hasher_cell.ensures on,
      step_live _ live.scene.world.actors c.go_on.new.self.world.actors live.deaths c.update_hasher-died.result c.or-self-inside.result grows after.actors.ready.rise c.or-self-inside.ensures c.self.invariant.1 c.update_hasher-died.ensures.living,
    )

pub returns : goal.returns
returns c =
    let live = c.self.inside in
    rw (← c.self.view_is) (step_whole live.scene c.prepare.new.self c.go_on.new.self c.args.id c.prepare.ensures c.go_on.ensures)
