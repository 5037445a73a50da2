use Rattle.std.proofs.Common.{[], rules, subst, sym}
use Rattle.game_tick.proofs.OrdersLemmas.{order_valid}
use Rattle.tick_core.specs.Live.{Standing}
use Rattle.tick_core.specs.Ordered.{IsReady}
use Rattle.tick_core.proofs.LiveLemmas.{healthy_live}
use Rattle.tick_core.proofs.OrderLemmas.{order_told_if, told_kept_if}
use Rattle.tick_core.proofs.live_world.LiveWorld.apply_order.Goals as goal

pub update_hasher-died-requires : goal.update_hasher-died-requires
update_hasher-died-requires c =
    let live = c.self.inside in
    rw (c.apply_order.ensures, c.subject_of-subject.ensures)
    (order_told_if live.scene.setup live.scene.world c.args.client c.args.order.now live.hasher c.self.invariant.0)

-- The world is valid, so all have health.
pub invariant_of-self : goal.invariant_of-self
invariant_of-self c =
    let live = c.self.inside in
    let s = live.scene in
    let ready : IsReady s.setup s.world s.world =
    subst (λ (x : Standing). IsReady x.setup x.world x.world) (sym c.self.view_is) c.requires.ready in
    let after = order_valid s.setup 0 s.world.tick s.world.drawn s.world c.args.client c.args.order.now ready in (
      told_kept_if live.hasher c.update_hasher-died.new.hasher live.scene.world.actors _ live.scene.world.ore _ c.self.invariant.0
          c.update_hasher-died.ensures.told (search rules),
      λ calm. rw c.apply_order.ensures (healthy_live s.setup.rules _ after.health),
    )
