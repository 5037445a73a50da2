use Rattle.std.proofs.Common.{◌≡◌, ap, sym, subst}
use Rattle.game_model.specs.declared.world.World.{World}
use Rattle.game_model.specs.Setup.{Setup}
use Rattle.game_model.specs.World.{world_with}
use Rattle.game_orders.specs.declared.order.Order.TheVariants as order
use Rattle.game_tick.specs.Orders.{changed_if, moving, own_of}
use Rattle.actor_table.specs.Table.{Table}
use Rattle.tick_core.specs.Live.{Standing}
use Rattle.tick_core.specs.Ordered.{IsReady}
use Rattle.tick_core.proofs.OrderLemmas.{order_scene}
use Rattle.tick_core.proofs.scene.Scene.order_move.Goals as goal

pub invariant_of-self : goal.invariant_of-self
invariant_of-self c =
    let s = c.self.inside in
    let setup : Setup = record { rules = s.rules.value; map = s.map.value } in
    let w : World = world_with s.head s.table.actors s.ore in
    let ready : IsReady setup w w =
    subst (λ (x : Standing). IsReady x.setup x.world x.world) (sym c.self.view_is) c.requires.ready in
    let after : Table =
    record s.table {
      actors = changed_if setup.rules s.table.actors (moving setup c.args.cell c.args.queued) (own_of s.table.actors c.args.client c.args.id);
    } in
    let done : c.order_move.new.t ≡ after = rw (c.deref.ensures, c.deref-2.ensures) at c.order_move.ensures in
    order_scene setup w _ s.table c.order_move.new.t s.blocks s.router s.dice c.args.client (order.Move c.args.id c.args.cell c.args.queued) c.self.invariant ready
    (ap (λ (t : Table). world_with s.head t.actors s.ore) {y = after} done) (ap (λ (t : Table). t.width) {y = after} done) (ap (λ (t : Table). t.height) {y = after} done)
