use Rattle.std.proofs.Common.{◌∙◌, ap, ap₂, sym, subst}
use Rattle.game_model.specs.declared.world.World.{World}
use Rattle.game_model.specs.Setup.{Setup}
use Rattle.game_model.specs.World.{world_with}
use Rattle.game_orders.specs.declared.order.Order.TheVariants as order
use Rattle.actor_table.specs.Table.{Table}
use Rattle.tick_core.specs.Live.{Standing}
use Rattle.tick_core.specs.Ordered.{IsReady}
use Rattle.tick_core.proofs.OrderLemmas.{order_scene}
use Rattle.std.proofs.Common.{ℕ, List}
use Rattle.tick_core.proofs.OrderLemmas.{with_deal}
use Rattle.tick_core.proofs.scene.Scene.order_cancel.Goals as goal

pub invariant_of-self : goal.invariant_of-self
invariant_of-self c =
    let s = c.self.inside in
    let setup : Setup = record { rules = s.rules.value; map = s.map.value } in
    let w : World = world_with s.head s.table.actors s.ore in
    let ready : IsReady setup w w =
    subst (λ (x : Standing). IsReady x.setup x.world x.world) (sym c.self.view_is) c.requires.ready in
    let done = rw c.deref.ensures at c.cancel.ensures in
    order_scene setup w _ s.table c.cancel.new.t s.blocks s.router s.dice c.args.client (order.Cancel c.args.id) c.self.invariant ready
    (ap₂ (λ (t : Table) (cash : List ℕ). with_deal w t.actors cash) done.table done.purse) (ap (λ (t : Table). t.width) done.table) (ap (λ (t : Table). t.height) done.table)
