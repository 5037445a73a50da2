use Rattle.std.proofs.Common.{◌≡◌, ◌∙◌, true, ap, refl, sym, subst}
use Rattle.std.proofs.lemmas.Bool.{cond-false}
use Rattle.game_model.specs.declared.world.World.{World}
use Rattle.game_model.specs.Setup.{Setup}
use Rattle.game_model.specs.World.{world_with}
use Rattle.game_orders.specs.declared.order.Order.TheVariants as order
use Rattle.game_tick.specs.Orders.{donation_fits}
use Rattle.tick_core.specs.Live.{Standing}
use Rattle.tick_core.specs.Ordered.{IsReady}
use Rattle.tick_core.proofs.OrderLemmas.{donation_is, order_scene}
use Rattle.tick_core.proofs.scene.Scene.donate.Goals as goal

pub invariant_of-self : goal.invariant_of-self
invariant_of-self c =
    let s = c.self.inside in
    let setup : Setup = record { rules = s.rules.value; map = s.map.value } in
    let w : World = world_with s.head s.table.actors s.ore in
    let ready : IsReady setup w w =
    subst (λ (x : Standing). IsReady x.setup x.world x.world) (sym c.self.view_is) c.requires.ready in
    let fits : donation_fits w c.args.client c.args.to c.args.amount ≡ true =
    ap (λ (x : Standing). donation_fits x.world c.args.client c.args.to c.args.amount) c.self.view_is
    ∙ sym c.donation_fits.ensures.value ∙ c.if-donation_fits.true in
    order_scene setup w _ s.table s.table s.blocks s.router s.dice c.args.client (order.Donate c.args.to c.args.amount) c.self.invariant ready
    (donation_is w c.args.client c.args.to c.args.amount _ _ _ _ fits
    c.get.ensures c.get-then-donation_fits.ensures c.set.ensures c.set-then-donation_fits.ensures) refl refl

pub returns-then-donation_fits : goal.returns-then-donation_fits
returns-then-donation_fits c =
    let s = c.self.inside in
    let setup : Setup = record { rules = s.rules.value; map = s.map.value } in
    let w : World = world_with s.head s.table.actors s.ore in
    let fits : donation_fits w c.args.client c.args.to c.args.amount ≡ true =
    ap (λ (x : Standing). donation_fits x.world c.args.client c.args.to c.args.amount) c.self.view_is
    ∙ sym c.donation_fits.ensures.value ∙ c.if-donation_fits.true in
    rw (← c.self.view_is)
    (ap (λ (x : World). record { setup = setup; world = x })
    (donation_is w c.args.client c.args.to c.args.amount _ _ _ _ fits
    c.get.ensures c.get-then-donation_fits.ensures c.set.ensures c.set-then-donation_fits.ensures))

pub returns-else-donation_fits : goal.returns-else-donation_fits
returns-else-donation_fits c =
    let setup = c.args.self.now.setup in
    ap (λ (x : World). record { setup = setup; world = x })
    (sym (cond-false _ _ _ (sym c.donation_fits.ensures.value ∙ c.if-donation_fits.false)))
