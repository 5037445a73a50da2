use Rattle.std.proofs.Common.{◌≤◌, length, sym, refl, arith}
use Rattle.tick_core.proofs.TickLemmas.{ordered_next, ordered_all, ready_now}
use Rattle.tick_core.proofs.live_world.LiveWorld.apply_orders.Goals as goal
use Rattle.tick_core.proofs.live_world.LiveWorld.apply_orders.Goals.{in-Some, in_default}

pub loop-i-init : goal.loop-i-init
loop-i-init c = record { setup = refl; rest = refl; clients = refl; ready = c.requires.ready }

pub apply_order-requires-clause-ready : goal.apply_order-requires-clause-ready
apply_order-requires-clause-ready c =
    ready_now c.loop-i.self.setup c.args.self.now.world c.loop-i.self.world c.loop-i.invariant.ready

-- The next order is applied; there is one, since the place is below the number of orders.
pub loop-i-preserved : goal.loop-i-preserved
loop-i-preserved c =
    elim c.match-get.branch [
      | in-Some w ↦ rw w.self-is
          (ordered_next c.args.self.now c.loop-i.self _ c.args.client c.loop-i.i c.args.orders.now _ (sym w.in-Some.ensures.value) w.apply_order.ensures c.loop-i.invariant)
      | in_default w ↦
          let past : length c.args.orders.now ≤ c.loop-i.i = w.in_default.ensures.past in
          absurd (omega arith)
    ]

pub returns : goal.returns
returns c =
    ordered_all c.args.self.now c.loop-i.self c.args.client c.loop-i.i c.args.orders.now (omega arith) c.loop-i.invariant
