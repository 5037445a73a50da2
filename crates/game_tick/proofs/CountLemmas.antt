-- Proofs that a tick counts as many turns as the pace said before it.
use Rattle.std.specs.Prelude.{◌≡◌, ℕ, zero, suc, ◌+◌, Bool, true, false, if◌then◌else◌, List, []}
use Rattle.std.specs.Prelude.{◌∷◌, refl}
use Rattle.std.proofs.Common.{◌∙◌, ap, arith}
use Rattle.game_orders.specs.declared.order.Order.{Order}
use Rattle.game_orders.specs.declared.order.Order.TheVariants.{Move, Attack, Harvest, Stop, Produce}
use Rattle.game_orders.specs.declared.order.Order.TheVariants.{Cancel, Donate, Pace}
use Rattle.game_orders.specs.declared.entry.Entry.{Entry}
use Rattle.game_orders.specs.declared.entry.Entry.TheVariants.{Play, Leave}
use Rattle.game_model.specs.declared.world.World.{World}
use Rattle.game_model.specs.Setup.{Setup}
use Rattle.game_model.specs.World.{ids_of}
use Rattle.game_tick.specs.Departures.{with_departures}
use Rattle.game_tick.specs.Orders.{after_order, after_orders, donation_fits, pace_fits}
use Rattle.game_tick.specs.Orders.{after_donation}
use Rattle.game_tick.specs.Tick.{after_entries, after_entry, after_turns, tick_of, with_orders}
use Rattle.game_tick.specs.Turn.{after_turn}
use Rattle.game_tick.proofs.StepKeepsLemmas.{steps_keep}

-- No order changes the count of ticks.
either_count :
    (fits : Bool) (w v : World) → v.tick ≡ w.tick → (if fits then v else w).tick ≡ w.tick
either_count true w v same = same
either_count false w v same = refl

pub order_count :
    (setup : Setup) (w : World) (client : ℕ) (order : Order) →
    (after_order setup w client order).tick ≡ w.tick
order_count setup w client (Move actor cell queued) = refl
order_count setup w client (Attack actor target queued) = refl
order_count setup w client (Harvest actor cell queued) = refl
order_count setup w client (Stop actor) = refl
order_count setup w client (Produce actor kind) = refl
order_count setup w client (Cancel actor) = refl
order_count setup w client (Donate to amount) =
    either_count (donation_fits w client to amount) w (after_donation w client to amount) refl
order_count setup w client (Pace ticks) =
    either_count (pace_fits client ticks) w (record w { pace = ticks }) refl

orders_count :
    (setup : Setup) (w : World) (client : ℕ) (orders : List Order) →
    (after_orders setup w client orders).tick ≡ w.tick
orders_count setup w client [] = refl
orders_count setup w client (order ∷ orders) =
    orders_count setup (after_order setup w client order) client orders
    ∙ order_count setup w client order

entry_count :
    (setup : Setup) (w : World) (client : ℕ) (entry : Entry) →
    (after_entry setup w client entry).tick ≡ w.tick
entry_count setup w client (Play orders) = orders_count setup w client orders
entry_count setup w client Leave = refl

entries_count :
    (setup : Setup) (c : ℕ) (w : World) (entries : List Entry) →
    (after_entries setup c w entries).tick ≡ w.tick
entries_count setup c w [] = refl
entries_count setup c w (entry ∷ entries) =
    entries_count setup (c + 1) (after_entry setup w c entry) entries ∙ entry_count setup w c entry

-- A turn counts one tick.
turn_count : (setup : Setup) (w : World) → (after_turn setup w).tick ≡ w.tick + 1
unfolding after_turn
turn_count setup w = ap (λ n. n + 1) (steps_keep setup w (ids_of w.actors)).tick

turns_count :
    (setup : Setup) (turns : ℕ) (w : World) → (after_turns setup turns w).tick ≡ w.tick + turns
turns_count setup zero w = omega arith
turns_count setup (suc more) w =
    omega (arith, turns_count setup more (after_turn setup w), turn_count setup w)

-- A tick counts as many turns as the pace said before it.
pub tick_count :
    (setup : Setup) (w : World) (frame : List Entry) →
    (tick_of setup w frame).tick ≡ w.tick + w.pace
tick_count setup w frame =
    let departed : World = with_departures w frame in
    omega (
      arith,
      turns_count setup w.pace (with_orders setup departed frame),
      entries_count setup 0 departed frame,
    )
