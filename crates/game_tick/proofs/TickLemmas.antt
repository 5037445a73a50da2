-- Proofs that a tick keeps a world valid.
use Rattle.std.specs.Prelude.{ℕ, ◌+◌, ◌*◌, List, [], ◌∷◌}
use Rattle.std.proofs.Common.{arith}
use Rattle.game_orders.specs.declared.order.Order.{Order}
use Rattle.game_orders.specs.declared.entry.Entry.{Entry}
use Rattle.game_orders.specs.declared.entry.Entry.TheVariants.{Play, Leave}
use Rattle.game_model.specs.declared.limits.TheConstants.{MAX_ACTORS, MAX_DRAWS, MAX_PACE}
use Rattle.game_model.specs.declared.world.World.{World}
use Rattle.game_model.specs.Setup.{Setup}
use Rattle.game_model.specs.ValidMap.{IsMapFor}
use Rattle.game_tick.proofs.ValidWorldLemmas.{wider}
use Rattle.game_model.specs.ValidWorld.{IsValidWorld, IsWorldWithin}
use Rattle.game_tick.specs.Orders.{after_order, after_orders}
use Rattle.game_tick.specs.Tick.{after_entries, after_entry, tick_of, with_orders}
use Rattle.game_tick.proofs.OrdersLemmas.{order_valid}
use Rattle.game_tick.proofs.TurnLemmas.{turns_valid}
use Rattle.game_tick.specs.Departures.{with_departures}
use Rattle.game_tick.proofs.DeparturesLemmas.{departures_valid}

orders_valid :
    (setup : Setup) (least most draws : ℕ) (w : World) (client : ℕ) (orders : List Order) →
    IsWorldWithin setup least most draws w →
    IsWorldWithin setup least most draws (after_orders setup w client orders)
orders_valid setup least most draws w client [] valid = valid
orders_valid setup least most draws w client (order ∷ orders) valid =
    orders_valid setup least most draws (after_order setup w client order) client orders
    (order_valid setup least most draws w client order valid)

pub entry_valid :
    (setup : Setup) (least most draws : ℕ) (w : World) (client : ℕ) (entry : Entry) →
    IsWorldWithin setup least most draws w →
    IsWorldWithin setup least most draws (after_entry setup w client entry)
entry_valid setup least most draws w client (Play orders) valid =
    orders_valid setup least most draws w client orders valid
entry_valid setup least most draws w client Leave valid = valid

entries_valid :
    (setup : Setup) (least most draws c : ℕ) (w : World) (entries : List Entry) →
    IsWorldWithin setup least most draws w →
    IsWorldWithin setup least most draws (after_entries setup c w entries)
entries_valid setup least most draws c w [] valid = valid
entries_valid setup least most draws c w (entry ∷ entries) valid =
    entries_valid setup least most draws (c + 1) (after_entry setup w c entry) entries
    (entry_valid setup least most draws w c entry valid)

-- A tick takes a world that is valid after some frames to one that is valid after one more.
pub tick_valid :
    (setup : Setup) (frames : ℕ) (w : World) (frame : List Entry) → IsMapFor setup.rules setup.map →
    IsValidWorld setup frames w → IsValidWorld setup (frames + 1) (tick_of setup w frame)
tick_valid setup frames w frame map valid =
    let most : ℕ = MAX_PACE * frames in
    let draws : ℕ = MAX_DRAWS * frames in
    let departed : World = with_departures w frame in
    let ready = departures_valid setup frames most draws w frame valid in
    let ordered = entries_valid setup frames most draws 0 departed frame ready in
    wider setup (frames + w.pace) (most + w.pace) (draws + MAX_ACTORS * w.pace) (frames + 1)
    (MAX_PACE * (frames + 1)) (MAX_DRAWS * (frames + 1)) (tick_of setup w frame)
    (turns_valid setup w.pace frames most draws (with_orders setup departed frame) map ordered)
    (omega (arith, valid.pace.least)) (omega (arith, valid.pace.most))
    (omega (arith, valid.pace.most))
