-- Orders as bytes. Each order has one spelling.
use Rattle.std.specs.Prelude.{ℕ, ◌≤◌, ◌<◌, ◌^◌, Bool, List, ◌++◌, length}
use Rattle.std.specs.List.{flat_map, AllByRecursion}
use Rattle.wire_bytes.specs.Field.{field_bytes}
use Rattle.world_units.specs.declared.cell.CPos.{CPos}
use Rattle.game_orders.specs.declared.limits.TheConstants.{MAX_ORDERS}
use Rattle.game_orders.specs.declared.order.Order.{Order}
use Rattle.game_orders.specs.declared.order.Order.TheVariants.{Move, Attack, Harvest, Stop}
use Rattle.game_orders.specs.declared.order.Order.TheVariants.{Produce, Cancel, Donate, Pace}
use Rattle.game_orders.specs.Order.{flag_number}

-- The number of an order's variant.
abbrev pub tag_of : Order → ℕ
tag_of (Move actor cell queued) = 1
tag_of (Attack actor target queued) = 2
tag_of (Harvest actor cell queued) = 3
tag_of (Stop actor) = 4
tag_of (Produce actor kind) = 5
tag_of (Cancel actor) = 6
tag_of (Donate to amount) = 7
tag_of (Pace ticks) = 8

-- An actor's number, the cell that it goes to, and the flag, which is 1 where it is queued.
abbrev pub way_bytes : ℕ → CPos → Bool → List ℕ
way_bytes actor cell queued =
    field_bytes 4 actor ++ field_bytes 1 cell.x ++ field_bytes 1 cell.y
    ++ field_bytes 1 (flag_number queued)

-- An order's fields.
abbrev pub fields_bytes : Order → List ℕ
fields_bytes (Move actor cell queued) = way_bytes actor cell queued
fields_bytes (Attack actor target queued) =
    field_bytes 4 actor ++ field_bytes 4 target ++ field_bytes 1 (flag_number queued)
fields_bytes (Harvest actor cell queued) = way_bytes actor cell queued
fields_bytes (Stop actor) = field_bytes 4 actor
fields_bytes (Produce actor kind) = field_bytes 4 actor ++ field_bytes 2 kind
fields_bytes (Cancel actor) = field_bytes 4 actor
fields_bytes (Donate to amount) = field_bytes 1 to ++ field_bytes 4 amount
fields_bytes (Pace ticks) = field_bytes 1 ticks

-- The spelling of an order: its tag, then its fields.
unfoldable pub order_bytes : Order → List ℕ
order_bytes order = field_bytes 1 (tag_of order) ++ fields_bytes order

-- The orders one after the other.
abbrev pub each_order : List Order → List ℕ
each_order orders = flat_map order_bytes orders

-- The spelling of the orders of one client for one frame: their number, then each of them.
unfoldable pub orders_bytes : List Order → List ℕ
orders_bytes orders = field_bytes 1 (length orders) ++ each_order orders

-- The order's numbers fit their fields, as those of every order that code holds do.
abbrev pub FitsOrder : Order → Type 0
FitsOrder (Move actor cell queued) = (actor < 2 ^ 32) × (cell.x < 256) × (cell.y < 256)
FitsOrder (Attack actor target queued) = (actor < 2 ^ 32) × (target < 2 ^ 32)
FitsOrder (Harvest actor cell queued) = (actor < 2 ^ 32) × (cell.x < 256) × (cell.y < 256)
FitsOrder (Stop actor) = actor < 2 ^ 32
FitsOrder (Produce actor kind) = (actor < 2 ^ 32) × (kind < 2 ^ 16)
FitsOrder (Cancel actor) = actor < 2 ^ 32
FitsOrder (Donate to amount) = (to < 256) × (amount < 2 ^ 32)
FitsOrder (Pace ticks) = ticks < 256

-- The orders of one client for one frame that code can hold.
abbrev pub FitsOrders : List Order → Type 0
FitsOrders orders = (length orders ≤ MAX_ORDERS) × AllByRecursion FitsOrder orders
