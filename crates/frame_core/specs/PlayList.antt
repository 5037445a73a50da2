-- How a list of plays is stored: a part for each play, and one pool with the orders of all.
use Rattle.std.specs.Prelude.{ℕ, ◌+◌, nat_le, Bool, ◌&&◌, List, map, take, drop}
use Rattle.game_orders.specs.declared.order.Order.{Order}
use Rattle.game_orders.specs.declared.limits.TheConstants.{MAX_ORDERS}
use Rattle.frame_core.specs.declared.play_part.PlayPart.{PlayPart}

-- The orders of a part of the pool.
abbrev pub part_in : List Order → PlayPart → List Order
part_in pool part = take part.count (drop part.first pool)

abbrev pub stored_plays : List Order → List PlayPart → List (List Order)
stored_plays pool parts = map (part_in pool) parts

-- The part lies in a pool of so many orders, and is one play's.
abbrev pub is_stored : ℕ → PlayPart → Bool
is_stored size part = nat_le (part.first + part.count) size && nat_le part.count MAX_ORDERS
