-- The orders of the made drill, by draws.
use Rattle.std.specs.Prelude.{ℕ, ◌+◌, ◌==◌, if◌then◌else◌, false, List, [], ◌∷◌}
use Rattle.world_units.specs.declared.cell.CPos.{CPos}
use Rattle.game_orders.specs.declared.order.Order.{Order}
use Rattle.game_orders.specs.declared.order.Order.TheVariants.{Move, Attack, Harvest, Produce}
use Rattle.game_orders.specs.declared.order.Order.TheVariants.{Donate}
use Rattle.drill.specs.Drawing.{Drawing, ◌>>=◌, given, below}
use Rattle.drill.specs.declared.made_limits.TheConstants.{MADE_CLIENTS, DRAWN_ACTORS, DRAWN_SIDE}
use Rattle.drill.specs.declared.made_limits.TheConstants.{DRAWN_KINDS, DRAWN_CASH, ORDER_CHOICES}

-- The id of an actor, from 1 on.
unfoldable pub drawn_actor : Drawing ℕ
drawn_actor = do
  number ← below DRAWN_ACTORS
  given (1 + number)

-- A cell: its column first.
unfoldable pub drawn_cell : Drawing CPos
drawn_cell = do
  x ← below DRAWN_SIDE
  y ← below DRAWN_SIDE
  given (record { x = x; y = y })

unfoldable pub drawn_move : Drawing Order
drawn_move = do
  actor ← drawn_actor
  cell ← drawn_cell
  given (Move actor cell false)

unfoldable pub drawn_harvest : Drawing Order
drawn_harvest = do
  actor ← drawn_actor
  cell ← drawn_cell
  given (Harvest actor cell false)

unfoldable pub drawn_produce : Drawing Order
drawn_produce = do
  actor ← drawn_actor
  kind ← below DRAWN_KINDS
  given (Produce actor kind)

unfoldable pub drawn_donate : Drawing Order
drawn_donate = do
  to ← below MADE_CLIENTS
  amount ← below DRAWN_CASH
  given (Donate to amount)

unfoldable pub drawn_attack : Drawing Order
drawn_attack = do
  actor ← drawn_actor
  target ← drawn_actor
  given (Attack actor target false)

-- One order.
abbrev pub just : Drawing Order → Drawing (List Order)
just drawn = do
  order ← drawn
  given (order ∷ [])

-- What a client plays by the draw that chooses: one order, or none.
unfoldable pub orders_by : ℕ → Drawing (List Order)
orders_by choice =
    if choice == 0 then just drawn_move
    else (if choice == 1 then just drawn_harvest
    else (if choice == 2 then just drawn_produce
    else (if choice == 3 then just drawn_donate
    else (if choice == 4 then just drawn_attack
    else given []))))

-- What a client plays.
unfoldable pub drawn_orders : Drawing (List Order)
drawn_orders = do
  choice ← below ORDER_CHOICES
  orders_by choice
