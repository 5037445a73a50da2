-- Orders read from bytes, from the left: the value and the bytes after it, or the first fault.
use Rattle.std.specs.Prelude.{ℕ, zero, suc, ◌==◌, nat_lt, Bool, true, false, if◌then◌else◌}
use Rattle.std.specs.Prelude.{List, [], ◌∷◌, ◌++◌, Result, Ok, Err}
use Rattle.base.specs.Steps.{◌>>=◌}
use Rattle.wire_bytes.specs.Read.{number_at}
use Rattle.world_units.specs.declared.cell.CPos.{CPos}
use Rattle.game_orders.specs.declared.limits.TheConstants.{MAX_ORDERS}
use Rattle.game_orders.specs.declared.order.Order.{Order}
use Rattle.game_orders.specs.declared.order.Order.TheVariants.{Move, Attack, Harvest, Stop}
use Rattle.game_orders.specs.declared.order.Order.TheVariants.{Produce, Cancel, Donate, Pace}
use Rattle.game_orders.specs.declared.order_fault.OrderFault.{OrderFault}
use Rattle.game_orders.specs.declared.order_fault.OrderFault.TheVariants.{Short, BadTag, BadFlag}
use Rattle.game_orders.specs.declared.orders_fault.OrdersFault.{OrdersFault}
use Rattle.game_orders.specs.declared.orders_fault.OrdersFault.TheVariants as orders_fault

-- A value of an order and the bytes after it, or the fault.
abbrev pub OrderRead : Type 0 → Type 0
OrderRead A = Result (A × List ℕ) OrderFault

-- A flag: 0 or 1.
abbrev pub flag_of : ℕ → List ℕ → OrderRead Bool
flag_of flag rest =
    if flag == 0 then Ok (false, rest) else (if flag == 1 then Ok (true, rest) else Err BadFlag)

unfoldable pub flag_at : List ℕ → OrderRead Bool
flag_at bytes = number_at Short 1 bytes >>= λ flag. flag_of flag.0 flag.1

-- A cell: its column, then its row.
unfoldable pub cell_at : List ℕ → OrderRead CPos
cell_at bytes = do
  x ← number_at Short 1 bytes
  y ← number_at Short 1 x.1
  Ok (record { x = x.0; y = y.0 }, y.1)

-- An actor, a cell and a flag.
unfoldable pub way_at : (ℕ → CPos → Bool → Order) → List ℕ → OrderRead Order
way_at order bytes = do
  actor ← number_at Short 4 bytes
  cell ← cell_at actor.1
  queued ← flag_at cell.1
  Ok (order actor.0 cell.0 queued.0, queued.1)

-- An actor, a target and a flag.
unfoldable pub attack_at : List ℕ → OrderRead Order
attack_at bytes = do
  actor ← number_at Short 4 bytes
  target ← number_at Short 4 actor.1
  queued ← flag_at target.1
  Ok (Attack actor.0 target.0 queued.0, queued.1)

-- Two numbers of these widths.
unfoldable pub pair_at : (ℕ → ℕ → Order) → (width next_width : ℕ) → List ℕ → OrderRead Order
pair_at order width next_width bytes = do
  first ← number_at Short width bytes
  second ← number_at Short next_width first.1
  Ok (order first.0 second.0, second.1)

-- One number of this width.
unfoldable pub single_at : (ℕ → Order) → ℕ → List ℕ → OrderRead Order
single_at order width bytes = do
  number ← number_at Short width bytes
  Ok (order number.0, number.1)

-- The fields of the order with this tag.
unfoldable pub fields_at : ℕ → List ℕ → OrderRead Order
fields_at tag bytes =
    if tag == 1 then way_at Move bytes
    else (if tag == 2 then attack_at bytes
    else (if tag == 3 then way_at Harvest bytes
    else (if tag == 4 then single_at Stop 4 bytes
    else (if tag == 5 then pair_at Produce 4 2 bytes
    else (if tag == 6 then single_at Cancel 4 bytes
    else (if tag == 7 then pair_at Donate 1 4 bytes
    else (if tag == 8 then single_at Pace 1 bytes
    else Err BadTag)))))))

-- An order: its tag, then its fields.
unfoldable pub order_at : List ℕ → OrderRead Order
order_at bytes = number_at Short 1 bytes >>= λ tag. fields_at tag.0 tag.1

-- A value of a list of orders and the bytes after it, or the fault.
abbrev pub OrdersRead : Type 0
OrdersRead = Result (List Order × List ℕ) OrdersFault

-- The fault of a list for that of an order in it.
abbrev pub list_fault : OrderFault → OrdersFault
list_fault Short = orders_fault.Short
list_fault BadTag = orders_fault.BadOrder
list_fault BadFlag = orders_fault.BadOrder

abbrev pub in_list : OrderRead Order → Result (Order × List ℕ) OrdersFault
in_list (Ok read) = Ok read
in_list (Err fault) = Err (list_fault fault)

-- So many more orders after those that are held.
unfoldable pub orders_after : List Order → ℕ → List ℕ → OrdersRead
orders_after held zero bytes = Ok (held, bytes)
orders_after held (suc more) bytes =
    in_list (order_at bytes) >>= λ next. orders_after (held ++ next.0 ∷ []) more next.1

-- The orders of one client for one frame: their number, at most `MAX_ORDERS`, then each of them.
unfoldable pub orders_at : List ℕ → OrdersRead
orders_at bytes = do
  count ← number_at orders_fault.Short 1 bytes
  if nat_lt MAX_ORDERS count.0 then Err orders_fault.TooMany else orders_after [] count.0 count.1
