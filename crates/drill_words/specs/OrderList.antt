-- The orders at the end of a line.
use Rattle.std.specs.Prelude.{ℕ, zero, suc, ◌-◌, ◌^◌, if◌then◌else◌, List, [], ◌∷◌}
use Rattle.std.specs.Prelude.{true, false, Option, Some, None, Ok, Err, codes}
use Rattle.std.specs.Str.{bytes_eq}
use Rattle.base.specs.Steps.{◌>>=◌}
use Rattle.world_units.specs.declared.cell.CPos.{CPos}
use Rattle.game_orders.specs.declared.order.Order.{Order}
use Rattle.game_orders.specs.declared.order.Order.TheVariants.{Move, Attack, Harvest, Stop}
use Rattle.game_orders.specs.declared.order.Order.TheVariants.{Produce, Cancel, Donate, Pace}
use Rattle.game_orders.specs.declared.limits.TheConstants.{MAX_ORDERS}
use Rattle.drill_words.specs.declared.word_fault.WordFault.TheVariants.{BadWord, TooManyOrders}
use Rattle.drill_words.specs.declared.order_word.OrderWord.{OrderWord}
use Rattle.drill_words.specs.declared.order_word.OrderWord.TheVariants as order_of
use Rattle.drill_words.specs.Read.{Read, word_at, number_at, known, none_left}

-- The order that a word begins, queued where `+` follows.
unfoldable pub order_word : List ℕ → Option OrderWord
order_word word =
    if bytes_eq word (codes "move") then Some (order_of.Move false)
    else (if bytes_eq word (codes "move+") then Some (order_of.Move true)
    else (if bytes_eq word (codes "attack") then Some (order_of.Attack false)
    else (if bytes_eq word (codes "attack+") then Some (order_of.Attack true)
    else (if bytes_eq word (codes "harvest") then Some (order_of.Harvest false)
    else (if bytes_eq word (codes "harvest+") then Some (order_of.Harvest true)
    else (if bytes_eq word (codes "stop") then Some order_of.Stop
    else (if bytes_eq word (codes "produce") then Some order_of.Produce
    else (if bytes_eq word (codes "cancel") then Some order_of.Cancel
    else (if bytes_eq word (codes "donate") then Some order_of.Donate
    else (if bytes_eq word (codes "pace") then Some order_of.Pace
    else None))))))))))

unfoldable pub order_word_at : List (List ℕ) → Read OrderWord
order_word_at = word_at λ word. known (order_word word)

-- A number of 32 bits: an actor's id, or an amount.
unfoldable pub u32_at : List (List ℕ) → Read ℕ
u32_at = number_at 0 (2 ^ 32 - 1)

-- A number of 8 bits: a client that receives, or a pace.
unfoldable pub u8_at : List (List ℕ) → Read ℕ
u8_at = number_at 0 255

-- A cell: its column and its row.
unfoldable pub cell_at : List (List ℕ) → Read CPos
cell_at words = do
  x ← u8_at words
  y ← u8_at x.1
  Ok (record { x = x.0; y = y.0 }, y.1)

-- What follows the first word of an order: `move A X Y`, `attack A B`, `harvest A X Y`, `stop A`,
-- `produce A K`, `cancel A`, `donate R N`, `pace K`.
unfoldable pub order_at : OrderWord → List (List ℕ) → Read Order
order_at (order_of.Move queued) words = do
  actor ← u32_at words
  cell ← cell_at actor.1
  Ok (Move actor.0 cell.0 queued, cell.1)
order_at (order_of.Attack queued) words = do
  actor ← u32_at words
  target ← u32_at actor.1
  Ok (Attack actor.0 target.0 queued, target.1)
order_at (order_of.Harvest queued) words = do
  actor ← u32_at words
  cell ← cell_at actor.1
  Ok (Harvest actor.0 cell.0 queued, cell.1)
order_at order_of.Stop words = do
  actor ← u32_at words
  Ok (Stop actor.0, actor.1)
order_at order_of.Produce words = do
  actor ← u32_at words
  kind ← number_at 0 65535 actor.1
  Ok (Produce actor.0 kind.0, kind.1)
order_at order_of.Cancel words = do
  actor ← u32_at words
  Ok (Cancel actor.0, actor.1)
order_at order_of.Donate words = do
  to ← u8_at words
  amount ← u32_at to.1
  Ok (Donate to.0 amount.0, amount.1)
order_at order_of.Pace words = do
  ticks ← u8_at words
  Ok (Pace ticks.0, ticks.1)

-- After an order the line ends, or `;` and further orders follow.
unfoldable pub further_orders : (List (List ℕ) → Read (List Order)) → List (List ℕ) → Read (List Order)
further_orders further [] = Ok ([], [])
further_orders further (word ∷ rest) = if bytes_eq word (codes ";") then further rest else Err BadWord

-- One order or several, where there is room for so many. One too many is found at its first word.
unfoldable pub orders_from : ℕ → List (List ℕ) → Read (List Order)
orders_from zero words = do
  word ← order_word_at words
  Err TooManyOrders
orders_from (suc room) words = do
  word ← order_word_at words
  order ← order_at word.0 word.1
  others ← further_orders (orders_from room) order.1
  Ok (order.0 ∷ others.0, others.1)

-- Orders with `;` between them, or none.
unfoldable pub orders_at : List (List ℕ) → Read (List Order)
orders_at words = if none_left words then Ok ([], words) else orders_from MAX_ORDERS words
