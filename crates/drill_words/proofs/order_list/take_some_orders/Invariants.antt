-- What is read so far, and what is left to read, is the whole.
use Rattle.std.proofs.Common.{◌≡◌, ◌-◌, length}
use Rattle.game_orders.specs.declared.limits.TheConstants.{MAX_ORDERS}
use Rattle.drill_words.specs.OrderList.{orders_from}
use Rattle.drill_words.proofs.OrderListLemmas.{prefixed_orders}
use Rattle.drill_words.proofs.order_list.take_some_orders.Given as goal

abbrev pub invariant-loop-room : goal.invariant-loop-room
invariant-loop-room l =
    record {
      whole : prefixed_orders l.orders (orders_from (MAX_ORDERS - l._room) l.cursor) ≡ orders_from MAX_ORDERS l.fn.cursor;
      count : length l.orders ≡ l._room;
    }
