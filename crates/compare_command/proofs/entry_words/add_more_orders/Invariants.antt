-- What is added so far and what is left are together the whole.
use Rattle.std.proofs.Common.{◌≡◌, ◌++◌, drop, string_bytes}
use Rattle.std.specs.List.{flat_map}
use Rattle.compare_command.specs.JoinedWords.{later_order_word}
use Rattle.compare_command.proofs.entry_words.add_more_orders.Given as goal

abbrev pub invariant-loop-order : goal.invariant-loop-order
invariant-loop-order l =
    string_bytes l.text ++ flat_map later_order_word (drop l.order-index l.orders)
    ≡ string_bytes l.initial.text ++ flat_map later_order_word l.orders
