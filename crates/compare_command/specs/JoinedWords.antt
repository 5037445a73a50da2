-- Words that are joined by colons, piece by piece.
use Rattle.std.specs.Prelude.{ℕ, List, ◌++◌, codes}
use Rattle.std.specs.Fmt.{decimal}
use Rattle.drill_words.specs.Text.{order_words, spaced}
use Rattle.game_orders.specs.declared.order.Order.{Order}
use Rattle.world_units.specs.declared.cell.CPos.{CPos}
use Rattle.compare_command.specs.Lines.{joined}

-- A number after a space.
unfoldable pub number_word : ℕ → List ℕ
number_word number = joined (codes " " ++ decimal number)

-- The column and the row of a cell.
abbrev pub place_word : CPos → List ℕ
place_word cell = number_word cell.x ++ number_word cell.y

abbrev pub timer_word : ℕ → List ℕ
timer_word timer = codes ":timer" ++ number_word timer

abbrev pub waits_word : ℕ → List ℕ
waits_word waits = codes ":waits" ++ number_word waits

-- An order as a drill writes it.
unfoldable pub order_word : Order → List ℕ
order_word order = joined (spaced (order_words order))

-- An order after another.
abbrev pub later_order_word : Order → List ℕ
later_order_word order = codes ":;:" ++ order_word order
