use Rattle.std.proofs.Common.{◌≡◌, ◌-◌, length}
use Rattle.std.specs.Prelude.{find}
use Rattle.std.specs.List.{range_with_len}
use Rattle.bot_player.specs.Products.{first_product, is_product}
use Rattle.bot_player.proofs.products.Products.search.Given as goal

abbrev pub invariant-loop-number : goal.invariant-loop-number
invariant-loop-number l =
    find (is_product l.self l.builder) (range_with_len l.number (length l.self.rules - l.number))
    ≡ first_product l.self l.builder
