use Rattle.bot_player.proofs.ProductLemmas.{AreReadyBelow}
use Rattle.bot_player.proofs.products.ready_products.Given as goal

abbrev pub invariant-loop-number : goal.invariant-loop-number
invariant-loop-number l = AreReadyBelow l.rules l.owned l.cash l.number l.ready
