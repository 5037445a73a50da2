use Rattle.game_tick.proofs.KeepsLemmas.{order_keeps}
use Rattle.game_tick.proofs.law.orders_keep.Goals as goal

pub returns : goal.returns
returns c = λ setup w client order. order_keeps setup w client order
