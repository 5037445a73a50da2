use Rattle.game_tick.proofs.OrderPartsLemmas.{order_parts}
use Rattle.game_tick.proofs.law.orders_change_one_part.Goals as goal

pub returns : goal.returns
returns c = λ setup w client order. order_parts setup w client order
