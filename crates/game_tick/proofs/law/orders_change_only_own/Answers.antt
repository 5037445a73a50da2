use Rattle.game_tick.proofs.OwnLemmas.{order_only}
use Rattle.game_tick.proofs.law.orders_change_only_own.Goals as goal

pub returns : goal.returns
returns c = λ setup frames w client order valid. order_only setup w client order valid.actors.rise
