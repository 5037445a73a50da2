use Rattle.match_net.proofs.BotLemmas.{bot_orders_are}
use Rattle.match_net.proofs.law.a_bot_orders_by_its_rule.Goals as goal

pub returns : goal.returns
returns g c = bot_orders_are
