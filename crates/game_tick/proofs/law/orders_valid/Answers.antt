use Rattle.std.proofs.Common.{◌*◌}
use Rattle.game_model.specs.declared.limits.TheConstants.{MAX_DRAWS, MAX_PACE}
use Rattle.game_tick.proofs.OrdersLemmas.{order_valid}
use Rattle.game_tick.proofs.law.orders_valid.Goals as goal

pub returns : goal.returns
returns c =
    λ setup frames w client order valid.
    order_valid setup frames (MAX_PACE * frames) (MAX_DRAWS * frames) w client order valid
