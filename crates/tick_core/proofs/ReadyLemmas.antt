-- A valid world is ready for orders.
use Rattle.std.proofs.Common.{ℕ, arith}
use Rattle.game_model.specs.declared.world.World.{World}
use Rattle.game_model.specs.Setup.{Setup}
use Rattle.game_model.specs.ValidWorld.{IsValidWorld}
use Rattle.tick_core.specs.Ordered.{IsReady}

pub ready_valid : (setup : Setup) (frames : ℕ) (w : World) → IsValidWorld setup frames w → IsReady setup w w
ready_valid setup frames w valid =
    record {
      ore = valid.ore;
      least_tick = omega arith;
      most_tick = omega arith;
      drawn = omega arith;
      pace = valid.pace;
      clients = valid.clients;
      cash = valid.cash;
      actors = valid.actors;
      health = valid.health;
    }
