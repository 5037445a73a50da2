-- Heads whose numbers fit the fields that they have in a save.
use Rattle.std.specs.Prelude.{◌<◌, ◌^◌}
use Rattle.std.specs.List.{AllByRecursion}
use Rattle.game_model.specs.declared.world.Head.{Head}

-- Each number of a head fits its field.
pub record HeadFits (head : Head) : Type 0 where
  pub tick : head.tick < 2 ^ 32
  pub seed : head.seed < 2 ^ 32
  pub drawn : head.drawn < 2 ^ 64
  pub next_id : head.next_id < 2 ^ 32
  pub cash : AllByRecursion (λ amount. amount < 2 ^ 32) head.cash
