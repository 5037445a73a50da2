-- A world's head, as C reads it.
use Rattle.std.specs.Prelude.{ℕ, List, ◌++◌, length, map, drop, replicate, Result, Ok}
use Rattle.game_orders.specs.Order.{flag_number}
use Rattle.sync_hash.specs.WorldHash.{hash_of}
use Rattle.tick_core.specs.Game.{GameState}
use Rattle.c_worlds.specs.declared.heads.CHead.{CHead}

-- A number for each of 16 clients: 0 for those that the match has not.
abbrev pub padded : List ℕ → List ℕ
padded numbers = numbers ++ drop (length numbers) (replicate 16 0)

abbrev pub head_of : GameState → CHead
head_of game =
    record {
      hash = hash_of game.world;
      drawn = game.world.drawn;
      frames = game.steps;
      turns = game.world.tick;
      seed = game.world.seed;
      next_id = game.world.next_id;
      pace = game.world.pace;
      clients = length game.world.cash;
      actors = length game.world.actors;
      width = game.setup.map.width;
      height = game.setup.map.height;
      cash = padded game.world.cash;
      gone = padded (map flag_number game.world.gone);
    }

abbrev pub head_told : GameState → Result CHead ℕ
head_told game = Ok (head_of game)
