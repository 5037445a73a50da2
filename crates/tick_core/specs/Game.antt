-- A game as contracts see it, and what a step, the hash and the summary make of it.
use Rattle.std.specs.Prelude.{ℕ, ◌+◌, List, length}
use Rattle.game_orders.specs.declared.entry.Entry.{Entry}
use Rattle.frame_core.specs.declared.summary.Summary.{Summary}
use Rattle.game_model.specs.declared.world.World.{World}
use Rattle.game_model.specs.Setup.{Setup}
use Rattle.game_model.specs.ValidMap.{IsSetup}
use Rattle.game_model.specs.ValidWorld.{IsValidWorld}
use Rattle.game_model.specs.World.{start_of, clients_of}
use Rattle.game_tick.specs.Tick.{tick_of}
use Rattle.sync_hash.specs.WorldHash.{hash_of}

-- What a match stands on, a world, and the number of frames that it has been stepped by.
pub record GameState : Type 0 where
  pub setup : Setup
  pub world : World
  pub steps : ℕ

-- The opening game: the opening world, not stepped yet.
abbrev pub game_start : Setup → (seed clients : ℕ) → GameState
game_start setup seed clients =
    record { setup = setup; world = start_of setup seed clients; steps = 0 }

-- One step ticks the world by the frame.
abbrev pub game_after : GameState → List Entry → GameState
game_after game frame =
    record game { world = tick_of game.setup game.world frame; steps = game.steps + 1 }

-- The number of clients of the match.
abbrev pub game_clients : GameState → ℕ
game_clients game = clients_of game.world

-- The number of steps so far.
abbrev pub game_steps : GameState → ℕ
game_steps game = game.steps

-- The hash of the world.
abbrev pub game_hash : GameState → ℕ
game_hash game = hash_of game.world

-- The number of actors and the cash of each client.
abbrev pub game_summary : GameState → Summary
game_summary game = record { actors = length game.world.actors; cash = game.world.cash }

-- What holds of every game: it stands on what matches may stand on, and its world is valid after as
-- many frames as it has been stepped by.
pub record IsGame (game : GameState) : Type 0 where
  pub stands : IsSetup game.setup
  pub valid : IsValidWorld game.setup game.steps game.world
