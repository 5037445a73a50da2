-- A shroud that has followed a replay.
use Rattle.std.specs.Prelude.{◌≡◌, ℕ}
use Rattle.game_model.specs.Setup.{Setup}
use Rattle.replay_file.specs.declared.replay.Replay.{Replay}
use Rattle.shroud.specs.Grids.{grids_of}
use Rattle.shroud.specs.Laws.{HasExplored}
use Rattle.shroud.specs.ShroudState.{ShroudState}
use Rattle.shroud.specs.Sights.{is_seen}
use Rattle.view_command.specs.Views.{world_after, worlds_to}

-- After n frames it shows what is seen then, and what was seen so far, for each client.
pub record HasWatched (setup : Setup) (r : Replay) (n : ℕ) (s : ShroudState) : Type 0 where
  pub so_far :
      HasExplored setup.rules setup.map.width setup.map.height r.clients (worlds_to setup r n) s
  pub now :
      s.seen
      ≡ grids_of setup.map.width setup.map.height r.clients
      (is_seen setup.rules (world_after setup r n).actors)
