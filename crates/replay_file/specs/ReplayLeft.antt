-- A replay that is gone over part by part.
use Rattle.std.specs.Prelude.{List}
use Rattle.replay_file.specs.declared.part.Part.{Part}
use Rattle.replay_file.specs.declared.replay.Replay.{Replay}

-- The replay, and those of its parts that are left.
pub record ReplayLeft : Type 0 where
  pub replay : Replay
  pub left : List Part
