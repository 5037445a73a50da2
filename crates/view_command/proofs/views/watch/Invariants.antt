use Rattle.std.proofs.Common.{length}
use Rattle.replay_run.specs.Playing.{IsPlayback}
use Rattle.tick_core.specs.Game.{game_after}
use Rattle.view_command.specs.Watching.{HasWatched}
use Rattle.view_command.proofs.views.watch.Given as goal

abbrev pub invariant-loop-shroud : goal.invariant-loop-shroud
invariant-loop-shroud l =
    IsPlayback game_after l.fn.game l.fn.r l.playback
    × HasWatched l.fn.game.setup l.fn.r l.playback.frames l.shroud

abbrev pub decreases-loop-shroud : goal.decreases-loop-shroud
decreases-loop-shroud l = length l.playback.left
