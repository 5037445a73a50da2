-- So many frames were played back.
use Rattle.std.proofs.Common.{◌≡◌}
use Rattle.replay_run.specs.Playing.{IsPlayback}
use Rattle.replay_run.proofs.playback.world_after.Given as goal

abbrev pub invariant-loop-played : goal.invariant-loop-played
invariant-loop-played g l =
    IsPlayback g.S.Sim.after l.fn.world l.r l.playback × (l.playback.frames ≡ l._played)
    × (g.S.Sim.clients_of l.playback.world ≡ l.r.clients)
