use Rattle.std.proofs.Common.{◌≡◌, ◌+◌, ◌-◌, ◌≤◌, ℕ, None, length}
use Rattle.game_io.specs.SourceState.{SourceState}
use Rattle.game_io.specs.SinkState.{SinkState}
use Rattle.match_net.specs.declared.limits.TheConstants.{MAX_PLAY_BYTES}
use Rattle.match_net.specs.Plays.{plays_by}
use Rattle.match_net.specs.Playing.{player_at}
use Rattle.match_net.specs.PlayMatch.{PlaySoFar}
use Rattle.match_net.proofs.playing.play_rest.Given as goal

abbrev pub invariant-turns : goal.invariant-turns
invariant-turns g l =
    (l.feeder.fault ≡ None) × (l.feeder.at + length l.feeder.rest ≤ MAX_PLAY_BYTES)
    × ((made : ℕ → ℕ → g.row.S.Denot) (rules : ℕ) (first : SourceState) (before : SinkState) →
    PlaySoFar
    (record {
      made = made;
      course = record { after = g.S.Sim.after; hash = g.S.Sim.hash_of };
      rules = rules;
      plays = plays_by (g.P.OrderSource.frames_of l.plays) (g.P.OrderSource.orders_of l.plays);
    })
    first (g.I.Source.state l.fn.input) before (g.O.Sink.state l.fn.output)
    (player_at l.fn.player.peer l.fn.player.sealed l.fn.player.quiet) l.fn.feeder →
    PlaySoFar
    (record {
      made = made;
      course = record { after = g.S.Sim.after; hash = g.S.Sim.hash_of };
      rules = rules;
      plays = plays_by (g.P.OrderSource.frames_of l.plays) (g.P.OrderSource.orders_of l.plays);
    })
    first (g.I.Source.state l.input) before (g.O.Sink.state l.output)
    (player_at l.player.peer l.player.sealed l.player.quiet) l.feeder)

abbrev pub decreases-turns : goal.decreases-turns
decreases-turns g l = MAX_PLAY_BYTES - l.feeder.at
