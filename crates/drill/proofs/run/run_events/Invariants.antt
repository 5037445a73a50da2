-- The events so far ran as the record and the report say.
use Rattle.std.proofs.Common.{◌≡◌, ◌≤◌, drop}
use Rattle.drill.specs.RunningMatch.{match_from}
use Rattle.drill.specs.RunsEvents.{RanSoFar}
use Rattle.drill.proofs.run.run_events.Given as goal

abbrev pub invariant-loop-number : goal.invariant-loop-number
invariant-loop-number g l =
    (l.run.clients ≡ l.initial.run.clients)
    × (l.run.lag ≡ l.initial.run.lag)
    × RanSoFar (match_from g.W.Sim.after g.W.Sim.hash_of g.W.Sim.summary_of l.initial.run) l.number
    (drop l.number l.events) l.initial.run (g.K.Sink.state l.initial.out).written (g.L.EventLines.kept l.initial.lines) l.events
    l.run (g.K.Sink.state l.out).written (g.L.EventLines.kept l.lines)
    × ((g.K.Sink.state l.initial.out).faults ≤ (g.K.Sink.state l.out).faults)
