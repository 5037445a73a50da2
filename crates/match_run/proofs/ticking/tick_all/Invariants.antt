use Rattle.std.proofs.Common.{◌≡◌, ◌≤◌}
use Rattle.match_run.specs.Local.{frames_of}
use Rattle.match_run.proofs.LocalTicks.{TickedSoFar}
use Rattle.match_run.proofs.ticking.tick_all.Given as goal

abbrev pub invariant-loop-n : goal.invariant-loop-n
invariant-loop-n g l =
    TickedSoFar (record { after = g.S.Sim.after; orders = g.B.Bots.orders_of l.bots; start = l.fn.sim; scripts = l.scripts; bots = l.count })
    g.S.Sim.clients_of g.S.Sim.steps l.table l.fn.pass l.pass l.sim l.taken l.n
    × (l.frames ≡ frames_of l.scripts)
