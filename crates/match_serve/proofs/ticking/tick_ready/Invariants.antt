use Rattle.match_serve.proofs.TickLemmas.{TickedSoFar, HeardSoFar}
use Rattle.match_serve.proofs.ticking.tick_ready.Given as goal

abbrev pub invariant-loop-turn : goal.invariant-loop-turn
invariant-loop-turn g l = TickedSoFar (record { start = l.fn.sim; after = g.S.Sim.after; hash = g.S.Sim.hash_of; summary = g.S.Sim.summary_of; clients = l.clients; lag = 0 })
    g.S.Sim.clients_of g.S.Sim.steps l.clients l.table l.fn.pass l.pass l.board l.n l.sim × HeardSoFar l.clients l.board l.fn.receiver l.receiver
