-- The parts so far were gone over.
use Rattle.std.proofs.Common.{◌≡◌, length}
use Rattle.replay_run.specs.Rerun.{rerun_over}
use Rattle.replay_run.proofs.RerunLemmas.{IsSoFar}
use Rattle.replay_run.proofs.rerun.run_replay_from.Given as goal

abbrev pub invariant-loop-kind : goal.invariant-loop-kind
invariant-loop-kind g l =
    (g.S.Sim.clients_of l.run.world ≡ l.r.clients)
    × (g.S.Sim.steps l.run.world ≡ l.run.frames)
    × IsSoFar
    (rerun_over g.S.Sim.after g.S.Sim.hash_of g.S.FirstHash.first_hash_of g.S.Sim.summary_of
    l.fn.world)
    l.from l.r l.left l.run

abbrev pub decreases-loop-kind : goal.decreases-loop-kind
decreases-loop-kind g l = length l.left
