-- The parts so far were gone over and written, and no mark differed.
use Rattle.std.proofs.Common.{◌≡◌, length}
use Rattle.std.specs.Prelude.{None}
use Rattle.replay_file.specs.declared.limits.TheConstants.{VERSION}
use Rattle.replay_file.specs.ReplayBytes.{header_bytes}
use Rattle.replay_run.proofs.MigratingLemmas.{IsWritten}
use Rattle.replay_run.specs.Rerun.{rerun_over}
use Rattle.replay_run.proofs.RerunLemmas.{IsSoFar}
use Rattle.replay_run.proofs.migration.migrate.Given as goal

abbrev pub invariant-loop-kind : goal.invariant-loop-kind
invariant-loop-kind g l =
    (g.S.Sim.clients_of l.run.world ≡ l.r.clients)
    × (g.S.Sim.steps l.run.world ≡ l.run.frames)
    × (l.run.difference ≡ None)
    × IsSoFar
    (rerun_over g.S.Sim.after g.S.Sim.hash_of g.S.FirstHash.first_hash_of g.S.Sim.summary_of
    l.fn.world)
    0 l.r l.left l.run
    × IsWritten
    (rerun_over g.S.Sim.after g.S.Sim.hash_of g.S.FirstHash.first_hash_of g.S.Sim.summary_of
    l.fn.world)
    l.r (header_bytes VERSION l.r.rules l.r.seed l.r.clients) l.left l.run.frames l.writer l.marks

abbrev pub decreases-loop-kind : goal.decreases-loop-kind
decreases-loop-kind g l = length l.left
