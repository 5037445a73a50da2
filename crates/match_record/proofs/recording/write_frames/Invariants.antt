-- The frames so far were written, each with its mark, and the world is stepped by them.
use Rattle.std.proofs.Common.{◌≡◌, ◌≤◌, ◌++◌, length}
use Rattle.std.specs.List.{AllByRecursion}
use Rattle.frame_core.specs.World.{world_at}
use Rattle.game_orders.specs.declared.limits.TheConstants.{MAX_FRAMES}
use Rattle.replay_file.specs.PartBytes.{parts_bytes, FitsPart}
use Rattle.replay_run.specs.Recording.{recorded_by}
use Rattle.server_core.specs.Served.{agreed_marks}
use Rattle.match_record.specs.Matches.{match_from}
use Rattle.match_record.proofs.recording.write_frames.Given as goal

abbrev pub invariant-loop-n : goal.invariant-loop-n
invariant-loop-n g l =
    let start = l.initial.sim in
    let marks =
    agreed_marks (match_from g.S.Sim.after g.S.Sim.hash_of g.S.Sim.summary_of start (g.S.Sim.clients_of start)) l.columns l.count in
    (l.writer ≡ l.initial.writer ++ parts_bytes (recorded_by l.columns marks l.n))
    × AllByRecursion FitsPart (recorded_by l.columns marks l.n)
    × (l.sim ≡ world_at g.S.Sim.after start l.columns l.n)
    × (g.S.Sim.steps l.sim ≡ l.n)
    × (g.S.Sim.clients_of l.sim ≡ length l.columns)
    × (l.n ≤ MAX_FRAMES)
