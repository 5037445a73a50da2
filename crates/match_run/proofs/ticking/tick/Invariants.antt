use Rattle.std.proofs.Common.{◌≡◌, take}
use Rattle.frame_core.specs.Ready.{frame_at}
use Rattle.match_run.specs.Local.{script_columns}
use Rattle.match_run.proofs.ticking.tick.Given as goal

abbrev pub invariant-loop-own : goal.invariant-loop-own
invariant-loop-own g l = l.frame ≡ take l.own-index (frame_at (script_columns l.scripts) l.n)
