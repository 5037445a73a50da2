-- So far the frame has the entries of the clients that were passed.
use Rattle.std.proofs.Common.{◌≡◌, take}
use Rattle.frame_core.specs.Ready.{frame_at}
use Rattle.frame_core.proofs.columns.Columns.fill_frame.Given as goal

abbrev pub invariant-loop-column : goal.invariant-loop-column
invariant-loop-column l = l.frame ≡ frame_at (take l.column-index l.column-items) l.n
