-- So far each client has an empty column.
use Rattle.std.proofs.Common.{◌≡◌, replicate}
use Rattle.frame_core.specs.Column.{no_column}
use Rattle.frame_core.proofs.columns.Columns.create.Given as goal

abbrev pub invariant-loop-client : goal.invariant-loop-client
invariant-loop-client l = l.held.items ≡ replicate l._client no_column
