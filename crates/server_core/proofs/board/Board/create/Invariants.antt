-- So far each client has an empty list.
use Rattle.std.proofs.Common.{◌≡◌, [], replicate}
use Rattle.server_core.proofs.board.Board.create.Given as goal

abbrev pub invariant-loop-client : goal.invariant-loop-client
invariant-loop-client l = l.reports.items ≡ replicate l._client []
