-- So far each client has none.
use Rattle.std.proofs.Common.{◌≡◌, replicate}
use Rattle.peer_core.specs.Entries.{no_entries}
use Rattle.peer_core.proofs.inbox.no_entries.Given as goal

abbrev pub invariant-loop-client : goal.invariant-loop-client
invariant-loop-client l = l.entries.items ≡ replicate l._client no_entries
