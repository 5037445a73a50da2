-- The entries so far are written.
use Rattle.std.proofs.Common.{◌≡◌, ◌++◌, take}
use Rattle.replay_file.specs.PartBytes.{entries_bytes}
use Rattle.replay_file.proofs.part_writing.append_entries.Given as goal

abbrev pub invariant-loop-client : goal.invariant-loop-client
invariant-loop-client l =
    l.out.items ≡ l.fn.out.items ++ entries_bytes (take l.client l.frame)
