-- What was written and the parts that are left are all parts.
use Rattle.std.proofs.Common.{◌≡◌, ◌++◌, length}
use Rattle.replay_file.specs.PartBytes.{parts_bytes}
use Rattle.replay_file.proofs.replay_writing.append_parts.Given as goal

abbrev pub invariant-loop-kind : goal.invariant-loop-kind
invariant-loop-kind l =
    l.out.items ++ parts_bytes l.left ≡ l.fn.out.items ++ parts_bytes l.parts

abbrev pub decreases-loop-kind : goal.decreases-loop-kind
decreases-loop-kind l = length l.left
