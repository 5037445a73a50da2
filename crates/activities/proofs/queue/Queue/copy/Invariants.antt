use Rattle.std.proofs.Common.{◌≡◌, take}
use Rattle.activities.proofs.queue.Queue.copy.Given as goal

abbrev pub invariant-loop-a : goal.invariant-loop-a
invariant-loop-a l = l.twin-inside.held.items ≡ take l.a-index l.a-items
