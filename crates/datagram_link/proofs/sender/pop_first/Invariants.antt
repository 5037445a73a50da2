use Rattle.std.proofs.Common.{◌≡◌, drop}
use Rattle.datagram_link.proofs.sender.pop_first.Given as goal

abbrev pub invariant-loop-place : goal.invariant-loop-place
invariant-loop-place l = l.waiting.items ≡ drop l._place l.fn.waiting.items
