use Rattle.std.proofs.Common.{◌≡◌, replicate}
use Rattle.match_net.specs.Sending.{nothing_sent}
use Rattle.match_net.proofs.sender.no_counts.Given as goal

abbrev pub invariant-loop-client : goal.invariant-loop-client
invariant-loop-client l = l.counts.items ≡ replicate l._client nothing_sent
