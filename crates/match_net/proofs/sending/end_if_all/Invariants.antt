use Rattle.std.proofs.Common.{◌≡◌, ℕ, ◌<◌, true}
use Rattle.std.specs.Prelude.{slice_index_or}
use Rattle.match_net.specs.Sending.{nothing_sent}
use Rattle.match_net.proofs.sending.end_if_all.Given as goal

abbrev pub invariant-loop-count : goal.invariant-loop-count
invariant-loop-count l = (c : ℕ) → c < l.count-index → (slice_index_or l.counts c nothing_sent).left ≡ true
