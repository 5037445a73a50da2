use Rattle.std.proofs.Common.{◌≡◌, length}
use Rattle.shroud.specs.Tally.{IsFollowed, no_place}
use Rattle.shroud.proofs.tally.Tally.take_out_below.Given as goal

abbrev pub decreases-loop-first : goal.decreases-loop-first
decreases-loop-first l = length l.self.lists.left

abbrev pub invariant-loop-first : goal.invariant-loop-first
invariant-loop-first l =
    (l.self.lists.fresh ≡ l.initial.self.lists.fresh) × IsFollowed no_place l.initial.self l.self
