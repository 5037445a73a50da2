-- The steps so far were made.
use Rattle.std.proofs.Common.{◌≡◌, ◌≤◌, ◌+◌, ◌*◌}
use Rattle.drill.specs.Draft.{size}
use Rattle.drill.specs.MadeRound.{rising, with_round}
use Rattle.drill.specs.declared.made_limits.TheConstants.{ROUND_SIZE}
use Rattle.drill.proofs.made.add_rounds.Given as goal

abbrev pub invariant-loop-round : goal.invariant-loop-round
invariant-loop-round l =
    (l.draft ≡ rising with_round l.round l.initial.draft) × (size l.draft ≤ size l.initial.draft + ROUND_SIZE * l.round)
