-- The steps so far were made.
use Rattle.std.proofs.Common.{◌≡◌, ◌≤◌, ◌+◌, ◌*◌}
use Rattle.drill.specs.Draft.{size, with_seal}
use Rattle.drill.specs.MadeRound.{rising}
use Rattle.drill.proofs.made_round.add_seals.Given as goal

abbrev pub invariant-loop-client : goal.invariant-loop-client
invariant-loop-client l =
    (l.draft ≡ rising with_seal l.client l.initial.draft) × (size l.draft ≤ size l.initial.draft + 6 * l.client)
