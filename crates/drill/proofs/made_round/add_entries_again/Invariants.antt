-- The steps that are left make of what there is what all make of the first.
use Rattle.std.proofs.Common.{◌≡◌, ◌≤◌, ◌+◌, ◌*◌}
use Rattle.drill.specs.Draft.{size}
use Rattle.drill.specs.MadeRound.{falling, with_entries_to}
use Rattle.drill.specs.declared.made_limits.TheConstants.{MADE_CLIENTS}
use Rattle.drill.proofs.made_round.add_entries_again.Given as goal

abbrev pub invariant-loop-peer : goal.invariant-loop-peer
invariant-loop-peer l =
    (falling (with_entries_to l.told l.frame) l.peer l.draft ≡ falling (with_entries_to l.told l.frame) MADE_CLIENTS l.initial.draft)
    × (size l.draft + 4 * l.peer ≤ size l.initial.draft + 4 * MADE_CLIENTS)
